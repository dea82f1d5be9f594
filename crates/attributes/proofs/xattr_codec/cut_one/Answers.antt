use Rattle.attributes.proofs.PackFacts.{name_cut, no_name, short_value}
use Rattle.attributes.proofs.xattr_codec.cut_one.Goals as goal

pub returns-in_default-clause-reported : goal.returns-in_default-clause-reported
returns-in_default-clause-reported c = λ e rest stands same. no_name c.args.bytes.now rest e same c.in_default.ensures

pub returns-in_default-cut_value-clause-reported : goal.returns-in_default-cut_value-clause-reported
returns-in_default-cut_value-clause-reported c = λ e rest stands same.
    let parts = name_cut c.args.bytes.now c.in-Some.name.now c.in-Some.behind.now rest e stands same c.in-Some.ensures.0 c.in-Some.ensures.1 in
    c.in_default-cut_value.ensures.reported e.value rest (short_value e stands) parts.1

pub returns-clause-reported : goal.returns-clause-reported
returns-clause-reported c = λ e rest stands same.
    let parts = name_cut c.args.bytes.now c.in-Some.name.now c.in-Some.behind.now rest e stands same c.in-Some.ensures.0 c.in-Some.ensures.1 in
    let value = c.in-Some-cut_value.ensures.reported e.value rest (short_value e stands) parts.1 in
    (parts.0, value.0, value.1)
