use Rattle.std.proofs.Common.{refl}
use Rattle.delta.proofs.apply.make_volume.Goals as goal

pub returns-in-Ok-clause-other : goal.returns-in-Ok-clause-other
returns-in-Ok-clause-other c = λ w means e.
    let (cs, reads) = c.in-Ok.ensures in
    c.make_of.ensures.other w c.args.text.now cs means reads e

pub returns-in-Ok-clause-no_image : goal.returns-in-Ok-clause-no_image
returns-in-Ok-clause-no_image c = λ w means e.
    let (cs, reads) = c.in-Ok.ensures in
    c.make_of.ensures.no_image w c.args.text.now cs means reads e

pub returns-in-Err-clause-delta : goal.returns-in-Err-clause-delta
returns-in-Err-clause-delta c = λ none. absurd (none c.in-Err.number refl)
