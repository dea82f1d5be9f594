use Rattle.std.proofs.Common.{◌++◌, ap, sym, ◌∙◌}
use Rattle.std.specs.Option.{option_to_list}
use Rattle.std.proofs.lemmas.Result.{on_ok_weaker}
use Rattle.pathkey.specs.Keys.{next_key}
use Rattle.message.specs.Effects.{effects}
use Rattle.scan.specs.Stretches.{pair_of}
use Rattle.scan.proofs.Merging.{taken_value}
use Rattle.scan.proofs.apply_pass.push_at.Goals as goal

pub returns-clause-pushed : goal.returns-clause-pushed
returns-clause-pushed g c =
    let means = g.U.Update.means in
    let ms = c.args.ahead.now.0 in
    let q = c.args.met.now.0 in
    let behind = ap next_key c.key-key.ensures in
    on_ok_weaker c.push_pair.result (λ pushed child end s low. pushed
    ∙ ap (λ k. c.args.pairs.now.items ++ option_to_list (pair_of k c.in_ok-value.value)) c.key-key.ensures
    ∙ ap (λ o. c.args.pairs.now.items ++ option_to_list (pair_of q o)) (c.in_ok-value.ensures ∙ ap (effects means ms q) (sym (taken_value child q (next_key c.key-key.result.now) end c.take_by-old.result c.args.rest.now.items c.take_by-old.new.rest.items behind low c.take_by-old.ensures.some c.take_by-old.ensures.none s).0)))
    c.push_pair.ensures

pub returns-clause-left : goal.returns-clause-left
returns-clause-left g c = on_ok_weaker c.push_pair.result (λ pushed child end s low. (taken_value child c.args.met.now.0 (next_key c.key-key.result.now) end c.take_by-old.result c.args.rest.now.items c.take_by-old.new.rest.items (ap next_key c.key-key.ensures) low c.take_by-old.ensures.some c.take_by-old.ensures.none s).1) c.push_pair.ensures
