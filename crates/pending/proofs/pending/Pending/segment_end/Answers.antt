use Rattle.std.proofs.Common.{◌++◌, ap, sym, subst, Some}
use Rattle.std.specs.Prelude.{Contains}
use Rattle.std.specs.Option.{option_copied}
use Rattle.std.proofs.lemmas.Result.{IfOk-weaker}
use Rattle.pathkey.specs.Keys.{next_key}
use Rattle.message.specs.Stretches.{all_ends, IsStretch}
use Rattle.message.proofs.SortedStretches.{ahead_first, one_key_stretch, stretch_then}
use Rattle.pending.proofs.pending.Pending.segment_end.Goals as goal

pub returns-in_ok-next-in-None : goal.returns-in_ok-next-in-None
returns-in_ok-next-in-None g c =
    let from = c.args.from.now in
    let end = option_copied c.args.end in
    let whole = ap (λ p. p.0) c.self.view_is in
    let there : Contains (all_ends c.self.inside.sorted) (next_key from) = rw c.in-None.is at c.segment_end.ensures in
    let here = one_key_stretch (c.self.inside.sorted ++ c.self.inside.tail_msgs.0) from end c.requires (ahead_first c.self.inside.sorted c.self.inside.tail_msgs.0 from there) in
    subst (λ k. IsStretch c.args.self.now.0 from end (Some k)) (sym c.in_ok-next-in-None.ensures) (subst (λ ms. IsStretch ms from end (Some (next_key from))) whole here)

pub returns-in-Some : goal.returns-in-Some
returns-in-Some g c =
    let from = c.args.from.now in
    let end = option_copied c.args.end in
    let whole = ap (λ p. p.0) c.self.view_is in
    let first : IsStretch c.self.inside.sorted from end (option_copied c.in-Some.stop) = rw c.in-Some.is at c.segment_end.ensures in
    IfOk-weaker c.stretch_stop.result _ (λ stop. IsStretch c.args.self.now.0 from end stop) (λ stop y. subst (λ ms. IsStretch ms from end stop) whole (stretch_then c.self.inside.sorted c.self.inside.tail_msgs.0 from end (option_copied c.in-Some.stop) stop first y)) c.stretch_stop.ensures
