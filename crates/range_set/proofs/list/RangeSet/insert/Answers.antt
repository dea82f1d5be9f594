use Rattle.std.proofs.Common.{◌≡◌, ap, sym, ◌∙◌, false}
use Rattle.pathkey.specs.Keys.{is_below}
use Rattle.range_set.proofs.Ends.{none_more}
use Rattle.range_set.proofs.list.RangeSet.insert.Goals as goal

pub returns-then-not-is_before_end-clause-covers :
    goal.returns-then-not-is_before_end-clause-covers
returns-then-not-is_before_end-clause-covers c =
    let range = c.args.range.now in
    let none : is_below range.lo range.hi ≡ false = sym (c.is_before_end.ensures ∙ ap (λ h. is_below range.lo h) c.as_ref.ensures.value) ∙ c.if-not-is_before_end.true in
    none_more range.lo range.hi c.args.self.now none
