use Rattle.std.proofs.Common.{◌≡◌, sym, ◌∙◌, subst, true, false}
use Rattle.std.specs.Option.{option_copied, option_map}
use Rattle.message.specs.PointKeys.{IsNextPoint}
use Rattle.pending.proofs.Meeting.{stands_anywhere}
use Rattle.scan.proofs.apply_pass.next_from.Goals as goal

pub returns-then-goes_along : goal.returns-then-goes_along
returns-then-goes_along g c = record {
  same = c.next_along.ensures.same;
  along = c.next_along.ensures.along ∙ sym c.if-goes_along.true ∙ c.goes_along.ensures;
  fewer = λ h. c.next_along.ensures.fewer;
  point = λ here s e. c.next_along.ensures.next here s;
  stands = c.next_along.ensures.stands;
  met = c.next_along.ensures.met;
}

pub advance-requires : goal.advance-requires
advance-requires g c = stands_anywhere c.args.at.now c.args.ahead.now (sym c.goes_along.ensures ∙ c.if-goes_along.false)

pub returns : goal.returns
returns g c = record {
  same = c.advance.ensures.same;
  along = c.advance.ensures.along;
  fewer = λ h. absurd (let no : true ≡ false = sym h ∙ sym c.goes_along.ensures ∙ c.if-goes_along.false in cc);
  point = λ here s e. subst (λ k. IsNextPoint c.args.ahead.now.0 k (option_copied c.args.end) (option_map (λ m. m.0) c.advance.result)) (sym (e (sym c.goes_along.ensures ∙ c.if-goes_along.false))) c.advance.ensures.next;
  stands = λ here s. c.advance.ensures.stands;
  met = λ here s. c.advance.ensures.met;
}
