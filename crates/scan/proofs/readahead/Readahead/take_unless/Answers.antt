use Rattle.std.proofs.Common.{◌≡◌, arith, refl, sym, ap, ◌∙◌}
use borrow.Author.Rules.{of_calls}
use Rattle.std.proofs.lemmas.Fn.{called}
use Rattle.std.proofs.lemmas.List.{nil_from_length}
use Rattle.cow_map.proofs.Striding.{answers_next}
use Rattle.scan.specs.Pairs.{from_unpassed}
use Rattle.scan.specs.Sizes.{size_past}
use Rattle.scan.proofs.AtHand.{unpassed_behind, unpassed_taken}
use Rattle.scan.proofs.Sizes.{size_kept, size_passed}
use Rattle.scan.proofs.readahead.Readahead.take_unless.Goals as goal

pub returns-then-not-passed-clause-taken : goal.returns-then-not-passed-clause-taken
returns-then-not-passed-clause-taken g c = λ test h.
    let old = c.passed.invariant.left test h in
    let answer = answers_next g.P.FnMut (λ a r. r ≡ test a.0.now) _ _ _ _ (called g.P.FnMut c.if-not-passed.ensures refl) old.0 in
    unpassed_taken test c.in-Some.pair c.pop_front.new.self.items c.args.self.now.pairs.items (old.1 ∙ ap (from_unpassed test) c.in-Some.ensures.items) (sym answer.0)

pub returns-then-not-passed-clause-most : goal.returns-then-not-passed-clause-most
returns-then-not-passed-clause-most g c = λ test h.
    let old = c.passed.invariant.left test h in
    let answer = answers_next g.P.FnMut (λ a r. r ≡ test a.0.now) _ _ _ _ (called g.P.FnMut c.if-not-passed.ensures refl) old.0 in
    sym (old.2 ∙ ap (λ ps. size_past test ps c.passed.self.most) c.in-Some.ensures.items ∙ size_kept test c.in-Some.pair c.pop_front.new.self.items c.passed.self.most (sym answer.0))

pub returns-clause-most : goal.returns-clause-most
returns-clause-most g c = λ test h.
    let old = c.passed.invariant.left test h in
    sym (old.2 ∙ ap (λ ps. size_past test ps c.passed.self.most) (nil_from_length c.passed.self.pairs.items (omega (arith, c.in_default.ensures.cases.0, c.passed.self.pairs.ok.0))))

pub passed-preserved : goal.passed-preserved
passed-preserved g c = record {
  callable = search of_calls;
  all = c.passed.invariant.all;
  walks = c.passed.invariant.walks;
  asked = c.passed.invariant.asked;
  left = λ test h.
      let old = c.passed.invariant.left test h in
      let answer = answers_next g.P.FnMut (λ a r. r ≡ test a.0.now) _ _ _ _ (called g.P.FnMut c.if-not-passed.ensures refl) old.0 in (
        answer.1,
        old.1 ∙ ap (from_unpassed test) c.in-Some.ensures.items ∙ unpassed_behind test c.in-Some.pair c.pop_front.new.self.items (sym answer.0),
        old.2 ∙ ap (λ ps. size_past test ps c.passed.self.most) c.in-Some.ensures.items ∙ size_passed test c.in-Some.pair c.pop_front.new.self.items c.passed.self.most (sym answer.0),
      );
}
