use Rattle.std.proofs.Common.{◌≡◌, ℕ, ◌∷◌, ◌++◌, [], List, eqb, length, refl, sym, ◌∙◌, subst, arith}
use Rattle.std.specs.List.{starts_with}
use Rattle.std.proofs.lemmas.Result.{IfOk-weaker}
use Rattle.scan.specs.Pairs.{IsEndOf}
use Rattle.scan.specs.Sizes.{IsPiece, walked_for}
use Rattle.scan.proofs.AtHand.{ahead_none, ahead_over}
use Rattle.scan.proofs.Sizes.{walked_at_none}
use Rattle.meta_index.specs.Asked.{AsksFor, IsFrugal}
use Rattle.meta_index.specs.Means.{metadata}
use Rattle.meta_index.proofs.ChildOrder.{end_of_zero}
use Rattle.meta_index.proofs.Spending.{first_asks, none_frugal, rest_spent, taken_frugal}
use Rattle.meta_index.proofs.index.MetaIndex.first_past.Goals as goal

-- the end of the keys with such a key as prefix
end_of : (key s : List ℕ) → key ≡ s ++ 0 ∷ [] → IsEndOf (s ++ 1 ∷ []) key
end_of key s e = subst (λ (k : List ℕ). IsEndOf (s ++ 1 ∷ []) k) (sym e) (end_of_zero s)

pub returns-in-Some-clause-given : goal.returns-in-Some-clause-given
returns-in-Some-clause-given c = λ s e from. c.in-Some.ensures.given (metadata c.args.self.now) c.args.rest.now.hi (s ++ 1 ∷ []) (end_of c.args.key.now s e) from

pub returns-in-Some-clause-asked : goal.returns-in-Some-clause-asked
returns-in-Some-clause-asked c = λ g was.
    taken_frugal (λ k. starts_with eqb k c.args.key.now) c.args.pieces.now.pairs.items c.next_past.new.self.pairs.items c.in-Some.pair g c.args.pieces.now.most c.next_past.new.self.most
    c.args.pieces.now.walks c.args.pieces.now.asked c.next_past.new.self.walks c.next_past.new.self.asked c.args.pieces.now.all c.next_past.new.self.all
    c.in-Some.ensures.taken c.next_past.ensures.most c.next_past.ensures.counts.0 c.next_past.ensures.counts.1 c.next_past.ensures.all was

pub returns-then-pieces-clause-given : goal.returns-then-pieces-clause-given
returns-then-pieces-clause-given c = λ s e from.
    let f = metadata c.args.self.now in
    let hi = c.args.rest.now.hi in
    ahead_over f (s ++ 1 ∷ []) hi c.next_past.new.self.all [] c.if-pieces.true refl (c.in_default.ensures.given f hi (s ++ 1 ∷ []) (end_of c.args.key.now s e) from)

pub returns-then-pieces-clause-asked : goal.returns-then-pieces-clause-asked
returns-then-pieces-clause-asked c = λ g was.
    rest_spent g (length c.args.pieces.now.pairs.items) c.args.pieces.now.most c.args.pieces.now.walks c.args.pieces.now.asked c.next_past.new.self.walks c.next_past.new.self.asked c.args.pieces.now.all c.next_past.ensures.counts.0 c.next_past.ensures.counts.1 was

pub returns-clause-asked : goal.returns-clause-asked
returns-clause-asked c =
    let lo = c.in_ok-rest.field-0 in
    let old = c.next_past.new.self.pairs.items in
    let all = c.next_past.new.self.all in
    let m = c.next_past.new.self.most in
    IfOk-weaker c.first.result
    (λ r. IsPiece (walked_for lo old m) r c.first.new.self.all c.first.new.self.pairs.items)
    (λ r. (g : ℕ) → IsFrugal g (length c.args.pieces.now.pairs.items) c.args.pieces.now.most c.args.pieces.now.walks c.args.pieces.now.asked c.args.pieces.now.all
    → AsksFor g r (length c.first.new.self.pairs.items) c.first.new.self.most c.first.new.self.walks c.first.new.self.asked c.first.new.self.all)
    (λ r piece g was.
    let paid = none_frugal (λ k. starts_with eqb k c.args.key.now) c.args.pieces.now.pairs.items old g c.args.pieces.now.most m c.args.pieces.now.walks c.args.pieces.now.asked c.args.pieces.now.all
    c.in_default.ensures.taken c.next_past.ensures.most (sym c.next_past.ensures.all ∙ c.if-pieces.false) was in
    let walks = c.next_past.ensures.counts.0 in
    let asked = c.next_past.ensures.counts.1 in
    first_asks lo old all g m c.next_past.new.self.walks c.next_past.new.self.asked c.first.new.self.walks c.first.new.self.asked c.first.new.self.most r c.first.new.self.all c.first.new.self.pairs.items
    c.in_default.ensures.none c.if-pieces.false (omega (arith, asked, paid.0)) paid.1 (omega (arith, walks, was.few)) (omega (arith, asked, was.paid)) (omega (arith, walks, asked, was.each))
    c.first.ensures.walks c.first.ensures.asked c.first.ensures.most piece)
    (c.first.ensures.piece (walked_at_none lo old all c.in_default.ensures.none c.if-pieces.false))

pub first-requires : goal.first-requires
first-requires c = ahead_none (metadata c.args.self.now) c.in_ok-rest.field-0 c.args.rest.now.hi c.next_past.new.self.all c.next_past.new.self.pairs.items c.if-pieces.false c.in_default.ensures.none
