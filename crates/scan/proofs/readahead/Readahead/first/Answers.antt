use Rattle.std.proofs.Common.{max, min, cond, Bool, ℕ, ◌*◌, ap, sym, subst, ◌∙◌, not, [], refl}
use Rattle.std.specs.Prelude.{IfOk}
use Rattle.message.specs.Ranges.{before}
use Rattle.node.specs.Meaning.{value}
use Rattle.scan.specs.Sizes.{IsPiece, size_past, walked_for}
use Rattle.scan.proofs.AtHand.{ahead_over}
use Rattle.scan.proofs.Sizes.{count_kept, count_raised, not_walked, walked_unless}
use Rattle.scan.proofs.readahead.Readahead.first.Goals as goal

-- ---- a pair is at hand

pub returns-in-Some-clause-given : goal.returns-in-Some-clause-given
returns-in-Some-clause-given g c = c.in-Some.ensures.given (value g.U.Update.means c.args.tree.now.root) c.args.range.now.hi c.requires

pub returns-in-Some-clause-piece : goal.returns-in-Some-clause-piece
returns-in-Some-clause-piece g c = λ walked.
    let kept = not_walked c.args.range.now.lo c.args.self.now.pairs.items c.args.self.now.all c.in-Some.pair c.take_from.new.self.pairs.items c.in-Some.ensures.taken in
    absurd (cc (walked, kept))

pub returns-in-Some-clause-walks : goal.returns-in-Some-clause-walks
returns-in-Some-clause-walks g c = count_kept _ _ _ _ c.take_from.ensures.counts.0
    (not_walked c.args.range.now.lo c.args.self.now.pairs.items c.args.self.now.all c.in-Some.pair c.take_from.new.self.pairs.items c.in-Some.ensures.taken)

pub returns-in-Some-clause-asked : goal.returns-in-Some-clause-asked
returns-in-Some-clause-asked g c = count_kept _ _ _ _ c.take_from.ensures.counts.1
    (not_walked c.args.range.now.lo c.args.self.now.pairs.items c.args.self.now.all c.in-Some.pair c.take_from.new.self.pairs.items c.in-Some.ensures.taken)

pub returns-in-Some-clause-most : goal.returns-in-Some-clause-most
returns-in-Some-clause-most g c =
    let lo = c.args.range.now.lo in
    let old = c.args.self.now.pairs.items in
    let n = c.args.self.now.most in
    c.take_from.ensures.most
    ∙ sym (ap (λ (b : Bool). cond b (min (2 * walked_for lo old n) 256) (size_past (λ k. before k lo) old n)) (not_walked lo old c.args.self.now.all c.in-Some.pair c.take_from.new.self.pairs.items c.in-Some.ensures.taken))

-- ---- none is, and no other is left

pub returns-then-self-clause-given : goal.returns-then-self-clause-given
returns-then-self-clause-given g c =
    let f = value g.U.Update.means c.args.tree.now.root in
    let hi = c.args.range.now.hi in
    ahead_over f c.args.range.now.lo hi c.take_from.new.self.all [] c.if-self.true refl (c.in_default.ensures.given f hi c.requires)

pub returns-then-self-clause-walks : goal.returns-then-self-clause-walks
returns-then-self-clause-walks g c = count_kept _ _ _ _ c.take_from.ensures.counts.0
    (walked_unless c.args.range.now.lo c.args.self.now.pairs.items c.args.self.now.all c.take_from.new.self.pairs.items c.take_from.new.self.all c.in_default.ensures.taken c.take_from.ensures.all ∙ ap not c.if-self.true)

pub returns-then-self-clause-asked : goal.returns-then-self-clause-asked
returns-then-self-clause-asked g c = count_kept _ _ _ _ c.take_from.ensures.counts.1
    (walked_unless c.args.range.now.lo c.args.self.now.pairs.items c.args.self.now.all c.take_from.new.self.pairs.items c.take_from.new.self.all c.in_default.ensures.taken c.take_from.ensures.all ∙ ap not c.if-self.true)

pub returns-then-self-clause-piece : goal.returns-then-self-clause-piece
returns-then-self-clause-piece g c = λ walked.
    let kept = walked_unless c.args.range.now.lo c.args.self.now.pairs.items c.args.self.now.all c.take_from.new.self.pairs.items c.take_from.new.self.all c.in_default.ensures.taken c.take_from.ensures.all ∙ ap not c.if-self.true in
    absurd (cc (walked, kept))

pub returns-then-self-clause-most : goal.returns-then-self-clause-most
returns-then-self-clause-most g c =
    let lo = c.args.range.now.lo in
    let old = c.args.self.now.pairs.items in
    let n = c.args.self.now.most in
    c.take_from.ensures.most
    ∙ sym (ap (λ (b : Bool). cond b (min (2 * walked_for lo old n) 256) (size_past (λ k. before k lo) old n))
    (walked_unless lo old c.args.self.now.all c.take_from.new.self.pairs.items c.take_from.new.self.all c.in_default.ensures.taken c.take_from.ensures.all ∙ ap not c.if-self.true))

-- ---- none is, and others may be left

pub returns-clause-piece : goal.returns-clause-piece
returns-clause-piece g c = λ walked.
    subst (λ (n : ℕ). IfOk c.refill.result (λ r. IsPiece n r c.refill.new.self.all c.refill.new.self.pairs.items)) (ap (λ (n : ℕ). max n 1) c.take_from.ensures.most) c.refill.ensures.piece

pub returns-clause-walks : goal.returns-clause-walks
returns-clause-walks g c = count_raised _ 1 1 _ c.take_from.new.self.walks _ c.refill.ensures.walks c.take_from.ensures.counts.0 refl
    (walked_unless c.args.range.now.lo c.args.self.now.pairs.items c.args.self.now.all c.take_from.new.self.pairs.items c.take_from.new.self.all c.in_default.ensures.taken c.take_from.ensures.all ∙ ap not c.if-self.false)

pub returns-clause-asked : goal.returns-clause-asked
returns-clause-asked g c = count_raised _ _ (max c.take_from.new.self.most 1) _ c.take_from.new.self.asked _ c.refill.ensures.asked c.take_from.ensures.counts.1 (ap (λ (n : ℕ). max n 1) c.take_from.ensures.most)
    (walked_unless c.args.range.now.lo c.args.self.now.pairs.items c.args.self.now.all c.take_from.new.self.pairs.items c.take_from.new.self.all c.in_default.ensures.taken c.take_from.ensures.all ∙ ap not c.if-self.false)

pub returns-clause-most : goal.returns-clause-most
returns-clause-most g c =
    let lo = c.args.range.now.lo in
    let old = c.args.self.now.pairs.items in
    let n = c.args.self.now.most in
    c.refill.ensures.most ∙ ap (λ (m : ℕ). min (2 * max m 1) 256) c.take_from.ensures.most
    ∙ sym (ap (λ (b : Bool). cond b (min (2 * walked_for lo old n) 256) (size_past (λ k. before k lo) old n))
    (walked_unless lo old c.args.self.now.all c.take_from.new.self.pairs.items c.take_from.new.self.all c.in_default.ensures.taken c.take_from.ensures.all ∙ ap not c.if-self.false))
