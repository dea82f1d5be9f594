use Rattle.std.proofs.Common.{ℕ, arith, rules, subst, sym}
use Rattle.images.specs.Loads.{FitsAt}
use Rattle.images.proofs.LoadFacts.{bad_number, block_at, counted_form}
use Rattle.images.proofs.load.LoadState.take_block.Goals as goal

pub offset_of-requires : goal.offset_of-requires
offset_of-requires c = omega (arith, c.len.ensures.value, c.requires.block.most)

pub returns-in_default-clause-bad : goal.returns-in_default-clause-bad
returns-in_default-clause-bad c = λ n e. (sym (bad_number c.args.number n e), c.in_default.ensures.none (cc) c.args.bytes (omega (arith, c.len.ensures.value)))

pub returns-clause-ok : goal.returns-clause-ok
returns-clause-ok c = block_at c.args.self.now c.write_bytes.new.volume c.args.index c.from.result c.in-Some.offset c.args.bytes c.args.number
    c.from.ensures c.requires.number c.requires.block
    (subst (λ (k : ℕ). FitsAt c.args.index k c.args.self.now c.in-Some.offset) c.len.ensures.value c.in-Some.ensures.fits)
    (c.write_bytes.ensures (search rules))

pub returns-clause-form : goal.returns-clause-form
returns-clause-form c = counted_form _ _ _ _ (c.write_bytes.ensures (search rules))

pub returns-then-not-write_bytes-clause-place : goal.returns-then-not-write_bytes-clause-place
returns-then-not-write_bytes-clause-place c = λ none.
    absurd (none c.in-Some.offset (subst (λ (k : ℕ). FitsAt c.args.index k c.args.self.now c.in-Some.offset) c.len.ensures.value c.in-Some.ensures.fits))

pub returns-clause-place : goal.returns-clause-place
returns-clause-place c = λ none.
    absurd (none c.in-Some.offset (subst (λ (k : ℕ). FitsAt c.args.index k c.args.self.now c.in-Some.offset) c.len.ensures.value c.in-Some.ensures.fits))
