use Rattle.std.proofs.Common.{◌≡◌, ◌≢◌, ℕ, List, [], ◌∷◌, length, codes, refl, sym, arith}
use Rattle.std.proofs.lemmas.Bool.{eqb-true}
use Rattle.std.proofs.lemmas.Grind.{common_steps}
use Rattle.wal.specs.Records.{magic}
use Rattle.wal.proofs.record.magic.Goals as goal

of_none : (salt : List ℕ) → length salt ≡ 0 → codes "dvlog 1\n" ≡ magic salt
unfolding magic
of_none [] none = refl
of_none (x ∷ salt) none = absurd (omega arith)

of_some : (salt : List ℕ) → length salt ≢ 0 → codes "dvlog 2\n" ≡ magic salt
unfolding magic
of_some [] some = absurd (some refl)
of_some (x ∷ salt) some = refl

pub returns-then-is_empty : goal.returns-then-is_empty
returns-then-is_empty c = of_none c.args.salt.now (eqb-true _ _ (sym c.if-is_empty.ensures))

pub returns-else-is_empty : goal.returns-else-is_empty
returns-else-is_empty c = let some : length c.args.salt.now ≢ 0 = grind (arith, common_steps, c.if-is_empty.ensures) in of_some c.args.salt.now some
