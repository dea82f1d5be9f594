-- How long the texts are at and below a path.
use Rattle.std.proofs.Common.{◌≡◌, ℕ, ◌+◌, ◌-◌, ◌≤◌, nat_lt, nat_le, arith}
use Rattle.std.proofs.Math.Bool.{not}
use Rattle.std.proofs.lemmas.Bool.Decides.{nat_tests}

-- the room that is left under a limit is passed exactly where the limit is
pub room_left : (limit len deep : ℕ) → len ≤ limit → not (nat_le deep (limit - len)) ≡ nat_lt limit (len + deep)
room_left limit len deep h = grind (arith, nat_tests)
