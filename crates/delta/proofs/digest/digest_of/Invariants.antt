use Rattle.std.proofs.Common.{◌≡◌, length}
use Rattle.delta.proofs.DigestFacts.{Hashed}
use Rattle.delta.proofs.digest.digest_of.Given as goal

abbrev pub invariant-pieces : goal.invariant-pieces
invariant-pieces l = Hashed l.fn.printing.tree l.printing l.hasher × (length l.piece ≡ length l.fn.piece)
