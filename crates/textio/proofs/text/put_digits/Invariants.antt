use Rattle.std.proofs.Common.{◌≡◌, ℕ, List, ◌++◌}
use Rattle.std.specs.List.{flat_map}
use Rattle.std.specs.Io.KnownBytes.{Appends}
use Rattle.reference.specs.Image.{two_digits}
use Rattle.textio.proofs.text.put_digits.Given as goal

abbrev pub invariant-loop : goal.invariant-loop
invariant-loop g l =
    (done : List ℕ) × (l.initial.rest ≡ done ++ l.rest) × Appends (g.W.Write.contents l.initial.writer) (g.W.Write.contents l.writer) (flat_map (two_digits 87) done)
