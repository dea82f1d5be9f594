use Rattle.std.proofs.Common.{◌≡◌, ◌++◌, ◌∷◌, length}
use Rattle.std.specs.List.{flat_map}
use Rattle.ffi_calls.proofs.changed.put_path.Given as goal

-- what is appended, and the names that are left, are the text
abbrev pub invariant-names : goal.invariant-names
invariant-names l = l.text.items ++ flat_map (λ n. 47 ∷ n) l.left ≡ l.initial.text.items ++ flat_map (λ n. 47 ∷ n) l.path

abbrev pub decreases-names : goal.decreases-names
decreases-names l = length l.left
