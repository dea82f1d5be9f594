-- How large the pieces of a range are, and when the tree is walked for one. Pairs are at hand; n is how many the next piece may have.
use Rattle.std.specs.Prelude.{◌≡◌, ℕ, ◌+◌, ◌-◌, ◌*◌, ◌^◌, ◌≤◌, min, max, Bool, false, not, cond, List, [], ◌∷◌, ◌++◌, Option, length}
use Rattle.std.specs.Option.{option_to_list}
use Rattle.message.specs.Ranges.{before}
use Rattle.scan.specs.Pairs.{from_unpassed}

-- a count, raised by m if the flag is set, but at most to 2^64 - 1
abbrev pub raised : Bool → ℕ → ℕ → ℕ
raised said m count = cond said (min (count + m) (2 ^ 64 - 1)) count

module _ {V : Type 0} where
  -- the size of the next batch after the pairs that pass the test were skipped: one if there was any, otherwise as before
  abbrev pub size_past : (List ℕ → Bool) → List (List ℕ × V) → ℕ → ℕ
  size_past test [] n = n
  size_past test (p ∷ ps) n = cond (test p.0) 1 n

  -- no pair is left at hand, and there may be others
  abbrev pub wants_more : Bool → List (List ℕ × V) → Bool
  wants_more all [] = not all
  wants_more all (p ∷ ps) = false

  -- the tree is walked for the first pair from lo on: none of those read ahead is there, and there may be others
  abbrev pub is_walked : List ℕ → Bool → List (List ℕ × V) → Bool
  is_walked lo all ps = wants_more all (from_unpassed (λ k. before k lo) ps)

  -- for how many pairs it is walked then
  abbrev pub walked_for : List ℕ → List (List ℕ × V) → ℕ → ℕ
  walked_for lo ps n = max (size_past (λ k. before k lo) ps n) 1

  -- the size of the next batch after the first pair from lo on was requested: twice as many as the last, and 256 at most
  abbrev pub size_after : List ℕ → Bool → List (List ℕ × V) → ℕ → ℕ
  size_after lo all ps n = cond (is_walked lo all ps) (min (2 * walked_for lo ps n) 256) (size_past (λ k. before k lo) ps n)

  -- a batch of n pairs, or of fewer if no other is left: the one that was returned, and those read ahead
  abbrev pub IsPiece : ℕ → Option (List ℕ × V) → Bool → List (List ℕ × V) → Type 0
  IsPiece n given all ps = (length (option_to_list given ++ ps) ≤ n) × (all ≡ false → length (option_to_list given ++ ps) ≡ n)
