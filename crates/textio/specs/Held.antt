-- The line so far.
use Rattle.std.specs.Prelude.{◌≡◌, ◌≢◌, ℕ, List, [], ◌∷◌, ⊤, ◌≤◌, ◌<◌, length}

-- no line feed
abbrev pub IsFree : List ℕ → Type 0
IsFree [] = ⊤
IsFree (x ∷ xs) = (x ≢ 10) × IsFree xs

-- the current line, of which no more is kept than shows that it is too long
pub record Holds (held items : List ℕ) : Type 0 where
  pub short : length held ≤ 65536 → items ≡ held
  pub long : 65536 < length held → 65536 < length items
  pub free : IsFree held
