-- A sorted map as a list of chunks.
use Rattle.std.specs.Prelude.{◌≡◌, ℕ, suc, ◌<◌, ◌≤◌, Bool, false, List, [], ◌∷◌, ◌++◌, drop, length, Option, Some, None, if◌then◌else◌}
use Rattle.cow_map.specs.Places.{Rises, reaches}

module _ {X : Type 0} where
  -- the entries of all chunks, concatenated
  abbrev pub joined : List (List (List ℕ × X)) → List (List ℕ × X)
  joined [] = []
  joined (r ∷ rs) = r ++ joined rs

  -- each chunk has an entry, and 128 at most
  abbrev pub AreSized : List (List (List ℕ × X)) → Type 0
  AreSized [] = Unit {0}
  AreSized (r ∷ rs) = (0 < length r) × (length r ≤ 128) × AreSized rs

  -- the invariant of the chunks: keys rise strictly, and no chunk is empty or too long
  pub record AreRows (rs : List (List (List ℕ × X))) : Type 0 where
    pub rises : Rises (joined rs)
    pub sized : AreSized rs

  -- the chunks without the first n entries of the first one
  abbrev pub behind : ℕ → List (List (List ℕ × X)) → List (List (List ℕ × X))
  behind n [] = []
  behind n (r ∷ rs) = drop n r ∷ rs

  -- the first chunk has more than n entries; if there is none, n is 0
  abbrev pub IsBehind : ℕ → List (List (List ℕ × X)) → Type 0
  IsBehind n [] = n ≡ 0
  IsBehind n (r ∷ rs) = n < length r

  -- of shared chunks a map has those behind the first m, without the first n entries
  pub record IsKept (m n : ℕ) (rs : List (List (List ℕ × X))) : Type 0 where
    pub skipped : m ≤ length rs
    pub rows : AreRows (drop m rs)
    pub left : IsBehind n (drop m rs)

  -- the chunks of a map: its own ones, or those that it shares
  abbrev pub kept : List (List (List ℕ × X)) → Option (List (List (List ℕ × X))) → List (List (List ℕ × X))
  kept own None = own
  kept own (Some rs) = rs

  -- the first key of a chunk
  abbrev pub first_key : List (List ℕ × X) → List ℕ
  first_key [] = []
  first_key (e ∷ es) = e.0

  -- a chunk begins at or before the key
  abbrev pub starts_at_or_before : List ℕ → List (List ℕ × X) → Bool
  starts_at_or_before k [] = false
  starts_at_or_before k (e ∷ es) = reaches e.0 k

  -- how many chunks do so, up to the first that does not
  abbrev pub row_number : List ℕ → List (List (List ℕ × X)) → ℕ
  row_number k [] = 0
  row_number k (r ∷ rs) = if starts_at_or_before k r then suc (row_number k rs) else 0

  -- the index of the chunk to which the key belongs
  abbrev pub chunk_index : List ℕ → List (List (List ℕ × X)) → ℕ
  chunk_index k [] = 0
  chunk_index k (r ∷ rs) = row_number k rs
