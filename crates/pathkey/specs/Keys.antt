-- Keys: a path as bytes, and the key ranges of subtrees and of the blocks of a file (full-path indexing: Jannen et al., FAST
-- 2015).
use Rattle.std.specs.Prelude.{◌≡◌, ◌≢◌, ℕ, List, [], ◌∷◌, ◌++◌, Bool, true, ◌&&◌, Option, Some, None}
use Rattle.std.specs.List.{join_with_byte}
use Rattle.std.specs.Ordering.{is_le, is_lt}
use Rattle.std.specs.Int.{w32, to_be_bytes}
use Rattle.pathkey.specs.Order.{by_bytes}
use Rattle.pathkey.specs.Names.{Path}
pub use Rattle.pathkey.specs.Enc.{enc}
use Rattle.pathkey.specs.declared.range.KeyRange.{KeyRange}

-- a key's bytes
abbrev pub Key : Type 0
Key = List ℕ

-- the least key after k
abbrev pub next_key : Key → Key
next_key k = k ++ 0 ∷ []

-- the path's key with its last byte replaced by 1, for a path that is not the root
abbrev pub end_of : Path → Key
end_of p = join_with_byte 0 p ++ 1 ∷ []

-- block i of a path: its key, a byte 0, and i in four bytes, big-endian
unfoldable pub block_key : Path → ℕ → Key
block_key p i = enc p ++ 0 ∷ to_be_bytes w32 i

-- the key is less than the upper bound, if there is one
abbrev pub is_below : Key → Option Key → Bool
is_below k None = true
is_below k (Some high) = is_lt (by_bytes k high)

-- the range contains the key: from its low end up to but excluding its high end
abbrev pub is_in : KeyRange → Key → Bool
is_in r k = is_le (by_bytes r.lo k) && is_below k r.hi

-- the keys of the paths at or below a path, and of their blocks; at the root, all keys
abbrev pub subtree : Path → KeyRange
subtree [] = record { lo = []; hi = None }
subtree (n ∷ p) = record { lo = enc (n ∷ p); hi = Some (end_of (n ∷ p)) }

-- the blocks of a path from index a on
unfoldable pub blocks_from : Path → ℕ → KeyRange
blocks_from p a = record { lo = block_key p a; hi = Some (enc p ++ 1 ∷ []) }

-- the key with its prefix, the old path's key, replaced by the new one's; none only if it does not have that prefix
abbrev pub IsRekeyed : Key → Path → Path → Option Key → Type 0
IsRekeyed key old new None = (z : Key) → key ≢ enc old ++ z
IsRekeyed key old new (Some k) = (z : Key) × (key ≡ enc old ++ z) × (k ≡ enc new ++ z)
