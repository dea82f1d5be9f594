-- Patches: bytes, and their offset in a block.
use Rattle.std.specs.Prelude.{ℕ, ◌+◌, ◌-◌, List, ◌++◌, length, take, drop, Bool, ◌&&◌, nat_le}

-- bytes that overwrite those of a block from the offset on
pub record Overlay : Type 0 where
  pub off : ℕ
  pub bytes : List ℕ

-- the bytes of two patches that meet, w from c on over v from a on, from the earlier of both beginnings on
abbrev pub joined : ℕ → List ℕ → ℕ → List ℕ → List ℕ
joined a v c w = take (c - a) v ++ w ++ drop (c + length w - a) v

-- v from a on and w from c on overlap or are adjacent
abbrev pub is_touching : ℕ → List ℕ → ℕ → List ℕ → Bool
is_touching a v c w = nat_le c (a + length v) && nat_le a (c + length w)
