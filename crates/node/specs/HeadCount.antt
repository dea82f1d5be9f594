-- Sorted keys that a search by heads alone passes.
use Rattle.std.specs.Prelude.{◌≡◌, ℕ, ◌<◌, ◌≤◌, true, List, length}
use Rattle.std.specs.List.{AllWithin, slice_index_or}
use Rattle.pathkey.specs.Heads.{AreBytes, head_of}
use Rattle.message.specs.Ranges.{before}

module _ {Y : Type 0} (key : Y → List ℕ) (ys : List Y) (k : List ℕ) (n : ℕ) where
  -- the keys of the elements before number n stand before k
  pub record AreBefore : Type 0 where
    pub bound : n ≤ length ys
    pub earlier : AllWithin (λ y. before (key y) k ≡ true) ys 0 n

  -- and the head of the next one's key is no less than that of k
  pub record IsHeadCount : Type 0 where
    pub front : AreBefore
    pub next : (d : Y) → n < length ys → AreBytes (key (slice_index_or ys n d)) → AreBytes k → head_of k ≤ head_of (key (slice_index_or ys n d))
