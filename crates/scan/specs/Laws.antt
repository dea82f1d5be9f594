-- Laws of scans that read a range in batches. f is any function from keys to values, for example the values of a tree.
use Rattle.std.specs.Prelude.{ℕ, ◌+◌, ◌<◌, List, [], ◌++◌, Option, length}
use Rattle.pathkey.specs.Keys.{next_key}
use Rattle.scan.specs.Pairs.{IsScan, EndsAt, HasAll}

-- a scan, followed by the scan after its last key, is one scan of the whole range
abbrev pub JoinLaw : Type 0 → Type 0
JoinLaw V = (f : List ℕ → Option V) (lo : List ℕ) (hi : Option (List ℕ)) (n m : ℕ) (ps qs : List (List ℕ × V)) (k : List ℕ) →
    IsScan f lo hi n ps → EndsAt ps k → IsScan f (next_key k) hi m qs → IsScan f lo hi (n + m) (ps ++ qs)

-- a scan with fewer pairs than its limit has all pairs of the range
abbrev pub ShortLaw : Type 0 → Type 0
ShortLaw V = (f : List ℕ → Option V) (lo : List ℕ) (hi : Option (List ℕ)) (n : ℕ) (ps : List (List ℕ × V)) → IsScan f lo hi n ps → length ps < n → HasAll f lo hi ps

-- and so has a scan after which nothing was found, though a pair was requested
abbrev pub LastLaw : Type 0 → Type 0
LastLaw V = (f : List ℕ → Option V) (lo : List ℕ) (hi : Option (List ℕ)) (n m : ℕ) (ps : List (List ℕ × V)) (k : List ℕ) →
    IsScan f lo hi n ps → EndsAt ps k → IsScan f (next_key k) hi m [] → 0 < m → HasAll f lo hi ps
