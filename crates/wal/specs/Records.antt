-- Records, and what of a log counts.
use Rattle.std.specs.Prelude.{◌≡◌, ◌≢◌, ◌+◌, ◌-◌, ℕ, suc, List, [], ◌∷◌, ◌++◌, length, codes, nat_le, if◌then◌else◌}
use Rattle.std.specs.List.{AllByRecursion}
use Rattle.sha2.specs.Sha256.{sha256}
use Rattle.wal.specs.Entries.{IsWord, word}

-- with which bytes each record of a log begins, by the log's salt: a log of version 1 has none
unfoldable pub magic : List ℕ → List ℕ
magic [] = codes "dvlog 1\n"
magic (x ∷ salt) = codes "dvlog 2\n"

-- the header before a body: the magic bytes, the record's number, and the length of the body
unfoldable pub front : List ℕ → ℕ → ℕ → List ℕ
front salt n len = magic salt ++ word n ++ word len

-- the bytes after the body: the SHA-256 digest of the salt, the header and the body
unfoldable pub digest : List ℕ → ℕ → List ℕ → List ℕ
digest salt n body = sha256 (salt ++ front salt n (length body) ++ body)

-- the record of a number with this body
unfoldable pub record_of : List ℕ → ℕ → List ℕ → List ℕ
record_of salt n body = front salt n (length body) ++ body ++ digest salt n body

-- a log: the records with these bodies, of which the first has the number n
abbrev pub written : List ℕ → ℕ → List (List ℕ) → List ℕ
written salt n [] = []
written salt n (b ∷ bs) = record_of salt n b ++ written salt (suc n) bs

-- the bodies of a log fit records
abbrev pub AreBodies : List (List ℕ) → Type 0
AreBodies bs = AllByRecursion (λ b. IsWord (length b)) bs

-- the bytes begin with no record of that number
abbrev pub LacksRecord : List ℕ → ℕ → List ℕ → Type 0
LacksRecord salt n bytes = (body rest : List ℕ) → IsWord (length body) → bytes ≢ record_of salt n body ++ rest

-- what counts of a log from the record n on: the records with these bodies, and then no record more
pub record Counts (salt : List ℕ) (n : ℕ) (log : List ℕ) (bs : List (List ℕ)) (rest : List ℕ) : Type 0 where
  pub is : log ≡ written salt n bs ++ rest
  pub fit : AreBodies bs
  pub ends : LacksRecord salt (n + length bs) rest

-- the bodies of the records that are whole before byte k of a log
abbrev pub whole : List ℕ → ℕ → ℕ → List (List ℕ) → List (List ℕ)
whole salt k n [] = []
whole salt k n (b ∷ bs) =
    if nat_le (length (record_of salt n b)) k then b ∷ whole salt (k - length (record_of salt n b)) (suc n) bs
    else []
