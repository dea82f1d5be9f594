-- The first bytes of a key as one number, which is compared in one step.
use Rattle.std.specs.Prelude.{◌≡◌, ℕ, zero, suc, ◌+◌, ◌*◌, ◌^◌, ◌<◌, List, [], ◌∷◌}
use Rattle.std.specs.List.{AllByRecursion}

-- the number that the first n bytes make, big-endian, padded with zeros if the list is shorter
abbrev pub head : ℕ → List ℕ → ℕ
head zero bytes = 0
head (suc n) [] = 0
head (suc n) (b ∷ bytes) = b * 256 ^ n + head n bytes

-- that of a key: eight bytes
abbrev pub head_of : List ℕ → ℕ
head_of bytes = head 8 bytes

-- numbers that are bytes
abbrev pub AreBytes : List ℕ → Type 0
AreBytes bytes = AllByRecursion (λ b. b < 256) bytes

-- the first n bytes of both are the same, each padded with zeros
abbrev pub ShareHead : ℕ → List ℕ → List ℕ → Type 0
ShareHead n left right = head n left ≡ head n right

-- h is the head of these bytes
pub record IsHeaded (h : ℕ) (items : List ℕ) : Type 0 where
  pub is_head : h ≡ head_of items
  pub are_bytes : AreBytes items
