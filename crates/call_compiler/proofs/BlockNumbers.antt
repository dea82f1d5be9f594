-- The number in a block's key.
use Rattle.std.proofs.Common.{◌≡◌, ℕ, ◌+◌, ◌-◌, ◌*◌, ◌/◌, ◌%◌, ◌^◌, ◌<◌, ◌≤◌, List, ◌∷◌, ◌++◌, length, get_or, refl, ap, ◌∙◌, arith}
use Rattle.std.proofs.lemmas.List.{get_or-append_right, length-append}
use Rattle.std.specs.Int.{w32, to_be_bytes}
use Rattle.pathkey.specs.Keys.{block_key, enc}
use Rattle.pathkey.specs.Names.{Path}

-- one of its four last bytes
digit_at : (p : Path) (i m : ℕ) → m ≤ 4 → get_or (block_key p i) (length (block_key p i) - m) 0 ≡ get_or (0 ∷ to_be_bytes w32 i) (5 - m) 0
unfolding block_key
digit_at p i m le =
    let l : length (enc p ++ 0 ∷ to_be_bytes w32 i) ≡ length (enc p) + length (0 ∷ to_be_bytes w32 i) = length-append (enc p) (0 ∷ to_be_bytes w32 i) in
    let five : length (0 ∷ to_be_bytes w32 i) ≡ 5 = refl in
    let e : length (enc p ++ 0 ∷ to_be_bytes w32 i) - m - length (enc p) ≡ 5 - m = omega arith in
    get_or-append_right (enc p) (0 ∷ to_be_bytes w32 i) (length (enc p)) (length (enc p ++ 0 ∷ to_be_bytes w32 i) - m) 0 refl (omega arith)
    ∙ ap (λ (x : ℕ). get_or (0 ∷ to_be_bytes w32 i) x 0) e

long_key : (p : Path) (i : ℕ) → 5 ≤ length (block_key p i)
unfolding block_key
long_key p i =
    let l : length (enc p ++ 0 ∷ to_be_bytes w32 i) ≡ length (enc p) + length (0 ∷ to_be_bytes w32 i) = length-append (enc p) (0 ∷ to_be_bytes w32 i) in
    let five : length (0 ∷ to_be_bytes w32 i) ≡ 5 = refl in
    omega arith

number_of_key : (p : Path) (i : ℕ) → i < 2 ^ 32 → (k : ℕ → ℕ) → ((m : ℕ) → m ≤ 4 → k m ≡ get_or (0 ∷ to_be_bytes w32 i) (5 - m) 0) → k 4 * 16777216 + k 3 * 65536 + k 2 * 256 + k 1 ≡ i
number_of_key p i fits k is =
    let a : k 4 ≡ i / 16777216 % 256 = is 4 (omega arith) in
    let b : k 3 ≡ i / 65536 % 256 = is 3 (omega arith) in
    let c : k 2 ≡ i / 256 % 256 = is 2 (omega arith) in
    let d : k 1 ≡ i % 256 = is 1 (omega arith) in
    omega arith

-- the four last bytes of a block's key are its number
pub number_read : (bytes : List ℕ) (p : Path) (i : ℕ) → i < 2 ^ 32 → bytes ≡ block_key p i
    → get_or bytes (length bytes - 4) 0 * 16777216 + get_or bytes (length bytes - 3) 0 * 65536 + get_or bytes (length bytes - 2) 0 * 256 + get_or bytes (length bytes - 1) 0 ≡ i
number_read bytes p i fits e = number_of_key p i fits (λ m. get_or bytes (length bytes - m) 0) (λ m le. ap (λ (l : List ℕ). get_or l (length l - m) 0) e ∙ digit_at p i m le)

-- so no block's key has fewer
pub short_key : (bytes : List ℕ) (p : Path) (i : ℕ) → bytes ≡ block_key p i → length bytes < 4 → ⊥
short_key bytes p i e h = let l : length bytes ≡ length (block_key p i) = ap (λ (b : List ℕ). length b) e in let g : 5 ≤ length (block_key p i) = long_key p i in omega arith
