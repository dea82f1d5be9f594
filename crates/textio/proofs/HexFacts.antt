-- Hexadecimal digits, as the library writes them and as the definitions do.
use Rattle.std.proofs.Common.{◌≡◌, ℕ, zero, suc, ◌/◌, ◌%◌, ◌<◌, List, [], ◌∷◌, slice_index, refl, ap, ◌∙◌, arith}
use Rattle.std.specs.List.{flat_map}
use Rattle.hex.specs.Hex.{encode_lower, encode_with, lower_digits}
use Rattle.pathkey.specs.Heads.{AreBytes}
use Rattle.reference.specs.Image.{digit, two_digits}

-- each of the sixteen digits
digit_at : (n : ℕ) → n < 16 → slice_index lower_digits n ≡ digit 87 n
digit_at zero lt = refl
digit_at (suc zero) lt = refl
digit_at (suc (suc zero)) lt = refl
digit_at (suc (suc (suc zero))) lt = refl
digit_at (suc (suc (suc (suc zero)))) lt = refl
digit_at (suc (suc (suc (suc (suc zero))))) lt = refl
digit_at (suc (suc (suc (suc (suc (suc zero)))))) lt = refl
digit_at (suc (suc (suc (suc (suc (suc (suc zero))))))) lt = refl
digit_at (suc (suc (suc (suc (suc (suc (suc (suc zero)))))))) lt = refl
digit_at (suc (suc (suc (suc (suc (suc (suc (suc (suc zero))))))))) lt = refl
digit_at (suc (suc (suc (suc (suc (suc (suc (suc (suc (suc zero)))))))))) lt = refl
digit_at (suc (suc (suc (suc (suc (suc (suc (suc (suc (suc (suc zero))))))))))) lt = refl
digit_at (suc (suc (suc (suc (suc (suc (suc (suc (suc (suc (suc (suc zero)))))))))))) lt = refl
digit_at (suc (suc (suc (suc (suc (suc (suc (suc (suc (suc (suc (suc (suc zero))))))))))))) lt = refl
digit_at (suc (suc (suc (suc (suc (suc (suc (suc (suc (suc (suc (suc (suc (suc zero)))))))))))))) lt = refl
digit_at (suc (suc (suc (suc (suc (suc (suc (suc (suc (suc (suc (suc (suc (suc (suc zero))))))))))))))) lt = refl
digit_at (suc (suc (suc (suc (suc (suc (suc (suc (suc (suc (suc (suc (suc (suc (suc (suc n)))))))))))))))) lt = absurd (omega arith)

-- the library's text of some bytes
pub encoded : (bytes : List ℕ) → AreBytes bytes → encode_lower bytes ≡ flat_map (two_digits 87) bytes
unfolding encode_with
encoded [] are = refl
encoded (b ∷ bytes) are =
    let small : b < 256 = are.0 in
    let high = digit_at (b / 16) (omega arith) in
    let low = digit_at (b % 16) (omega arith) in
    ap (λ d. d ∷ slice_index lower_digits (b % 16) ∷ encode_lower bytes) high
    ∙ ap (λ d. digit 87 (b / 16) ∷ d ∷ encode_lower bytes) low
    ∙ ap (λ l. digit 87 (b / 16) ∷ digit 87 (b % 16) ∷ l) (encoded bytes are.1)
