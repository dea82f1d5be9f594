-- Numbers and bytes as text.
use Rattle.std.specs.Prelude.{◌≡◌, ℕ, List, [], ◌∷◌, ◌++◌, codes, decimal, flat_map}
use Rattle.reference.specs.Image.{percent, two_digits}

-- bytes in hexadecimal, two lower-case digits each; a dash if there are none
abbrev pub hex_text : List ℕ → List ℕ
hex_text [] = codes "-"
hex_text (b ∷ bytes) = flat_map (two_digits 87) (b ∷ bytes)

-- a word and a number, on one line
abbrev pub number_line : List ℕ → ℕ → List ℕ
number_line word n = word ++ decimal n ++ codes "\n"

-- a byte that is not escaped in percent form
abbrev pub IsPlain : ℕ → Type 0
IsPlain byte = percent byte ≡ byte ∷ []
