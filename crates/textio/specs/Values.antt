-- Numbers, bytes and paths as words of a line.
use Rattle.std.specs.Prelude.{ℕ, ◌%◌, ◌^◌, nat_lt, List, [], ◌∷◌, length, codes, bytes_eq, Bool, false, ◌&&◌, ◌==◌, if◌then◌else◌, Option, Some, None, Result}
use Rattle.std.specs.List.{list_all}
use Rattle.std.specs.Char.{is_ascii_digit, is_ascii_hexdigit}
use Rattle.std.specs.Str.Parse.{digits_value}
use Rattle.std.specs.Result.{result_ok}
use Rattle.hex.specs.Hex.{decode_of}
use Rattle.percent_encoding.specs.Percent.{percent_decode}
use Rattle.pathkey.specs.Names.{Path}
use Rattle.pathkey.specs.Texts.{parsed}
use Rattle.pathkey.specs.declared.errno.Errno.{Errno}

-- `0`, or decimal digits that do not begin with `0`
abbrev pub is_decimal : List ℕ → Bool
is_decimal [] = false
is_decimal (d ∷ ds) = if d == 48 then length (d ∷ ds) == 1 else list_all is_ascii_digit (d ∷ ds)

-- the number with these digits, if all of them are decimal and the number is below 2^64
abbrev pub number_of_digits : List ℕ → Option ℕ
number_of_digits ds = if list_all is_ascii_digit ds && nat_lt (digits_value 10 ds) (2 ^ 64) then Some (digits_value 10 ds) else None

-- the number of a decimal word, if it is one below 2^64
abbrev pub number_of : List ℕ → Option ℕ
number_of word = if is_decimal word && nat_lt (digits_value 10 word) (2 ^ 64) then Some (digits_value 10 word) else None

-- an even number of hexadecimal digits of either case, and not none
abbrev pub is_hex : List ℕ → Bool
is_hex word = nat_lt 0 (length word) && (length word % 2 == 0) && list_all is_ascii_hexdigit word

-- the bytes that a word writes, two digits each; a dash writes none
abbrev pub bytes_of : List ℕ → Option (List ℕ)
bytes_of word =
    if bytes_eq word (codes "-") then Some []
    else if is_hex word then result_ok (decode_of word)
    else None

-- what reading a word as a path answers: its text is in percent form
abbrev pub path_of : List ℕ → Result Path Errno
path_of word = parsed (percent_decode word)
