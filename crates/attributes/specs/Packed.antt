-- Packed extended attributes, as C programs pass them.
use Rattle.std.specs.Prelude.{◌≡◌, ◌≢◌, true, ℕ, ◌/◌, ◌%◌, List, [], ◌∷◌, ◌++◌, length, flat_map, Result, Ok, Err}
use Rattle.std.specs.List.{AllByRecursion}
use Rattle.pathkey.specs.declared.errno.Errno.{Errno}
use Rattle.pathkey.specs.declared.errno.Errno.TheVariants.{EINVAL, ENOMEM}
use Rattle.attributes.specs.declared.record.ExtendedAttribute.{ExtendedAttribute}
use Rattle.attributes.specs.Attributes.{AreBytesOf, assert_invariant}

-- a number below 2^32 as four bytes in little-endian order
unfoldable pub four_bytes : ℕ → List ℕ
four_bytes n = n % 256 ∷ n / 256 % 256 ∷ n / 65536 % 256 ∷ n / 16777216 ∷ []

-- the name, a byte 0, the value's length in four bytes, and the value
unfoldable pub packed_one : ExtendedAttribute → List ℕ
packed_one one = one.name ++ 0 ∷ (four_bytes (length one.value) ++ one.value)

abbrev pub packed : List ExtendedAttribute → List ℕ
packed extended = flat_map packed_one extended

-- the result of unpacking: valid extended attributes with these packed bytes; or it failed, with EINVAL if there are none
abbrev pub Unpacks : List ℕ → Result (List ExtendedAttribute) Errno → Type 0
Unpacks bytes (Ok es) = (assert_invariant [] es ≡ true) × (bytes ≡ packed es)
Unpacks bytes (Err EINVAL) = (es : List ExtendedAttribute) → assert_invariant [] es ≡ true → AllByRecursion AreBytesOf es → bytes ≢ packed es
Unpacks bytes (Err e) = e ≡ ENOMEM
