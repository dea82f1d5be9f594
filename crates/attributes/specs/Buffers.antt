-- Records and their paths in buffers of the caller.
use Rattle.std.specs.Prelude.{◌≡◌, ◌⊎◌, true, ℕ, List, ◌++◌, length, drop, nat_le, if◌then◌else◌, Some, Result, Ok, Err}
use Rattle.pathkey.specs.Names.{Path}
use Rattle.pathkey.specs.Texts.{text_of}
use Rattle.pathkey.specs.declared.errno.Errno.{Errno}
use Rattle.pathkey.specs.declared.errno.Errno.TheVariants.{EINVAL, ENOMEM}
use Rattle.attributes.specs.Attributes.{IsAttributes, is_valid}
use Rattle.attributes.specs.RawAttributes.{basic_of, fields_of, no_fields}
use Rattle.attributes.specs.Packed.{packed}
use Rattle.attributes.specs.Places.{placed}
use Rattle.attributes.specs.Text.{Reads, printed}
use Rattle.attributes.specs.declared.raw_attributes.RawAttributes.{RawAttributes}
use Rattle.attributes.specs.declared.record.Attributes.{Attributes}

-- the buffer with the bytes at its front if they fit, and otherwise unchanged
abbrev pub laid : List ℕ → List ℕ → List ℕ
laid bytes out = if nat_le (length bytes) (length out) then bytes ++ drop (length bytes) out else out

-- the path for the record of the parsed path, or why there is none
abbrev pub place_of : (Path → Path) → Result Path Errno → Result Path Errno
place_of place (Ok p) = placed p (place p)
place_of place (Err e) = Err e

-- the buffer has the path's text if it fits, and the result is its length; or it is the path's error or ENOMEM
abbrev pub Writes : Result Path Errno → Result ℕ Errno → List ℕ → List ℕ → Type 0
Writes wanted (Ok n) old new = (p : Path) × (wanted ≡ Ok p) × (n ≡ length (text_of p)) × (new ≡ laid (text_of p) old)
Writes wanted (Err e) old new = ((wanted ≡ Err e) ⊎ (e ≡ ENOMEM)) × (new ≡ old)

-- the fields and the packed extended attributes are those of a
pub record Tells (f : RawAttributes) (extended : List ℕ) (a : Attributes) : Type 0 where
  pub basic : basic_of f ≡ Some a.basic
  pub extended_is : extended ≡ packed a.extended

-- the buffer has the record of the given attributes if it fits; or they are not valid (EINVAL), or an allocation failed (ENOMEM)
abbrev pub Prints : RawAttributes → List ℕ → Result ℕ Errno → List ℕ → List ℕ → Type 0
Prints f extended (Ok n) old new = (a : Attributes) × (is_valid a ≡ true) × Tells f extended a × (n ≡ length (printed a)) × (new ≡ laid (printed a) old)
Prints f extended (Err EINVAL) old new = ((a : Attributes) → IsAttributes a → Tells f extended a → ⊥) × (new ≡ old)
Prints f extended (Err e) old new = (e ≡ ENOMEM) × (new ≡ old)

-- the attributes of a record are in the fields, and the packed extended ones in the buffer if they fit; or it failed
abbrev pub Parses : List ℕ → Result ℕ Errno → RawAttributes → List ℕ → List ℕ → Type 0
Parses text (Ok n) f old new = (a : Attributes) × Reads text (Ok a) × (f ≡ fields_of a.basic) × (n ≡ length (packed a.extended)) × (new ≡ laid (packed a.extended) old)
Parses text (Err e) f old new = Reads text (Err e) × (f ≡ no_fields) × (new ≡ old)
