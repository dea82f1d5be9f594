-- The text of an attribute record.
use Rattle.pathkey.specs.declared.errno.Errno.{Errno}
use Rattle.pathkey.specs.declared.errno.Errno.TheVariants.{EINVAL, ENOMEM}
use Rattle.std.specs.Prelude.{◌≡◌, ◌≢◌, true, Result, Ok, Err, ℕ, ◌+◌, ◌/◌, ◌%◌, List, [], ◌∷◌, ◌++◌, codes, decimal, flat_map, Option, Some, None}
use Rattle.reference.specs.Image.{percent}
use Rattle.attributes.specs.Attributes.{IsAttributes, is_valid, number_of}
use Rattle.textio.specs.Texts.{hex_text, number_line}
use Rattle.attributes.specs.declared.record.Kind.{Kind}
use Rattle.attributes.specs.declared.record.Kind.TheVariants.{Directory, File, SymbolicLink, Fifo, Socket, CharacterDevice, BlockDevice, NameOf}
use Rattle.attributes.specs.declared.record.MtimeOverride.{MtimeOverride}
use Rattle.attributes.specs.declared.record.BasicAttributes.{BasicAttributes}
use Rattle.attributes.specs.declared.record.ExtendedAttribute.{ExtendedAttribute}
use Rattle.attributes.specs.declared.record.Attributes.{Attributes}

abbrev pub Text : Type 0
Text = List ℕ

-- the word of a kind
abbrev pub kind_word : Kind → Text
kind_word Directory = codes "directory"
kind_word File = codes "file"
kind_word SymbolicLink = codes "symbolic-link"
kind_word Fifo = codes "fifo"
kind_word Socket = codes "socket"
kind_word (CharacterDevice n) = codes "character-device"
kind_word (BlockDevice n) = codes "block-device"
kind_word (NameOf n) = codes "name-of"

-- a space and the number, if there is one
abbrev pub number_text : Option ℕ → Text
number_text None = []
number_text (Some n) = 32 ∷ decimal n

-- the words of a kind
unfoldable pub kind_text : Kind → Text
kind_text k = kind_word k ++ number_text (number_of k)

-- a mode in four octal digits
unfoldable pub octal : ℕ → Text
octal mode = (48 + mode / 512) ∷ (48 + mode / 64 % 8) ∷ (48 + mode / 8 % 8) ∷ (48 + mode % 8) ∷ []

-- the lines of an explicitly set mtime; none if there is none
unfoldable pub time_lines : Option MtimeOverride → Text
time_lines None = []
time_lines (Some t) = number_line (codes "modified ") t.modified ++ number_line (codes "until ") t.until

-- the lines that every record has
unfoldable pub basic_lines : BasicAttributes → Text
basic_lines b =
    codes "doorvervain record 1\n"
    ++ (codes "kind " ++ kind_text b.kind ++ codes "\n")
    ++ (codes "mode " ++ octal b.mode ++ codes "\n")
    ++ number_line (codes "user ") b.user
    ++ number_line (codes "group ") b.group
    ++ number_line (codes "names ") b.names
    ++ time_lines b.modified

-- the words on the line of an extended attribute: its name in percent form, its value in hexadecimal
unfoldable pub extended_words : ExtendedAttribute → Text
extended_words one = codes "extended " ++ flat_map percent one.name ++ codes " " ++ hex_text one.value

abbrev pub extended_line : ExtendedAttribute → Text
extended_line one = extended_words one ++ codes "\n"

-- the text of a record
abbrev pub printed : Attributes → Text
printed a = basic_lines a.basic ++ flat_map extended_line a.extended

-- the result of parsing: the valid attributes with this record; or it failed, with EINVAL if there are none
abbrev pub Reads : Text → Result Attributes Errno → Type 0
Reads text (Ok a) = (is_valid a ≡ true) × (text ≡ printed a)
Reads text (Err EINVAL) = (a : Attributes) → IsAttributes a → text ≢ printed a
Reads text (Err e) = e ≡ ENOMEM
