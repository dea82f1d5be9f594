-- Attributes as plain numbers.
use Rattle.std.specs.Prelude.{ℕ, ◌==◌, nat_le, if◌then◌else◌, Option, Some, None, option_map}
use Rattle.attributes.specs.declared.record.Kind.{Kind}
use Rattle.attributes.specs.declared.record.Kind.TheVariants.{Directory, File, SymbolicLink, Fifo, Socket, CharacterDevice, BlockDevice, NameOf}
use Rattle.attributes.specs.declared.record.MtimeOverride.{MtimeOverride}
use Rattle.attributes.specs.declared.record.BasicAttributes.{BasicAttributes}
use Rattle.attributes.specs.declared.raw_attributes.RawAttributes.{RawAttributes}

-- ---- attributes as fields: an absent one is 0

abbrev pub kind_number : Kind → ℕ
kind_number Directory = 1
kind_number File = 2
kind_number SymbolicLink = 3
kind_number Fifo = 4
kind_number Socket = 5
kind_number (CharacterDevice n) = 6
kind_number (BlockDevice n) = 7
kind_number (NameOf n) = 8

abbrev pub device_of : Kind → ℕ
device_of (CharacterDevice n) = n
device_of (BlockDevice n) = n
device_of _ = 0

abbrev pub link_of : Kind → ℕ
link_of (NameOf n) = n
link_of _ = 0

-- the fields of attributes with this explicitly set mtime, if there is one
abbrev pub with_time : BasicAttributes → Option MtimeOverride → RawAttributes
with_time b None = record { mode = b.mode; user = b.user; group = b.group; kind = kind_number b.kind; names = b.names; link = link_of b.kind; device = device_of b.kind; modified = 0; valid_until = 0; has_modified = 0 }
with_time b (Some t) = record { mode = b.mode; user = b.user; group = b.group; kind = kind_number b.kind; names = b.names; link = link_of b.kind; device = device_of b.kind; modified = t.modified; valid_until = t.until; has_modified = 1 }

abbrev pub fields_of : BasicAttributes → RawAttributes
fields_of b = with_time b b.modified

abbrev pub no_fields : RawAttributes
no_fields = record { mode = 0; user = 0; group = 0; kind = 0; names = 0; link = 0; device = 0; modified = 0; valid_until = 0; has_modified = 0 }

-- ---- the attributes of given fields

abbrev pub kind_of : RawAttributes → Option Kind
kind_of f =
    if f.kind == 1 then Some Directory
    else if f.kind == 2 then Some File
    else if f.kind == 3 then Some SymbolicLink
    else if f.kind == 4 then Some Fifo
    else if f.kind == 5 then Some Socket
    else if f.kind == 6 then Some (CharacterDevice f.device)
    else if f.kind == 7 then Some (BlockDevice f.device)
    else if f.kind == 8 then Some (NameOf f.link)
    else None

abbrev pub time_of : RawAttributes → Option MtimeOverride
time_of f = if f.has_modified == 0 then None else Some (record { modified = f.modified; until = f.valid_until })

-- none if the kind is unknown or the mode has more than twelve bits
abbrev pub basic_of : RawAttributes → Option BasicAttributes
basic_of f =
    if nat_le f.mode 4095
    then option_map (λ k. record { kind = k; mode = f.mode; user = f.user; group = f.group; names = f.names; modified = time_of f }) (kind_of f)
    else None
