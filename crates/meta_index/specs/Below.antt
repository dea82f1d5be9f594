-- What is below a path: its keys, and what is reported of an entry.
use Rattle.std.specs.Prelude.{◌≡◌, ℕ, true, List, Option, Some}
use Rattle.pathkey.specs.Names.{Path}
use Rattle.pathkey.specs.Keys.{enc, next_key, subtree}
use Rattle.pathkey.specs.declared.range.KeyRange.{KeyRange}
use Rattle.message.specs.Ranges.{within}
use Rattle.reference.specs.declared.reply.Kind.{Kind}
use Rattle.reference.specs.declared.reply.Kind.TheVariants.{Dir as DirKind, File as FileKind}
use Rattle.reference.specs.declared.reply.Meta.{Meta}
use Rattle.reference.specs.declared.reply.Meta.TheVariants.{Dir as DirMeta, File as FileMeta}

-- the keys of the path's subtree but for its own
abbrev pub below : Path → KeyRange
below p = record { lo = next_key (enc p); hi = (subtree p).hi }

-- whether metadata are those of a directory or of a file
abbrev pub kind_reported : Meta → Kind
kind_reported (DirMeta date) = DirKind
kind_reported (FileMeta n date) = FileKind

-- f has a value at a key from lo up to and without hi
pub record HasPair {V : Type 0} (f : List ℕ → Option V) (lo : List ℕ) (hi : Option (List ℕ)) : Type 0 where
  pub key : List ℕ
  pub value : V
  pub inside : within lo hi key ≡ true
  pub stands : f key ≡ Some value
