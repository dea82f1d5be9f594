-- The effects of updates of the metadata at a path, and which two of them join.
use Rattle.std.specs.Prelude.{Bool, true, false, Option}
use Rattle.reference.specs.Indexes.{set_len, grow, touch}
use Rattle.reference.specs.declared.reply.Meta.{Meta}
use Rattle.meta_index.specs.declared.update.MetaUpdate.{MetaUpdate}
use Rattle.meta_index.specs.declared.update.MetaUpdate.TheVariants.{SetLen, Grow, Touch}

-- the effect of an update on the metadata at a path: the length of a file is set, or raised if it is less, and its mtime
-- set; or only the mtime of the entry is set
abbrev pub means : MetaUpdate → Option Meta → Option Meta
means (SetLen n at) = set_len n at
means (Grow n at) = grow n at
means (Touch at) = touch at

-- two updates join if both change a file, or both set only an mtime
abbrev pub joins : MetaUpdate → MetaUpdate → Bool
joins (Touch at) (Touch later) = true
joins (Touch at) _ = false
joins _ (Touch later) = false
joins _ _ = true
