-- Which directory gets the timestamp of a call as its mtime.
use Rattle.std.specs.Prelude.{◌≡◌, ℕ, ◌==◌, Bool, false, cond, List, [], ◌∷◌, Option, Some, None, Ok, MatchOption}
use Rattle.message.specs.declared.msg.Msg.{Msg}
use Rattle.meta_index.specs.Means.{moment_reported}
use Rattle.meta_index.specs.declared.update.MetaUpdate.{MetaUpdate}
use Rattle.reference.specs.Tree.{At}
use Rattle.reference.specs.declared.reply.Meta.{Meta}
use Rattle.call_compiler.specs.Compiled.{touches}
use Rattle.call_compiler.specs.declared.dir_mtime.ParentDir.{ParentDir}

-- this is the mtime, if it is known
abbrev pub is_moment : ℕ → Option ℕ → Bool
is_moment at None = false
is_moment at (Some date) = date == at

-- the directory's mtime is known, and the entry there is a directory with this mtime
abbrev pub IsDated : At → ParentDir → Type 0
IsDated here d = MatchOption d.modified ⊥ (λ date. moment_reported here ≡ Ok date)

-- the directory is known to have the mtime
abbrev pub has_moment : ℕ → ParentDir → Bool
has_moment at d = is_moment at d.modified

-- the message that sets the directory's mtime; none if it is known to have it
abbrev pub needed_touches : ℕ → ParentDir → List (Msg MetaUpdate Meta)
needed_touches at d = cond (has_moment at d) [] (touches at (d.path ∷ []))
