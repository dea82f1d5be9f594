-- A directory's entries as plain lists.
use Rattle.std.specs.Prelude.{ℕ, List, map, Vec}
use Rattle.std.specs.declared.alloc.Global.{Global}
use Rattle.reference.specs.declared.reply.Kind.{Kind}

-- kinds and names, a name as its bytes
abbrev pub pairs_of : List (Kind × Vec ℕ Global) → List (Kind × List ℕ)
pairs_of entries = map (λ e. (e.0, e.1.items)) entries
