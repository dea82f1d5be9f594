-- The entries of a directory as text.
use Rattle.std.proofs.Common.{◌≡◌, ℕ, List, length}
use Rattle.std.specs.List.{flat_map}
use Rattle.std.proofs.lemmas.List.{length-map}
use Rattle.std.proofs.lemmas.List.Folds.{flat_map-map}
use Rattle.std.specs.Prelude.{Vec}
use Rattle.std.specs.declared.alloc.Global.{Global}
use Rattle.reference.specs.declared.reply.Kind.{Kind}
use Rattle.reference.specs.Pairs.{pairs_of}
use Rattle.shell.specs.Replies.{entry_line}

-- the line of an entry as a program holds it
abbrev pub entry_text : Kind × Vec ℕ Global → List ℕ
entry_text e = entry_line (e.0, e.1.items)

-- the lines of entries, from what a program holds of them
pub entries_text : (entries : List (Kind × Vec ℕ Global)) → flat_map entry_line (pairs_of entries) ≡ flat_map entry_text entries
entries_text entries = flat_map-map entry_line (λ e. (e.0, e.1.items)) entries

-- there are equally many of them
pub length_of_pairs : (entries : List (Kind × Vec ℕ Global)) → length (pairs_of entries) ≡ length entries
length_of_pairs entries = length-map entries (λ e. (e.0, e.1.items))
