-- From the lines of a body to their specification.
use Rattle.std.proofs.Common.{◌≡◌, inl, inr, List, ℕ, [], ◌++◌, sym, ap, subst, ◌∙◌}
use Rattle.pathkey.specs.declared.errno.Errno.{Errno}
use Rattle.reference.specs.Image.{Text}
use Rattle.textio.specs.Lines.{lines_of}
use Rattle.wal.specs.Entries.{body_of}
use Rattle.wal.specs.declared.wal_entry.WalEntry.{WalEntry}
use Rattle.wal.specs.Added.{AddsAll, script}
use Rattle.wal.specs.Dump.{AreRead, IsScriptOf, RefusesLines, RefusesTelling}
use Rattle.wal.proofs.Reading.{all_read, lines_reported}

-- lines that are appended to an empty text are a script
pub script_reported : (body : List ℕ) (cs : List WalEntry) (none text : Text) → body ≡ body_of cs → none ≡ [] → AddsAll cs none text → IsScriptOf body text
script_reported body cs none text is empty all =
    let lines = ap lines_of (all.added ∙ ap (λ (l : Text). l ++ script all.lines) empty) ∙ lines_reported all.lines all.fit in
    (cs, all.lines, is, all.tells, subst (λ (ls : List Text). AreRead ls all.lines) (sym lines) (all_read all.lines all.fit))

pub refused_reported : (body : List ℕ) (cs : List WalEntry) (e : Errno) → body ≡ body_of cs → RefusesTelling cs e → RefusesLines body e
refused_reported body cs e is (inl far) = inr (far.0, cs, is, far.1)
refused_reported body cs e is (inr lack) = inl (inr lack)
