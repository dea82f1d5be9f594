use Rattle.std.proofs.Common.{ℕ, List, refl, sym, subst, OnOk}
use Rattle.std.proofs.lemmas.Result.{on_ok_weaker}
use Rattle.wal.specs.declared.wal_entry.WalEntry.{WalEntry}
use Rattle.wal.specs.declared.wal_entry.WalEntry.TheVariants.{OnPath, Rename, Truncate, Punch, SetMtime, CopyRange, Keep, Edits}
use Rattle.wal.specs.Added.{Adds, AddsParts}
use Rattle.wal.proofs.Adding.{adds_one, adds_two, adds_write}
use Rattle.wal.proofs.print_entry.put_change.Goals as goal

pub returns-in_ok-put_moment-in-OnPath : goal.returns-in_ok-put_moment-in-OnPath
returns-in_ok-put_moment-in-OnPath c =
    let at : ℕ = c.in-OnPath.at in
    let this : WalEntry = OnPath c.in-OnPath.what c.in-OnPath.path at in
    let one = c.in_ok-put_moment-in-OnPath.ensures in
    subst (λ (x : WalEntry). OnOk c.put_on_path.result (Adds x c.args.text.now.items c.put_on_path.new.text.items)) (sym c.in-OnPath.is)
    (on_ok_weaker c.put_on_path.result (λ h. adds_two this at c.args.text.now.items _ c.put_on_path.new.text.items refl one (h at)) c.put_on_path.ensures)

pub returns-in_ok-put_moment-in-Rename : goal.returns-in_ok-put_moment-in-Rename
returns-in_ok-put_moment-in-Rename c =
    let at : ℕ = c.in-Rename.at in
    let this : WalEntry = Rename c.in-Rename.old c.in-Rename.new at in
    let one = c.in_ok-put_moment-in-Rename.ensures in
    subst (λ (x : WalEntry). OnOk c.put_rename.result (Adds x c.args.text.now.items c.put_rename.new.text.items)) (sym c.in-Rename.is)
    (on_ok_weaker c.put_rename.result (λ h. adds_two this at c.args.text.now.items _ c.put_rename.new.text.items refl one (h at)) c.put_rename.ensures)

pub returns-in_ok-put_moment-in-Truncate : goal.returns-in_ok-put_moment-in-Truncate
returns-in_ok-put_moment-in-Truncate c =
    let at : ℕ = c.in-Truncate.at in
    let this : WalEntry = Truncate c.in-Truncate.path c.in-Truncate.length at in
    let one = c.in_ok-put_moment-in-Truncate.ensures in
    subst (λ (x : WalEntry). OnOk c.put_truncate.result (Adds x c.args.text.now.items c.put_truncate.new.text.items)) (sym c.in-Truncate.is)
    (on_ok_weaker c.put_truncate.result (λ h. adds_two this at c.args.text.now.items _ c.put_truncate.new.text.items refl one (h at)) c.put_truncate.ensures)

pub returns-in_ok-put_moment-in-Write : goal.returns-in_ok-put_moment-in-Write
returns-in_ok-put_moment-in-Write c =
    let at : ℕ = c.in-Write.at in
    let one = c.in_ok-put_moment-in-Write.ensures in
    subst (λ (x : WalEntry). OnOk c.put_parts.result (Adds x c.args.text.now.items c.put_parts.new.text.items)) (sym c.in-Write.is)
    (on_ok_weaker c.put_parts.result
    (λ h. adds_write c.in-Write.path c.in-Write.offset c.in-Write.bytes at c.args.text.now.items c.put_moment-in-Write.new.text.items c.put_parts.new.text.items one
    (subst (λ (w : List ℕ). AddsParts c.in-Write.path c.in-Write.offset w at c.put_moment-in-Write.new.text.items c.put_parts.new.text.items) c.as_slice.ensures (h at)))
    c.put_parts.ensures)

pub returns-in-Punch : goal.returns-in-Punch
returns-in-Punch c =
    let this : WalEntry = Punch c.in-Punch.path c.in-Punch.offset c.in-Punch.count c.in-Punch.field-3 in
    subst (λ (x : WalEntry). OnOk c.put_hole.result (Adds x c.args.text.now.items c.put_hole.new.text.items)) (sym c.in-Punch.is)
    (on_ok_weaker c.put_hole.result (λ h. adds_one this c.args.text.now.items c.put_hole.new.text.items refl (h c.in-Punch.field-3)) c.put_hole.ensures)

pub returns-in-SetMtime : goal.returns-in-SetMtime
returns-in-SetMtime c =
    subst (λ (x : WalEntry). OnOk c.put_mtime.result (Adds x c.args.text.now.items c.put_mtime.new.text.items)) (sym c.in-SetMtime.is)
    (on_ok_weaker c.put_mtime.result (λ h. adds_one (SetMtime c.in-SetMtime.path c.in-SetMtime.at) c.args.text.now.items c.put_mtime.new.text.items refl h) c.put_mtime.ensures)

pub returns-in-CopyRange : goal.returns-in-CopyRange
returns-in-CopyRange c =
    let at : ℕ = c.in-CopyRange.field-5 in
    let this : WalEntry = CopyRange c.in-CopyRange.from c.in-CopyRange.offset c.in-CopyRange.to c.in-CopyRange.target c.in-CopyRange.count at in
    subst (λ (x : WalEntry). OnOk c.put_copy_range.result (Adds x c.args.text.now.items c.put_copy_range.new.text.items)) (sym c.in-CopyRange.is)
    (on_ok_weaker c.put_copy_range.result (λ h. adds_one this c.args.text.now.items c.put_copy_range.new.text.items refl (h at)) c.put_copy_range.ensures)

pub returns-in-Keep : goal.returns-in-Keep
returns-in-Keep c =
    subst (λ (x : WalEntry). OnOk c.put_keep.result (Adds x c.args.text.now.items c.put_keep.new.text.items)) (sym c.in-Keep.is)
    (on_ok_weaker c.put_keep.result (λ h. adds_one (Keep c.in-Keep.what c.in-Keep.name) c.args.text.now.items c.put_keep.new.text.items refl h) c.put_keep.ensures)

pub returns-in-Edits : goal.returns-in-Edits
returns-in-Edits c =
    subst (λ (x : WalEntry). OnOk c.put_edits.result (Adds x c.args.text.now.items c.put_edits.new.text.items)) (sym c.in-Edits.is)
    (on_ok_weaker c.put_edits.result (λ h. adds_one (Edits c.in-Edits.edits) c.args.text.now.items c.put_edits.new.text.items refl h) (rw c.as_slice-in-Edits.ensures at c.put_edits.ensures))
