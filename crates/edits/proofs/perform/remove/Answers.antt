use Rattle.std.proofs.Common.{◌∙◌, ap, rules, sym}
use Rattle.reference.proofs.EntryPaths.{not_root}
use Rattle.edits.specs.declared.edit.Change.TheVariants.{Remove}
use Rattle.edits.proofs.Performing.{directory_removed, file_removed, has_from, one_change, parent_from}
use Rattle.edits.proofs.perform.remove.Goals as goal

pub returns-in-Dir : goal.returns-in-Dir
returns-in-Dir c =
    let volume = c.args.volume.now in
    let path = c.args.path.now in
    let fits = has_from volume path c.args.meta _ c.in_ok-has_meta.field-0 c.in_ok-has_meta.ensures (search rules) c.in-Dir.is in
    let above = parent_from volume path c.in_ok-modified.field-0 c.in-Some.modified c.in_ok-modified.ensures c.in-Some.is in
    one_change path _ _ c.was_done.result volume c.rmdir.new.self (ap Remove c.in-Dir.is)
    (directory_removed path c.in-Dir.modified c.in-Some.modified c.rmdir.result c.was_done.result volume c.rmdir.new.self (not_root path (sym c.is_root.ensures ∙ c.if-is_root.false)) fits above c.rmdir.ensures c.was_done.ensures)

pub returns-in-File : goal.returns-in-File
returns-in-File c =
    let volume = c.args.volume.now in
    let path = c.args.path.now in
    let fits = has_from volume path c.args.meta _ c.in_ok-has_meta.field-0 c.in_ok-has_meta.ensures (search rules) c.in-File.is in
    let above = parent_from volume path c.in_ok-modified.field-0 c.in-Some.modified c.in_ok-modified.ensures c.in-Some.is in
    one_change path _ _ c.was_done-in-File.result volume c.unlink.new.self (ap Remove c.in-File.is)
    (file_removed path c.in-File.len c.in-File.modified c.in-Some.modified c.unlink.result c.was_done-in-File.result volume c.unlink.new.self fits above c.unlink.ensures c.was_done-in-File.ensures)
