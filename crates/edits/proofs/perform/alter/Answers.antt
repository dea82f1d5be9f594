use Rattle.std.proofs.Common.{rules}
use Rattle.edits.proofs.Performing.{directory_altered, file_altered, has_from, one_alter, one_change}
use Rattle.edits.proofs.perform.alter.Goals as goal

pub returns-in-Dir-Dir : goal.returns-in-Dir-Dir
returns-in-Dir-Dir c =
    let volume = c.args.volume.now in
    let path = c.args.path.now in
    let fits = has_from volume path c.args.old _ c.in_ok-has_meta.field-0 c.in_ok-has_meta.ensures (search rules) c.in-Dir-Dir.is-0 in
    one_change path _ _ c.was_done.result volume c.set_mtime.new.self (one_alter _ _ _ _ c.in-Dir-Dir.is-0 c.in-Dir-Dir.is-1)
    (directory_altered path _ c.in-Dir-Dir.modified c.set_mtime.result c.was_done.result volume c.set_mtime.new.self fits c.set_mtime.ensures c.was_done.ensures)

pub returns-in-File-File : goal.returns-in-File-File
returns-in-File-File c =
    let volume = c.args.volume.now in
    let path = c.args.path.now in
    let fits = has_from volume path c.args.old _ c.in_ok-has_meta.field-0 c.in_ok-has_meta.ensures (search rules) c.in-File-File.is-0 in
    one_change path _ _ c.was_done-in-File-File.result volume c.truncate.new.self (one_alter _ _ _ _ c.in-File-File.is-0 c.in-File-File.is-1)
    (file_altered path _ _ c.in-File-File.len c.in-File-File.modified c.truncate.result c.was_done-in-File-File.result volume c.truncate.new.self fits c.truncate.ensures c.was_done-in-File-File.ensures)
