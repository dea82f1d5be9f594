use Rattle.std.proofs.Common.{◌∷◌, ◌++◌, [], sym, ap, ◌∙◌}
use Rattle.std.specs.List.{list_any}
use Rattle.message.specs.declared.msg.Msg.TheVariants.{DelRange}
use Rattle.meta_index.specs.declared.at.At.TheVariants.{Found}
use Rattle.pathkey.specs.declared.range.KeyRange.{KeyRange}
use Rattle.call_compiler.specs.Moves.{is_key_too_long}
use Rattle.call_compiler.proofs.Moving.{all_move, file_fits, file_moves, longs}
use Rattle.call_compiler.proofs.rename.moved_entries.Goals as goal

pub returns-in-Found-File-clause-moves : goal.returns-in-Found-File-clause-moves
returns-in-Found-File-clause-moves c = λ stored.
    let file = rw c.in-Found-File.is at c.in-Found-File.field-0-is in
    file_moves c.args.indexes.now.meta c.args.old.now c.args.new.now c.in-Found-File.len c.in-Found-File.modified c.args.from (c.in-Found-File.is ∙ ap Found file) c.key-old_key.ensures.valid stored c.in_ok-msgs.msgs.items c.in_ok-msgs.ensures.messages

pub returns-in-Found-File-clause-long : goal.returns-in-Found-File-clause-long
returns-in-Found-File-clause-long c = λ t at there.
    let file = rw c.in-Found-File.is at c.in-Found-File.field-0-is in
    file_fits c.args.indexes.now.meta c.args.old.now c.args.new.now c.in-Found-File.len c.in-Found-File.modified c.args.from (c.in-Found-File.is ∙ ap Found file) c.in_ok-msgs.ensures.path t at

pub returns-then-has_too_long_key-clause-long : goal.returns-then-has_too_long_key-clause-long
returns-then-has_too_long_key-clause-long c = λ t at there.
    sym c.if-has_too_long_key.true ∙ c.has_too_long_key.ensures ∙ ap (list_any is_key_too_long) c.as_slice.ensures.value
    ∙ longs c.args.indexes.now.meta c.args.old.now c.args.new.now c.args.from c.new.result.items c.in_ok-msgs-2.msgs.items c.new.ensures.items c.in_ok-msgs-2.ensures c.key-old_key.ensures.valid t at there

pub returns-clause-moves : goal.returns-clause-moves
returns-clause-moves c = λ stored. all_move c.args.indexes.now.meta c.args.old.now c.args.new.now c.args.from c.new.result.items c.in_ok-msgs-2.msgs.items c.new.ensures.items c.in_ok-msgs-2.ensures c.push.new.self.items (c.in_ok-push.ensures.items ∙ ap (λ (r : KeyRange). c.in_ok-msgs-2.msgs.items ++ DelRange r ∷ []) c.in_ok-subtree.ensures)

pub returns-clause-long : goal.returns-clause-long
returns-clause-long c = λ t at there.
    sym c.if-has_too_long_key.false ∙ c.has_too_long_key.ensures ∙ ap (list_any is_key_too_long) c.as_slice.ensures.value
    ∙ longs c.args.indexes.now.meta c.args.old.now c.args.new.now c.args.from c.new.result.items c.in_ok-msgs-2.msgs.items c.new.ensures.items c.in_ok-msgs-2.ensures c.key-old_key.ensures.valid t at there
