use Rattle.std.proofs.Common.{◌++◌, ◌∷◌, [], ap, ◌∙◌, arith}
use Rattle.message.specs.declared.msg.Msg.TheVariants.{DelRange}
use Rattle.pathkey.specs.declared.range.KeyRange.{KeyRange}
use Rattle.call_compiler.proofs.Moving.{none_move, some_move}
use Rattle.call_compiler.proofs.rename.moved_blocks.Goals as goal

pub returns-then-len-before : goal.returns-then-len-before
returns-then-len-before c = none_move c.args.indexes.now.block c.args.old.now c.args.new.now c.args.to c.in_ok-first.first.items c.in_ok-msgs.msgs.items c.in_ok-first.ensures.few c.in_ok-first.ensures.blocks c.in_ok-msgs.ensures
    (omega (arith, c.if-len-before.true, c.len.ensures, c.len-before.ensures))

pub returns : goal.returns
returns c = some_move c.args.indexes.now.block c.args.old.now c.args.new.now c.args.to c.in_ok-first.first.items c.in_ok-msgs.msgs.items c.in_ok-first.ensures.few c.in_ok-first.ensures.blocks c.in_ok-msgs.ensures
    c.push.new.self.items (c.in_ok-push.ensures.items ∙ ap (λ (r : KeyRange). c.in_ok-msgs.msgs.items ++ DelRange r ∷ []) c.in_ok-subtree.ensures)
