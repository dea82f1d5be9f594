use Rattle.std.proofs.Common.{ap, ◌∙◌}
use Rattle.reference.specs.declared.reply.Reply.TheVariants.{Data}
use Rattle.call_compiler.specs.Compiled.{messages}
use Rattle.call_compiler.proofs.OnFiles.{read_is_refused, read_is_too_much, read_is_done}
use Rattle.call_compiler.proofs.read.read.Goals as goal

pub returns-in-Err : goal.returns-in-Err
returns-in-Err c = λ at. read_is_refused c.args.indexes.now c.args.path.now c.args.offset c.args.count at c.refused.result.0 (messages c.refused.result.1)
    c.in_ok-file.field-0 c.in_ok-file.ensures.reported c.in-Err.fault c.in-Err.is c.refused.ensures.reply c.refused.ensures.messages

pub returns-then-count-gt-GREATEST_READ : goal.returns-then-count-gt-GREATEST_READ
returns-then-count-gt-GREATEST_READ c = λ at. read_is_too_much c.args.indexes.now c.args.path.now c.args.offset c.args.count at c.refused-then-count-gt-GREATEST_READ.result.0 (messages c.refused-then-count-gt-GREATEST_READ.result.1)
    c.in_ok-file.field-0 c.in_ok-file.ensures.reported c.in-Ok.file c.in-Ok.is c.if-count-gt-GREATEST_READ.true c.refused-then-count-gt-GREATEST_READ.ensures.reply c.refused-then-count-gt-GREATEST_READ.ensures.messages

pub returns : goal.returns
returns c = λ at. read_is_done c.args.indexes.now c.args.path.now c.args.offset c.args.count at c.without_messages.result.0 (messages c.without_messages.result.1)
    c.in_ok-file.field-0 c.in_ok-file.ensures.reported c.in-Ok.file c.in-Ok.is c.in_ok-bytes.bytes.items c.if-count-gt-GREATEST_READ.false c.in_ok-bytes.ensures
    (c.without_messages.ensures.reply ∙ ap Data c.from_vec-data.ensures) c.without_messages.ensures.messages
