use Rattle.std.proofs.Common.{arith, ◌++◌, [], Option, Bool, cond, refl, sym, subst, ap, ◌∙◌}
use Rattle.std.specs.Prelude.{IfSome, is_none}
use Rattle.std.specs.Global.{Vec}
use Rattle.message.specs.declared.msg.Msg.{Msg}
use Rattle.meta_index.specs.declared.update.MetaUpdate.{MetaUpdate}
use Rattle.reference.specs.Calls.{once, parent}
use Rattle.reference.specs.declared.reply.Meta.{Meta}
use Rattle.reference.specs.declared.reply.Reply.TheVariants.{Done}
use Rattle.call_compiler.specs.Compiled.{messages, touches}
use Rattle.call_compiler.specs.Moves.{MovesEntries}
use Rattle.call_compiler.proofs.Compiling.{halves}
use Rattle.call_compiler.proofs.Renames.{rename_is_of_nothing, rename_is_to_itself, rename_is_without_place, rename_is_too_long, rename_is_done}
use Rattle.call_compiler.proofs.rename.rename.Goals as goal

pub returns-in-Some : goal.returns-in-Some
returns-in-Some c = rename_is_of_nothing c.args.indexes.now c.args.old.now c.args.new.now c.args.at c.refused.result.0 (messages c.refused.result.1)
    c.fault_of_taking.result (λ t means. c.fault_of_taking.ensures t (c.in_ok-from.ensures.reported t means)) c.in-Some.fault c.in-Some.is c.refused.ensures.reply c.refused.ensures.messages

pub returns-then-is_same : goal.returns-then-is_same
returns-then-is_same c = rename_is_to_itself c.args.indexes.now c.args.old.now c.args.new.now c.args.at c.without_messages.result.0 (messages c.without_messages.result.1)
    c.fault_of_taking.result (λ t means. c.fault_of_taking.ensures t (c.in_ok-from.ensures.reported t means)) c.in_default.is (sym c.is_same.ensures ∙ c.if-is_same.true) c.without_messages.ensures.reply c.without_messages.ensures.messages

pub returns-in-Some-2 : goal.returns-in-Some-2
returns-in-Some-2 c = rename_is_without_place c.args.indexes.now c.args.old.now c.args.new.now c.args.at c.refused-in-Some-2.result.0 (messages c.refused-in-Some-2.result.1)
    c.fault_of_taking.result (λ t means. c.fault_of_taking.ensures t (c.in_ok-from.ensures.reported t means)) c.in_default.is (sym c.is_same.ensures ∙ c.if-is_same.false)
    c.in_ok-fault.field-0 (λ t means. c.in_ok-fault.ensures t means (c.in_ok-from.ensures.reported t means) (c.in_ok-to.ensures.reported t means)) c.in-Some-2.fault c.in-Some-2.is c.refused-in-Some-2.ensures.reply c.refused-in-Some-2.ensures.messages

pub returns-in_default-3 : goal.returns-in_default-3
returns-in_default-3 c = rename_is_too_long c.args.indexes.now c.args.old.now c.args.new.now c.args.at c.refused-in_default-3.result.0 (messages c.refused-in_default-3.result.1)
    c.fault_of_taking.result (λ t means. c.fault_of_taking.ensures t (c.in_ok-from.ensures.reported t means)) c.in_default.is (sym c.is_same.ensures ∙ c.if-is_same.false)
    c.in_ok-fault.field-0 (λ t means. c.in_ok-fault.ensures t means (c.in_ok-from.ensures.reported t means) (c.in_ok-to.ensures.reported t means)) c.in_default-2.is
    (is_none c.in_ok-entries.field-0) (λ t means. c.in_ok-entries.ensures.long t (means, c.in_ok-from.ensures.reported t means))
    (ap is_none c.in_default-3.is) c.refused-in_default-3.ensures.reply c.refused-in_default-3.ensures.messages

pub returns : goal.returns
returns c =
    let entries : MovesEntries c.args.indexes.now.meta c.args.old.now c.args.new.now c.in_ok-from.from c.in-Some-3.entries.items =
    subst (λ (moved : Option (Vec (Msg MetaUpdate Meta))). IfSome moved (λ msgs. MovesEntries c.args.indexes.now.meta c.args.old.now c.args.new.now c.in_ok-from.from msgs.items)) c.in-Some-3.is (c.in_ok-entries.ensures.moves c.in_ok-from.ensures.value) in
    rename_is_done c.args.indexes.now c.args.old.now c.args.new.now c.args.at Done (messages (record { meta = c.touch_directories.new.msgs; block = c.in_ok-block.block }))
    c.fault_of_taking.result (λ t means. c.fault_of_taking.ensures t (c.in_ok-from.ensures.reported t means)) c.in_default.is (sym c.is_same.ensures ∙ c.if-is_same.false)
    c.in_ok-fault.field-0 (λ t means. c.in_ok-fault.ensures t means (c.in_ok-from.ensures.reported t means) (c.in_ok-to.ensures.reported t means)) c.in_default-2.is
    (is_none c.in_ok-entries.field-0) (λ t means. c.in_ok-entries.ensures.long t (means, c.in_ok-from.ensures.reported t means))
    (ap is_none c.in-Some-3.is) c.key-old_key.ensures.valid c.key-new_key.ensures.valid c.in_ok-from.from c.in_ok-to.to c.in_ok-from.ensures.reported c.in_ok-to.ensures.reported
    c.in-Some-3.entries.items c.in_ok-block.block.items entries c.in_ok-block.ensures (omega (arith, c.ranges.at.fits)) refl
    (halves _ _ _ _
    (c.in_ok-touch_directories.ensures ∙ ap (λ (b : Bool). c.in-Some-3.entries.items ++ touches c.args.at (cond b [] (once (parent c.args.old.now) (parent c.args.new.now)))) (sym (sym c.is_same.ensures ∙ c.if-is_same.false)))
    refl)
