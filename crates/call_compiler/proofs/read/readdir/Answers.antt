use Rattle.std.proofs.Common.{◌≡◌, List, Result, subst, sym, ap, ◌∙◌}
use Rattle.pathkey.specs.Names.{Name}
use Rattle.pathkey.specs.declared.errno.Errno.{Errno}
use Rattle.reference.specs.Pairs.{pairs_of}
use Rattle.reference.specs.declared.call.Call.TheVariants.{Readdir}
use Rattle.reference.specs.declared.reply.Kind.{Kind}
use Rattle.reference.specs.declared.reply.Reply.TheVariants.{Fault, Names}
use Rattle.call_compiler.specs.Compiled.{messages}
use Rattle.call_compiler.specs.Listed.{IsReply, TellsEntries}
use Rattle.call_compiler.proofs.Compiling.{compiled_kept, compiled_refused}
use Rattle.call_compiler.proofs.Replies.{readdir_keeps}
use Rattle.call_compiler.proofs.read.readdir.Goals as goal

pub returns-in-Ok : goal.returns-in-Ok
returns-in-Ok c = λ at.
    let listed : (es : List (Kind × Name)) × (pairs_of c.list.new.sink.items ≡ es) × IsReply c.args.indexes.now (Readdir c.args.path.now) (Names es) =
    subst (λ (r : Result (Unit {0}) Errno). TellsEntries c.args.indexes.now c.args.path.now (λ es. pairs_of c.list.new.sink.items ≡ es) r) c.in-Ok.is (c.in_ok-list.ensures.entries (ap pairs_of c.new-entries.ensures.items)) in
    compiled_kept c.args.indexes.now (Readdir c.args.path.now) at c.without_messages.result.0 (messages c.without_messages.result.1)
    (λ t means. c.without_messages.ensures.reply ∙ ap Names (c.from_vec.ensures ∙ listed.1) ∙ listed.2 t at means)
    (λ t means. readdir_keeps at t c.args.path.now)
    c.without_messages.ensures.messages

pub returns-in-Err : goal.returns-in-Err
returns-in-Err c = λ at.
    let refused : IsReply c.args.indexes.now (Readdir c.args.path.now) (Fault c.in-Err.fault) =
    subst (λ (r : Result (Unit {0}) Errno). TellsEntries c.args.indexes.now c.args.path.now (λ es. pairs_of c.list.new.sink.items ≡ es) r) c.in-Err.is (c.in_ok-list.ensures.entries (ap pairs_of c.new-entries.ensures.items)) in
    compiled_refused c.args.indexes.now (Readdir c.args.path.now) at c.refused.result.0 (messages c.refused.result.1) c.in-Err.fault
    (λ t means. sym (refused t at means))
    c.refused.ensures.reply c.refused.ensures.messages
