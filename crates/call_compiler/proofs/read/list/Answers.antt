use Rattle.std.proofs.Common.{sym, ap, ◌∙◌}
use Rattle.reference.specs.Tree.{entry_at}
use Rattle.reference.specs.declared.reply.Reply.TheVariants.{Names}
use Rattle.call_compiler.proofs.Compiling.{meta_meant}
use Rattle.call_compiler.proofs.Replies.{readdir_refused, readdir_replies}
use Rattle.call_compiler.proofs.read.list.Goals as goal

pub returns-in-Some-clause-entries : goal.returns-in-Some-clause-entries
returns-in-Some-clause-entries g c = λ none t at means.
    readdir_refused at t c.args.path.now c.in-Some.fault (sym c.in-Some.is ∙ c.fault_of_directory.ensures (entry_at t c.args.path.now) (c.in_ok-at.ensures.reported t (meta_meant c.args.indexes.now t means)))

pub returns-clause-entries : goal.returns-clause-entries
returns-clause-entries g c = λ none.
    let listed = c.in_ok-list.ensures none in (
      listed.0,
      listed.1,
      λ t at means.
          ap Names (listed.2.listed t (meta_meant c.args.indexes.now t means))
          ∙ readdir_replies at t c.args.path.now (sym c.in_default.is ∙ c.fault_of_directory.ensures (entry_at t c.args.path.now) (c.in_ok-at.ensures.reported t (meta_meant c.args.indexes.now t means))),
    )
