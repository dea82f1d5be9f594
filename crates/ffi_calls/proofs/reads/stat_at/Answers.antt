use Rattle.std.proofs.Common.{inl, ◌∙◌}
use Rattle.call_compiler.proofs.Compiling.{meta_meant}
use Rattle.call_compiler.proofs.Replies.{stat_replies}
use Rattle.reference.specs.Tree.{entry_at}
use Rattle.ffi_calls.proofs.reads.stat_at.Goals as goal

pub returns : goal.returns
returns c = λ t at means. inl (c.meta_at.ensures (entry_at t c.args.path.now) (c.in_ok-at.ensures.reported t (meta_meant c.args.indexes.now t means)) ∙ stat_replies at t c.args.path.now)
