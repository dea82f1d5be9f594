use Rattle.std.proofs.Common.{sym, ◌∙◌}
use Rattle.ffi_calls.proofs.Differing.{kept_found, not_none}
use Rattle.ffi_calls.proofs.deltas.named_tree.Goals as goal

pub returns-clause-found : goal.returns-clause-found
returns-clause-found c = λ w m. kept_found c.args.name.now c.args.volume.now w c.frozen.result (not_none c.args.name.now (sym c.is_empty.ensures ∙ c.if-is_empty.false)) m c.frozen.ensures
