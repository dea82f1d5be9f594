use Rattle.std.proofs.Common.{subst}
use Rattle.call_compiler.specs.declared.indexes.Indexes.{Indexes}
use Rattle.volume.specs.Typed.{Compiles}
use Rattle.volume.proofs.volume.Volume.call.Goals as goal

pub send-requires : goal.send-requires
send-requires c = (c.args.call.now, record { compiles = subst (λ (i : Indexes). Compiles i c.args.call.now c.args.at c.compile-compiled.result) c.indexes.ensures c.compile-compiled.ensures; root = c.touches_root.ensures })

pub returns : goal.returns
returns c = c.send.ensures.called c.args.call.now (record { compiles = subst (λ (i : Indexes). Compiles i c.args.call.now c.args.at c.compile-compiled.result) c.indexes.ensures c.compile-compiled.ensures; root = c.touches_root.ensures })
