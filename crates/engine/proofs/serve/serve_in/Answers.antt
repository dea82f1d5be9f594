use Rattle.std.proofs.Common.{ℕ, sym, subst}
use Rattle.std.specs.Prelude.{IfOk, IfErr}
use Rattle.volume.specs.Volumes.{PVolume}
use Rattle.engine.specs.Ends.{Served, GivesVolume}
use Rattle.engine.proofs.serve.serve_in.Goals as goal

pub returns-in-Ok-clause-ends : goal.returns-in-Ok-clause-ends
returns-in-Ok-clause-ends g c =
    subst (λ (x : PVolume × ℕ). IfOk c.work_and_end.result (λ r. Served (g.W.ClientTask.does c.args.run.now x.0) x.0 x.1 r.calls r.tree)) (λ i. (sym c.requires.names.1 i, sym c.requires.names.2 i)) c.work_and_end.ensures.ends

pub returns-in-Ok-clause-back : goal.returns-in-Ok-clause-back
returns-in-Ok-clause-back g c =
    subst (λ (x : PVolume × ℕ). IfErr c.work_and_end.result (GivesVolume (g.W.ClientTask.does c.args.run.now x.0) x.0 x.1)) (λ i. (sym c.requires.names.1 i, sym c.requires.names.2 i)) c.work_and_end.ensures.back
