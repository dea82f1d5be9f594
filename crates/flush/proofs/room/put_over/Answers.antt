use Rattle.std.proofs.Common.{ap, Some}
use Rattle.std.specs.Prelude.{Ok}
use Rattle.flush.proofs.PlaceChanges.{set_over, set_to}
use Rattle.flush.proofs.room.put_over.Goals as goal

pub returns-clause-some : goal.returns-clause-some
returns-clause-some g c = λ k e.
    let es = c.args.entries.now.items in
    set_to k (Some c.in-Ok.value) (Some c.args.value.now) (Ok c.args.i) es _ (ap (λ v. Some v) c.in-Ok.ensures) (set_over k es c.args.i c.index_mut.result.now c.in-Ok.value e c.requires.rising c.index_mut.ensures.value)
