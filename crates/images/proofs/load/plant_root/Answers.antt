use Rattle.std.proofs.Common.{List, ℕ, sym, subst, ◌∙◌}
use Rattle.reference.specs.declared.reply.Meta.TheVariants.{Dir as DirMeta}
use Rattle.volume.specs.Plants.{Plants}
use Rattle.images.proofs.LoadFacts.{planted_ok}
use Rattle.images.proofs.load.plant_root.Goals as goal

pub returns : goal.returns
returns c = λ e.
    planted_ok c.plant_entry-planted.result _ (DirMeta c.args.modified) c.args.volume.now c.plant_entry-planted.new.self (sym c.is_ok.ensures.value ∙ e)
    (subst (λ (p : List (List ℕ)). Plants p (DirMeta c.args.modified) c.plant_entry-planted.result c.args.volume.now c.plant_entry-planted.new.self) c.root.ensures c.plant_entry-planted.ensures)
