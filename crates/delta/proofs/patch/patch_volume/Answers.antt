use Rattle.delta.proofs.patch.patch_volume.Goals as goal

pub returns-in-Ok-new-2-clause-no_image : goal.returns-in-Ok-new-2-clause-no_image
returns-in-Ok-new-2-clause-no_image c = λ w means e.
    c.patch_into.ensures.no_image c.in-Ok.frozen w.live c.shape.result c.in-Ok-new.ensures (c.in-Ok.ensures.means w means) c.in-Ok-new-2.ensures.fresh e
