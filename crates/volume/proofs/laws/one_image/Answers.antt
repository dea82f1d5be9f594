use Rattle.std.proofs.Common.{sym, ◌∙◌}
use Rattle.reference.specs.Image.{Second}
use Rattle.reference.proofs.OneImage.{one_image, reported_law}
use Rattle.volume.proofs.laws.one_image.Goals as goal

pub returns : goal.returns
returns c = λ v v' w w' m n e. sym (reported_law w.live) ∙ one_image Second w.live w'.live m.live.indexes.tree n.live.indexes.tree e ∙ reported_law w'.live
