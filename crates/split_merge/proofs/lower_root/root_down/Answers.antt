use Rattle.std.proofs.Common.{subst}
use Rattle.split_merge.specs.Lowered.{Lowered}
use Rattle.split_merge.proofs.RootDown.{lawful_lowered, answers_lowered}
use Rattle.split_merge.proofs.lower_root.root_down.Goals as goal

pub replace_root-requires : goal.replace_root-requires
replace_root-requires g c = lawful_lowered g.U.Update.means c.args.tree.now c.in-Ok.root.value c.root.ensures.lawful (subst (λ z. Lowered g.U.Update.means z c.in-Ok.root.value) c.root.ensures.root c.in-Ok.ensures.ok)

pub returns : goal.returns
returns g c = answers_lowered g.U.Update.means c.args.tree.now c.replace_root.new.self c.in-Ok.root.value c.root.ensures.lawful (subst (λ z. Lowered g.U.Update.means z c.in-Ok.root.value) c.root.ensures.root c.in-Ok.ensures.ok) c.replace_root.ensures
