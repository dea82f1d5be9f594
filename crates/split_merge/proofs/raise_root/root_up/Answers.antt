use Rattle.std.proofs.Common.{subst}
use Rattle.split_merge.specs.Raised.{Raised}
use Rattle.split_merge.proofs.RootUp.{lawful_raised, answers_raised}
use Rattle.split_merge.proofs.raise_root.root_up.Goals as goal

pub replace_root-requires : goal.replace_root-requires
replace_root-requires g c = lawful_raised g.U.Update.means c.args.tree.now c.in-Ok.root.value c.root.ensures.lawful (subst (λ z. Raised g.U.Update.means z c.in-Ok.root.value) c.root.ensures.root c.in-Ok.ensures.ok)

pub returns : goal.returns
returns g c = answers_raised g.U.Update.means c.args.tree.now c.replace_root.new.self c.in-Ok.root.value c.root.ensures.lawful (subst (λ z. Raised g.U.Update.means z c.in-Ok.root.value) c.root.ensures.root c.in-Ok.ensures.ok) c.replace_root.ensures
