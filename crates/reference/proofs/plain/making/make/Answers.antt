use Rattle.std.proofs.Common.{ap, sym, ◌∙◌}
use Rattle.reference.specs.Plain.{tree_of, effect_of}
use Rattle.reference.proofs.Faults.{made_refused}
use Rattle.reference.proofs.plain.making.make.Goals as goal

pub returns-in-Some : goal.returns-in-Some
returns-in-Some c =
    ap (effect_of (tree_of c.args.tree.now)) c.refused.ensures ∙ sym (made_refused (tree_of c.args.tree.now) c.args.path.now (tree_of c.args.new) c.in-Some.fault (sym c.in-Some.ensures))
