use Rattle.std.proofs.Common.{◌≡◌, Some, None, subst, ap, sym, ◌∙◌}
use Rattle.std.specs.Result.{IfOk}
use Rattle.reference.specs.Tree.{Found, entry_at}
use Rattle.reference.specs.Calls.{Outcome, first_fault, faults_of_rename}
use Rattle.reference.specs.Plain.{tree_of, effect_of}
use Rattle.reference.proofs.Faults.{renamed_refused, renamed_moved}
use Rattle.reference.proofs.plain.moving.rename_entry.Goals as goal

pub returns-in-Some : goal.returns-in-Some
returns-in-Some c h g =
    let known : entry_at (tree_of c.args.tree.now) c.args.old.now ≡ Found (tree_of c.args.from.now)
    → Some c.in-Some.fault ≡ first_fault (faults_of_rename (tree_of c.args.tree.now) c.args.old.now c.args.new.now) = c.in-Some.ensures
    in
    ap (effect_of (tree_of c.args.tree.now)) c.refused.ensures
    ∙ sym (renamed_refused (tree_of c.args.tree.now) c.args.old.now c.args.new.now (tree_of c.args.from.now) c.in-Some.fault h g (sym c.is_same.ensures ∙ c.if-is_same.false) (sym (known g)))

pub returns-in-None : goal.returns-in-None
returns-in-None c h g =
    let known : entry_at (tree_of c.args.tree.now) c.args.old.now ≡ Found (tree_of c.args.from.now)
    → None ≡ first_fault (faults_of_rename (tree_of c.args.tree.now) c.args.old.now c.args.new.now) = c.in-None.ensures
    in
    subst (λ (o : Outcome). IfOk c.move_entry.result (λ e. ◌≡◌ {A = Outcome} (effect_of (tree_of c.args.tree.now) e) o))
    (sym (renamed_moved (tree_of c.args.tree.now) c.args.old.now c.args.new.now (tree_of c.args.from.now) h g (sym c.is_same.ensures ∙ c.if-is_same.false) (sym (known g))))
    c.move_entry.ensures
