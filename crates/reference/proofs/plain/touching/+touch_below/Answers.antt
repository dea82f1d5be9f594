use Rattle.std.proofs.Common.{◌≡◌, ◌∷◌, None, ap, sym, ◌∙◌}
use Rattle.std.proofs.lemmas.Result.{IfOk-weaker}
use Rattle.reference.specs.Tree.{named}
use Rattle.reference.specs.declared.plain.tree.Entries.{Entries as PlainEntries}
use Rattle.reference.specs.Plain.{tree_of, entries_of, tree_found}
use Rattle.reference.proofs.Edits.{touched_nowhere}
use Rattle.reference.proofs.plain.touching.+touch_below.Goals as goal

pub returns-in_default : goal.returns-in_default
returns-in_default t c =
    let names : c.args.names ≡ c.in-Some.name.now ∷ c.in-Some.rest = c.in-Some.ensures.0 in
    let none : named c.in-Some.name.now (entries_of c.in-Dir.entries.value) ≡ None =
    ap (λ (x : PlainEntries). named c.in-Some.name.now (entries_of x)) (sym c.deref.ensures) ∙ sym c.entry_named.ensures ∙ ap tree_found c.in_default.is
    in
    IfOk-weaker c.copy_tree-in_default.result _ _ (λ x same.
    same ∙ sym (touched_nowhere c.args.at (tree_of c.args.tree.now) c.in-Dir.date (entries_of c.in-Dir.entries.value) c.in-Some.name.now c.in-Some.rest c.args.names (ap tree_of c.in-Dir.is) names none))
    c.copy_tree-in_default.ensures
