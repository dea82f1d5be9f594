use Rattle.std.proofs.Common.{◌≡◌, ◌∷◌, None, ap, sym, ◌∙◌}
use Rattle.std.proofs.lemmas.Result.{IfOk-weaker}
use Rattle.reference.specs.Tree.{named}
use Rattle.reference.specs.declared.plain.tree.Entries.{Entries as PlainEntries}
use Rattle.reference.specs.Plain.{tree_of, entries_of, tree_given, tree_found}
use Rattle.reference.proofs.Edits.{edited_nowhere}
use Rattle.reference.proofs.plain.edit.+edit_below.Goals as goal

pub returns-in_default : goal.returns-in_default
returns-in_default t c =
    let rest : c.args.rest ≡ c.in-Some.next.now ∷ c.in-Some.after = c.in-Some.ensures.0 in
    let none : named c.args.name.now (entries_of c.in-Dir.entries.value) ≡ None =
    ap (λ (x : PlainEntries). named c.args.name.now (entries_of x)) (sym c.deref-in-Some.ensures) ∙ sym c.entry_named.ensures ∙ ap tree_found c.in_default.is
    in
    IfOk-weaker c.copy_tree-in_default.result _ _ (λ x same.
    same ∙ sym (edited_nowhere (tree_of c.args.tree.now) c.in-Dir.date (entries_of c.in-Dir.entries.value) c.args.name.now c.in-Some.next.now c.in-Some.after c.args.rest (tree_given c.args.entry) (ap tree_of c.in-Dir.is) rest none))
    c.copy_tree-in_default.ensures
