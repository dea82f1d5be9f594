use Rattle.std.proofs.Common.{◌≡◌, List, ℕ, [], ◌∷◌, ◌++◌, sym, ap, ◌∙◌, subst}
use Rattle.std.specs.Prelude.{OnOk, flat_map}
use Rattle.reference.specs.Tree.{Tree, Entries, entry}
use Rattle.reference.specs.Image.{path_text, Second, lines, lines_of, percent}
use Rattle.reference.specs.Plain.{tree_of, entries_of}
use Rattle.reference.proofs.Images.{path_text_below, lines_of_more}
use Rattle.reference.proofs.plain.image.+image.Goals as goal

pub put_entries-returns-in_ok-put_tree-in-Entry : goal.put_entries-returns-in_ok-put_tree-in-Entry
put_entries-returns-in_ok-put_tree-in-Entry t c p h =
    let out : List ℕ = c.args.out.now.items in
    let mid : List ℕ = c.put_tree.new.out.items in
    let name : List ℕ = c.in-Entry.name.items in
    let held : Tree = tree_of c.in-Entry.tree.value in
    let rest : Entries = entries_of c.in-Entry.rest.value in
    let whole : entries_of c.args.entries.now ≡ entry name held rest = ap entries_of c.in-Entry.is in
    let below : c.in_ok-below-in-Entry.below.items ≡ c.args.text.now ++ 47 ∷ flat_map percent c.as_slice.result.now = c.in_ok-below-in-Entry.ensures in
    let text : c.as_slice-in-Entry.result.now ≡ path_text (p ++ name ∷ []) =
    c.as_slice-in-Entry.ensures.value
    ∙ below
    ∙ ap (λ (n : List ℕ). c.args.text.now ++ 47 ∷ flat_map percent n) c.as_slice.ensures.value
    ∙ ap (λ (s : List ℕ). s ++ 47 ∷ flat_map percent name) h
    ∙ sym (path_text_below p name)
    in
    let first : mid ≡ out ++ lines Second (p ++ name ∷ []) held =
    c.in_ok-put_tree-in-Entry.ensures (p ++ name ∷ []) text ∙ ap (λ x. out ++ lines Second (p ++ name ∷ []) (tree_of x)) c.deref.ensures
    in
    let others : mid ++ lines_of Second p (entries_of c.deref-in-Entry.result.now) ≡ mid ++ lines_of Second p rest =
    ap (λ es. mid ++ lines_of Second p (entries_of es)) c.deref-in-Entry.ensures
    in
    let all : mid ++ lines_of Second p (entries_of c.deref-in-Entry.result.now) ≡ out ++ lines_of Second p (entries_of c.args.entries.now) =
    others ∙ lines_of_more Second out mid p name held rest first ∙ ap (λ (es : Entries). out ++ lines_of Second p es) (sym whole)
    in
    subst (λ (b : List ℕ). OnOk c.put_entries.result (c.put_entries.new.out.items ≡ b)) all (c.put_entries.ensures p h)
