-- A rename makes a directory tree of a directory tree.
use Rattle.std.proofs.Common.{◌≡◌, ◌≢◌, ◌+◌, ◌≤◌, [], ◌∷◌, ◌++◌, true, false, ◌&&◌, sym, ap, refl, ◌∙◌, subst, arith, Some, None, append_assoc}
use Rattle.std.specs.Prelude.{fold}
use Rattle.std.proofs.lemmas.Bool.{ltb-false, and_from}
use Rattle.pathkey.specs.Names.{IsPath}
use Rattle.reference.specs.Tree.{Name, Path, Tree, Dir, File, nothing, entry, At, Found, Missing, onward, entry_at, edited}
use Rattle.reference.specs.Calls.{is_under, text_len, is_directory, is_file, is_full, path_fault, parent, parent_fault, deepest, deepest_at, placed}
use Rattle.reference.specs.Shape.{IsTree}
use Rattle.reference.specs.Reads.{Directory, seen, look, rest_of, look_after, sighted}
use Rattle.reference.proofs.EntryPaths.{rest_of_from, under_itself, last_name, path_moved, along}
use Rattle.reference.proofs.Edits.{edit_law, fold-Missing}
use Rattle.reference.proofs.Rising.{rising-with}
use Rattle.reference.proofs.Standing.{found_from, file_or_directory, no_directory_in_file, parent_directory, directory_parent, parent_from_found, rising-found, below_deepest}
use Rattle.reference.proofs.CallCases.{MayMove}
use Rattle.reference.proofs.TreeEdits.{MayBeSeen, looks_may, sights_may, edit_tree, out_tree}

-- where the table lets o be moved to n, n's parent is a directory still when o is taken out
pub parent_kept : (t : Tree) (o n : Path) → n ≢ [] → o ≢ [] → path_fault (entry_at t o) ≡ None → (is_directory (entry_at t o) && is_under o n) ≡ false → parent_fault t n ≡ None → parent_fault (edited t o None) n ≡ None
parent_kept t o n ne old there apart parent_is =
    directory_parent (edited t o None) n (edit_law o t None (parent n) old (parent_from_found o t old there) ∙ elim (rest_of o (parent n)) as (λ c. rest_of o (parent n) ≡ c → look_after c None (look t (parent n)) ≡ Some Directory) [
      | None ↦ λ e. parent_directory t n ne parent_is
      | Some r ↦ λ e. absurd (inside r (rest_of_from o (parent n) r e))
    ] refl)
  where
    is_above : (r : Path) → parent n ≡ o ++ r → is_under o n ≡ true
    is_above r e =
        let last : (k : Name) × (n ≡ parent n ++ k ∷ []) = last_name n ne in
        subst (λ (z : Path). is_under o z ≡ true) (sym (last.1 ∙ ap (λ (z : Path). z ++ last.0 ∷ []) e ∙ append_assoc o r (last.0 ∷ []))) (under_itself o (r ++ last.0 ∷ []))

    inside : (r : Path) → parent n ≡ o ++ r → ⊥
    inside r e =
        let f : (x : Tree) × (entry_at t o ≡ Found x) = found_from (entry_at t o) there in
        elim (is_directory (entry_at t o)) as (λ b. is_directory (entry_at t o) ≡ b → ⊥) [
          | true ↦ λ g. let both : true ≡ false = sym (and_from _ _ g (is_above r e)) ∙ apart in cc
          | false ↦ λ g.
              let is_one : is_file (entry_at t o) ≡ true = subst (λ (a : At). is_file a ≡ true) (sym f.1) (file_or_directory f.0 (subst (λ (a : At). is_directory a ≡ false) f.1 g)) in
              no_directory_in_file (entry_at t o) r is_one (sym (ap seen (along t o r)) ∙ sym (ap (look t) e) ∙ parent_directory t n ne parent_is)
        ] refl

-- what stood at o put at n, where no text gets too long
moved_tree : (t u x : Tree) (o n : Path) → IsTree t → IsTree u → IsPath n → entry_at t o ≡ Found x → text_len n + deepest x ≤ 1023 → n ≢ [] → parent_fault u n ≡ None → IsTree (edited u n (Some x))
moved_tree t u x o n is now path there short ne parent_is =
    edit_tree u n (Some x) now ne parent_is (rising-with u n x (rising-found o t x there is.rising) now.rising) (λ r l h.
    let was : look t (o ++ r) ≡ Some l = ap seen (along t o r) ∙ ap (λ (a : At). seen (fold onward a r)) there ∙ h in
    let may : MayBeSeen (o ++ r) l = looks_may t (o ++ r) l is was in
    let deep : text_len r ≤ deepest x = below_deepest r x l h in
    record { path = path_moved o n r path may.path (omega arith); content = may.content })
    (λ r s h. sights_may t (o ++ r) s is (ap sighted (along t o r) ∙ ap (λ (a : At). sighted (fold onward a r)) there ∙ h))

-- a directory that stands where the root is would be full or replaced: o moved onto the root is refused
not_root_new : (t : Tree) (o n : Path) → IsTree t → o ≢ [] → path_fault (entry_at t o) ≡ None → is_full (entry_at t n) ≡ false → n ≢ []
not_root_new t [] n is old there full = absurd (old refl)
not_root_new (File date b) (k ∷ o) n is old there full = absurd is.root
not_root_new (Dir date nothing) (k ∷ o) n is old there full = absurd (let h : path_fault Missing ≡ None = subst (λ (a : At). path_fault a ≡ None) (fold-Missing o) there in cc)
not_root_new (Dir date (entry m x es)) (k ∷ o) [] is old there full = absurd (cc)
not_root_new (Dir date (entry m x es)) (k ∷ o) (l ∷ n) is old there full = λ e. cc

-- what a rename that the table lets through leaves
pub placed_tree : (t : Tree) (o n : Path) → IsTree t → IsPath n → MayMove t o n → IsTree (placed (edited t o None) n (entry_at t o))
placed_tree t o n is path may =
    let f : (x : Tree) × (entry_at t o ≡ Found x) = found_from (entry_at t o) may.there in
    let ne : n ≢ [] = not_root_new t o n is may.not_root may.there may.not_full in
    let short : text_len n + deepest_at (entry_at t o) ≤ 1023 = ltb-false 1023 (text_len n + deepest_at (entry_at t o)) may.short in
    let fits : text_len n + deepest f.0 ≤ 1023 = subst (λ (a : At). text_len n + deepest_at a ≤ 1023) f.1 short in
    let without_old : IsTree (edited t o None) = out_tree t o is may.not_root (parent_from_found o t may.not_root may.there) in
    subst (λ (a : At). IsTree (placed (edited t o None) n a)) (sym f.1)
    (moved_tree t (edited t o None) f.0 o n is without_old path f.1 fits ne (parent_kept t o n ne may.not_root may.there may.not_inside may.parent))
