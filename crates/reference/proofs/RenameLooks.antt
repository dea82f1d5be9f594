-- What a rename changes, at each path.
use Rattle.std.proofs.Common.{◌≡◌, ◌≢◌, ℕ, ◌+◌, ◌≤◌, [], ◌∷◌, ◌++◌, true, false, sym, ap, refl, ◌∙◌, subst, arith, Some, None, ◌⊎◌, inl, inr, ⊎_elim, append-nil}
use Rattle.std.specs.Prelude.{fold}
use Rattle.std.proofs.lemmas.Bool.{ltb-false}
use Rattle.reference.specs.Tree.{Name, Path, Tree, Dir, File, nothing, entry, At, Found, Missing, Blocked, onward, entry_at, edited}
use Rattle.reference.specs.Calls.{Outcome, is_full, same_path, text_len, deepest, deepest_at, path_fault, parent, parent_fault, placed, changed}
use Rattle.reference.specs.Reads.{Look, Directory, seen, look, sighted, sight}
use Rattle.reference.specs.declared.call.Call.TheVariants.{Rename}
use Rattle.reference.specs.declared.reply.Reply.TheVariants.{Done}
use Rattle.reference.proofs.Edits.{unseen, fold-Missing, fold-Blocked}
use Rattle.reference.proofs.EntryPaths.{same_path_itself, along}
use Rattle.reference.proofs.Standing.{found_from, parent_directory, parent_from_found, below_deepest}
use Rattle.reference.proofs.CallCases.{MayMove, renamed_cases}
use Rattle.reference.proofs.CallAnswers.{Gives, not_done}
use Rattle.reference.proofs.Points.{edit_outside, edit_inside}
use Rattle.reference.proofs.RenameTrees.{parent_kept}
use Rattle.reference.proofs.Removal.{Removed, removed_from_edit}

-- what stood at and below o stands at and below n, where it replaced what stood there
pub record IsMoved (t t' : Tree) (o n : Path) : Type 0 where
  pub not_above : (r : Path) → o ≡ n ++ r → ⊥
  pub not_below : (r : Path) → n ≡ o ++ r → ⊥
  pub moved : (r : Path) → sight t' (n ++ r) ≡ sight t (o ++ r)
  pub gone : (r : Path) → sight t' (o ++ r) ≡ None
  pub kept : (q : Path) → ((r : Path) → q ≡ o ++ r → ⊥) → ((r : Path) → q ≡ n ++ r → ⊥) → sight t' q ≡ sight t q
  pub fits : (r : Path) (l : Look) → look t (o ++ r) ≡ Some l → text_len n + text_len r ≤ 1023

-- of two beginnings of one path one is a beginning of the other
comparable : (o n r s : Path) → o ++ r ≡ n ++ s → ((x : Path) × (o ≡ n ++ x)) ⊎ ((x : Path) × (n ≡ o ++ x))
comparable [] n r s e = inr (n, refl)
comparable (a ∷ o) [] r s e = inl (a ∷ o, refl)
comparable (a ∷ o) (b ∷ n) r s e =
    let h : a ≡ b = cc in
    let g : o ++ r ≡ n ++ s = cc in
    ⊎_elim
    (λ (x : (x : Path) × (o ≡ n ++ x)). inl (x.0, (let f : o ≡ n ++ x.0 = x.1 in cc)))
    (λ (x : (x : Path) × (n ≡ o ++ x)). inr (x.0, (let f : n ≡ o ++ x.0 = x.1 in cc)))
    (comparable o n r s g)

-- the parent of a path below o
parent-append : (o : Path) (k : Name) (r : Path) → parent (o ++ k ∷ r) ≡ o ++ parent (k ∷ r)
parent-append [] k r = refl
parent-append (a ∷ []) k r = refl
parent-append (a ∷ b ∷ o) k r = ap (λ (p : Path). a ∷ p) (parent-append (b ∷ o) k r)

-- nothing stands below what is not a full directory
pub none_below : (a : At) (k : Name) (r : Path) → is_full a ≡ false → path_fault (fold onward a (k ∷ r)) ≡ None → ⊥
none_below (Found (Dir date nothing)) k r h g = let f : path_fault Missing ≡ None = subst (λ (x : At). path_fault x ≡ None) (fold-Missing r) g in cc
none_below (Found (Dir date (entry m y es))) k r h g = cc
none_below (Found (File date b)) k r h g = let f : path_fault Blocked ≡ None = subst (λ (x : At). path_fault x ≡ None) (fold-Blocked r) g in cc
none_below Missing k r h g = let f : path_fault Missing ≡ None = subst (λ (x : At). path_fault x ≡ None) (fold-Missing r) g in cc
none_below Blocked k r h g = let f : path_fault Blocked ≡ None = subst (λ (x : At). path_fault x ≡ None) (fold-Blocked r) g in cc

-- paths that differ are not one
not_one : (o n : Path) → same_path o n ≡ false → o ≡ n → ⊥
not_one o n differ is = let h : true ≡ false = sym (subst (λ (z : Path). same_path o z ≡ true) is (same_path_itself o)) ∙ differ in cc

-- o is not below n, since n is not full
not_above_new : (t : Tree) (o n : Path) → MayMove t o n → (r : Path) → o ≡ n ++ r → ⊥
not_above_new t o n may [] e = not_one o n may.apart (e ∙ append-nil n)
not_above_new t o n may (k ∷ r) e = none_below (entry_at t n) k r may.not_full (subst (λ (a : At). path_fault a ≡ None) (ap (entry_at t) e ∙ along t n (k ∷ r)) may.there)

-- n is not below o, since n's parent is there still when o is taken out
not_below_old : (t : Tree) (o n : Path) → n ≢ [] → MayMove t o n → Removed t (edited t o None) o → parent_fault (edited t o None) n ≡ None → (r : Path) → n ≡ o ++ r → ⊥
not_below_old t o n ne may out parent_is [] e = not_one o n may.apart (sym (e ∙ append-nil o))
not_below_old t o n ne may out parent_is (k ∷ r) e =
    let gone : look (edited t o None) (parent n) ≡ None = ap (look (edited t o None)) (ap parent e ∙ parent-append o k r) ∙ unseen (edited t o None) (o ++ parent (k ∷ r)) (out.below (parent (k ∷ r))) in
    let both : None ≡ Some Directory = sym gone ∙ parent_directory (edited t o None) n ne parent_is in
    cc

-- a rename that the table lets through is a move: an entry taken out at o, and put at n
moves : (t t' : Tree) (o n : Path) → MayMove t o n → placed (edited t o None) n (entry_at t o) ≡ t' → IsMoved t t' o n
moves t t' o n may e =
    let above : (r : Path) → o ≡ n ++ r → ⊥ = not_above_new t o n may in
    let ne : n ≢ [] = (λ z. above o (ap (λ (y : Path). y ++ o) (sym z))) in
    let f : (x : Tree) × (entry_at t o ≡ Found x) = found_from (entry_at t o) may.there in
    let out : Removed t (edited t o None) o = removed_from_edit t (edited t o None) o may.not_root (parent_from_found o t may.not_root may.there) refl in
    let parent_is : parent_fault (edited t o None) n ≡ None = parent_kept t o n ne may.not_root may.there may.not_inside may.parent in
    let below : (r : Path) → n ≡ o ++ r → ⊥ = not_below_old t o n ne may out parent_is in
    let is : edited (edited t o None) n (Some f.0) ≡ t' = ap (placed (edited t o None) n) (sym f.1) ∙ e in
    let outside : (q : Path) → ((r : Path) → q ≡ n ++ r → ⊥) → sight t' q ≡ sight (edited t o None) q = λ q off. ap (λ (x : Tree). sight x q) (sym is) ∙ edit_outside (edited t o None) n (Some f.0) q ne parent_is off in
    record {
      not_above = above;
      not_below = below;
      moved = λ r. ap (λ (x : Tree). sight x (n ++ r)) (sym is) ∙ edit_inside (edited t o None) n (Some f.0) r ne parent_is ∙ ap (λ (a : At). sighted (fold onward a r)) (sym f.1) ∙ sym (ap sighted (along t o r));
      gone = λ r. outside (o ++ r) (λ s g. ⊎_elim (λ (x : (x : Path) × (o ≡ n ++ x)). above x.0 x.1) (λ (x : (x : Path) × (n ≡ o ++ x)). below x.0 x.1) (comparable o n r s g)) ∙ out.below r;
      kept = λ q v w. outside q w ∙ out.other q v;
      fits = λ r l h.
          let d : text_len r ≤ deepest f.0 = below_deepest r f.0 l (ap (λ (a : At). seen (fold onward a r)) (sym f.1) ∙ sym (ap seen (along t o r)) ∙ h) in
          let s : text_len n + deepest_at (entry_at t o) ≤ 1023 = ltb-false 1023 (text_len n + deepest_at (entry_at t o)) may.short in
          let g : deepest_at (entry_at t o) ≡ deepest f.0 = ap deepest_at f.1 in
          omega arith;
    }

-- a rename that is done between two paths is a move
pub rename_moves : (at : ℕ) (t t' : Tree) (o n : Path) → same_path o n ≡ false → ◌≡◌ {A = Outcome} (changed at t (Rename o n)) (t', Done) → IsMoved t t' o n
unfolding changed
rename_moves at t t' o n differ = renamed_cases (Gives t' Done (IsMoved t t' o n)) t o n (not_done t t' (IsMoved t t' o n))
    (λ same e. absurd (let h : true ≡ false = sym same ∙ differ in cc))
    (λ may e. moves t t' o n may (ap (λ (z : Outcome). z.0) e))
