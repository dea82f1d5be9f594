-- The mtime of the root after a call.
use Rattle.std.proofs.Common.{◌≡◌, ℕ, List, [], ◌∷◌, length, Bool, true, false, cond, Option, Some, None, refl, sym, ap, ◌∙◌}
use Rattle.std.specs.Prelude.{◌&&◌, ◌||◌}
use Rattle.std.specs.List.{list_any}
use Rattle.pathkey.specs.declared.errno.Errno.{Errno}
use Rattle.reference.specs.Tree.{Path, Tree, Dir, File, nothing, At, Found, Missing, Blocked, entry_at, edited, over, sized, moment, dated, touched}
use Rattle.reference.specs.Calls.{Outcome, bytes_of, is_empty, is_root, same_path, unless, faults_of_new, faults_of_write, faults_of_truncate, faults_of_unlink, faults_of_rmdir, faults_of_rmtree, placed, faults_of_rename_from, faults_of_rename, once, is_done, touching, all_touching, changed, parents_of, does}
use Rattle.reference.specs.declared.call.Call.{Call}
use Rattle.reference.specs.declared.call.Call.TheVariants.{Mkdir, Create, Write, Truncate, Unlink, Rmdir, Rename, Rmtree, Read, Stat as AskStat, Readdir}
use Rattle.reference.specs.declared.reply.Reply.{Reply}
use Rattle.reference.specs.declared.reply.Reply.TheVariants.{Done, Count}
use Rattle.reference.proofs.CallCases.{read_keeps, asked_keeps, listed_keeps}
use Rattle.reference.proofs.Touching.{reply_is}
use Rattle.call_compiler.specs.Compiled.{touches_root}

-- ---- what a call changes itself

-- changing an entry below the root does not change its mtime
pub edited_keeps : (t : Tree) (p : Path) (o : Option Tree) → moment (edited t p o) ≡ moment t
edited_keeps t [] o = refl
edited_keeps (File date b) (n ∷ p) o = refl
edited_keeps (Dir date es) (n ∷ []) o = refl
edited_keeps (Dir date es) (n ∷ m ∷ p) o = refl

-- so does a fault
unless_keeps : (t : Tree) (faults : List (Option Errno)) (o : Outcome) → moment o.0 ≡ moment t → moment (unless t faults o).0 ≡ moment t
unless_keeps t [] o h = h
unless_keeps t (None ∷ faults) o h = unless_keeps t faults o h
unless_keeps t (Some e ∷ faults) o h = refl

chosen_keeps : (t : Tree) (b : Bool) (o o' : Outcome) → moment o.0 ≡ moment t → moment o'.0 ≡ moment t → moment (cond b o o').0 ≡ moment t
chosen_keeps t true o o' h h' = h
chosen_keeps t false o o' h h' = h'

placed_keeps : (t : Tree) (p : Path) (here : At) → moment (placed t p here) ≡ moment t
placed_keeps t p (Found x) = edited_keeps t p (Some x)
placed_keeps t p Missing = refl
placed_keeps t p Blocked = refl

changed_keeps : (at : ℕ) (t : Tree) (c : Call) → moment (changed at t c).0 ≡ moment t
unfolding changed
changed_keeps at t (Mkdir p) = unless_keeps t (faults_of_new t p) (edited t p (Some (Dir at nothing)), Done) (edited_keeps t p (Some (Dir at nothing)))
changed_keeps at t (Create p) = unless_keeps t (faults_of_new t p) (edited t p (Some (File at [])), Done) (edited_keeps t p (Some (File at [])))
changed_keeps at t (Write p off w) =
    let x : Option Tree = Some (File at (over (bytes_of (entry_at t p)) off w)) in
    unless_keeps t (faults_of_write t p off w) (cond (is_empty w) (t, Count 0) (edited t p x, Count (length w)))
    (chosen_keeps t (is_empty w) (t, Count 0) (edited t p x, Count (length w)) refl (edited_keeps t p x))
changed_keeps at t (Truncate p n) =
    let x : Option Tree = Some (File at (sized (bytes_of (entry_at t p)) n)) in
    unless_keeps t (faults_of_truncate t p n) (edited t p x, Done) (edited_keeps t p x)
changed_keeps at t (Unlink p) = unless_keeps t (faults_of_unlink t p) (edited t p None, Done) (edited_keeps t p None)
changed_keeps at t (Rmdir p) = unless_keeps t (faults_of_rmdir t p) (edited t p None, Done) (edited_keeps t p None)
changed_keeps at t (Rename o n) =
    let new : Tree = placed (edited t o None) n (entry_at t o) in
    unless_keeps t (faults_of_rename_from t o) (cond (same_path o n) (t, Done) (unless t (faults_of_rename t o n) (new, Done)))
    (chosen_keeps t (same_path o n) (t, Done) (unless t (faults_of_rename t o n) (new, Done)) refl
    (unless_keeps t (faults_of_rename t o n) (new, Done) (placed_keeps (edited t o None) n (entry_at t o) ∙ edited_keeps t o None)))
changed_keeps at t (Rmtree p) = unless_keeps t (faults_of_rmtree t p) (edited t p None, Done) (edited_keeps t p None)
changed_keeps at t (Read p off n) = ap moment (read_keeps t p off n)
changed_keeps at t (AskStat p) = ap moment (asked_keeps t p)
changed_keeps at t (Readdir p) = ap moment (listed_keeps t p)

-- ---- the mtimes of its directories

pub dated_moment : (at : ℕ) (t : Tree) → moment (dated at t) ≡ at
dated_moment at (Dir date es) = refl
dated_moment at (File date b) = refl

pub touched_moment : (at : ℕ) (t : Tree) (p : Path) → moment (touched at t p) ≡ cond (is_root p) at (moment t)
touched_moment at t [] = dated_moment at t
touched_moment at (Dir date es) (n ∷ p) = refl
touched_moment at (File date b) (n ∷ p) = refl

-- one of them is the root, or not
touching_moment : (at : ℕ) (p : Path) (o : Outcome) → moment (touching at p o).0 ≡ cond (is_done o.1 && is_root p) at (moment o.0)
touching_moment at p o =
    elim (is_done o.1) as (λ b. moment (cond b (touched at o.0 p) o.0) ≡ cond (b && is_root p) at (moment o.0)) [
      | true ↦ touched_moment at o.0 p
      | false ↦ refl
    ]

-- one after the other
one_of : (b x y : Bool) (at m : ℕ) → cond (b && y) at (cond (b && x) at m) ≡ cond (b && (x || y)) at m
one_of true true true at m = refl
one_of true true false at m = refl
one_of true false y at m = refl
one_of false x y at m = refl

none_of : (b : Bool) (at m : ℕ) → m ≡ cond (b && false) at m
none_of true at m = refl
none_of false at m = refl

all_moment : (at : ℕ) (ps : List Path) (o : Outcome) → moment (all_touching at ps o).0 ≡ cond (is_done o.1 && list_any is_root ps) at (moment o.0)
all_moment at [] o = none_of (is_done o.1) at (moment o.0)
all_moment at (p ∷ ps) o =
    all_moment at ps (touching at p o)
    ∙ ap (λ (m : ℕ). cond (is_done o.1 && list_any is_root ps) at m) (touching_moment at p o)
    ∙ one_of (is_done o.1) (is_root p) (list_any is_root ps) at (moment o.0)

-- ---- a call

pub root_moment : (at : ℕ) (t : Tree) (c : Call) → moment (does at t c).0 ≡ cond (is_done (does at t c).1 && touches_root c) at (moment t)
unfolding does
root_moment at t c =
    let o : Outcome = changed at t c in
    all_moment at (parents_of c) o
    ∙ ap (λ (m : ℕ). cond (is_done o.1 && list_any is_root (parents_of c)) at m) (changed_keeps at t c)
    ∙ ap (λ (r : Reply). cond (is_done r && list_any is_root (parents_of c)) at (moment t)) (sym (reply_is at t c))

-- ---- two directories

-- if the root is one of two paths, it is in the list without duplicates
pub once_root : (p q : Path) → list_any is_root (once p q) ≡ (is_root p || is_root q)
once_root [] [] = refl
once_root [] (m ∷ q) = refl
once_root (n ∷ p) [] = refl
once_root (n ∷ p) (m ∷ q) =
    elim (same_path (n ∷ p) (m ∷ q)) as (λ b. list_any is_root (cond b ((n ∷ p) ∷ []) ((n ∷ p) ∷ (m ∷ q) ∷ [])) ≡ false) [
      | true ↦ refl
      | false ↦ refl
    ]
