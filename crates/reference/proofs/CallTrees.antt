-- Each call makes a directory tree of a directory tree, and a call that is refused, or that reads, changes nothing.
use Rattle.std.proofs.Common.{◌≡◌, ◌≢◌, ℕ, ◌+◌, List, [], length, Bool, true, false, cond, sym, refl, ap, ◌∙◌, subst}
use Rattle.std.proofs.lemmas.Bool.{ltb-false}
use Rattle.pathkey.specs.Names.{IsPath}
use Rattle.pathkey.specs.declared.errno.Errno.{Errno}
use Rattle.reference.specs.Tree.{Path, Tree, Dir, File, nothing, entry_at, over, sized}
use Rattle.reference.specs.Calls.{Outcome, bytes_of, greatest_file, written, truncated, unlinked, renamed, parent, once, all_touching, changed, does}
use Rattle.reference.specs.Shape.{AreBytes, IsMoment, IsTree, IsCall}
use Rattle.reference.specs.declared.call.Call.{Call}
use Rattle.reference.specs.declared.call.Call.TheVariants.{Mkdir, Create, Write, Truncate, Unlink, Rmdir, Rename, Rmtree, Read, Stat as AskStat, Readdir}
use Rattle.reference.specs.declared.reply.Reply.TheVariants.{Fault}
use Rattle.reference.proofs.EntryPaths.{same_path_itself}
use Rattle.reference.proofs.Standing.{parent_from_found}
use Rattle.reference.proofs.Touching.{reply_is, refusal_stays, does_tree}
use Rattle.reference.proofs.Contents.{content_none, content-over, content-sized}
use Rattle.reference.proofs.TreeEdits.{out_tree, put_directory, put_file, not_root_there, content_at}
use Rattle.reference.proofs.RenameTrees.{placed_tree}
use Rattle.reference.proofs.CallCases.{made_cases, written_cases, truncated_cases, unlinked_cases, directory_removed_cases, removed_cases, renamed_cases, read_keeps, asked_keeps, listed_keeps}

-- ---- trees
written_tree : (at : ℕ) (t : Tree) (p : Path) (off : ℕ) (w : List ℕ) → IsMoment at → IsTree t → IsPath p → AreBytes w → IsTree (written at t p off w).0
written_tree at t p off w early is path new = written_cases (λ o. IsTree o.0) at t p off w (λ e. is) (λ e. is) (λ there file some short.
    let ne : p ≢ [] = not_root_there t p is file in
    put_file t p at (over (bytes_of (entry_at t p)) off w) is path early (content-over (bytes_of (entry_at t p)) off w (content_at t p is) new (ltb-false greatest_file (off + length w) short)) ne (parent_from_found p t ne there))

truncated_tree : (at : ℕ) (t : Tree) (p : Path) (n : ℕ) → IsMoment at → IsTree t → IsPath p → IsTree (truncated at t p n).0
truncated_tree at t p n early is path = truncated_cases (λ o. IsTree o.0) at t p n (λ e. is) (λ there file short.
    let ne : p ≢ [] = not_root_there t p is file in
    put_file t p at (sized (bytes_of (entry_at t p)) n) is path early (content-sized (bytes_of (entry_at t p)) n (content_at t p is) (ltb-false greatest_file n short)) ne (parent_from_found p t ne there))

unlinked_tree : (t : Tree) (p : Path) → IsTree t → IsTree (unlinked t p).0
unlinked_tree t p is = unlinked_cases (λ o. IsTree o.0) t p (λ e. is) (λ there file.
    let ne : p ≢ [] = not_root_there t p is file in
    out_tree t p is ne (parent_from_found p t ne there))

pub changed_tree : (at : ℕ) (t : Tree) (c : Call) → IsMoment at → IsTree t → IsCall c → IsTree (changed at t c).0
unfolding changed
changed_tree at t (Mkdir p) early is ok = made_cases (λ o. IsTree o.0) t p (Dir at nothing) (λ e. is) (λ ne parent_is free. put_directory t p at is ok early ne parent_is)
changed_tree at t (Create p) early is ok = made_cases (λ o. IsTree o.0) t p (File at []) (λ e. is) (λ ne parent_is free. put_file t p at [] is ok early content_none ne parent_is)
changed_tree at t (Write p off w) early is ok = written_tree at t p off w early is ok.0 ok.1
changed_tree at t (Truncate p n) early is ok = truncated_tree at t p n early is ok
changed_tree at t (Unlink p) early is ok = unlinked_tree t p is
changed_tree at t (Rmdir p) early is ok = directory_removed_cases (λ o. IsTree o.0) t p (λ e. is) (λ ne there file full. out_tree t p is ne (parent_from_found p t ne there))
changed_tree at t (Rename o n) early is ok = renamed_cases (λ z. IsTree z.0) t o n (λ e. is) (λ e. is) (λ may. placed_tree t o n is ok.1 may)
changed_tree at t (Rmtree p) early is ok = removed_cases (λ o. IsTree o.0) t p (λ e. is) (λ ne there. out_tree t p is ne (parent_from_found p t ne there))
changed_tree at t (Read p off n) early is ok = subst IsTree (sym (read_keeps t p off n)) is
changed_tree at t (AskStat p) early is ok = subst IsTree (sym (asked_keeps t p)) is
changed_tree at t (Readdir p) early is ok = subst IsTree (sym (listed_keeps t p)) is

pub call_law : (at : ℕ) (t : Tree) (c : Call) → IsMoment at → IsTree t → IsCall c → IsTree (does at t c).0
call_law at t c early is ok = does_tree at t c early (changed_tree at t c early is ok)

-- ---- refusals
-- an outcome that is the refusal e keeps the tree
abbrev KeepsAt : Tree → Errno → Outcome → Type 0
KeepsAt t e o = o.1 ≡ Fault e → o.0 ≡ t

changed_fault : (at : ℕ) (t : Tree) (c : Call) (e : Errno) → (changed at t c).1 ≡ Fault e → (changed at t c).0 ≡ t
unfolding changed
changed_fault at t (Mkdir p) e = made_cases (KeepsAt t e) t p (Dir at nothing) (λ f h. refl) (λ ne parent_is free h. cc)
changed_fault at t (Create p) e = made_cases (KeepsAt t e) t p (File at []) (λ f h. refl) (λ ne parent_is free h. cc)
changed_fault at t (Write p off w) e = written_cases (KeepsAt t e) at t p off w (λ f h. refl) (λ empty h. refl) (λ there file some short h. cc)
changed_fault at t (Truncate p n) e = truncated_cases (KeepsAt t e) at t p n (λ f h. refl) (λ there file short h. cc)
changed_fault at t (Unlink p) e = unlinked_cases (KeepsAt t e) t p (λ f h. refl) (λ there file h. cc)
changed_fault at t (Rmdir p) e = directory_removed_cases (KeepsAt t e) t p (λ f h. refl) (λ ne there file full h. cc)
changed_fault at t (Rename o n) e = renamed_cases (KeepsAt t e) t o n (λ f h. refl) (λ same h. refl) (λ may h. cc)
changed_fault at t (Rmtree p) e = removed_cases (KeepsAt t e) t p (λ f h. refl) (λ ne there h. cc)
changed_fault at t (Read p off n) e = λ h. read_keeps t p off n
changed_fault at t (AskStat p) e = λ h. asked_keeps t p
changed_fault at t (Readdir p) e = λ h. listed_keeps t p

pub fault_law : (at : ℕ) (t : Tree) (c : Call) (e : Errno) → (does at t c).1 ≡ Fault e → (does at t c).0 ≡ t
fault_law at t c e h = ap (λ (o : Outcome). o.0) (refusal_stays at t c e h) ∙ changed_fault at t c e (sym (reply_is at t c) ∙ h)

-- ---- calls that change nothing
onto_itself : (at : ℕ) (t : Tree) (p : Path) → (does at t (Rename p p)).0 ≡ t
unfolding does changed
onto_itself at t p =
    ap (λ (b : Bool). (all_touching at (cond b [] (once (parent p) (parent p))) (renamed t p p)).0) (same_path_itself p)
    ∙ renamed_cases (λ o. o.0 ≡ t) t p p (λ e. refl) (λ same. refl) (λ may. absurd (let both : true ≡ false = sym (same_path_itself p) ∙ may.apart in cc))

pub reading_law : (at : ℕ) (t : Tree) (p : Path) (off n : ℕ)
    → ((does at t (Read p off n)).0 ≡ t) × ((does at t (AskStat p)).0 ≡ t) × ((does at t (Readdir p)).0 ≡ t) × ((does at t (Write p off [])).0 ≡ t) × ((does at t (Rename p p)).0 ≡ t)
unfolding does changed
reading_law at t p off n = (read_keeps t p off n, asked_keeps t p, listed_keeps t p, written_cases (λ o. o.0 ≡ t) at t p off [] (λ e. refl) (λ e. refl) (λ there file some short. cc), onto_itself at t p)
