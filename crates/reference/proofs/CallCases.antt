-- The cases of each call: what holds of every refusal, and of what the call does where its table lets it, holds of its outcome.
use Rattle.std.proofs.Common.{◌≡◌, ◌≢◌, ℕ, ◌+◌, List, [], length, take, drop, true, false, cond, not, ◌&&◌, refl, Some, None}
use Rattle.std.specs.Prelude.{nat_lt}
use Rattle.pathkey.specs.declared.errno.Errno.{Errno}
use Rattle.pathkey.specs.declared.errno.Errno.TheVariants.{EISDIR, EEXIST, ENOTDIR, ENOTEMPTY, EPERM, EINVAL, ENAMETOOLONG, EFBIG, EBUSY}
use Rattle.reference.specs.Tree.{Path, Tree, File, At, entry_at, edited, over, sized}
use Rattle.reference.specs.Calls.{Outcome, when, is_root, is_under, same_path, text_len, is_empty, is_directory, is_file, is_full, is_found, bytes_of, path_fault, parent_fault, deepest_at, greatest_file, unless, faults_of_new, made, faults_of_write, written, faults_of_truncate, truncated, faults_of_unlink, unlinked, faults_of_rmdir, directory_removed, faults_of_rmtree, removed, placed, faults_of_rename_from, faults_of_rename, renamed, faults_of_read, read, faults_of_stat, stat_of, asked, faults_of_readdir, names_of, listed}
use Rattle.reference.specs.declared.reply.Reply.TheVariants.{Done, Count, Data, Names, Fault}
use Rattle.reference.proofs.EntryPaths.{not_root}
use Rattle.reference.proofs.NoFaults.{NoFaults, unless_holds, when_none}

-- P holds of every refusal of a call on t
abbrev pub OfRefusals : (Outcome → Type 0) → Tree → Type 0
OfRefusals P t = (e : Errno) → P (t, Fault e)

pub made_cases : (P : Outcome → Type 0) (t : Tree) (p : Path) (x : Tree) → OfRefusals P t
    → (p ≢ [] → parent_fault t p ≡ None → is_found (entry_at t p) ≡ false → P (edited t p (Some x), Done))
    → P (made t p x)
unfolding NoFaults
made_cases P t p x refused done =
    unless_holds P t (faults_of_new t p) (edited t p (Some x), Done) refused
    (λ f. done (not_root p (when_none (is_root p) EEXIST f.0)) f.1.0 (when_none (is_found (entry_at t p)) EEXIST f.1.1.0))

pub written_cases : (P : Outcome → Type 0) (at : ℕ) (t : Tree) (p : Path) (off : ℕ) (w : List ℕ) → OfRefusals P t
    → (is_empty w ≡ true → P (t, Count 0))
    → (path_fault (entry_at t p) ≡ None → is_directory (entry_at t p) ≡ false → is_empty w ≡ false → nat_lt greatest_file (off + length w) ≡ false → P (edited t p (Some (File at (over (bytes_of (entry_at t p)) off w))), Count (length w)))
    → P (written at t p off w)
unfolding NoFaults
written_cases P at t p off w refused empty done =
    let here : At = entry_at t p in
    let written_over : Outcome = (edited t p (Some (File at (over (bytes_of here) off w))), Count (length w)) in
    unless_holds P t (faults_of_write t p off w) (cond (is_empty w) (t, Count 0) written_over) refused
    (λ f. elim (is_empty w) as (λ b. is_empty w ≡ b → when (not b && nat_lt greatest_file (off + length w)) EFBIG ≡ None → P (cond {A = Outcome} b (t, Count 0) written_over)) [
      | true ↦ λ e g. empty e
      | false ↦ λ e g. done f.0 (when_none (is_directory here) EISDIR f.1.0) e (when_none (nat_lt greatest_file (off + length w)) EFBIG g)
    ] refl f.1.1.0)

pub truncated_cases : (P : Outcome → Type 0) (at : ℕ) (t : Tree) (p : Path) (n : ℕ) → OfRefusals P t
    → (path_fault (entry_at t p) ≡ None → is_directory (entry_at t p) ≡ false → nat_lt greatest_file n ≡ false → P (edited t p (Some (File at (sized (bytes_of (entry_at t p)) n))), Done))
    → P (truncated at t p n)
unfolding NoFaults
truncated_cases P at t p n refused done =
    let here : At = entry_at t p in
    unless_holds P t (faults_of_truncate t p n) (edited t p (Some (File at (sized (bytes_of here) n))), Done) refused
    (λ f. done f.0 (when_none (is_directory here) EISDIR f.1.0) (when_none (nat_lt greatest_file n) EFBIG f.1.1.0))

pub unlinked_cases : (P : Outcome → Type 0) (t : Tree) (p : Path) → OfRefusals P t
    → (path_fault (entry_at t p) ≡ None → is_directory (entry_at t p) ≡ false → P (edited t p None, Done))
    → P (unlinked t p)
unfolding NoFaults
unlinked_cases P t p refused done =
    let here : At = entry_at t p in
    unless_holds P t (faults_of_unlink t p) (edited t p None, Done) refused (λ f. done f.0 (when_none (is_directory here) EPERM f.1.0))

pub directory_removed_cases : (P : Outcome → Type 0) (t : Tree) (p : Path) → OfRefusals P t
    → (p ≢ [] → path_fault (entry_at t p) ≡ None → is_file (entry_at t p) ≡ false → is_full (entry_at t p) ≡ false → P (edited t p None, Done))
    → P (directory_removed t p)
unfolding NoFaults
directory_removed_cases P t p refused done =
    let here : At = entry_at t p in
    unless_holds P t (faults_of_rmdir t p) (edited t p None, Done) refused
    (λ f. done (not_root p (when_none (is_root p) EBUSY f.0)) f.1.0 (when_none (is_file here) ENOTDIR f.1.1.0) (when_none (is_full here) ENOTEMPTY f.1.1.1.0))

pub removed_cases : (P : Outcome → Type 0) (t : Tree) (p : Path) → OfRefusals P t
    → (p ≢ [] → path_fault (entry_at t p) ≡ None → P (edited t p None, Done))
    → P (removed t p)
unfolding NoFaults
removed_cases P t p refused done =
    unless_holds P t (faults_of_rmtree t p) (edited t p None, Done) refused (λ f. done (not_root p (when_none (is_root p) EBUSY f.0)) f.1.0)

-- what the table says of a rename that moves something
pub record MayMove (t : Tree) (o n : Path) : Type 0 where
  pub not_root : o ≢ []
  pub there : path_fault (entry_at t o) ≡ None
  pub apart : same_path o n ≡ false
  pub not_inside : (is_directory (entry_at t o) && is_under o n) ≡ false
  pub parent : parent_fault t n ≡ None
  pub no_file_onto_directory : (is_directory (entry_at t n) && is_file (entry_at t o)) ≡ false
  pub no_directory_onto_file : (is_file (entry_at t n) && is_directory (entry_at t o)) ≡ false
  pub not_full : is_full (entry_at t n) ≡ false
  pub short : nat_lt 1023 (text_len n + deepest_at (entry_at t o)) ≡ false

pub renamed_cases : (P : Outcome → Type 0) (t : Tree) (o n : Path) → OfRefusals P t
    → (same_path o n ≡ true → P (t, Done))
    → (MayMove t o n → P (placed (edited t o None) n (entry_at t o), Done))
    → P (renamed t o n)
unfolding NoFaults
renamed_cases P t o n refused stay done =
    let from : At = entry_at t o in
    let to : At = entry_at t n in
    let written_over : Outcome = (placed (edited t o None) n from, Done) in
    unless_holds P t (faults_of_rename_from t o) (cond (same_path o n) (t, Done) (unless t (faults_of_rename t o n) written_over)) refused
    (λ f. elim (same_path o n) as (λ b. same_path o n ≡ b → P (cond {A = Outcome} b (t, Done) (unless t (faults_of_rename t o n) written_over))) [
      | true ↦ λ e. stay e
      | false ↦ λ e. unless_holds P t (faults_of_rename t o n) written_over refused (λ g. done (record {
        not_root = not_root o (when_none (is_root o) EBUSY f.0);
        there = f.1.0;
        apart = e;
        not_inside = when_none (is_directory from && is_under o n) EINVAL g.0;
        parent = g.1.0;
        no_file_onto_directory = when_none (is_directory to && is_file from) EISDIR g.1.1.0;
        no_directory_onto_file = when_none (is_file to && is_directory from) ENOTDIR g.1.1.1.0;
        not_full = when_none (is_full to) ENOTEMPTY g.1.1.1.1.0;
        short = when_none (nat_lt 1023 (text_len n + deepest_at from)) ENAMETOOLONG g.1.1.1.1.1.0;
      }))
    ] refl)

-- the calls that read do nothing to the tree
pub read_keeps : (t : Tree) (p : Path) (off n : ℕ) → (read t p off n).0 ≡ t
read_keeps t p off n = unless_holds (λ z. z.0 ≡ t) t (faults_of_read t p n) (t, Data (take n (drop off (bytes_of (entry_at t p))))) (λ e. refl) (λ f. refl)

pub asked_keeps : (t : Tree) (p : Path) → (asked t p).0 ≡ t
asked_keeps t p = unless_holds (λ z. z.0 ≡ t) t (faults_of_stat t p) (t, stat_of (entry_at t p)) (λ e. refl) (λ f. refl)

pub listed_keeps : (t : Tree) (p : Path) → (listed t p).0 ≡ t
listed_keeps t p = unless_holds (λ z. z.0 ≡ t) t (faults_of_readdir t p) (t, Names (names_of (entry_at t p))) (λ e. refl) (λ f. refl)
