-- The reply of a call whose first fault is known.
use Rattle.std.proofs.Common.{◌≡◌, ℕ, ◌+◌, List, [], ◌∷◌, ◌++◌, length, Bool, true, false, cond, refl, sym, ap, ◌∙◌, Option, Some, None}
use Rattle.std.specs.Prelude.{nat_lt, not, ◌&&◌, take, drop}
use Rattle.pathkey.specs.Names.{Path}
use Rattle.pathkey.specs.declared.errno.Errno.{Errno}
use Rattle.pathkey.specs.declared.errno.Errno.TheVariants.{EEXIST, EISDIR, EPERM, EINVAL, ENAMETOOLONG, EFBIG}
use Rattle.reference.specs.Tree.{Tree, Dir, File, nothing, At, Found, entry_at, with_entry, without, over, sized}
use Rattle.reference.specs.Calls.{Outcome, when, is_found, parent_fault, first_fault, unless, is_empty, bytes_of, greatest_file, greatest_read, faults_of_new, faults_of_file, faults_of_write, faults_of_truncate, faults_of_unlink, faults_of_rmdir, faults_of_rmtree, faults_of_read, same_path, placed, faults_of_rename_from, faults_of_place, faults_of_rename, parent, once, renamed, all_touching, changed, does}
use Rattle.reference.specs.declared.call.Call.TheVariants.{Mkdir, Create, Write, Truncate, Unlink, Rmdir, Rename, Rmtree, Read}
use Rattle.reference.specs.declared.reply.Reply.TheVariants.{Done, Count, Data, Fault}
use Rattle.reference.proofs.Faults.{unless_fault, unless_none}
use Rattle.reference.proofs.Touching.{reply_is}
use Rattle.call_compiler.specs.Moves.{gets_too_long}

-- ---- lists of faults

-- the reply is the first fault
refused : (t : Tree) (faults : List (Option Errno)) (o : Outcome) (e : Errno) → first_fault faults ≡ Some e → (unless t faults o).1 ≡ Fault e
refused t faults o e h = ap (λ (x : Outcome). x.1) (unless_fault t faults o e h)

-- the first of a list is the first of a longer one
first_of : (faults more : List (Option Errno)) (e : Errno) → first_fault faults ≡ Some e → first_fault (faults ++ more) ≡ Some e
first_of [] more e h = absurd (cc)
first_of (None ∷ faults) more e h = first_of faults more e h
first_of (Some d ∷ faults) more e h = h

-- if there is a file, the other faults count
of_file : (here : At) (date : ℕ) (b : List ℕ) (e : Errno) (more : List (Option Errno)) → here ≡ Found (File date b) → first_fault (faults_of_file here e ++ more) ≡ first_fault more
of_file here date b e more is = ap (λ (a : At). first_fault (faults_of_file a e ++ more)) is

-- and if there is none in the list, those after it
first_behind : (faults more : List (Option Errno)) → first_fault faults ≡ None → first_fault (faults ++ more) ≡ first_fault more
first_behind [] more h = refl
first_behind (None ∷ faults) more h = first_behind faults more h
first_behind (Some d ∷ faults) more h = absurd (cc)

-- a last fault, if it applies
last_comes : (b : Bool) (e : Errno) → b ≡ true → first_fault (when b e ∷ []) ≡ Some e
last_comes b e h = ap (λ (x : Bool). first_fault (when x e ∷ [])) h

last_stays_away : (b : Bool) (e : Errno) → b ≡ false → first_fault (when b e ∷ []) ≡ None
last_stays_away b e h = ap (λ (x : Bool). first_fault (when x e ∷ [])) h

-- ---- `mkdir`, `create`, `rmdir`, `rmtree`

-- the fault of the parent is first, since the root has none
pub new_refused : (t : Tree) (p : Path) (e : Errno) → parent_fault t p ≡ Some e → Some e ≡ first_fault (faults_of_new t p)
new_refused t [] e h = absurd (cc)
new_refused t (n ∷ p) e h = sym (ap (λ (x : Option Errno). first_fault (x ∷ when (is_found (entry_at t (n ∷ p))) EEXIST ∷ [])) h)

pub new_exists : (t : Tree) (p : Path) → parent_fault t p ≡ None → is_found (entry_at t p) ≡ true → Some EEXIST ≡ first_fault (faults_of_new t p)
new_exists t [] h there = refl
new_exists t (n ∷ p) h there = sym (ap (λ (x : Option Errno). first_fault (x ∷ when (is_found (entry_at t (n ∷ p))) EEXIST ∷ [])) h ∙ ap (λ (b : Bool). first_fault (when b EEXIST ∷ [])) there)

pub new_may : (t : Tree) (p : Path) → parent_fault t p ≡ None → is_found (entry_at t p) ≡ false → None ≡ first_fault (faults_of_new t p)
new_may t [] h free = absurd (cc)
new_may t (n ∷ p) h free = sym (ap (λ (x : Option Errno). first_fault (x ∷ when (is_found (entry_at t (n ∷ p))) EEXIST ∷ [])) h ∙ ap (λ (b : Bool). first_fault (when b EEXIST ∷ [])) free)

pub mkdir_refused : (at : ℕ) (t : Tree) (p : Path) (e : Errno) → first_fault (faults_of_new t p) ≡ Some e → (does at t (Mkdir p)).1 ≡ Fault e
unfolding does changed
mkdir_refused at t p e h = refused t (faults_of_new t p) (with_entry t p (Dir at nothing), Done) e h

pub mkdir_done : (at : ℕ) (t : Tree) (p : Path) → first_fault (faults_of_new t p) ≡ None → (does at t (Mkdir p)).1 ≡ Done
unfolding does changed
mkdir_done at t p h = ap (λ (x : Outcome). x.1) (unless_none t (faults_of_new t p) (with_entry t p (Dir at nothing), Done) h)

pub create_refused : (at : ℕ) (t : Tree) (p : Path) (e : Errno) → first_fault (faults_of_new t p) ≡ Some e → (does at t (Create p)).1 ≡ Fault e
unfolding does changed
create_refused at t p e h = refused t (faults_of_new t p) (with_entry t p (File at []), Done) e h

pub create_done : (at : ℕ) (t : Tree) (p : Path) → first_fault (faults_of_new t p) ≡ None → (does at t (Create p)).1 ≡ Done
unfolding does changed
create_done at t p h = ap (λ (x : Outcome). x.1) (unless_none t (faults_of_new t p) (with_entry t p (File at []), Done) h)

pub rmdir_refused : (at : ℕ) (t : Tree) (p : Path) (e : Errno) → first_fault (faults_of_rmdir t p) ≡ Some e → (does at t (Rmdir p)).1 ≡ Fault e
unfolding does changed
rmdir_refused at t p e h = refused t (faults_of_rmdir t p) (without t p, Done) e h

pub rmdir_done : (at : ℕ) (t : Tree) (p : Path) → first_fault (faults_of_rmdir t p) ≡ None → (does at t (Rmdir p)).1 ≡ Done
unfolding does changed
rmdir_done at t p h = ap (λ (x : Outcome). x.1) (unless_none t (faults_of_rmdir t p) (without t p, Done) h)

pub rmtree_refused : (at : ℕ) (t : Tree) (p : Path) (e : Errno) → first_fault (faults_of_rmtree t p) ≡ Some e → (does at t (Rmtree p)).1 ≡ Fault e
unfolding does changed
rmtree_refused at t p e h = refused t (faults_of_rmtree t p) (without t p, Done) e h

pub rmtree_done : (at : ℕ) (t : Tree) (p : Path) → first_fault (faults_of_rmtree t p) ≡ None → (does at t (Rmtree p)).1 ≡ Done
unfolding does changed
rmtree_done at t p h = ap (λ (x : Outcome). x.1) (unless_none t (faults_of_rmtree t p) (without t p, Done) h)

-- ---- `unlink`

pub unlink_refused : (at : ℕ) (t : Tree) (p : Path) (e : Errno) → first_fault (faults_of_file (entry_at t p) EPERM) ≡ Some e → (does at t (Unlink p)).1 ≡ Fault e
unfolding does changed
unlink_refused at t p e h = refused t (faults_of_unlink t p) (without t p, Done) e h

pub unlink_done : (at : ℕ) (t : Tree) (p : Path) (date : ℕ) (b : List ℕ) → entry_at t p ≡ Found (File date b) → (does at t (Unlink p)).1 ≡ Done
unfolding does changed
unlink_done at t p date b is = ap (λ (x : Outcome). x.1) (unless_none t (faults_of_unlink t p) (without t p, Done) (of_file (entry_at t p) date b EPERM [] is))

-- ---- `write`

abbrev too_large : ℕ → List ℕ → Bool
too_large off w = not (is_empty w) && nat_lt greatest_file (off + length w)

abbrev applied : ℕ → Tree → Path → ℕ → List ℕ → Outcome
applied at t p off w = cond (is_empty w) (t, Count 0) (with_entry t p (File at (over (bytes_of (entry_at t p)) off w)), Count (length w))

pub write_refused : (at : ℕ) (t : Tree) (p : Path) (off : ℕ) (w : List ℕ) (e : Errno) → first_fault (faults_of_file (entry_at t p) EISDIR) ≡ Some e → (does at t (Write p off w)).1 ≡ Fault e
unfolding does changed
write_refused at t p off w e h = refused t (faults_of_write t p off w) (applied at t p off w) e (first_of (faults_of_file (entry_at t p) EISDIR) (when (too_large off w) EFBIG ∷ []) e h)

module _ (at : ℕ) (t : Tree) (p : Path) (off : ℕ) (w : List ℕ) (date : ℕ) (b : List ℕ) (is : entry_at t p ≡ Found (File date b)) where
  pub write_too_large : is_empty w ≡ false → nat_lt greatest_file (off + length w) ≡ true → (does at t (Write p off w)).1 ≡ Fault EFBIG
  unfolding does changed
  write_too_large some large =
      let h : too_large off w ≡ true = ap (λ (x : Bool). not x && nat_lt greatest_file (off + length w)) some ∙ large in
      refused t (faults_of_write t p off w) (applied at t p off w) EFBIG (of_file (entry_at t p) date b EISDIR (when (too_large off w) EFBIG ∷ []) is ∙ last_comes (too_large off w) EFBIG h)

  write_allowed : too_large off w ≡ false → unless t (faults_of_write t p off w) (applied at t p off w) ≡ applied at t p off w
  write_allowed h = unless_none t (faults_of_write t p off w) (applied at t p off w) (of_file (entry_at t p) date b EISDIR (when (too_large off w) EFBIG ∷ []) is ∙ last_stays_away (too_large off w) EFBIG h)

  pub write_nothing : is_empty w ≡ true → does at t (Write p off w) ≡ (t, Count 0)
  unfolding does changed
  write_nothing empty =
      write_allowed (ap (λ (x : Bool). not x && nat_lt greatest_file (off + length w)) empty)
      ∙ ap (λ (x : Bool). cond {A = Outcome} x (t, Count 0) (with_entry t p (File at (over (bytes_of (entry_at t p)) off w)), Count (length w))) empty

  pub write_done : is_empty w ≡ false → nat_lt greatest_file (off + length w) ≡ false → (does at t (Write p off w)).1 ≡ Count (length w)
  unfolding does changed
  write_done some short =
      ap (λ (x : Outcome). x.1) (write_allowed (ap (λ (x : Bool). not x && nat_lt greatest_file (off + length w)) some ∙ short)
      ∙ ap (λ (x : Bool). cond {A = Outcome} x (t, Count 0) (with_entry t p (File at (over (bytes_of (entry_at t p)) off w)), Count (length w))) some)

-- ---- `truncate`

pub truncate_refused : (at : ℕ) (t : Tree) (p : Path) (n : ℕ) (e : Errno) → first_fault (faults_of_file (entry_at t p) EISDIR) ≡ Some e → (does at t (Truncate p n)).1 ≡ Fault e
unfolding does changed
truncate_refused at t p n e h = refused t (faults_of_truncate t p n) (with_entry t p (File at (sized (bytes_of (entry_at t p)) n)), Done) e (first_of (faults_of_file (entry_at t p) EISDIR) (when (nat_lt greatest_file n) EFBIG ∷ []) e h)

module _ (at : ℕ) (t : Tree) (p : Path) (n : ℕ) (date : ℕ) (b : List ℕ) (is : entry_at t p ≡ Found (File date b)) where
  pub truncate_too_large : nat_lt greatest_file n ≡ true → (does at t (Truncate p n)).1 ≡ Fault EFBIG
  unfolding does changed
  truncate_too_large h = refused t (faults_of_truncate t p n) (with_entry t p (File at (sized (bytes_of (entry_at t p)) n)), Done) EFBIG (of_file (entry_at t p) date b EISDIR (when (nat_lt greatest_file n) EFBIG ∷ []) is ∙ last_comes (nat_lt greatest_file n) EFBIG h)

  pub truncate_done : nat_lt greatest_file n ≡ false → (does at t (Truncate p n)).1 ≡ Done
  unfolding does changed
  truncate_done h = ap (λ (x : Outcome). x.1) (unless_none t (faults_of_truncate t p n) (with_entry t p (File at (sized (bytes_of (entry_at t p)) n)), Done) (of_file (entry_at t p) date b EISDIR (when (nat_lt greatest_file n) EFBIG ∷ []) is ∙ last_stays_away (nat_lt greatest_file n) EFBIG h))

-- ---- `read`

pub read_refused : (at : ℕ) (t : Tree) (p : Path) (off n : ℕ) (e : Errno) → first_fault (faults_of_file (entry_at t p) EISDIR) ≡ Some e → (does at t (Read p off n)).1 ≡ Fault e
unfolding does changed
read_refused at t p off n e h = refused t (faults_of_read t p n) (t, Data (take n (drop off (bytes_of (entry_at t p))))) e (first_of (faults_of_file (entry_at t p) EISDIR) (when (nat_lt greatest_read n) EINVAL ∷ []) e h)

module _ (at : ℕ) (t : Tree) (p : Path) (off n : ℕ) (date : ℕ) (b : List ℕ) (is : entry_at t p ≡ Found (File date b)) where
  pub read_too_much : nat_lt greatest_read n ≡ true → (does at t (Read p off n)).1 ≡ Fault EINVAL
  unfolding does changed
  read_too_much h = refused t (faults_of_read t p n) (t, Data (take n (drop off (bytes_of (entry_at t p))))) EINVAL (of_file (entry_at t p) date b EISDIR (when (nat_lt greatest_read n) EINVAL ∷ []) is ∙ last_comes (nat_lt greatest_read n) EINVAL h)

  pub read_done : nat_lt greatest_read n ≡ false → (does at t (Read p off n)).1 ≡ Data (take n (drop off b))
  unfolding does changed
  read_done h =
      ap (λ (x : Outcome). x.1) (unless_none t (faults_of_read t p n) (t, Data (take n (drop off (bytes_of (entry_at t p))))) (of_file (entry_at t p) date b EISDIR (when (nat_lt greatest_read n) EINVAL ∷ []) is ∙ last_stays_away (nat_lt greatest_read n) EINVAL h))
      ∙ ap (λ (a : At). Data (take n (drop off (bytes_of a)))) is

-- ---- `rename`

module _ (at : ℕ) (t : Tree) (o n : Path) where
  -- the outcome of a rename between two paths
  abbrev to_new : Outcome
  to_new = unless t (faults_of_rename t o n) (placed (without t o) n (entry_at t o), Done)

  -- the reply is that of the table, which does not depend on mtimes
  replied : (does at t (Rename o n)).1 ≡ (renamed t o n).1
  unfolding changed
  replied = reply_is at t (Rename o n)

  pub rename_of_nothing : (e : Errno) → first_fault (faults_of_rename_from t o) ≡ Some e → (does at t (Rename o n)).1 ≡ Fault e
  rename_of_nothing e h = replied ∙ refused t (faults_of_rename_from t o) (cond (same_path o n) (t, Done) to_new) e h

  module _ (there : first_fault (faults_of_rename_from t o) ≡ None) where
    rename_allowed : renamed t o n ≡ cond (same_path o n) (t, Done) to_new
    rename_allowed = unless_none t (faults_of_rename_from t o) (cond (same_path o n) (t, Done) to_new) there

    pub rename_to_itself : same_path o n ≡ true → does at t (Rename o n) ≡ (t, Done)
    unfolding does changed
    rename_to_itself is =
        ap (λ (b : Bool). all_touching at (cond b [] (once (parent o) (parent n))) (renamed t o n)) is
        ∙ rename_allowed
        ∙ ap (λ (b : Bool). cond {A = Outcome} b (t, Done) to_new) is

    module _ (apart : same_path o n ≡ false) where
      rename_between : renamed t o n ≡ to_new
      rename_between = rename_allowed ∙ ap (λ (b : Bool). cond {A = Outcome} b (t, Done) to_new) apart

      pub rename_no_place : (e : Errno) → first_fault (faults_of_place t o n) ≡ Some e → (does at t (Rename o n)).1 ≡ Fault e
      rename_no_place e h =
          replied
          ∙ ap (λ (x : Outcome). x.1) rename_between
          ∙ refused t (faults_of_rename t o n) (placed (without t o) n (entry_at t o), Done) e (first_of (faults_of_place t o n) (when (gets_too_long t o n) ENAMETOOLONG ∷ []) e h)

      pub rename_too_long : first_fault (faults_of_place t o n) ≡ None → gets_too_long t o n ≡ true → (does at t (Rename o n)).1 ≡ Fault ENAMETOOLONG
      rename_too_long fits h =
          replied
          ∙ ap (λ (x : Outcome). x.1) rename_between
          ∙ refused t (faults_of_rename t o n) (placed (without t o) n (entry_at t o), Done) ENAMETOOLONG (first_behind (faults_of_place t o n) (when (gets_too_long t o n) ENAMETOOLONG ∷ []) fits ∙ last_comes (gets_too_long t o n) ENAMETOOLONG h)

      pub rename_done : first_fault (faults_of_place t o n) ≡ None → gets_too_long t o n ≡ false → (does at t (Rename o n)).1 ≡ Done
      rename_done fits h =
          replied
          ∙ ap (λ (x : Outcome). x.1) (rename_between ∙ unless_none t (faults_of_rename t o n) (placed (without t o) n (entry_at t o), Done) (first_behind (faults_of_place t o n) (when (gets_too_long t o n) ENAMETOOLONG ∷ []) fits ∙ last_stays_away (gets_too_long t o n) ENAMETOOLONG h))
