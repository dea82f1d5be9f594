-- The table of calls never answers want of memory.
use Rattle.std.proofs.Common.{◌≡◌, ◌≢◌, ℕ, List, [], ◌∷◌, Bool, true, false, cond, refl, sym, ap, ◌∙◌, Option, Some, None, length, ◌+◌}
use Rattle.std.specs.Prelude.{not, ◌&&◌, nat_lt, take, drop}
use Rattle.pathkey.specs.declared.errno.Errno.{Errno}
use Rattle.pathkey.specs.declared.errno.Errno.TheVariants.{EISDIR, EEXIST, ENOTDIR, ENOTEMPTY, EPERM, EINVAL, ENAMETOOLONG, EFBIG, EBUSY, ENOMEM}
use Rattle.reference.specs.Tree.{Path, Tree, Dir, File, nothing, At, Found, Missing, Blocked, entry_at, with_entry, without, over, sized}
use Rattle.reference.specs.Calls.{Outcome, when, is_root, is_under, same_path, text_len, is_empty, is_directory, is_file, is_full, is_found, bytes_of, path_fault, no_directory_fault, parent, parent_fault, deepest_at, greatest_file, greatest_read, unless, faults_of_new, made, faults_of_write, faults_of_truncate, faults_of_unlink, faults_of_rmdir, faults_of_rmtree, faults_of_rename_from, faults_of_rename, faults_of_read, faults_of_stat, faults_of_readdir, placed, stat_of, names_of, changed, does}
use Rattle.reference.specs.Worlds.{Replied, is_lack}
use Rattle.reference.specs.declared.call.Call.{Call}
use Rattle.reference.specs.declared.call.Call.TheVariants.{Mkdir, Create, Write, Truncate, Unlink, Rmdir, Rename, Rmtree, Read, Stat as AskStat, Readdir}
use Rattle.reference.specs.declared.reply.Reply.{Reply}
use Rattle.reference.specs.declared.reply.Reply.TheVariants.{Done, Count, Data, Names, Fault}
use Rattle.reference.proofs.Touching.{reply_is}

-- the fault, if there is one, is not want of memory
abbrev IsOther : Option Errno → Type 0
IsOther None = Unit {0}
IsOther (Some e) = is_lack (Replied (Fault e)) ≡ false

abbrev AreOther : List (Option Errno) → Type 0
AreOther [] = Unit {0}
AreOther (f ∷ fs) = IsOther f × AreOther fs

unless_other : (t : Tree) (fs : List (Option Errno)) (o : Outcome) → AreOther fs → is_lack (Replied o.1) ≡ false → is_lack (Replied (unless t fs o).1) ≡ false
unless_other t [] o h g = g
unless_other t (None ∷ fs) o h g = unless_other t fs o h.1 g
unless_other t (Some e ∷ fs) o h g = h.0

when_other : (b : Bool) (e : Errno) → is_lack (Replied (Fault e)) ≡ false → IsOther (when b e)
when_other true e h = h
when_other false e h = tt

path_other : (a : At) → IsOther (path_fault a)
path_other (Found x) = tt
path_other Missing = refl
path_other Blocked = refl

directory_other : (a : At) → IsOther (no_directory_fault a)
directory_other (Found (Dir date es)) = tt
directory_other (Found (File date b)) = refl
directory_other Missing = refl
directory_other Blocked = refl

parent_other : (t : Tree) (p : Path) → IsOther (parent_fault t p)
parent_other t [] = tt
parent_other t (n ∷ p) = directory_other (entry_at t (parent (n ∷ p)))

-- either outcome is no want of memory
either_other : (b : Bool) (x y : Outcome) → is_lack (Replied x.1) ≡ false → is_lack (Replied y.1) ≡ false → is_lack (Replied (cond {A = Outcome} b x y).1) ≡ false
either_other true x y h g = h
either_other false x y h g = g

stat_other : (a : At) → is_lack (Replied (stat_of a)) ≡ false
stat_other (Found (Dir date es)) = refl
stat_other (Found (File date b)) = refl
stat_other Missing = refl
stat_other Blocked = refl

made_other : (t : Tree) (p : Path) (x : Tree) → is_lack (Replied (made t p x).1) ≡ false
made_other t p x = unless_other t (faults_of_new t p) (with_entry t p x, Done) (when_other (is_root p) EEXIST refl, (parent_other t p, (when_other (is_found (entry_at t p)) EEXIST refl, tt))) refl

pub no_lack : (at : ℕ) (t : Tree) (c : Call) → is_lack (Replied (changed at t c).1) ≡ false
unfolding changed
no_lack at t (Mkdir p) = made_other t p (Dir at nothing)
no_lack at t (Create p) = made_other t p (File at [])
no_lack at t (Write p off w) =
    let here : At = entry_at t p in
    let written_over : Outcome = (with_entry t p (File at (over (bytes_of here) off w)), Count (length w)) in
    unless_other t (faults_of_write t p off w) (cond (is_empty w) (t, Count 0) written_over)
    (path_other here, (when_other (is_directory here) EISDIR refl, (when_other (not (is_empty w) && nat_lt greatest_file (off + length w)) EFBIG refl, tt)))
    (either_other (is_empty w) (t, Count 0) written_over refl refl)
no_lack at t (Truncate p n) =
    let here : At = entry_at t p in
    unless_other t (faults_of_truncate t p n) (with_entry t p (File at (sized (bytes_of here) n)), Done)
    (path_other here, (when_other (is_directory here) EISDIR refl, (when_other (nat_lt greatest_file n) EFBIG refl, tt))) refl
no_lack at t (Unlink p) =
    unless_other t (faults_of_unlink t p) (without t p, Done) (path_other (entry_at t p), (when_other (is_directory (entry_at t p)) EPERM refl, tt)) refl
no_lack at t (Rmdir p) =
    let here : At = entry_at t p in
    unless_other t (faults_of_rmdir t p) (without t p, Done)
    (when_other (is_root p) EBUSY refl, (path_other here, (when_other (is_file here) ENOTDIR refl, (when_other (is_full here) ENOTEMPTY refl, tt)))) refl
no_lack at t (Rename o n) =
    let from : At = entry_at t o in
    let to : At = entry_at t n in
    let moved : Outcome = (placed (without t o) n from, Done) in
    unless_other t (faults_of_rename_from t o) (cond (same_path o n) (t, Done) (unless t (faults_of_rename t o n) moved))
    (when_other (is_root o) EBUSY refl, (path_other from, tt))
    (either_other (same_path o n) (t, Done) (unless t (faults_of_rename t o n) moved) refl
    (unless_other t (faults_of_rename t o n) moved (when_other (is_directory from && is_under o n) EINVAL refl, (parent_other t n, (when_other (is_directory to && is_file from) EISDIR refl, (when_other (is_file to && is_directory from) ENOTDIR refl, (when_other (is_full to) ENOTEMPTY refl, (when_other (nat_lt 1023 (text_len n + deepest_at from)) ENAMETOOLONG refl, tt)))))) refl))
no_lack at t (Rmtree p) = unless_other t (faults_of_rmtree t p) (without t p, Done) (when_other (is_root p) EBUSY refl, (path_other (entry_at t p), tt)) refl
no_lack at t (Read p off n) =
    let here : At = entry_at t p in
    unless_other t (faults_of_read t p n) (t, Data (take n (drop off (bytes_of here)))) (path_other here, (when_other (is_directory here) EISDIR refl, (when_other (nat_lt greatest_read n) EINVAL refl, tt))) refl
no_lack at t (AskStat p) = unless_other t (faults_of_stat t p) (t, stat_of (entry_at t p)) (path_other (entry_at t p), tt) (stat_other (entry_at t p))
no_lack at t (Readdir p) =
    unless_other t (faults_of_readdir t p) (t, Names (names_of (entry_at t p))) (path_other (entry_at t p), (when_other (is_file (entry_at t p)) ENOTDIR refl, tt)) refl

-- no call is answered by want of memory in the table
pub never_lacks : (at : ℕ) (t : Tree) (c : Call) → (does at t c).1 ≢ Fault ENOMEM
never_lacks at t c e =
    let f : is_lack (Replied (changed at t c).1) ≡ true = ap (λ (r : Reply). is_lack (Replied r)) (sym (reply_is at t c) ∙ e) in
    let g : is_lack (Replied (changed at t c).1) ≡ false = no_lack at t c in
    cc
