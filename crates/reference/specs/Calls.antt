-- The effect of each file call at a time on a tree, and its reply: the table of calls, case by case, the first match deciding
-- (POSIX.1-2017: mkdir, open, pwrite, truncate, unlink, rmdir, rename, pread, stat, readdir; where POSIX leaves a choice, the
-- profile makes it once, here).
use Rattle.std.specs.Prelude.{ℕ, ◌+◌, ◌^◌, max, nat_lt, List, [], ◌∷◌, ◌++◌, length, take, drop, Bool, true, false, cond, not, ◌&&◌, Option, Some, None}
pub use Rattle.pathkey.specs.Names.{is_root, parent, is_under, same_path, text_len}
pub use Rattle.pathkey.specs.Outcomes.{when}
use Rattle.reference.specs.Tree.{Name, Path, Tree, Dir, File, Entries, nothing, entry, At, Found, Missing, Blocked, entry_at, with_entry, without, over, sized, touched}
use Rattle.reference.specs.declared.call.Call.{Call}
use Rattle.reference.specs.declared.call.Call.TheVariants.{Mkdir, Create, Write, Truncate, Unlink, Rmdir, Rename, Rmtree, Read, Stat as AskStat, Readdir}
use Rattle.reference.specs.declared.reply.Reply.{Reply}
use Rattle.reference.specs.declared.reply.Reply.TheVariants.{Done, Count, Data, Stat, Names, Fault}
use Rattle.reference.specs.declared.reply.Kind.{Kind}
use Rattle.reference.specs.declared.reply.Kind.TheVariants.{Dir as Directory, File as Plain}
use Rattle.pathkey.specs.declared.errno.Errno.{Errno}
use Rattle.pathkey.specs.declared.errno.Errno.TheVariants.{ENOENT, ENOTDIR, EISDIR, EEXIST, ENOTEMPTY, EPERM, EINVAL, ENAMETOOLONG, EFBIG, EBUSY}

-- the path exists
abbrev pub is_found : At → Bool
is_found (Found x) = true
is_found _ = false

-- the path is a directory
abbrev pub is_directory : At → Bool
is_directory (Found (Dir date es)) = true
is_directory _ = false

-- the path is a file
abbrev pub is_file : At → Bool
is_file (Found (File date b)) = true
is_file _ = false

-- a directory with an entry
abbrev pub is_full : At → Bool
is_full (Found (Dir date (entry n x es))) = true
is_full _ = false

-- the bytes of the file at the path
abbrev pub bytes_of : At → List ℕ
bytes_of (Found (File date b)) = b
bytes_of _ = []

-- the error if a path is not found: a component is absent, or a component of its prefix is a file
abbrev pub path_fault : At → Option Errno
path_fault (Found x) = None
path_fault Missing = Some ENOENT
path_fault Blocked = Some ENOTDIR

-- the error if a path is not a directory
abbrev pub no_directory_fault : At → Option Errno
no_directory_fault (Found (Dir date es)) = None
no_directory_fault (Found (File date b)) = Some ENOTDIR
no_directory_fault Missing = Some ENOENT
no_directory_fault Blocked = Some ENOTDIR

-- the error if an entry cannot be created at a path, because its parent is not a directory (none at the root)
abbrev pub parent_fault : Tree → Path → Option Errno
parent_fault t [] = None
parent_fault t (n ∷ p) = no_directory_fault (entry_at t (parent (n ∷ p)))

abbrev pub is_empty : List ℕ → Bool
is_empty [] = true
is_empty (b ∷ bs) = false

-- the longest text from a tree down to an entry below it
abbrev mutual
  pub deepest : Tree → ℕ
  deepest (Dir date es) = deepest_of es
  deepest (File date b) = 0

  pub deepest_of : Entries → ℕ
  deepest_of nothing = 0
  deepest_of (entry n x rest) = max (1 + length n + deepest x) (deepest_of rest)

-- whether an entry is a directory or a file
abbrev pub kind_of : Tree → Kind
kind_of (Dir date es) = Directory
kind_of (File date b) = Plain

-- the kinds and names of entries, in their order
abbrev pub listing : Entries → List (Kind × Name)
listing nothing = []
listing (entry n x rest) = (kind_of x, n) ∷ listing rest

-- the tree after a call, and the reply
abbrev pub Outcome : Type 0
Outcome = Tree × Reply

-- the first error of the list, if there is one
abbrev pub first_fault : List (Option Errno) → Option Errno
first_fault [] = None
first_fault (None ∷ faults) = first_fault faults
first_fault (Some e ∷ faults) = Some e

-- the first error of the list, with the tree unchanged; or else the outcome
abbrev pub unless : Tree → List (Option Errno) → Outcome → Outcome
unless t [] o = o
unless t (None ∷ faults) o = unless t faults o
unless t (Some e ∷ faults) o = (t, Fault e)

-- the maximum length of a file, and the maximum number of bytes of one read
abbrev pub greatest_file : ℕ
greatest_file = 2 ^ 40

abbrev pub greatest_read : ℕ
greatest_read = 1048576

-- the errors of `mkdir` and `create`
abbrev pub faults_of_new : Tree → Path → List (Option Errno)
faults_of_new t p = when (is_root p) EEXIST ∷ parent_fault t p ∷ when (is_found (entry_at t p)) EEXIST ∷ []

-- `mkdir` and `create`: a new entry, if its parent is a directory and the path does not exist
abbrev pub made : Tree → Path → Tree → Outcome
made t p x = unless t (faults_of_new t p) (with_entry t p x, Done)

-- the error if the path is not a file; e is the error for a directory
abbrev pub faults_of_file : At → Errno → List (Option Errno)
faults_of_file here e = path_fault here ∷ when (is_directory here) e ∷ []

-- the errors of `write`; a write of no bytes is never too long, at any offset
abbrev pub faults_of_write : Tree → Path → ℕ → List ℕ → List (Option Errno)
faults_of_write t p off w = faults_of_file (entry_at t p) EISDIR ++ when (not (is_empty w) && nat_lt greatest_file (off + length w)) EFBIG ∷ []

-- `write` at a time: the bytes overwrite the file, which is extended with zeros if it is shorter and gets the time as its
-- mtime; a write of no bytes changes nothing
abbrev pub written : ℕ → Tree → Path → ℕ → List ℕ → Outcome
written at t p off w =
    unless t (faults_of_write t p off w)
    (cond (is_empty w) (t, Count 0) (with_entry t p (File at (over (bytes_of (entry_at t p)) off w)), Count (length w)))

-- the errors of `truncate`
abbrev pub faults_of_truncate : Tree → Path → ℕ → List (Option Errno)
faults_of_truncate t p n = faults_of_file (entry_at t p) EISDIR ++ when (nat_lt greatest_file n) EFBIG ∷ []

-- `truncate` at a time: the file cut to n bytes, or extended with zeros to n, with the time as its mtime
abbrev pub truncated : ℕ → Tree → Path → ℕ → Outcome
truncated at t p n = unless t (faults_of_truncate t p n) (with_entry t p (File at (sized (bytes_of (entry_at t p)) n)), Done)

-- the errors of `unlink`
abbrev pub faults_of_unlink : Tree → Path → List (Option Errno)
faults_of_unlink t p = faults_of_file (entry_at t p) EPERM

-- `unlink`: the file removed; a directory is an error
abbrev pub unlinked : Tree → Path → Outcome
unlinked t p = unless t (faults_of_unlink t p) (without t p, Done)

-- the errors of `rmdir`
abbrev pub faults_of_rmdir : Tree → Path → List (Option Errno)
faults_of_rmdir t p =
    let here = entry_at t p in
    when (is_root p) EBUSY ∷ path_fault here ∷ when (is_file here) ENOTDIR ∷ when (is_full here) ENOTEMPTY ∷ []

-- `rmdir`: the empty directory removed
abbrev pub directory_removed : Tree → Path → Outcome
directory_removed t p = unless t (faults_of_rmdir t p) (without t p, Done)

-- the errors of `rmtree`
abbrev pub faults_of_rmtree : Tree → Path → List (Option Errno)
faults_of_rmtree t p = when (is_root p) EBUSY ∷ path_fault (entry_at t p) ∷ []

-- `rmtree`: the entry removed with all entries below it
abbrev pub removed : Tree → Path → Outcome
removed t p = unless t (faults_of_rmtree t p) (without t p, Done)

-- the tree with the entry of another path put at a path
abbrev pub placed : Tree → Path → At → Tree
placed t p (Found x) = with_entry t p x
placed t p _ = t

-- the longest text below the entry at the path
abbrev pub deepest_at : At → ℕ
deepest_at (Found x) = deepest x
deepest_at _ = 0

-- the errors of `rename` that depend on the old path alone
abbrev pub faults_of_rename_from : Tree → Path → List (Option Errno)
faults_of_rename_from t o = when (is_root o) EBUSY ∷ path_fault (entry_at t o) ∷ []

-- the error if the entry at one path cannot replace the entry at another
abbrev pub faults_of_replacing : At → At → List (Option Errno)
faults_of_replacing from to =
    when (is_directory to && is_file from) EISDIR ∷ when (is_file to && is_directory from) ENOTDIR ∷ when (is_full to) ENOTEMPTY ∷ []

-- the errors of moving the entry at o to another path n, whatever the length of its texts
abbrev pub faults_of_place : Tree → Path → Path → List (Option Errno)
faults_of_place t o n =
    let from = entry_at t o in
    when (is_directory from && is_under o n) EINVAL ∷ parent_fault t n ∷ faults_of_replacing from (entry_at t n)

-- the errors of `rename` from o to another path n: the last is that a text would get too long
abbrev pub faults_of_rename : Tree → Path → Path → List (Option Errno)
faults_of_rename t o n = faults_of_place t o n ++ when (nat_lt 1023 (text_len n + deepest_at (entry_at t o))) ENAMETOOLONG ∷ []

-- `rename`: the entry removed at o and put at n, where it may replace a file or an empty directory
abbrev pub renamed : Tree → Path → Path → Outcome
renamed t o n =
    unless t (faults_of_rename_from t o)
    (cond (same_path o n) (t, Done) (unless t (faults_of_rename t o n) (placed (without t o) n (entry_at t o), Done)))

-- the errors of `read`
abbrev pub faults_of_read : Tree → Path → ℕ → List (Option Errno)
faults_of_read t p n = faults_of_file (entry_at t p) EISDIR ++ when (nat_lt greatest_read n) EINVAL ∷ []

-- `read`: at most n bytes at the offset off, none past the end
abbrev pub read : Tree → Path → ℕ → ℕ → Outcome
read t p off n = unless t (faults_of_read t p n) (t, Data (take n (drop off (bytes_of (entry_at t p)))))

-- the kind, the length and the mtime of the entry at the path; a directory has length 0
abbrev pub stat_of : At → Reply
stat_of (Found (File date b)) = Stat Plain (length b) date
stat_of (Found (Dir date es)) = Stat Directory 0 date
stat_of _ = Stat Directory 0 0

-- the errors of `stat`
abbrev pub faults_of_stat : Tree → Path → List (Option Errno)
faults_of_stat t p = path_fault (entry_at t p) ∷ []

-- `stat`
abbrev pub asked : Tree → Path → Outcome
asked t p = unless t (faults_of_stat t p) (t, stat_of (entry_at t p))

-- what a directory lists
abbrev pub names_of : At → List (Kind × Name)
names_of (Found (Dir date es)) = listing es
names_of _ = []

-- the errors of `readdir`
abbrev pub faults_of_readdir : Tree → Path → List (Option Errno)
faults_of_readdir t p = path_fault (entry_at t p) ∷ when (is_file (entry_at t p)) ENOTDIR ∷ []

-- `readdir`
abbrev pub listed : Tree → Path → Outcome
listed t p = unless t (faults_of_readdir t p) (t, Names (names_of (entry_at t p)))

-- the tree after a call at a time, except for the mtimes of existing directories, and the reply: for each of the eleven calls.
-- A new entry, and a file whose bytes change, get the time of the call as their mtime
unfoldable pub changed : ℕ → Tree → Call → Outcome
changed at t (Mkdir p) = made t p (Dir at nothing)
changed at t (Create p) = made t p (File at [])
changed at t (Write p off w) = written at t p off w
changed at t (Truncate p n) = truncated at t p n
changed at t (Unlink p) = unlinked t p
changed at t (Rmdir p) = directory_removed t p
changed at t (Rename o n) = renamed t o n
changed at t (Rmtree p) = removed t p
changed at t (Read p off n) = read t p off n
changed at t (AskStat p) = asked t p
changed at t (Readdir p) = listed t p

-- two paths, or one if they are equal
abbrev pub once : Path → Path → List Path
once p q = cond (same_path p q) (p ∷ []) (p ∷ q ∷ [])

-- the directories in which the call, if it succeeds, adds or removes an entry
abbrev pub parents_of : Call → List Path
parents_of (Mkdir p) = parent p ∷ []
parents_of (Create p) = parent p ∷ []
parents_of (Unlink p) = parent p ∷ []
parents_of (Rmdir p) = parent p ∷ []
parents_of (Rmtree p) = parent p ∷ []
parents_of (Rename o n) = cond (same_path o n) [] (once (parent o) (parent n))
parents_of _ = []

-- the reply of a call that succeeded and returns nothing
abbrev pub is_done : Reply → Bool
is_done Done = true
is_done _ = false

-- if the call succeeded, the entry at the path gets the time as its mtime
abbrev pub touching : ℕ → Path → Outcome → Outcome
touching at p o = (cond (is_done o.1) (touched at o.0 p) o.0, o.1)

-- and so at each of the paths, one after the other
abbrev pub all_touching : ℕ → List Path → Outcome → Outcome
all_touching at [] o = o
all_touching at (p ∷ ps) o = all_touching at ps (touching at p o)

-- the tree after a call at a time, and the reply: the call's change, and the mtime of the directories in which it adds or
-- removes an entry
unfoldable pub does : ℕ → Tree → Call → Outcome
does at t c = all_touching at (parents_of c) (changed at t c)
