-- Worked examples: scripts of calls from the empty tree, and their replies.
use Prim.Native.String.{String}
use Rattle.std.specs.Prelude.{◌≡◌, ℕ, ◌+◌, ◌/◌, ◌%◌, nat_lt, List, [], ◌∷◌, ◌++◌, codes, cond, replicate, map, Option, Some, option_map, Result, Ok, Err}
use Rattle.std.specs.FinMap as finmap
use Rattle.std.specs.List.{range_with_len}
use Rattle.pathkey.specs.Texts.{parsed}
use Rattle.pathkey.specs.declared.errno.Errno.{Errno}
use Rattle.pathkey.specs.declared.errno.Errno.TheVariants.{ENOENT, ENOTDIR, EISDIR, EEXIST, ENOTEMPTY, EPERM, EINVAL, ENAMETOOLONG, EFBIG, EBUSY, ENOSPC}
use Rattle.reference.specs.Tree.{Name, Path, Tree, Dir, nothing}
use Rattle.reference.specs.Calls.{does}
use Rattle.reference.specs.Image.{Text, First, Second, image}
use Rattle.reference.specs.Worlds.{World, Event, Ask, TakeSnapshot, DropSnapshot, RestoreSnapshot, Answer, Replied, Settled, outcome}
use Rattle.reference.specs.declared.call.Call.{Call}
use Rattle.reference.specs.declared.call.Call.TheVariants.{Mkdir, Create, Write, Truncate, Unlink, Rmdir, Rename, Rmtree, Read, Stat as AskStat, Readdir}
use Rattle.reference.specs.declared.reply.Kind.TheVariants.{Dir as Directory, File as Plain}
use Rattle.reference.specs.declared.reply.Reply.{Reply}
use Rattle.reference.specs.declared.reply.Reply.TheVariants.{Done, Count, Data, Stat, Names, Fault}

-- the path that a text parses to; the root if it is not a path
abbrev pub or_root : Result Path Errno → Path
or_root (Ok p) = p
or_root (Err e) = []

-- the path of a text
abbrev pub path : String → Path
path text = or_root (parsed (codes text))

-- the reply before those of the calls that follow
abbrev pub answer_first : Reply → Tree × List Reply → Tree × List Reply
answer_first r o = (o.0, r ∷ o.1)

-- the tree after a list of calls at time 0, and their replies
abbrev pub does_all : Tree → List Call → Tree × List Reply
does_all t [] = (t, [])
does_all t (c ∷ cs) = answer_first (does 0 t c).1 (does_all (does 0 t c).0 cs)

-- the replies of a list of calls, from the empty tree on
abbrev pub answers : List Call → List Reply
answers cs = (does_all (Dir 0 nothing) cs).1

-- a new directory is visible, with length 0
abbrev pub NewDirectory : Type 0
NewDirectory = answers (Mkdir (path "/a") ∷ AskStat (path "/a") ∷ []) ≡ Done ∷ Stat Directory 0 0 ∷ []

-- a missing parent and a file in its place are different errors
abbrev pub PrefixFaults : Type 0
PrefixFaults =
    answers (Mkdir (path "/x/y") ∷ Create (path "/x") ∷ Mkdir (path "/x/y") ∷ [])
    ≡ Fault ENOENT ∷ Done ∷ Fault ENOTDIR ∷ []

-- removing `/a` removes the entries below it, and not `/a-b`
abbrev pub SubtreeIsNotSibling : Type 0
SubtreeIsNotSibling =
    answers (Mkdir (path "/a") ∷ Create (path "/a/x") ∷ Create (path "/a-b") ∷ Rmtree (path "/a") ∷ Readdir (path "/") ∷ [])
    ≡ Done ∷ Done ∷ Done ∷ Done ∷ Names ((Plain, codes "a-b") ∷ []) ∷ []

-- bytes before the first written one are zero, and none past the end are returned
abbrev pub GapReadsAsZeros : Type 0
GapReadsAsZeros =
    answers (Create (path "/f") ∷ Write (path "/f") 4095 (170 ∷ 187 ∷ []) ∷ Read (path "/f") 4094 4 ∷ AskStat (path "/f") ∷ [])
    ≡ Done ∷ Count 2 ∷ Data (0 ∷ 170 ∷ 187 ∷ []) ∷ Stat Plain 4097 0 ∷ []

-- a file that is cut and extended again has zeros in place of the bytes that were cut
abbrev pub cut_and_lengthened : List Call
cut_and_lengthened =
    Create (path "/f") ∷ Write (path "/f") 0 (replicate 10 255) ∷ Truncate (path "/f") 5 ∷ Truncate (path "/f") 9000 ∷ Read (path "/f") 0 8 ∷ []

abbrev pub CutAndLengthened : Type 0
CutAndLengthened = answers cut_and_lengthened ≡ Done ∷ Count 10 ∷ Done ∷ Done ∷ Data (replicate 5 255 ++ replicate 3 0) ∷ []

-- the image of the tree after a list of calls, from the empty tree on
abbrev pub image_after : List Call → Text
image_after cs = image Second (does_all (Dir 0 nothing) cs).0

-- the empty tree's image has one line
abbrev pub EmptyImage : Type 0
EmptyImage = image_after [] ≡ codes "D / 0" ++ 10 ∷ []

-- the image has a file's length, and only those of its blocks that contain a nonzero byte
abbrev pub CutAndLengthenedImage : Type 0
CutAndLengthenedImage = image_after cut_and_lengthened ≡ codes "D / 0" ++ 10 ∷ [] ++ codes "F /f 9000 0" ++ 10 ∷ [] ++ codes "b 0 ffffffffff" ++ 10 ∷ []

-- a file has at most 2^40 bytes: a write that ends past them fails, and one of no bytes there does not
abbrev pub AtTheGreatestFile : Type 0
AtTheGreatestFile =
    answers (Create (path "/f") ∷ Write (path "/f") 1099511627775 (1 ∷ []) ∷ Write (path "/f") 1099511627776 (1 ∷ []) ∷ Write (path "/f") 1099511627776 [] ∷ AskStat (path "/f") ∷ Read (path "/f") 1099511627775 2 ∷ [])
    ≡ Done ∷ Count 1 ∷ Fault EFBIG ∷ Count 0 ∷ Stat Plain 1099511627776 0 ∷ Data (1 ∷ []) ∷ []

-- a directory cannot be moved below itself; to move it onto itself does nothing
abbrev pub RenameBelowItself : Type 0
RenameBelowItself =
    answers (Mkdir (path "/a") ∷ Mkdir (path "/a/b") ∷ Rename (path "/a") (path "/a/b/c") ∷ Rename (path "/a") (path "/a") ∷ Readdir (path "/a") ∷ [])
    ≡ Done ∷ Done ∷ Fault EINVAL ∷ Done ∷ Names ((Directory, codes "b") ∷ []) ∷ []

-- a directory replaces an empty directory, and neither a full one nor a file
abbrev pub RenameOntoDirectories : Type 0
RenameOntoDirectories =
    answers (Mkdir (path "/p") ∷ Mkdir (path "/q") ∷ Mkdir (path "/r") ∷ Create (path "/r/k") ∷ Create (path "/s")
    ∷ Rename (path "/p") (path "/r") ∷ Rename (path "/p") (path "/s") ∷ Rename (path "/p") (path "/q") ∷ Readdir (path "/") ∷ [])
    ≡ Done ∷ Done ∷ Done ∷ Done ∷ Done ∷ Fault ENOTEMPTY ∷ Fault ENOTDIR ∷ Done ∷ Names ((Directory, codes "q") ∷ (Directory, codes "r") ∷ (Plain, codes "s") ∷ []) ∷ []

-- nothing replaces a directory that contains it, and the root is not moved
abbrev pub RenameOntoAncestors : Type 0
RenameOntoAncestors =
    answers (Mkdir (path "/a") ∷ Create (path "/a/f") ∷ Mkdir (path "/a/d")
    ∷ Rename (path "/a/f") (path "/a") ∷ Rename (path "/a/d") (path "/a") ∷ Rename (path "/a/d") (path "/") ∷ Rename (path "/") (path "/b") ∷ [])
    ≡ Done ∷ Done ∷ Done ∷ Fault EISDIR ∷ Fault ENOTEMPTY ∷ Fault ENOTEMPTY ∷ Fault EBUSY ∷ []

-- a name of 254 bytes
abbrev pub long_name : Name
long_name = replicate 254 110

-- a directory is not moved where a path below it would get a text of more than 1,023 bytes
abbrev pub TooDeepToRename : Type 0
TooDeepToRename =
    answers (Mkdir (path "/a") ∷ Mkdir (path "/a" ++ replicate 1 long_name) ∷ Mkdir (path "/a" ++ replicate 2 long_name) ∷ Mkdir (path "/a" ++ replicate 3 long_name) ∷ Mkdir (path "/a" ++ replicate 4 long_name)
    ∷ Rename (path "/a") (path "/abc") ∷ Rename (path "/a") (path "/ab") ∷ [])
    ≡ Done ∷ Done ∷ Done ∷ Done ∷ Done ∷ Fault ENAMETOOLONG ∷ Done ∷ []

-- a file that replaces another leaves none of its bytes
abbrev pub ReplacedFile : Type 0
ReplacedFile =
    answers (Create (path "/f") ∷ Write (path "/f") 0 (170 ∷ []) ∷ Create (path "/g") ∷ Write (path "/g") 5000 (187 ∷ [])
    ∷ Rename (path "/f") (path "/g") ∷ Read (path "/g") 0 6000 ∷ AskStat (path "/f") ∷ Truncate (path "/g") 5001 ∷ Read (path "/g") 5000 1 ∷ [])
    ≡ Done ∷ Count 1 ∷ Done ∷ Count 1 ∷ Done ∷ Data (170 ∷ []) ∷ Fault ENOENT ∷ Done ∷ Data (0 ∷ []) ∷ []

-- the errors at directories, at files and at the root
abbrev pub FaultsOfEachKind : Type 0
FaultsOfEachKind =
    answers (Mkdir (path "/a") ∷ Unlink (path "/a") ∷ Unlink (path "/") ∷ Rmdir (path "/") ∷ Create (path "/f") ∷ Rmdir (path "/f") ∷ Unlink (path "/f/x")
    ∷ Read (path "/a") 0 1 ∷ Read (path "/f") 0 1048577 ∷ Read (path "/f") 9 1 ∷ [])
    ≡ Done ∷ Fault EPERM ∷ Fault EPERM ∷ Fault EBUSY ∷ Done ∷ Fault ENOTDIR ∷ Fault ENOTDIR ∷ Fault EISDIR ∷ Fault EINVAL ∷ Data [] ∷ []

-- ---- mtimes
-- the tree after a list of calls, each at its time, and their replies
abbrev pub does_each : Tree → List (ℕ × Call) → Tree × List Reply
does_each t [] = (t, [])
does_each t (c ∷ cs) = answer_first (does c.0 t c.1).1 (does_each (does c.0 t c.1).0 cs)

-- the replies of a list of calls, each at its time, from the empty tree on
abbrev pub answers_at : List (ℕ × Call) → List Reply
answers_at cs = (does_each (Dir 0 nothing) cs).1

-- a directory with a file that was written at a time before those of the directory
abbrev pub written_early : List (ℕ × Call)
written_early = (5, Mkdir (path "/a")) ∷ (9, Create (path "/a/f")) ∷ (7, Write (path "/a/f") 0 (170 ∷ [])) ∷ []

-- the calls that return the mtimes of those three
abbrev pub asked_each : ℕ → String → String → String → List (ℕ × Call)
asked_each at p q r = (at, AskStat (path p)) ∷ (at, AskStat (path q)) ∷ (at, AskStat (path r)) ∷ []

-- a new entry and its directory get the time of the call, a write sets the mtime of the file alone, and mtimes may decrease
abbrev pub MomentsOfCalls : Type 0
MomentsOfCalls =
    answers_at (written_early ++ asked_each 8 "/a" "/a/f" "/")
    ≡ Done ∷ Done ∷ Count 1 ∷ Stat Directory 0 9 ∷ Stat Plain 1 7 ∷ Stat Directory 0 5 ∷ []

-- a rename sets the mtime of both directories, and the entry that is moved keeps its own
abbrev pub MomentsOfRename : Type 0
MomentsOfRename =
    answers_at (written_early ++ (11, Rename (path "/a/f") (path "/g")) ∷ asked_each 12 "/g" "/a" "/")
    ≡ Done ∷ Done ∷ Count 1 ∷ Done ∷ Stat Plain 1 7 ∷ Stat Directory 0 11 ∷ Stat Directory 0 11 ∷ []

-- removing an entry sets the mtime of its directory; errors, an empty write and a rename onto itself set none
abbrev pub MomentsThatStay : Type 0
MomentsThatStay =
    answers_at (written_early ++ (20, Mkdir (path "/a")) ∷ (21, Write (path "/a/f") 3 []) ∷ (22, Rename (path "/a/f") (path "/a/f")) ∷ (23, Rmdir (path "/a")) ∷ asked_each 24 "/a" "/a/f" "/"
    ++ (3, Unlink (path "/a/f")) ∷ (25, AskStat (path "/a")) ∷ (2, Rmtree (path "/a")) ∷ (26, AskStat (path "/")) ∷ [])
    ≡ Done ∷ Done ∷ Count 1 ∷ Fault EEXIST ∷ Count 0 ∷ Done ∷ Fault ENOTEMPTY ∷ Stat Directory 0 9 ∷ Stat Plain 1 7 ∷ Stat Directory 0 5
    ∷ Done ∷ Stat Directory 0 3 ∷ Done ∷ Stat Directory 0 2 ∷ []

-- the image of version 2 has the mtimes, that of version 1 has not
abbrev pub MomentsInImages : Type 0
MomentsInImages =
    (image Second (does_each (Dir 0 nothing) written_early).0 ≡ codes "D / 5" ++ 10 ∷ codes "D /a 9" ++ 10 ∷ codes "F /a/f 1 7" ++ 10 ∷ codes "b 0 aa" ++ 10 ∷ [])
    × (image First (does_each (Dir 0 nothing) written_early).0 ≡ codes "d /" ++ 10 ∷ codes "d /a" ++ 10 ∷ codes "f /a/f 1" ++ 10 ∷ codes "b 0 aa" ++ 10 ∷ [])

-- ---- texts of paths
-- a name of 255 bytes is accepted, a longer one is not, and neither are texts that are no paths
abbrev pub NamesAtTheLimit : Type 0
NamesAtTheLimit =
    map parsed ((47 ∷ replicate 255 110) ∷ (47 ∷ replicate 256 110) ∷ codes "/a//b" ∷ codes "/a/" ∷ codes "a" ∷ codes "/.." ∷ (47 ∷ 0 ∷ []) ∷ [] ∷ [])
    ≡ Ok (replicate 255 110 ∷ []) ∷ Err ENAMETOOLONG ∷ Err EINVAL ∷ Err EINVAL ∷ Err EINVAL ∷ Err EINVAL ∷ Err EINVAL ∷ Err ENOENT ∷ []

-- ---- snapshots
-- the world with an empty tree and no snapshots
abbrev pub new_world : World
new_world = record { live = Dir 0 nothing; snapshots = finmap.empty }

-- the reply before those of the events that follow
abbrev pub reported_first : Answer → World × List Answer → World × List Answer
reported_first a o = (o.0, a ∷ o.1)

-- the world after a list of events, and their replies
abbrev pub happens_all : World → List Event → World × List Answer
happens_all w [] = (w, [])
happens_all w (e ∷ es) = reported_first (outcome w e).1 (happens_all (outcome w e).0 es)

-- the replies of a list of events, from the new world on
abbrev pub answers_of : List Event → List Answer
answers_of es = (happens_all new_world es).1

-- the reply of a reading call in the snapshot of that name, after a list of events
abbrev pub reported_in_snapshot : List Event → List ℕ → Call → Option Reply
reported_in_snapshot es s c = option_map (λ t. (does 0 t c).1) (finmap.get (happens_all new_world es).0.snapshots s)

-- a snapshot `s` was taken of a tree with `/a` and a file in it, and `/a` was then removed
abbrev pub kept_and_removed : List Event
kept_and_removed = Ask (Mkdir (path "/a")) 0 ∷ Ask (Create (path "/a/x")) 0 ∷ TakeSnapshot (codes "s") ∷ Ask (Rmtree (path "/a")) 0 ∷ []

-- a snapshot keeps its tree, whatever is done to the live tree
abbrev pub SnapshotKeepsItsTree : Type 0
SnapshotKeepsItsTree =
    answers_of (kept_and_removed ++ Ask (AskStat (path "/a")) 0 ∷ RestoreSnapshot (codes "s") ∷ Ask (Readdir (path "/a")) 0 ∷ [])
    ≡ Replied Done ∷ Replied Done ∷ Settled (Ok tt) ∷ Replied Done ∷ Replied (Fault ENOENT) ∷ Settled (Ok tt) ∷ Replied (Names ((Plain, codes "x") ∷ [])) ∷ []

-- and it is read unchanged
abbrev pub SnapshotIsRead : Type 0
SnapshotIsRead = reported_in_snapshot kept_and_removed (codes "s") (Readdir (path "/a")) ≡ Some (Names ((Plain, codes "x") ∷ []))

-- the name `s` with a number of one or two digits
abbrev pub numbered : ℕ → Name
numbered n = codes "s" ++ cond (nat_lt n 10) ((48 + n) ∷ []) ((48 + n / 10) ∷ (48 + n % 10) ∷ [])

-- the names `s1` to `s64`
abbrev pub sixty_four_names : List Name
sixty_four_names = map numbered (range_with_len 1 64)

-- there are at most 64 snapshots, of distinct names, and the name of one that was dropped may be used again
abbrev pub SnapshotNames : Type 0
SnapshotNames =
    answers_of (map TakeSnapshot sixty_four_names ++ TakeSnapshot (codes "s65") ∷ TakeSnapshot (codes "s1") ∷ DropSnapshot (codes "s1") ∷ TakeSnapshot (codes "s1") ∷ DropSnapshot (codes "zz") ∷ [])
    ≡ replicate 64 (Settled (Ok tt)) ++ Settled (Err ENOSPC) ∷ Settled (Err EEXIST) ∷ Settled (Ok tt) ∷ Settled (Ok tt) ∷ Settled (Err ENOENT) ∷ []
