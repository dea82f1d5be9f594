-- The replies of the table of calls, from the entry at a path.
use Rattle.std.proofs.Common.{◌≡◌, ℕ, [], ◌∷◌, refl, ap, Some, None}
use Rattle.pathkey.specs.Names.{Path}
use Rattle.pathkey.specs.declared.errno.Errno.{Errno}
use Rattle.pathkey.specs.declared.errno.Errno.TheVariants.{ENOTDIR}
use Rattle.reference.specs.Tree.{Tree, Dir, File, At, Found, Missing, Blocked, entry_at}
use Rattle.reference.specs.Calls.{when, unless, is_file, path_fault, no_directory_fault, stat_of, names_of, changed, does}
use Rattle.reference.specs.declared.call.Call.TheVariants.{Stat as AskStat, Readdir}
use Rattle.reference.specs.declared.reply.Reply.TheVariants.{Names, Fault}
use Rattle.reference.proofs.CallCases.{asked_keeps, listed_keeps}
use Rattle.call_compiler.specs.Compiled.{stat_at}

-- ---- stat

asked_of : (t : Tree) (here : At) → stat_at here ≡ (unless t (path_fault here ∷ []) (t, stat_of here)).1
asked_of t (Found x) = refl
asked_of t Missing = refl
asked_of t Blocked = refl

-- the entry at the path is reported
pub stat_replies : (at : ℕ) (t : Tree) (p : Path) → stat_at (entry_at t p) ≡ (does at t (AskStat p)).1
unfolding does changed
stat_replies at t p = asked_of t (entry_at t p)

-- and nothing changes
pub stat_keeps : (at : ℕ) (t : Tree) (p : Path) → (does at t (AskStat p)).0 ≡ t
unfolding does changed
stat_keeps at t p = asked_keeps t p

-- ---- readdir

listed_fault : (t : Tree) (here : At) (e : Errno) → Some e ≡ no_directory_fault here → Fault e ≡ (unless t (path_fault here ∷ when (is_file here) ENOTDIR ∷ []) (t, Names (names_of here))).1
listed_fault t (Found (Dir date es)) e h = absurd (cc)
listed_fault t (Found (File date b)) e h = let f : e ≡ ENOTDIR = cc in ap Fault f
listed_fault t Missing e h = let f : Some e ≡ path_fault Missing = h in cc
listed_fault t Blocked e h = let f : Some e ≡ path_fault Blocked = h in cc

listed_of : (t : Tree) (here : At) → None ≡ no_directory_fault here → Names (names_of here) ≡ (unless t (path_fault here ∷ when (is_file here) ENOTDIR ∷ []) (t, Names (names_of here))).1
listed_of t (Found (Dir date es)) h = refl
listed_of t (Found (File date b)) h = absurd (cc)
listed_of t Missing h = absurd (cc)
listed_of t Blocked h = absurd (cc)

-- an entry that is not a directory fails
pub readdir_refused : (at : ℕ) (t : Tree) (p : Path) (e : Errno) → Some e ≡ no_directory_fault (entry_at t p) → Fault e ≡ (does at t (Readdir p)).1
unfolding does changed
readdir_refused at t p e h = listed_fault t (entry_at t p) e h

-- the entries of a directory are reported
pub readdir_replies : (at : ℕ) (t : Tree) (p : Path) → None ≡ no_directory_fault (entry_at t p) → Names (names_of (entry_at t p)) ≡ (does at t (Readdir p)).1
unfolding does changed
readdir_replies at t p h = listed_of t (entry_at t p) h

-- and nothing changes
pub readdir_keeps : (at : ℕ) (t : Tree) (p : Path) → (does at t (Readdir p)).0 ≡ t
unfolding does changed
readdir_keeps at t p = listed_keeps t p
