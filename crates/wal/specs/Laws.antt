-- Laws of logs that are cut off or damaged, of what a crash leaves of them, and of their lines.
use Rattle.std.specs.Prelude.{◌≡◌, ◌≢◌, ◌≤◌, ◌+◌, ℕ, List, ◌++◌, length, take}
use Rattle.std.specs.List.{AllByRecursion}
use Rattle.pathkey.specs.Names.{Path}
use Rattle.reference.specs.Calls.{does}
use Rattle.reference.specs.Shape.{IsTree}
use Rattle.reference.specs.Tree.{Tree}
use Rattle.reference.specs.Worlds.{World}
use Rattle.reference.specs.declared.call.Call.TheVariants.{Write}
use Rattle.reference.specs.declared.reply.Reply.TheVariants.{Count}
use Rattle.wal.specs.Entries.{IsWord, body_of, IsChange, word}
use Rattle.wal.specs.Records.{AreBodies, Counts, LacksRecord, digest, front, magic, record_of, whole, written}
use Rattle.wal.specs.Replays.{bodies}
use Rattle.wal.specs.Runs.{Does}
use Rattle.wal.specs.declared.wal_entry.WalEntry.{WalEntry}

-- a body is that of one list of changes
abbrev pub OneBodyLaw : Type 0
OneBodyLaw = (cs ds : List WalEntry) → AllByRecursion IsChange cs → AllByRecursion IsChange ds → body_of cs ≡ body_of ds → cs ≡ ds

-- the bytes of a log determine its valid records
abbrev pub OneReadingLaw : Type 0
OneReadingLaw = (salt : List ℕ) (n : ℕ) (log : List ℕ) (bs cs : List (List ℕ)) (r s : List ℕ) → Counts salt n log bs r → Counts salt n log cs s → (bs ≡ cs) × (r ≡ s)

-- a change leads from a world to at most one
abbrev pub OneWorldLaw : Type 0
OneWorldLaw = (w m n : World) (c : WalEntry) → IsTree w.live → Does w c m → Does w c n → m ≡ n

-- in a log that is cut anywhere, exactly the records that are whole before the cut are valid
abbrev pub CutLaw : Type 0
CutLaw = (salt : List ℕ) (n k : ℕ) (bs : List (List ℕ)) → AreBodies bs → (rest : List ℕ) × Counts salt n (take k (written salt n bs)) (whole salt k n bs) rest

-- these are the first records of the log, and among them are all that are whole before byte k
abbrev pub FirstLaw : Type 0
FirstLaw = (salt : List ℕ) (n k : ℕ) (bs : List (List ℕ)) → (m : ℕ) × (m ≤ length bs) × (whole salt k n bs ≡ take m bs) × ((s : ℕ) → s ≤ length bs → length (written salt n (take s bs)) ≤ k → s ≤ m)

-- whatever follows the records, they are the first valid ones
abbrev pub TailLaw : Type 0
TailLaw = (salt : List ℕ) (n : ℕ) (bs cs : List (List ℕ)) (tail rest : List ℕ) → AreBodies bs → Counts salt n (written salt n bs ++ tail) cs rest → (ds : List (List ℕ)) × (cs ≡ bs ++ ds)

-- a record is no longer valid if its body is replaced by one of the same length with another digest
abbrev pub DigestLaw : Type 0
DigestLaw = (salt : List ℕ) (n : ℕ) (body other rest : List ℕ) → IsWord (length body) → length other ≡ length body → digest salt n other ≢ digest salt n body
    → LacksRecord salt n (front salt n (length body) ++ other ++ digest salt n body ++ rest)

-- a record of a log with another salt is not valid, if the digests differ
abbrev pub SaltLaw : Type 0
SaltLaw = (salt other : List ℕ) (n : ℕ) (body rest : List ℕ) → IsWord (length body) → digest other n body ≢ digest salt n body → LacksRecord salt n (record_of other n body ++ rest)

-- nor is one whose magic bytes or number became others
abbrev pub NumberLaw : Type 0
NumberLaw = (salt : List ℕ) (n : ℕ) (bytes : List ℕ) → take 16 bytes ≢ magic salt ++ word n → LacksRecord salt n bytes

-- the log of requests, from the record n on
abbrev pub log_of : List ℕ → ℕ → List (List WalEntry) → List ℕ
log_of salt n css = written salt n (bodies css)

-- A log was synced with its first s requests, more were appended, and a crash left a beginning of it that is no shorter than what was synced.
-- What counts of it are the first m requests, and m is no less than s.
abbrev pub CrashLaw : Type 0
CrashLaw = (salt : List ℕ) (n k s : ℕ) (css : List (List WalEntry)) → AreBodies (bodies css) → s ≤ length css → length (log_of salt n (take s css)) ≤ k
    → (m : ℕ) × (rest : List ℕ) × (s ≤ m) × (m ≤ length css) × Counts salt n (take k (log_of salt n css)) (bodies (take m css)) rest

-- whatever a crash left after the synced requests, those are the first that are replayed
abbrev pub SyncedLaw : Type 0
SyncedLaw = (salt : List ℕ) (n : ℕ) (css : List (List WalEntry)) (tail rest : List ℕ) (bs : List (List ℕ)) → AreBodies (bodies css) → Counts salt n (log_of salt n css ++ tail) bs rest
    → (ds : List (List ℕ)) × (bs ≡ bodies css ++ ds)

-- a write of x followed by y has the same effect as a write of x and then a write of y at the end of that, with the same
-- timestamp, provided that it succeeds
abbrev pub SplitLaw : Type 0
SplitLaw = (at : ℕ) (t : Tree) (p : Path) (off : ℕ) (x y : List ℕ) → IsTree t → (does at t (Write p off (x ++ y))).1 ≡ Count (length (x ++ y))
    → ((does at t (Write p off x)).1 ≡ Count (length x)) × (does at (does at t (Write p off x)).0 (Write p (off + length x) y) ≡ ((does at t (Write p off (x ++ y))).0, Count (length y)))
