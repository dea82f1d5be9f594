-- Which trees are directory trees.
use Rattle.std.specs.Prelude.{◌≡◌, ℕ, ◌<◌, ◌≤◌, ◌^◌, List, length, All}
use Rattle.std.specs.declared.cmp.Ordering.TheVariants.{Less}
use Rattle.pathkey.specs.Names.{IsPath}
use Rattle.reference.specs.Tree.{Name, Path, Tree, Dir, File, Entries, nothing, entry, entry_at, Found, by_bytes, moment}
use Rattle.reference.specs.declared.call.Call.{Call}
use Rattle.reference.specs.declared.call.Call.TheVariants.{Mkdir, Create, Write, Truncate, Unlink, Rmdir, Rename, Rmtree, Read, Stat as AskStat, Readdir}

-- every name of the entries is above n
abbrev pub AllAbove : Name → Entries → Type 0
AllAbove n nothing = Unit {0}
AllAbove n (entry m x rest) = (by_bytes n m ≡ Less) × AllAbove n rest

-- the names of each directory rise strictly, in byte order
abbrev mutual
  pub Rising : Tree → Type 0
  Rising (Dir date es) = RisingEntries es
  Rising (File date b) = Unit {0}

  pub RisingEntries : Entries → Type 0
  RisingEntries nothing = Unit {0}
  RisingEntries (entry n x rest) = AllAbove n rest × Rising x × RisingEntries rest

abbrev pub IsDirectory : Tree → Type 0
IsDirectory (Dir date es) = Unit {0}
IsDirectory (File date b) = ⊥

-- numbers that are bytes
abbrev pub AreBytes : List ℕ → Type 0
AreBytes b = All (λ x. x < 256) b

-- an mtime
abbrev pub IsMoment : ℕ → Type 0
IsMoment at = at < 2 ^ 64

-- the content that a file may have: at most 2^40 bytes
pub record IsContent (b : List ℕ) : Type 0 where
  pub few : length b ≤ 2 ^ 40
  pub bytes : AreBytes b

-- a directory tree: its root is a directory, names rise in each directory, every entry's path is a path, every file has content
-- that a file may have, and every mtime is one
pub record IsTree (t : Tree) : Type 0 where
  pub root : IsDirectory t
  pub rising : Rising t
  pub paths : (p : Path) (x : Tree) → entry_at t p ≡ Found x → IsPath p
  pub files : (p : Path) (date : ℕ) (b : List ℕ) → entry_at t p ≡ Found (File date b) → IsContent b
  pub moments : (p : Path) (x : Tree) → entry_at t p ≡ Found x → IsMoment (moment x)

-- a valid call: its paths are paths and its bytes are bytes
abbrev pub IsCall : Call → Type 0
IsCall (Mkdir p) = IsPath p
IsCall (Create p) = IsPath p
IsCall (Write p off w) = IsPath p × AreBytes w
IsCall (Truncate p n) = IsPath p
IsCall (Unlink p) = IsPath p
IsCall (Rmdir p) = IsPath p
IsCall (Rename o n) = IsPath o × IsPath n
IsCall (Rmtree p) = IsPath p
IsCall (Read p off n) = IsPath p
IsCall (AskStat p) = IsPath p
IsCall (Readdir p) = IsPath p
