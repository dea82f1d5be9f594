-- A directory tree, the walk along a path, and the tree with one entry added or removed (POSIX.1-2017, 4.13 Pathname
-- Resolution, for files and directories without links).
use Rattle.std.specs.Prelude.{ℕ, ◌+◌, ◌-◌, List, [], ◌∷◌, ◌++◌, length, take, drop, replicate, cond, Option, Some, None, option_map, fold}
use Rattle.std.specs.declared.cmp.Ordering.{Ordering}
use Rattle.std.specs.declared.cmp.Ordering.TheVariants.{Less, Equal, Greater}
pub use Rattle.pathkey.specs.Order.{by_bytes, same}
pub use Rattle.pathkey.specs.Names.{Name, Path}

-- a directory of named entries, or a file of bytes, each with its mtime
mutual
  pub data Tree : Type 0 where
    Dir : ℕ → Entries → Tree
    File : ℕ → List ℕ → Tree

  pub data Entries : Type 0 where
    nothing : Entries
    entry : Name → Tree → Entries → Entries

-- the first if the order is less, the second if equal, the third if greater
abbrev pub by_order : {A : Type 0} → Ordering → A → A → A → A
by_order Less a b c = a
by_order Equal a b c = b
by_order Greater a b c = c

-- the entry of that name
abbrev pub named : Name → Entries → Option Tree
named n nothing = None
named n (entry m x rest) = cond (same n m) (Some x) (named n rest)

-- the entries with x under the name n, in byte order
abbrev pub put : Name → Tree → Entries → Entries
put n x nothing = entry n x nothing
put n x (entry m y rest) = by_order (by_bytes n m) (entry n x (entry m y rest)) (entry n x rest) (entry m y (put n x rest))

-- the entries without the name n
abbrev pub take_out : Name → Entries → Entries
take_out n nothing = nothing
take_out n (entry m y rest) = cond (same n m) (take_out n rest) (entry m y (take_out n rest))

-- what is at a path: an entry; nothing; or a component of the path's prefix is a file
pub data At : Type 0 where
  Found : Tree → At
  Missing : At
  Blocked : At

abbrev pub found : Option Tree → At
found None = Missing
found (Some x) = Found x

-- one step of the walk
abbrev pub onward : At → Name → At
onward (Found (Dir date es)) n = found (named n es)
onward (Found (File date b)) n = Blocked
onward Missing n = Missing
onward Blocked n = Blocked

-- what is at a path: the walk along its names from the root
abbrev pub entry_at : Tree → Path → At
entry_at t p = fold onward (Found t) p

-- one name of a directory added, or removed
abbrev pub set_entry : Name → Option Tree → Entries → Entries
set_entry n (Some x) es = put n x es
set_entry n None es = take_out n es

-- the tree with the entry at a path added or removed, each directory on the way keeping its mtime; unchanged at the root, and
-- if the path's parent is not a directory
abbrev pub edited : Tree → Path → Option Tree → Tree
edited t [] o = t
edited (File date b) (n ∷ p) o = File date b
edited (Dir date es) (n ∷ []) o = Dir date (set_entry n o es)
edited (Dir date es) (n ∷ m ∷ p) o = Dir date (set_entry n (option_map (λ x. edited x (m ∷ p) o) (named n es)) es)

abbrev pub with_entry : Tree → Path → Tree → Tree
with_entry t p x = edited t p (Some x)

abbrev pub without : Tree → Path → Tree
without t p = edited t p None

-- ---- mtimes
-- the mtime
abbrev pub moment : Tree → ℕ
moment (Dir date es) = date
moment (File date b) = date

-- the mtime of the entry at the path; 0 if there is none
abbrev pub moment_there : At → ℕ
moment_there (Found x) = moment x
moment_there _ = 0

-- the same directory or file with another mtime
abbrev pub dated : ℕ → Tree → Tree
dated at (Dir date es) = Dir at es
dated at (File date b) = File at b

-- the tree with another mtime at a path, which may be the root; unchanged if the path does not exist
abbrev pub touched : ℕ → Tree → Path → Tree
touched at t [] = dated at t
touched at (File date b) (n ∷ p) = File date b
touched at (Dir date es) (n ∷ p) = Dir date (set_entry n (option_map (λ x. touched at x p) (named n es)) es)

-- the same at each of the paths, one after the other
abbrev pub all_touched : ℕ → Tree → List Path → Tree
all_touched at t [] = t
all_touched at t (p ∷ ps) = all_touched at (touched at t p) ps

-- ---- bytes
-- b extended with zeros to off if it is shorter, then overwritten with v from off on
abbrev pub over : List ℕ → ℕ → List ℕ → List ℕ
over b off v = take off b ++ replicate (off - length b) 0 ++ v ++ drop (off + length v) b

-- the first n bytes of b, extended with zeros to n
abbrev pub sized : List ℕ → ℕ → List ℕ
sized b n = take n b ++ replicate (n - length b) 0
