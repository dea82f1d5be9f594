-- Differences of two trees of a volume.
use Rattle.std.specs.Prelude.{◌≡◌, ◌⊎◌, ℕ, List, [], ◌∷◌, ◌++◌, flat_map, Result, Ok, Err, Some, None}
use Rattle.std.specs.FinMap as finite
use Rattle.pathkey.specs.SnapNames.{snap_parsed}
use Rattle.pathkey.specs.declared.errno.Errno.{Errno}
use Rattle.pathkey.specs.declared.errno.Errno.TheVariants.{ENOENT, ENOMEM}
use Rattle.reference.specs.Tree.{Path, Tree}
use Rattle.reference.specs.Worlds.{World}
use Rattle.delta.specs.Applies.{IsDifference}
use Rattle.delta.specs.Changed.{AreChanged}
use Rattle.ffi_calls.specs.Images.{Prints}

-- the tree of the snapshot of that name
abbrev pub IsKept : Result (List ℕ) Errno → World → Tree → Type 0
IsKept (Err e) w t = ⊥
IsKept (Ok s) w t = finite.get w.snapshots s ≡ Some t

-- the tree that a text names: the live one if it is empty, otherwise that of the snapshot of that name
abbrev pub NamesTree : List ℕ → World → Tree → Type 0
NamesTree [] w t = t ≡ w.live
NamesTree (b ∷ name) w t = IsKept (snap_parsed (b ∷ name)) w t

-- why there is no snapshot of that name: the text is no name, or none has it
abbrev pub IsNotKept : Result (List ℕ) Errno → World → Errno → Type 0
IsNotKept (Err f) w e = e ≡ f
IsNotKept (Ok s) w e = (e ≡ ENOENT) × (finite.get w.snapshots s ≡ None)

-- why a text does not name a tree, or ENOMEM
abbrev pub LacksTree : List ℕ → World → Errno → Type 0
LacksTree [] w e = e ≡ ENOMEM
LacksTree (b ∷ name) w e = IsNotKept (snap_parsed (b ∷ name)) w e ⊎ (e ≡ ENOMEM)

-- the text names a tree
abbrev pub NamesOne : List ℕ → World → Type 0
NamesOne name w = (t : Tree) × NamesTree name w t

-- why the first of two texts does not name a tree; or, if it does, why the second does not; or ENOMEM
abbrev pub LacksOne : List ℕ → List ℕ → World → Errno → Type 0
LacksOne old new w e = LacksTree old w e ⊎ (NamesOne old w × LacksTree new w e)

-- the text is the difference of the trees that two texts name
abbrev pub DiffersSo : List ℕ → List ℕ → World → List ℕ → Type 0
DiffersSo old new w text = (t : Tree) × (u : Tree) × NamesTree old w t × NamesTree new w u × IsDifference text t u

-- the result is its size, and the buffer has it if it fits
abbrev pub PrintsDifference : List ℕ → List ℕ → World → Result ℕ Errno → List ℕ → List ℕ → Type 0
PrintsDifference old new w outcome before after = (text : List ℕ) × DiffersSo old new w text × Prints text outcome before after

-- ---- paths

-- the trees that two texts name differ at these paths
abbrev pub DifferAt : List ℕ → List ℕ → World → List Path → Type 0
DifferAt old new w ps = (t : Tree) × (u : Tree) × NamesTree old w t × NamesTree new w u × AreChanged t u ps

-- a slash and a name for each name; a slash for the root
abbrev pub path_bytes : Path → List ℕ
path_bytes [] = 47 ∷ []
path_bytes (n ∷ p) = flat_map (λ m. 47 ∷ m) (n ∷ p)

-- each path, and a byte 0 behind it
abbrev pub paths_bytes : List Path → List ℕ
paths_bytes ps = flat_map (λ p. path_bytes p ++ 0 ∷ []) ps

-- the result is the size of the list of these paths, and the buffer has it if it fits
abbrev pub PrintsChanged : List ℕ → List ℕ → World → Result ℕ Errno → List ℕ → List ℕ → Type 0
PrintsChanged old new w outcome before after = (ps : List Path) × DifferAt old new w ps × Prints (paths_bytes ps) outcome before after
