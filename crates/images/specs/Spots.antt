-- Places between two lines of an image, and what is printed from one to another.
use Rattle.std.specs.Prelude.{◌≡◌, ◌⊎◌, ℕ, ◌*◌, ◌^◌, ◌<◌, ◌≤◌, true, List, [], ◌++◌, length, Option, Some, None, All, AllPairs, Contains}
use Rattle.message.specs.Ranges.{before, reaches}
use Rattle.pathkey.specs.Keys.{Key, enc, next_key}
use Rattle.reference.specs.Image.{Text}
use Rattle.reference.specs.Tree.{Path, Tree, entry_at}
use Rattle.reference.specs.declared.reply.Meta.{Meta}
use Rattle.reference.specs.declared.reply.Meta.TheVariants.{Dir as DirMeta, File as FileMeta}
use Rattle.images.specs.Image.{EndsLine, blocks_left, entry_text, image_from}
use Rattle.images.specs.declared.ahead.EntryReadahead.{EntryReadahead}
use Rattle.images.specs.declared.spot.PrintPosition.{PrintPosition}
use Rattle.volume.specs.Walks.{IsEntry}

-- the lines after a position
abbrev pub left_at : Tree → PrintPosition → Text
left_at t s = blocks_left (entry_at t s.last) s.from ++ image_from (next_key (enc s.last)) t

-- an entry of the tree is before it
abbrev pub IsAt : Tree → PrintPosition → Type 0
IsAt t s = (m : Meta) × IsEntry t s.last m

-- all lines of that entry do
abbrev pub IsPassed : Tree → PrintPosition → Type 0
IsPassed t s = blocks_left (entry_at t s.last) s.from ≡ []

-- the lines between two places were added to a text
pub record Passes (t : Tree) (old : PrintPosition) (had : Text) (new : PrintPosition) (has : Text) : Type 0 where
  pub lines : Text
  pub added : has ≡ had ++ lines
  pub left : left_at t old ≡ lines ++ left_at t new
  pub whole : EndsLine lines
  pub at : IsAt t new

-- ---- the next entries

-- the first n entries from a key on, or all if there are fewer: each is in the tree there, they are sorted, and none is missing unless
-- there are n before it
pub record AreFrom (t : Tree) (lo : Key) (n : ℕ) (es : List (Path × Meta)) : Type 0 where
  pub few : length es ≤ n
  pub sound : All (λ e. (reaches lo (enc e.0) ≡ true) × IsEntry t e.0 e.1) es
  pub rising : AllPairs (λ d e. before (enc d.0) (enc e.0) ≡ true) es
  pub complete : (p : Path) (m : Meta) → reaches lo (enc p) ≡ true → IsEntry t p m → Contains es (p, m) ⊎ ((length es ≡ n) × All (λ e. before (enc e.0) (enc p) ≡ true) es)

-- entries that were read ahead: the first ones after the one at a path, and if `all`, no other is left
pub record IsAhead (t : Tree) (last : Path) (a : EntryReadahead) : Type 0 where
  pub count : ℕ
  pub are : AreFrom t (next_key (enc last)) count a.entries.items
  pub all : a.all ≡ true → length a.entries.items < count

-- the lines of an entry follow those of the entry at a path
pub record IsNextAt (t : Tree) (last : Path) (e : Path × Meta) : Type 0 where
  pub is : IsEntry t e.0 e.1
  pub left : image_from (next_key (enc last)) t ≡ entry_text e.0 e.1 ++ left_at t (record { last = e.0; from = 0 })

-- the next entry, followed by those that were read ahead; none only if there is no further line
abbrev pub IsNext : Tree → Path → Option (Path × Meta) → EntryReadahead → Type 0
IsNext t last None a = (image_from (next_key (enc last)) t ≡ []) × IsAhead t last a
IsNext t last (Some e) a = IsNextAt t last e × IsAhead t e.0 a

-- how many bytes an entry has; a directory has none
abbrev pub size_of : Meta → ℕ
size_of (DirMeta at) = 0
size_of (FileMeta len at) = len

-- no block that begins after so many bytes of the entry has a line
abbrev pub EndsBy : Tree → Path → ℕ → Type 0
EndsBy t p len = (i : ℕ) → i < 2 ^ 32 → len ≤ i * 4096 → blocks_left (entry_at t p) i ≡ []
