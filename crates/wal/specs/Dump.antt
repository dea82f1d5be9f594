-- How the lines of a script represent the changes of a log.
use Rattle.std.specs.Prelude.{◌≡◌, ◌≢◌, ◌⊎◌, ◌+◌, ◌^◌, ◌≤◌, nat_le, ℕ, List, [], ◌∷◌, ◌++◌, length, map, codes, Bool, true, false, Some, Result, Ok, Err, ⊤}
use Rattle.std.specs.List.{AllByRecursion}
use Rattle.pathkey.specs.Names.{Path}
use Rattle.pathkey.specs.declared.errno.Errno.{Errno}
use Rattle.pathkey.specs.declared.errno.Errno.TheVariants.{EFBIG, ENOMEM}
use Rattle.textio.specs.Lines.{lines_of, words_of}
use Rattle.textio.specs.Values.{bytes_of, number_of, path_of}
use Rattle.wal.specs.Entries.{RefusesBody, body_of}
use Rattle.wal.specs.Encode.{encoded}
use Rattle.wal.specs.declared.wal_entry.WalEntry.{WalEntry}
use Rattle.wal.specs.declared.wal_entry.WalEntry.TheVariants.{OnPath, Rename, Truncate, Write, Punch, SetMtime, CopyRange, Keep, Edits}
use Rattle.wal.specs.Lines.{DumpLine, At, Makes, call_word, keeping_word}

-- ---- which lines represent a change

-- the writes write consecutive parts of these bytes, from the offset on
abbrev pub AreParts : Path → ℕ → List ℕ → ℕ → List WalEntry → Type 0
AreParts p off w at [] = w ≡ []
AreParts p off w at (c ∷ cs) = (front : List ℕ) × (back : List ℕ) × (w ≡ front ++ back) × (c ≡ Write p off front at) × AreParts p (off + length front) back at cs

-- a write of some bytes
abbrev pub HasBytes : WalEntry → Type 0
HasBytes (Write p off w at) = w ≢ []
HasBytes _ = ⊤

-- a change is represented by a line with its timestamp, if it has one, and its own line. A write may be several writes, none of which is
-- empty unless it is empty itself; a hole, an mtime, a copied range and edits are only a note
abbrev pub Tells : WalEntry → List DumpLine → Type 0
Tells (OnPath what p at) ts = ts ≡ At at ∷ Makes (OnPath what p at) ∷ []
Tells (Rename o n at) ts = ts ≡ At at ∷ Makes (Rename o n at) ∷ []
Tells (Truncate p len at) ts = ts ≡ At at ∷ Makes (Truncate p len at) ∷ []
Tells (Write p off w at) ts = (cs : List WalEntry) × (cs ≢ []) × (ts ≡ At at ∷ map Makes cs) × AreParts p off w at cs × (w ≢ [] → AllByRecursion HasBytes cs)
Tells c ts = ts ≡ Makes c ∷ []

-- the changes are represented in order
abbrev pub TellAll : List WalEntry → List DumpLine → Type 0
TellAll [] ts = ts ≡ []
TellAll (c ∷ cs) ts = (front : List DumpLine) × (back : List DumpLine) × (ts ≡ front ++ back) × Tells c front × TellAll cs back

-- ---- what a reader parses from a line

-- the words are the name of the change, and words that are parsed as its path, number or bytes; a hole, an mtime and a copied range are notes,
-- and so are edits, of which the length is told
abbrev pub IsRead : List ℕ → DumpLine → Type 0
IsRead l (At n) = (w : List ℕ) × (words_of l ≡ codes "at" ∷ w ∷ []) × (number_of w ≡ Some n)
IsRead l (Makes (OnPath what p at)) = (w : List ℕ) × (words_of l ≡ call_word what ∷ w ∷ []) × (path_of w ≡ Ok p)
IsRead l (Makes (Rename o n at)) = (v : List ℕ) × (w : List ℕ) × (words_of l ≡ codes "rename" ∷ v ∷ w ∷ []) × (path_of v ≡ Ok o) × (path_of w ≡ Ok n)
IsRead l (Makes (Truncate p len at)) = (v : List ℕ) × (w : List ℕ) × (words_of l ≡ codes "truncate" ∷ v ∷ w ∷ []) × (path_of v ≡ Ok p) × (number_of w ≡ Some len)
IsRead l (Makes (Write p off b at)) = (u : List ℕ) × (v : List ℕ) × (w : List ℕ) × (words_of l ≡ codes "write" ∷ u ∷ v ∷ w ∷ []) × (path_of u ≡ Ok p) × (number_of v ≡ Some off) × (bytes_of w ≡ Some b)
IsRead l (Makes (Punch p off n at)) = (u : List ℕ) × (v : List ℕ) × (w : List ℕ) × (words_of l ≡ codes "#" ∷ codes "punch" ∷ u ∷ v ∷ w ∷ []) × (path_of u ≡ Ok p) × (number_of v ≡ Some off) × (number_of w ≡ Some n)
IsRead l (Makes (SetMtime p at)) = (v : List ℕ) × (w : List ℕ) × (words_of l ≡ codes "#" ∷ codes "mtime" ∷ v ∷ w ∷ []) × (path_of v ≡ Ok p) × (number_of w ≡ Some at)
IsRead l (Makes (CopyRange p off q to n at)) =
    (s : List ℕ) × (t : List ℕ) × (u : List ℕ) × (v : List ℕ) × (w : List ℕ) × (words_of l ≡ codes "#" ∷ codes "copy" ∷ s ∷ t ∷ u ∷ v ∷ w ∷ [])
    × (path_of s ≡ Ok p) × (number_of t ≡ Some off) × (path_of u ≡ Ok q) × (number_of v ≡ Some to) × (number_of w ≡ Some n)
IsRead l (Makes (Keep what s)) = words_of l ≡ keeping_word what ∷ s ∷ []
IsRead l (Makes (Edits b)) = (w : List ℕ) × (words_of l ≡ codes "#" ∷ codes "edits" ∷ w ∷ []) × (number_of w ≡ Some (length b))

-- the lines are parsed as these, one for one, and none is too long for a script
abbrev pub AreRead : List (List ℕ) → List DumpLine → Type 0
AreRead [] [] = ⊤
AreRead (l ∷ ls) (t ∷ ts) = (length l ≤ 65536) × IsRead l t × AreRead ls ts
AreRead _ _ = ⊥

-- the lines of the text represent the changes of a body
abbrev pub IsScriptOf : List ℕ → List ℕ → Type 0
IsScriptOf body text = (cs : List WalEntry) × (ts : List DumpLine) × (body ≡ body_of cs) × TellAll cs ts × AreRead (lines_of text) ts

-- ---- errors

-- a write that ends after byte 2^64 - 1
abbrev pub exceeds_range : WalEntry → Bool
exceeds_range (Write p off w at) = nat_le (2 ^ 64) (off + length w)
exceeds_range _ = false

abbrev pub HasFar : List WalEntry → Type 0
HasFar [] = ⊥
HasFar (c ∷ cs) = (exceeds_range c ≡ true) ⊎ HasFar cs

abbrev pub RefusesTelling : List WalEntry → Errno → Type 0
RefusesTelling cs e = ((e ≡ EFBIG) × HasFar cs) ⊎ (e ≡ ENOMEM)

-- why a body is not printed: it is not valid, one of its writes ends too far, or an allocation failed
abbrev pub RefusesLines : List ℕ → Errno → Type 0
RefusesLines body e = RefusesBody body e ⊎ ((e ≡ EFBIG) × (cs : List WalEntry) × (body ≡ body_of cs) × HasFar cs)

-- the buffer has the lines of a body if they fit, and the result is their length; or it failed, and nothing changed
abbrev pub EncodesLines : List ℕ → Result ℕ Errno → List ℕ → List ℕ → Type 0
EncodesLines body (Ok n) old new = (text : List ℕ) × IsScriptOf body text × (n ≡ length text) × (new ≡ encoded text old)
EncodesLines body (Err e) old new = RefusesLines body e × (new ≡ old)
