-- A printed line is parsed as the change that it represents.
use Rattle.std.proofs.Common.{◌≡◌, ◌≢◌, ⊎_elim, ℕ, ◌+◌, ◌*◌, ◌≤◌, nat_le, List, [], ◌∷◌, ◌++◌, length, map, true, refl, sym, ap, ◌∙◌, arith, append_assoc, length-append, Some, Ok, decimal, flat_map, codes, All}
use Rattle.std.specs.List.{AllByRecursion, list_all}
use Rattle.std.proofs.lemmas.Bool.{and_parts, leb-true}
use Rattle.std.proofs.lemmas.Bool.Decides.{nat_tests}
use Rattle.std.proofs.lemmas.Fmt.{length-decimal-le}
use Rattle.std.proofs.lemmas.List.Elements.{All-from_recursion}
use Rattle.pathkey.specs.Names.{Name, Path, IsPath, text_len}
use Rattle.pathkey.specs.SnapNames.{is_snap_byte, is_snap_name}
use Rattle.pathkey.proofs.Pieces.{pieces_cut}
use Rattle.reference.specs.Image.{Text, path_text, percent, two_digits}
use Rattle.reference.proofs.ImageTexts.{Visible, decimal_visible, path_visible, percent_cases}
use Rattle.textio.specs.Lines.{lines_of, words_of}
use Rattle.textio.specs.Texts.{hex_text}
use Rattle.textio.specs.Values.{number_of, path_of}
use Rattle.textio.proofs.WordFacts.{more_words, one_word}
use Rattle.textio.proofs.Written.{all_visible, bytes_reported, hex_text_visible, number_reported, path_read, root_read}
use Rattle.wal.specs.Entries.{IsWord}
use Rattle.wal.specs.declared.wal_entry.WalEntry.TheVariants.{OnPath, Rename, Truncate, Write, Punch, SetMtime, CopyRange, Keep, Edits}
use Rattle.wal.specs.declared.wal_entry.SnapshotCall.{SnapshotCall}
use Rattle.wal.specs.declared.wal_entry.SnapshotCall.TheVariants.{Snapshot, Remove, Restore}
use Rattle.reference.specs.declared.path_call.PathCall.{PathCall}
use Rattle.reference.specs.declared.path_call.PathCall.TheVariants.{Mkdir, Create, Unlink, Rmdir, Rmtree}
use Rattle.wal.specs.Added.{Fits, script}
use Rattle.wal.specs.Lines.{DumpLine, At, Makes, call_word, keeping_word, path_word, spelled}
use Rattle.wal.specs.Dump.{AreRead, IsRead}

-- ---- visible words

seen : (xs : Text) → list_all (λ b. nat_le 33 b) xs ≡ true → Visible xs
seen [] h = tt
seen (x ∷ xs) h = let both = and_parts _ _ h in (leb-true 33 x both.0, seen xs both.1)

call_visible : (what : PathCall) → Visible (call_word what)
call_visible Mkdir = seen (codes "mkdir") refl
call_visible Create = seen (codes "create") refl
call_visible Unlink = seen (codes "unlink") refl
call_visible Rmdir = seen (codes "rmdir") refl
call_visible Rmtree = seen (codes "rmtree") refl

keeping_visible : (what : SnapshotCall) → Visible (keeping_word what)
keeping_visible Snapshot = seen (codes "snapshot") refl
keeping_visible Remove = seen (codes "drop") refl
keeping_visible Restore = seen (codes "restore") refl

path_word_visible : (p : Path) → Visible (path_word p)
path_word_visible [] = (omega arith, tt)
path_word_visible (n ∷ p) = path_visible (n ∷ p)

snap_visible : (s : Text) → list_all is_snap_byte s ≡ true → Visible s
snap_visible [] h = tt
snap_visible (x ∷ xs) h = let both = and_parts _ _ h in (byte x both.0, snap_visible xs both.1)
  where
    byte : (x : ℕ) → is_snap_byte x ≡ true → 33 ≤ x
    byte x h = grind (arith, nat_tests)

-- ---- their lengths

percent_short : (b : ℕ) → length (percent b) ≤ 3
percent_short b = ⊎_elim
    (λ (f : percent b ≡ 37 ∷ two_digits 55 b). let l = ap length f in omega (arith, l))
    (λ (f : (33 ≤ b) × (b ≢ 37) × (percent b ≡ b ∷ [])). let l = ap length f.2 in omega (arith, l))
    (percent_cases b)

name_short : (n : Name) → length (flat_map percent n) ≤ 3 * length n
name_short [] = omega arith
name_short (b ∷ n) = let one = percent_short b in let rest = name_short n in let l = length-append (percent b) (flat_map percent n) in omega (arith, one, rest, l)

path_short : (p : Path) → length (path_text p) ≤ 3 * text_len p
path_short [] = omega arith
path_short (n ∷ p) = let one = name_short n in let rest = path_short p in let l = length-append (flat_map percent n) (path_text p) in omega (arith, one, rest, l)

path_word_short : (p : Path) → IsPath p → length (path_word p) ≤ 3069
path_word_short [] is = omega arith
path_word_short (n ∷ p) is = let l = path_short (n ∷ p) in let f = is.fits in omega (arith, l, f)

decimal_short : (n : ℕ) → IsWord n → length (decimal n) ≤ 20
decimal_short n h = length-decimal-le 20 n (omega arith) (omega (arith, h)) h

digits_short : (w : List ℕ) → length (flat_map (two_digits 87) w) ≡ 2 * length w
digits_short [] = refl
digits_short (b ∷ w) = let rest = digits_short w in let l = length-append (two_digits 87 b) (flat_map (two_digits 87) w) in omega (arith, rest, l)

hex_short : (w : List ℕ) → length (hex_text w) ≤ 2 * length w + 1
hex_short [] = omega arith
hex_short (b ∷ w) = let l = digits_short (b ∷ w) in omega (arith, l)

-- ---- words

no_space : (xs : Text) → Visible xs → All (λ b. b ≢ 32) xs
no_space xs v = all_visible 32 xs (omega arith) v

two_words : (x y : Text) → Visible x → Visible y → words_of (x ++ 32 ∷ y) ≡ x ∷ y ∷ []
two_words x y v w = more_words (x ++ 32 ∷ y) x y refl (no_space x v) ∙ ap (λ ws. x ∷ ws) (one_word y (no_space y w))

three_words : (x y z : Text) → Visible x → Visible y → Visible z → words_of (x ++ 32 ∷ (y ++ 32 ∷ z)) ≡ x ∷ y ∷ z ∷ []
three_words x y z u v w = more_words (x ++ 32 ∷ (y ++ 32 ∷ z)) x (y ++ 32 ∷ z) refl (no_space x u) ∙ ap (λ ws. x ∷ ws) (two_words y z v w)

four_words : (w x y z : Text) → Visible w → Visible x → Visible y → Visible z → words_of (w ++ 32 ∷ (x ++ 32 ∷ (y ++ 32 ∷ z))) ≡ w ∷ x ∷ y ∷ z ∷ []
four_words w x y z t u v s = more_words (w ++ 32 ∷ (x ++ 32 ∷ (y ++ 32 ∷ z))) w (x ++ 32 ∷ (y ++ 32 ∷ z)) refl (no_space w t) ∙ ap (λ ws. w ∷ ws) (three_words x y z u v s)

-- a word more before others
word_before : (x rest : Text) (ws : List Text) → Visible x → words_of rest ≡ ws → words_of (x ++ 32 ∷ rest) ≡ x ∷ ws
word_before x rest ws v e = more_words (x ++ 32 ∷ rest) x rest refl (no_space x v) ∙ ap (λ ys. x ∷ ys) e

path_word_read : (p : Path) → IsPath p → path_of (path_word p) ≡ Ok p
path_word_read [] is = root_read
path_word_read (n ∷ p) is = path_read (n ∷ p) is (λ e. cc)

number_read : (n : ℕ) → IsWord n → number_of (decimal n) ≡ Some n
number_read n h = number_reported (decimal n) n h refl

-- ---- a line

pub is_read : (t : DumpLine) → Fits t → IsRead (spelled t) t
is_read (At n) h = (decimal n, two_words (codes "at") (decimal n) (seen (codes "at") refl) (decimal_visible n h), number_read n h)
is_read (Makes (OnPath what p at)) h = (path_word p, two_words (call_word what) (path_word p) (call_visible what) (path_word_visible p), path_word_read p h)
is_read (Makes (Rename o n at)) h =
    (path_word o, path_word n, three_words (codes "rename") (path_word o) (path_word n) (seen (codes "rename") refl) (path_word_visible o) (path_word_visible n), path_word_read o h.0, path_word_read n h.1)
is_read (Makes (Truncate p len at)) h =
    (path_word p, decimal len, three_words (codes "truncate") (path_word p) (decimal len) (seen (codes "truncate") refl) (path_word_visible p) (decimal_visible len h.1), path_word_read p h.0, number_read len h.1)
is_read (Makes (Write p off w at)) h = (
  path_word p,
  decimal off,
  hex_text w,
  four_words (codes "write") (path_word p) (decimal off) (hex_text w) (seen (codes "write") refl) (path_word_visible p) (decimal_visible off h.1) (hex_text_visible w),
  path_word_read p h.0,
  number_read off h.1,
  sym (bytes_reported w h.2),
)
is_read (Makes (Punch p off n at)) h = (
  path_word p,
  decimal off,
  decimal n,
  more_words (spelled (Makes (Punch p off n at))) (codes "#") (codes "punch " ++ (path_word p ++ 32 ∷ (decimal off ++ 32 ∷ decimal n))) refl (no_space (codes "#") (seen (codes "#") refl))
      ∙ ap (λ ws. codes "#" ∷ ws) (four_words (codes "punch") (path_word p) (decimal off) (decimal n) (seen (codes "punch") refl) (path_word_visible p) (decimal_visible off h.1) (decimal_visible n h.2)),
  path_word_read p h.0,
  number_read off h.1,
  number_read n h.2,
)
is_read (Makes (SetMtime p at)) h = (
  path_word p,
  decimal at,
  more_words (spelled (Makes (SetMtime p at))) (codes "#") (codes "mtime " ++ (path_word p ++ 32 ∷ decimal at)) refl (no_space (codes "#") (seen (codes "#") refl))
      ∙ ap (λ ws. codes "#" ∷ ws) (three_words (codes "mtime") (path_word p) (decimal at) (seen (codes "mtime") refl) (path_word_visible p) (decimal_visible at h.1)),
  path_word_read p h.0,
  number_read at h.1,
)
is_read (Makes (CopyRange p off q to n at)) h = (
  path_word p,
  decimal off,
  path_word q,
  decimal to,
  decimal n,
  word_before (codes "#") (codes "copy" ++ 32 ∷ (path_word p ++ 32 ∷ (decimal off ++ 32 ∷ (path_word q ++ 32 ∷ (decimal to ++ 32 ∷ decimal n))))) _ (seen (codes "#") refl)
      (word_before (codes "copy") (path_word p ++ 32 ∷ (decimal off ++ 32 ∷ (path_word q ++ 32 ∷ (decimal to ++ 32 ∷ decimal n)))) _ (seen (codes "copy") refl)
      (word_before (path_word p) (decimal off ++ 32 ∷ (path_word q ++ 32 ∷ (decimal to ++ 32 ∷ decimal n))) _ (path_word_visible p)
      (four_words (decimal off) (path_word q) (decimal to) (decimal n) (decimal_visible off h.1) (path_word_visible q) (decimal_visible to h.3) (decimal_visible n h.4)))),
  path_word_read p h.0,
  number_read off h.1,
  path_word_read q h.2,
  number_read to h.3,
  number_read n h.4,
)
is_read (Makes (Keep what s)) h = two_words (keeping_word what) s (keeping_visible what) (snap_visible s (and_parts _ _ h).1)
is_read (Makes (Edits b)) h = (
  decimal (length b),
  word_before (codes "#") (codes "edits" ++ 32 ∷ decimal (length b)) _ (seen (codes "#") refl)
      (two_words (codes "edits") (decimal (length b)) (seen (codes "edits") refl) (decimal_visible (length b) h)),
  number_read (length b) h,
)

-- it fits a script
call_short : (what : PathCall) → length (call_word what) ≤ 6
call_short Mkdir = omega arith
call_short Create = omega arith
call_short Unlink = omega arith
call_short Rmdir = omega arith
call_short Rmtree = omega arith

keeping_short : (what : SnapshotCall) → length (keeping_word what) ≤ 8
keeping_short Snapshot = omega arith
keeping_short Remove = omega arith
keeping_short Restore = omega arith

snap_short : (s : Text) → is_snap_name s ≡ true → length s ≤ 64
snap_short s h = leb-true (length s) 64 (and_parts _ _ (and_parts _ _ h).0).1

spaced_length : (x y : Text) → length (x ++ 32 ∷ y) ≡ length x + length y + 1
spaced_length x y = let l = length-append x (32 ∷ y) in omega (arith, l)

pub is_short : (t : DumpLine) → Fits t → length (spelled t) ≤ 65536
is_short (At n) h = let d = decimal_short n h in omega (arith, d)
is_short (Makes (OnPath what p at)) h =
    let l = spaced_length (call_word what) (path_word p) in
    let w = call_short what in
    let a = path_word_short p h in
    omega (arith, l, w, a)
is_short (Makes (Rename o n at)) h =
    let l = spaced_length (path_word o) (path_word n) in
    let a = path_word_short o h.0 in
    let b = path_word_short n h.1 in
    omega (arith, l, a, b)
is_short (Makes (Truncate p len at)) h =
    let l = spaced_length (path_word p) (decimal len) in
    let a = path_word_short p h.0 in
    let d = decimal_short len h.1 in
    omega (arith, l, a, d)
is_short (Makes (Write p off w at)) h =
    let l = spaced_length (path_word p) (decimal off ++ 32 ∷ hex_text w) in
    let k = spaced_length (decimal off) (hex_text w) in
    let a = path_word_short p h.0 in
    let d = decimal_short off h.1 in
    let x = hex_short w in
    let few = h.3 in
    omega (arith, l, k, a, d, x, few)
is_short (Makes (Punch p off n at)) h =
    let l = spaced_length (path_word p) (decimal off ++ 32 ∷ decimal n) in
    let k = spaced_length (decimal off) (decimal n) in
    let a = path_word_short p h.0 in
    let d = decimal_short off h.1 in
    let e = decimal_short n h.2 in
    omega (arith, l, k, a, d, e)
is_short (Makes (SetMtime p at)) h =
    let l = spaced_length (path_word p) (decimal at) in
    let a = path_word_short p h.0 in
    let d = decimal_short at h.1 in
    omega (arith, l, a, d)
is_short (Makes (CopyRange p off q to n at)) h =
    let l = spaced_length (path_word p) (decimal off ++ 32 ∷ (path_word q ++ 32 ∷ (decimal to ++ 32 ∷ decimal n))) in
    let k = spaced_length (decimal off) (path_word q ++ 32 ∷ (decimal to ++ 32 ∷ decimal n)) in
    let j = spaced_length (path_word q) (decimal to ++ 32 ∷ decimal n) in
    let i = spaced_length (decimal to) (decimal n) in
    let a = path_word_short p h.0 in
    let b = path_word_short q h.2 in
    let d = decimal_short off h.1 in
    let e = decimal_short to h.3 in
    let f = decimal_short n h.4 in
    omega (arith, l, k, j, i, a, b, d, e, f)
is_short (Makes (Keep what s)) h =
    let l = spaced_length (keeping_word what) s in
    let w = keeping_short what in
    let a = snap_short s h in
    omega (arith, l, w, a)
is_short (Makes (Edits b)) h = let d = decimal_short (length b) h in omega (arith, d)

-- it has no line feed
abbrev Unbroken : Text → Type 0
Unbroken xs = AllByRecursion (λ b. b ≢ 10) xs

unbroken : (xs : Text) → Visible xs → Unbroken xs
unbroken [] v = tt
unbroken (x ∷ xs) v = ((λ e. let far : 33 ≤ x = v.0 in omega arith), unbroken xs v.1)

spaced : (x y : Text) → Unbroken x → Unbroken y → Unbroken (x ++ 32 ∷ y)
spaced [] y h k = ((λ e. omega arith), k)
spaced (b ∷ x) y h k = (h.0, spaced x y h.1 k)

path_unbroken : (p : Path) → Unbroken (path_word p)
path_unbroken p = unbroken (path_word p) (path_word_visible p)

decimal_unbroken : (n : ℕ) → IsWord n → Unbroken (decimal n)
decimal_unbroken n h = unbroken (decimal n) (decimal_visible n h)

all_unbroken : (t : DumpLine) → Fits t → Unbroken (spelled t)
all_unbroken (At n) h = spaced (codes "at") (decimal n) (unbroken (codes "at") (seen (codes "at") refl)) (decimal_unbroken n h)
all_unbroken (Makes (OnPath what p at)) h = spaced (call_word what) (path_word p) (unbroken (call_word what) (call_visible what)) (path_unbroken p)
all_unbroken (Makes (Rename o n at)) h =
    spaced (codes "rename") (path_word o ++ 32 ∷ path_word n) (unbroken (codes "rename") (seen (codes "rename") refl)) (spaced (path_word o) (path_word n) (path_unbroken o) (path_unbroken n))
all_unbroken (Makes (Truncate p len at)) h =
    spaced (codes "truncate") (path_word p ++ 32 ∷ decimal len) (unbroken (codes "truncate") (seen (codes "truncate") refl)) (spaced (path_word p) (decimal len) (path_unbroken p) (decimal_unbroken len h.1))
all_unbroken (Makes (Write p off w at)) h =
    spaced (codes "write") (path_word p ++ 32 ∷ (decimal off ++ 32 ∷ hex_text w)) (unbroken (codes "write") (seen (codes "write") refl))
    (spaced (path_word p) (decimal off ++ 32 ∷ hex_text w) (path_unbroken p) (spaced (decimal off) (hex_text w) (decimal_unbroken off h.1) (unbroken (hex_text w) (hex_text_visible w))))
all_unbroken (Makes (Punch p off n at)) h =
    spaced (codes "#") (codes "punch " ++ (path_word p ++ 32 ∷ (decimal off ++ 32 ∷ decimal n))) (unbroken (codes "#") (seen (codes "#") refl))
    (spaced (codes "punch") (path_word p ++ 32 ∷ (decimal off ++ 32 ∷ decimal n)) (unbroken (codes "punch") (seen (codes "punch") refl))
    (spaced (path_word p) (decimal off ++ 32 ∷ decimal n) (path_unbroken p) (spaced (decimal off) (decimal n) (decimal_unbroken off h.1) (decimal_unbroken n h.2))))
all_unbroken (Makes (SetMtime p at)) h =
    spaced (codes "#") (codes "mtime " ++ (path_word p ++ 32 ∷ decimal at)) (unbroken (codes "#") (seen (codes "#") refl))
    (spaced (codes "mtime") (path_word p ++ 32 ∷ decimal at) (unbroken (codes "mtime") (seen (codes "mtime") refl))
    (spaced (path_word p) (decimal at) (path_unbroken p) (decimal_unbroken at h.1)))
all_unbroken (Makes (CopyRange p off q to n at)) h =
    let numbers = spaced (decimal to) (decimal n) (decimal_unbroken to h.3) (decimal_unbroken n h.4) in
    let target = spaced (path_word q) (decimal to ++ 32 ∷ decimal n) (path_unbroken q) numbers in
    let behind = spaced (decimal off) (path_word q ++ 32 ∷ (decimal to ++ 32 ∷ decimal n)) (decimal_unbroken off h.1) target in
    let places = spaced (path_word p) (decimal off ++ 32 ∷ (path_word q ++ 32 ∷ (decimal to ++ 32 ∷ decimal n))) (path_unbroken p) behind in
    let words = spaced (codes "copy") (path_word p ++ 32 ∷ (decimal off ++ 32 ∷ (path_word q ++ 32 ∷ (decimal to ++ 32 ∷ decimal n)))) (unbroken (codes "copy") (seen (codes "copy") refl)) places in
    spaced (codes "#") (codes "copy " ++ (path_word p ++ 32 ∷ (decimal off ++ 32 ∷ (path_word q ++ 32 ∷ (decimal to ++ 32 ∷ decimal n))))) (unbroken (codes "#") (seen (codes "#") refl)) words
all_unbroken (Makes (Keep what s)) h = spaced (keeping_word what) s (unbroken (keeping_word what) (keeping_visible what)) (unbroken s (snap_visible s (and_parts _ _ h).1))
all_unbroken (Makes (Edits b)) h =
    spaced (codes "#") (codes "edits " ++ decimal (length b)) (unbroken (codes "#") (seen (codes "#") refl))
    (spaced (codes "edits") (decimal (length b)) (unbroken (codes "edits") (seen (codes "edits") refl)) (decimal_unbroken (length b) h))

pub is_one : (t : DumpLine) → Fits t → All (λ b. b ≢ 10) (spelled t)
is_one t h = All-from_recursion (λ b. b ≢ 10) (spelled t) (all_unbroken t h)

-- ---- consecutive lines

-- a text of such lines has these lines
pub lines_reported : (ts : List DumpLine) → AllByRecursion Fits ts → lines_of (script ts) ≡ map spelled ts
lines_reported [] fit = refl
lines_reported (t ∷ ts) fit =
    ap lines_of (append_assoc (spelled t) (10 ∷ []) (script ts))
    ∙ pieces_cut 10 (spelled t) (script ts) (is_one t fit.0)
    ∙ ap (λ ls. spelled t ∷ ls) (lines_reported ts fit.1)

pub all_read : (ts : List DumpLine) → AllByRecursion Fits ts → AreRead (map spelled ts) ts
all_read [] fit = tt
all_read (t ∷ ts) fit = (is_short t fit.0, is_read t fit.0, all_read ts fit.1)
