-- The lines of edits, and the texts that have them.
use Rattle.std.proofs.Common.{◌≡◌, ◌≢◌, ℕ, ◌^◌, ◌<◌, List, [], ◌∷◌, ◌++◌, length, map, codes, decimal, refl, sym, ap, subst, ◌∙◌, append_assoc, arith, rules, Option, Some, None, Result, Ok}
use Rattle.std.specs.Prelude.{IfSome}
use Rattle.std.specs.List.{All}
use Rattle.std.proofs.lemmas.Fmt.{decimal_injective}
use Rattle.std.proofs.lemmas.Option.{same_Some}
use Rattle.std.proofs.lemmas.List.Elements.{All-append, All-cons, All-from_recursion, All-map, All-nil, All-weaker}
use Rattle.pathkey.specs.Names.{Path, IsPath}
use Rattle.pathkey.specs.declared.errno.Errno.{Errno}
use Rattle.reference.specs.Image.{Text}
use Rattle.reference.specs.Indexes.{held}
use Rattle.reference.specs.Shape.{AreBytes}
use Rattle.reference.specs.declared.reply.Meta.{Meta}
use Rattle.reference.specs.declared.reply.Meta.TheVariants.{Dir as DirMeta, File as FileMeta}
use Rattle.reference.proofs.ImageTexts.{cut, decimal_visible}
use Rattle.textio.specs.Lines.{IsLine, Line, text_of}
use Rattle.textio.specs.Texts.{hex_text}
use Rattle.textio.specs.Values.{bytes_of, path_of}
use Rattle.textio.proofs.LineFacts.{same_line}
use Rattle.textio.proofs.Spelled.{same_values}
use Rattle.textio.proofs.Written.{all_visible, hex_text_visible}
use Rattle.edits.specs.Edits.{AreOfOneKind}
use Rattle.edits.specs.Guesses.{head_of, tail_of}
use Rattle.edits.specs.Lines.{AreEdits, IsChange, IsDigest, IsEdit, IsMeta, entry_letter, change_text, heading, listed, numbers, shown, spelled}
use Rattle.edits.specs.declared.edit.Change.{Change}
use Rattle.edits.specs.declared.edit.Change.TheVariants.{Remove, Add, Alter, Block}
use Rattle.edits.specs.declared.edit.Edit.{Edit}
use Rattle.edits.proofs.GuessFacts.{spelled_words}
use Rattle.edits.proofs.WordFacts.{bytes_read, shown_read, shown_visible}

-- ---- words are known from their spelling

same_path : (p q : Path) → IsPath p → IsPath q → shown p ≡ shown q → p ≡ q
same_path p q h k e = let same : ◌≡◌ {A = Result Path Errno} (Ok p) (Ok q) = sym (shown_read p h) ∙ ap path_of e ∙ shown_read q k in cc

same_bytes : (v w : List ℕ) → AreBytes v → AreBytes w → hex_text v ≡ hex_text w → v ≡ w
same_bytes v w h k e = same_Some v w (bytes_read v h ∙ ap bytes_of e ∙ sym (bytes_read w k))

not_empty : (d : List ℕ) → IsDigest d → d ≢ []
not_empty d is e = omega (arith, is.size, ap length e)

same_digest : (d e : Option (List ℕ)) → IfSome d IsDigest → IfSome e IsDigest → hex_text (held d) ≡ hex_text (held e) → d ≡ e
same_digest None None h k same = refl
same_digest None (Some e) h k same = absurd (not_empty e k (sym (same_bytes [] e (All-nil (λ x. x < 256)) k.bytes same)))
same_digest (Some d) None h k same = absurd (not_empty d h (same_bytes d [] h.bytes (All-nil (λ x. x < 256)) same))
same_digest (Some d) (Some e) h k same = ap Some (same_bytes d e h.bytes k.bytes same)

-- ---- numbers of an entry

same_two : (a b m n : ℕ) → a < 2 ^ 64 → b < 2 ^ 64 → m < 2 ^ 64 → n < 2 ^ 64 → decimal a ++ 32 ∷ decimal b ≡ decimal m ++ 32 ∷ decimal n → (a ≡ m) × (b ≡ n)
same_two a b m n ha hb hm hn e =
    let parts = cut (decimal a) (decimal m) 32 32 (decimal b) (decimal n) (decimal_visible a ha) (decimal_visible m hm) (omega arith) (omega arith) e in
    (decimal_injective a m ha hm parts.0, decimal_injective b n hb hn parts.1)

same_numbers : (m n : Meta) → IsMeta m → IsMeta n → entry_letter m ≡ entry_letter n → numbers m ≡ numbers n → m ≡ n
same_numbers (DirMeta a) (DirMeta b) h k kind e = ap DirMeta (decimal_injective a b h k e)
same_numbers (DirMeta a) (FileMeta n b) h k kind e = absurd (omega (arith, kind))
same_numbers (FileMeta m a) (DirMeta b) h k kind e = absurd (omega (arith, kind))
same_numbers (FileMeta m a) (FileMeta n b) h k kind e = let same : (m ≡ n) × (a ≡ b) = same_two m a n b h.0 h.1 k.0 k.1 e in cc (same.0, same.1)

-- the numbers of one entry, before those of another
same_front : (m n : Meta) (x y : Text) → IsMeta m → IsMeta n → entry_letter m ≡ entry_letter n → numbers m ++ 32 ∷ x ≡ numbers n ++ 32 ∷ y → (m ≡ n) × (x ≡ y)
same_front (DirMeta a) (DirMeta b) x y h k kind e =
    let parts = cut (decimal a) (decimal b) 32 32 x y (decimal_visible a h) (decimal_visible b k) (omega arith) (omega arith) e in
    (ap DirMeta (decimal_injective a b h k parts.0), parts.1)
same_front (DirMeta a) (FileMeta n b) x y h k kind e = absurd (omega (arith, kind))
same_front (FileMeta m a) (DirMeta b) x y h k kind e = absurd (omega (arith, kind))
same_front (FileMeta m a) (FileMeta n b) x y h k kind e =
    let whole : decimal m ++ 32 ∷ (decimal a ++ 32 ∷ x) ≡ decimal n ++ 32 ∷ (decimal b ++ 32 ∷ y) = sym (append_assoc (decimal m) (32 ∷ decimal a) (32 ∷ x)) ∙ e ∙ append_assoc (decimal n) (32 ∷ decimal b) (32 ∷ y) in
    let lengths = cut (decimal m) (decimal n) 32 32 (decimal a ++ 32 ∷ x) (decimal b ++ 32 ∷ y) (decimal_visible m h.0) (decimal_visible n k.0) (omega arith) (omega arith) whole in
    let mtimes = cut (decimal a) (decimal b) 32 32 x y (decimal_visible a h.1) (decimal_visible b k.1) (omega arith) (omega arith) lengths.1 in
    let len : m ≡ n = decimal_injective m n h.0 k.0 lengths.0 in
    let at : a ≡ b = decimal_injective a b h.1 k.1 mtimes.0 in
    (cc, mtimes.1)

one_letter : (m n : Meta) → AreOfOneKind m n → entry_letter m ≡ entry_letter n
one_letter (DirMeta a) (DirMeta b) h = refl
one_letter (FileMeta m a) (FileMeta n b) h = refl
one_letter (DirMeta a) (FileMeta n b) h = absurd h
one_letter (FileMeta m a) (DirMeta b) h = absurd h

-- ---- an edit is known from its line

abbrev first : Text → ℕ
first [] = 0
first (x ∷ xs) = x

abbrev third : Text → ℕ
third (x ∷ y ∷ z ∷ xs) = z
third xs = 0

same_heads : (c d : Change) (x y : Text) → head_of c ++ x ≡ head_of d ++ y → (head_of c ≡ head_of d) × (x ≡ y)
same_heads (Block i o n) (Block j p m) x y e = (refl, cc)
same_heads (Block i o n) d x y e = absurd (let h = ap first e in omega (arith, h))
same_heads c (Block j p m) x y e = absurd (let h = ap first e in omega (arith, h))
same_heads c d x y e = (cc, cc)

same_change : (c d : Change) → IsChange c → IsChange d → head_of c ≡ head_of d → tail_of c ≡ tail_of d → c ≡ d
same_change (Remove m) (Remove n) h k head e = ap Remove (same_numbers m n h k (ap third head) e)
same_change (Add m) (Add n) h k head e = ap Add (same_numbers m n h k (ap third head) e)
same_change (Alter m n) (Alter p q) h k head e =
    let kind : entry_letter m ≡ entry_letter p = ap third head in
    let old = same_front m p (numbers n) (numbers q) h.0 k.0 kind e in
    let new : n ≡ q = same_numbers n q h.1 k.1 (sym (one_letter m n h.2) ∙ kind ∙ one_letter p q k.2) old.1 in
    let same : m ≡ p = old.0 in
    cc
same_change (Block i o v) (Block j p w) h k head e =
    let number = cut (decimal i) (decimal j) 32 32 (hex_text (held o) ++ 32 ∷ hex_text v) (hex_text (held p) ++ 32 ∷ hex_text w) (decimal_visible i h.0) (decimal_visible j k.0) (omega arith) (omega arith) e in
    let words = cut (hex_text (held o)) (hex_text (held p)) 32 32 (hex_text v) (hex_text w) (hex_text_visible (held o)) (hex_text_visible (held p)) (omega arith) (omega arith) number.1 in
    let one : i ≡ j = decimal_injective i j h.0 k.0 number.0 in
    let two : o ≡ p = same_digest o p h.1 k.1 words.0 in
    let three : v ≡ w = same_bytes v w h.2 k.2 words.1 in
    cc
same_change c d h k head e = absurd (let f = ap first head in omega (arith, f))

pub same_spelled : (e f : Edit) → IsEdit e → IsEdit f → spelled e ≡ spelled f → e ≡ f
same_spelled e f h k same =
    let parts = same_heads e.change f.change (shown e.path ++ 32 ∷ tail_of e.change) (shown f.path ++ 32 ∷ tail_of f.change) (sym (spelled_words e.path e.change) ∙ same ∙ spelled_words f.path f.change) in
    let words = cut (shown e.path) (shown f.path) 32 32 (tail_of e.change) (tail_of f.change) (shown_visible e.path) (shown_visible f.path) (omega arith) (omega arith) parts.1 in
    let path : e.path ≡ f.path = same_path e.path f.path h.path k.path words.0 in
    let change : e.change ≡ f.change = same_change e.change f.change h.change k.change parts.0 words.1 in
    λ i. record { path = path i; change = change i }

-- ---- lines have no line feed

more_line : (a : ℕ) (l : Line) → a ≢ 10 → IsLine l → IsLine (a ∷ l)
more_line a l h whole = All-cons (λ b. b ≢ 10) a l h whole

joined : (l m : Line) → IsLine l → IsLine m → IsLine (l ++ 32 ∷ m)
joined l m h k = All-append (λ b. b ≢ 10) l (32 ∷ m) h (more_line 32 m (omega arith) k)

pub decimal_line : (n : ℕ) → n < 2 ^ 64 → IsLine (decimal n)
decimal_line n h = all_visible 10 (decimal n) (omega arith) (decimal_visible n h)

hex_line : (v : List ℕ) → IsLine (hex_text v)
hex_line v = all_visible 10 (hex_text v) (omega arith) (hex_text_visible v)

numbers_line : (m : Meta) → IsMeta m → IsLine (numbers m)
numbers_line (DirMeta at) h = decimal_line at h
numbers_line (FileMeta n at) h = joined (decimal n) (decimal at) (decimal_line n h.0) (decimal_line at h.1)

tail_line : (c : Change) → IsChange c → IsLine (tail_of c)
tail_line (Remove m) h = numbers_line m h
tail_line (Add m) h = numbers_line m h
tail_line (Alter m n) h = joined (numbers m) (numbers n) (numbers_line m h.0) (numbers_line n h.1)
tail_line (Block i old new) h = joined (decimal i) (hex_text (held old) ++ 32 ∷ hex_text new) (decimal_line i h.0) (joined (hex_text (held old)) (hex_text new) (hex_line (held old)) (hex_line new))

letter_line : (m : Meta) → entry_letter m ≢ 10
letter_line (DirMeta at) e = omega arith
letter_line (FileMeta n at) e = omega arith

sign_line : (s : ℕ) (m : Meta) → s ≢ 10 → IsLine (s ∷ 32 ∷ entry_letter m ∷ 32 ∷ [])
sign_line s m h = All-from_recursion (λ b. b ≢ 10) (s ∷ 32 ∷ entry_letter m ∷ 32 ∷ []) (h, ((λ e. omega arith), (letter_line m, ((λ e. omega arith), tt))))

head_line : (c : Change) → IsLine (head_of c)
head_line (Remove m) = sign_line 45 m (omega arith)
head_line (Add m) = sign_line 43 m (omega arith)
head_line (Alter m n) = sign_line 33 m (omega arith)
head_line (Block i old new) = All-from_recursion (λ b. b ≢ 10) (codes "b ") (search rules)

pub spelled_line : (e : Edit) → IsEdit e → IsLine (spelled e)
spelled_line e h =
    let path : IsLine (shown e.path) = all_visible 10 (shown e.path) (omega arith) (shown_visible e.path) in
    subst IsLine (sym (spelled_words e.path e.change))
    (All-append (λ b. b ≢ 10) (head_of e.change) (shown e.path ++ 32 ∷ tail_of e.change) (head_line e.change) (joined (shown e.path) (tail_of e.change) path (tail_line e.change h.change)))

pub spelled_lines : (es : List Edit) → All IsEdit es → All IsLine (map spelled es)
spelled_lines es are = All-map IsLine spelled es (All-weaker IsEdit (λ e. IsLine (spelled e)) spelled_line es are)

pub heading_line : IsLine heading
heading_line = All-from_recursion (λ b. b ≢ 10) (codes "delta 2") (search rules)

pub end_line : IsLine (codes "end")
end_line = All-from_recursion (λ b. b ≢ 10) (codes "end") (search rules)

-- ---- the end of a text

end_is_no_change : (p : Path) (c : Change) → codes "end" ≢ change_text p c
end_is_no_change p (Remove m) e = let h = ap first e in omega (arith, h)
end_is_no_change p (Add m) e = let h = ap first e in omega (arith, h)
end_is_no_change p (Alter m n) e = let h = ap first e in omega (arith, h)
end_is_no_change p (Block i old new) e = let h = ap first e in omega (arith, h)

pub end_is_no_edit : (e : Edit) → codes "end" ≢ spelled e
end_is_no_edit e = end_is_no_change e.path e.change

-- a text has one list of edits
pub one_reading : (text : Text) (es fs : List Edit) → AreEdits text es → AreEdits text fs → es ≡ fs
one_reading text es fs a b =
    let both = same_line heading heading (text_of (listed es)) (text_of (listed fs)) heading_line heading_line (sym a.is ∙ b.is) in
    same_values Edit IsEdit spelled (codes "end") spelled_line end_line end_is_no_edit same_spelled es fs a.edits b.edits both.1
