-- Words of a line of an edit: how they are split off, and what they are read as.
use Rattle.std.proofs.Common.{◌≡◌, ◌≢◌, ◌⊎◌, ⊎_elim, ℕ, ◌*◌, ◌^◌, ◌<◌, Bool, true, false, cond, List, [], ◌∷◌, ◌++◌, length, get_or, refl, sym, ap, subst, ◌∙◌, arith, Option, Some, None, Result, Ok, Err, decimal, flat_map, codes, All}
use Rattle.std.specs.Prelude.{IfSome, MatchResult, bytes_eq}
use Rattle.std.specs.Bool.{Decides}
use Rattle.std.specs.Result.{result_ok}
use Rattle.std.proofs.lemmas.Bool.{false≢true}
use Rattle.std.proofs.lemmas.Slice.Eq.{bytes_eq-Decides}
use Rattle.std.proofs.lemmas.List.{append_cancel_left}
use Rattle.std.proofs.lemmas.List.Elements.{All-from_get_or, All-nil, recursion_from_All}
use Rattle.hex.specs.Hex.{decode_of, decode_sized}
use Rattle.hex.specs.declared.error.FromHexError.{FromHexError}
use Rattle.hex.proofs.HexLemmas.{decode_of-ok, decode_sized-ok, decode_sized-twice}
use Rattle.pathkey.specs.Names.{Path, IsPath}
use Rattle.pathkey.specs.declared.errno.Errno.{Errno}
use Rattle.pathkey.specs.declared.errno.Errno.TheVariants.{ENOMEM}
use Rattle.pathkey.proofs.Pieces.{not_lacking}
use Rattle.reference.specs.Image.{Text, two_digits}
use Rattle.reference.specs.Indexes.{held}
use Rattle.reference.specs.Shape.{AreBytes}
use Rattle.reference.proofs.ImageTexts.{Visible, decimal_visible, path_visible}
use Rattle.textio.specs.Lines.{words_of}
use Rattle.textio.specs.Texts.{hex_text}
use Rattle.textio.specs.Values.{bytes_of, is_hex, path_of}
use Rattle.textio.proofs.WordFacts.{more_words}
use Rattle.textio.proofs.Written.{all_visible, bytes_reported, digits_reported, hex_text_visible, path_read, root_read}
use Rattle.edits.specs.Lines.{IsDigest, shown}

-- ---- words between spaces

-- a text that was split at its first space
pub record IsCut (text front back : Text) : Type 0 where
  pub is : text ≡ front ++ 32 ∷ back
  pub first : All (λ b. b ≢ 32) front

-- it is split there in one way
pub same_cut : (text front back word rest : Text) → IsCut text front back → All (λ b. b ≢ 32) word → text ≡ word ++ 32 ∷ rest → (front ≡ word) × (back ≡ rest)
same_cut text front back word rest h free e =
    let words : front ∷ words_of back ≡ word ∷ words_of rest = sym (more_words text front back h.is h.first) ∙ more_words text word rest e free in
    let same : front ≡ word = cc in
    let behind : 32 ∷ back ≡ 32 ∷ rest = append_cancel_left word (32 ∷ back) (32 ∷ rest) (ap (λ f. f ++ 32 ∷ back) (sym same) ∙ sym h.is ∙ e) in
    (same, cc)

-- a text without a space is not split
pub never_cut : (text word rest : Text) → All (λ b. b ≢ 32) text → text ≡ word ++ 32 ∷ rest → ⊥
never_cut text word rest h e = not_lacking 32 word rest (subst (All (λ b. b ≢ 32)) e h)

pub decimal_free : (n : ℕ) → n < 2 ^ 64 → All (λ b. b ≢ 32) (decimal n)
decimal_free n h = all_visible 32 (decimal n) (omega arith) (decimal_visible n h)

pub shown_visible : (p : Path) → Visible (shown p)
shown_visible [] = (omega arith, tt)
shown_visible (n ∷ p) = path_visible (n ∷ p)

pub shown_free : (p : Path) → All (λ b. b ≢ 32) (shown p)
shown_free p = all_visible 32 (shown p) (omega arith) (shown_visible p)

pub hex_free : (v : List ℕ) → All (λ b. b ≢ 32) (hex_text v)
hex_free v = all_visible 32 (hex_text v) (omega arith) (hex_text_visible v)

-- ---- paths

pub shown_read : (p : Path) → IsPath p → path_of (shown p) ≡ Ok p
shown_read [] h = root_read
shown_read (n ∷ p) h = path_read (n ∷ p) h (λ e. let clash : n ∷ p ≡ [] = e in cc)

-- reading the word of a path answers that path, or that memory was refused
pub path_guessed : (word : Text) (p q : Path) (r : Result Path Errno) → (r ≡ path_of word) ⊎ (r ≡ Err ENOMEM) → r ≡ Ok q → IsPath p → word ≡ shown p → q ≡ p
path_guessed word p q r read is path e = ⊎_elim
    (λ (f : r ≡ path_of word). let g : ◌≡◌ {A = Result Path Errno} (Ok q) (Ok p) = sym is ∙ f ∙ ap path_of e ∙ shown_read p path in cc)
    (λ (f : r ≡ Err ENOMEM). absurd (let g : ◌≡◌ {A = Result Path Errno} (Ok q) (Err ENOMEM) = sym is ∙ f in cc))
    read

pub path_not_refused : (word : Text) (p : Path) (fault : Errno) (r : Result Path Errno) → (r ≡ path_of word) ⊎ (r ≡ Err ENOMEM) → r ≡ Err fault → fault ≢ ENOMEM → IsPath p → word ≡ shown p → ⊥
path_not_refused word p fault r read is other path e = ⊎_elim
    (λ (f : r ≡ path_of word). let g : ◌≡◌ {A = Result Path Errno} (Err fault) (Ok p) = sym is ∙ f ∙ ap path_of e ∙ shown_read p path in cc)
    (λ (f : r ≡ Err ENOMEM). other (let g : ◌≡◌ {A = Result Path Errno} (Err fault) (Err ENOMEM) = sym is ∙ f in cc))
    read

-- ---- bytes

pub bytes_read : (v : List ℕ) → AreBytes v → Some v ≡ bytes_of (hex_text v)
bytes_read v h = bytes_reported v (recursion_from_All (λ x. x < 256) v h)

small_bytes : (v : List ℕ) → ((i : ℕ) → get_or v i 0 < 256) → AreBytes v
small_bytes v h = All-from_get_or (λ x. x < 256) v 0 (λ i lt. h i)

-- what a word writes are bytes
pub bytes_are : (word v : List ℕ) → Some v ≡ bytes_of word → AreBytes v
bytes_are word v e = go (bytes_eq word (codes "-")) (is_hex word) (decode_of word) refl e
  where
    go : (a b : Bool) (r : Result (List ℕ) FromHexError) → decode_of word ≡ r → Some v ≡ cond a (Some []) (cond b (result_ok r) None) → AreBytes v
    go true b r is e = let none : v ≡ [] = cc in subst AreBytes (sym none) (All-nil (λ x. x < 256))
    go false true (Ok w) is e = let same : w ≡ v = cc in subst AreBytes same (small_bytes w (decode_of-ok word w is).3)
    go false true (Err f) is e = absurd (let clash : ◌≡◌ {A = Option (List ℕ)} (Some v) None = e in cc)
    go false false r is e = absurd (let clash : ◌≡◌ {A = Option (List ℕ)} (Some v) None = e in cc)

-- ---- digests

-- the result of decoding into a buffer of 32 bytes, and the contents of the buffer then
abbrev pub Decodes : List ℕ → Result (Unit {0}) FromHexError → List ℕ → Type 0
Decodes word r out = MatchResult (decode_sized word 32) (λ bytes. (r ≡ Ok tt) × (out ≡ bytes)) (λ e. r ≡ Err e)

digits_sized : (d : List ℕ) → IsDigest d → decode_sized (hex_text d) 32 ≡ Ok d
digits_sized [] is = absurd (let size : 0 ≡ 32 = is.size in omega arith)
digits_sized (b ∷ bs) is =
    let read : decode_of (flat_map (two_digits 87) (b ∷ bs)) ≡ Ok (b ∷ bs) = digits_reported (b ∷ bs) (recursion_from_All (λ x. x < 256) (b ∷ bs) is.bytes) in
    let long : length (flat_map (two_digits 87) (b ∷ bs)) ≡ 2 * 32 = omega (arith, (decode_of-ok (flat_map (two_digits 87) (b ∷ bs)) (b ∷ bs) read).2, is.size) in
    decode_sized-twice (flat_map (two_digits 87) (b ∷ bs)) 32 long ∙ read

-- a word that decodes was decoded
pub decoded_as : (word out d : List ℕ) (r : Result (Unit {0}) FromHexError) → Decodes word r out → decode_sized word 32 ≡ Ok d → (r ≡ Ok tt) × (out ≡ d)
decoded_as word out d r h e = subst (λ (x : Result (List ℕ) FromHexError). MatchResult x (λ bytes. (r ≡ Ok tt) × (out ≡ bytes)) (λ e. r ≡ Err e)) e h

digest_decoded : (word out d : List ℕ) (r : Result (Unit {0}) FromHexError) → Decodes word r out → IsDigest d → word ≡ hex_text d → (r ≡ Ok tt) × (out ≡ d)
digest_decoded word out d r h is e = decoded_as word out d r h (ap (λ w. decode_sized w 32) e ∙ digits_sized d is)

pub decoded_digest : (word out : List ℕ) (r : Result (Unit {0}) FromHexError) → Decodes word r out → r ≡ Ok tt → IsDigest out
decoded_digest word out r h ok = go (decode_sized word 32) refl h
  where
    go : (x : Result (List ℕ) FromHexError) → decode_sized word 32 ≡ x → MatchResult x (λ bytes. (r ≡ Ok tt) × (out ≡ bytes)) (λ e. r ≡ Err e) → IsDigest out
    go (Ok bytes) is (parsed, same) =
        let long : length word ≡ 2 * 32 = decode_sized-ok word 32 bytes is in
        let all = decode_of-ok word bytes (sym (decode_sized-twice word 32 long) ∙ is) in
        let size : length out ≡ length bytes = ap length same in
        record { size = omega (arith, size, long, all.2); bytes = subst AreBytes (sym same) (small_bytes bytes all.3) }
    go (Err e) is parsed = absurd (let clash : ◌≡◌ {A = Result (Unit {0}) FromHexError} (Ok tt) (Err e) = sym ok ∙ parsed in cc)

-- ---- words that are compared

pub not_same : (word other : List ℕ) → bytes_eq word other ≡ false → word ≢ other
not_same word other e same = go (bytes_eq word other) (bytes_eq-Decides word other) e
  where
    go : (b : Bool) → Decides b (word ≡ other) → b ≡ false → ⊥
    go true h e = false≢true (sym e)
    go false h e = false≢true (h.1 same)

pub same_word : (word other : List ℕ) → bytes_eq word other ≡ true → word ≡ other
same_word word other e = go (bytes_eq word other) (bytes_eq-Decides word other) e
  where
    go : (b : Bool) → Decides b (word ≡ other) → b ≡ true → word ≡ other
    go true h e = h.0 refl
    go false h e = absurd (false≢true e)

-- ---- the word of a digest

module _ (word out : List ℕ) (r : Result (Unit {0}) FromHexError) (decodes : Decodes word r out) (other : word ≢ codes "-") where
  -- a word that does not decode is not that of a digest
  pub digest_refused : (f : FromHexError) → r ≡ Err f → (d : Option (List ℕ)) → IfSome d IsDigest → word ≡ hex_text (held d) → ◌≡◌ {A = Option (Option (List ℕ))} None (Some d)
  digest_refused f is None digest e = absurd (other e)
  digest_refused f is (Some d) digest e = absurd (let clash : ◌≡◌ {A = Result (Unit {0}) FromHexError} (Err f) (Ok tt) = sym is ∙ (digest_decoded word out d r decodes digest e).0 in cc)

  pub digest_guessed : (d : Option (List ℕ)) → IfSome d IsDigest → word ≡ hex_text (held d) → ◌≡◌ {A = Option (Option (List ℕ))} (Some (Some out)) (Some d)
  digest_guessed None digest e = absurd (other e)
  digest_guessed (Some d) digest e = ap (λ (b : List ℕ). Some (Some b)) (digest_decoded word out d r decodes digest e).1
