-- From the components of a text to the names of a path, and to the bytes of its key.
use Rattle.std.proofs.Common.{◌≡◌, ◌≢◌, ℕ, ◌+◌, ◌<◌, ◌≤◌, List, [], ◌∷◌, ◌++◌, length, map, Bool, true, false, eqb, cond, arith, sym, ap, refl, ◌∙◌, subst, append_assoc, length-append, get_or, Fits, w8, Ok, nat_lt, not, suc}
use Rattle.std.specs.Prelude.{◌==◌}
use Rattle.std.specs.List.{All, AllByRecursion, list_any}
use Rattle.std.proofs.lemmas.Bool.{or_parts, or_from, eqb-true, eqb-false, ne_eqb, le-ltb, false≢true, not-false, ltb-false, cond-true, cond-false, eq-eqb}
use Rattle.std.proofs.lemmas.List.Elements.{recursion_from_All, All-from_recursion, All-from_get_or, All-tail}
use Rattle.std.proofs.lemmas.List.{length-map}
use Rattle.pathkey.specs.Names.{Name, Path, IsName, IsPath, EachName, HasNameBytes, text_len}
use Rattle.pathkey.specs.Texts.{text_of, slashed, pieces, onto_first, names_of, is_dots, is_forbidden, is_malformed, is_long, null_for_slash, components, parsed}
use Rattle.pathkey.specs.Outcomes.{when, unless}
use Rattle.pathkey.specs.declared.errno.Errno.{Errno}
use Rattle.pathkey.specs.declared.errno.Errno.TheVariants.{EINVAL, ENAMETOOLONG}
use Rattle.pathkey.specs.Enc.{enc}
use Rattle.pathkey.specs.PathKeys.{IsPathKey}
use Rattle.pathkey.proofs.OrderFacts.{apart, same_false}
use Rattle.pathkey.proofs.Pieces.{pieces_cut, not_empty}

-- P of each byte of each name
abbrev pub EachIn : (ℕ → Type 0) → Path → Type 0
EachIn P [] = Unit {0}
EachIn P (n ∷ p) = AllByRecursion P n × EachIn P p

-- ---- from bytes to pieces
onto_first_each : (P : ℕ → Type 0) (b : ℕ) (p : Path) → P b → EachIn P p → EachIn P (onto_first b p)
onto_first_each P b [] h e = ((h, tt), tt)
onto_first_each P b (n ∷ p) h e = ((h, e.0), e.1)

-- what holds of the bytes holds of those of the pieces
pub pieces_each : (P : ℕ → Type 0) (s : ℕ) (bytes : List ℕ) → AllByRecursion P bytes → P s → EachIn P (pieces s (bytes ++ s ∷ []))
pieces_each P s [] h g = subst (EachIn P) (sym (cond-true (eqb s s) ([] ∷ []) (onto_first s []) (eq-eqb s s refl))) (tt, tt)
pieces_each P s (b ∷ bytes) h g = elim (eqb b s) as (λ t. EachIn P (cond t ([] ∷ pieces s (bytes ++ s ∷ [])) (onto_first b (pieces s (bytes ++ s ∷ []))))) [
  | true ↦ (tt, pieces_each P s bytes h.1 g)
  | false ↦ onto_first_each P b (pieces s (bytes ++ s ∷ [])) h.0 (pieces_each P s bytes h.1 g)
]

-- what holds of the bytes with one put before holds of that one and of the others
from_onto_first : (P : ℕ → Type 0) (b : ℕ) (p : Path) → EachIn P (onto_first b p) → P b × EachIn P p
from_onto_first P b [] e = (e.0.0, tt)
from_onto_first P b (n ∷ p) e = (e.0.0, (e.0.1, e.1))

-- and what holds of those of the pieces and of the separator holds of the bytes
pub each_from_pieces : (P : ℕ → Type 0) (s : ℕ) (bytes : List ℕ) → P s → EachIn P (pieces s (bytes ++ s ∷ [])) → AllByRecursion P bytes
each_from_pieces P s [] g e = tt
each_from_pieces P s (b ∷ bytes) g e = elim (eqb b s) as (λ t. eqb b s ≡ t → EachIn P (cond t ([] ∷ pieces s (bytes ++ s ∷ [])) (onto_first b (pieces s (bytes ++ s ∷ [])))) → AllByRecursion P (b ∷ bytes)) [
  | true ↦ λ t u. (subst P (sym (eqb-true b s t)) g, each_from_pieces P s bytes g u.1)
  | false ↦ λ t u.
      let parts : P b × EachIn P (pieces s (bytes ++ s ∷ [])) = from_onto_first P b (pieces s (bytes ++ s ∷ [])) u in
      (parts.0, each_from_pieces P s bytes g parts.1)
] refl e

-- ---- the key that the pieces make
enc_onto_first : (b : ℕ) (p : Path) (key : List ℕ) → enc p ≡ key → (key ≡ [] → ⊥) → enc (onto_first b p) ≡ b ∷ key
enc_onto_first b [] key e h = absurd (h (sym e))
enc_onto_first b (n ∷ p) key e h = ap (λ (k : List ℕ). b ∷ k) e

-- bytes that end with a byte 0 are the key of the names that they spell
pub enc_names_of : (bytes : List ℕ) → enc (names_of (bytes ++ 0 ∷ [])) ≡ bytes ++ 0 ∷ []
enc_names_of [] = refl
enc_names_of (b ∷ bytes) = elim (eqb b 0) as (λ t. eqb b 0 ≡ t → enc (cond t ([] ∷ pieces 0 (bytes ++ 0 ∷ [])) (onto_first b (pieces 0 (bytes ++ 0 ∷ [])))) ≡ b ∷ (bytes ++ 0 ∷ [])) [
  | true ↦ λ t. ap (λ (k : List ℕ). 0 ∷ k) (enc_names_of bytes) ∙ ap (λ (c : ℕ). c ∷ (bytes ++ 0 ∷ [])) (sym (eqb-true b 0 t))
  | false ↦ λ t. enc_onto_first b (pieces 0 (bytes ++ 0 ∷ [])) (bytes ++ 0 ∷ []) (enc_names_of bytes) (not_empty bytes [] 0)
] refl

-- a text without a byte 0, with each slash made 0, has the same pieces
pub names_of_text : (text : List ℕ) → AllByRecursion (λ b. b ≢ 0) text → names_of (map null_for_slash text ++ 0 ∷ []) ≡ pieces 47 (text ++ 47 ∷ [])
names_of_text [] h = refl
names_of_text (b ∷ text) h =
    elim (eqb b 47) as (λ t. eqb b 47 ≡ t → cond (eqb (cond t 0 b) 0) ([] ∷ pieces 0 (map null_for_slash text ++ 0 ∷ [])) (onto_first (cond t 0 b) (pieces 0 (map null_for_slash text ++ 0 ∷ [])))
    ≡ cond t ([] ∷ pieces 47 (text ++ 47 ∷ [])) (onto_first b (pieces 47 (text ++ 47 ∷ [])))) [
      | true ↦ λ t. ap (λ (p : Path). [] ∷ p) (names_of_text text h.1)
      | false ↦ λ t. cond-false (eqb b 0) _ _ (ne_eqb b 0 h.0) ∙ ap (onto_first b) (names_of_text text h.1)
    ] refl

-- the text of a path is as long as its key
pub text_len_enc : (p : Path) → text_len p ≡ length (enc p)
text_len_enc [] = refl
text_len_enc (n ∷ p) = omega (arith, length-append n (0 ∷ enc p), text_len_enc p)

-- ---- which components are names
name_bytes : (n : Name) → AllByRecursion (λ b. b < 256) n → list_any is_forbidden n ≡ false → HasNameBytes n
name_bytes [] h e = tt
name_bytes (b ∷ n) h e =
    let parts : (is_forbidden b ≡ false) × (list_any is_forbidden n ≡ false) = or_parts _ _ e in
    let each : (eqb b 0 ≡ false) × (eqb b 47 ≡ false) = or_parts _ _ parts.0 in
    let some : b ≢ 0 = eqb-false b 0 each.0 in
    (omega arith, h.0, eqb-false b 47 each.1, name_bytes n h.1 parts.1)

-- a component that passes the tests is a name
is_name : (n : Name) → AllByRecursion (λ b. b < 256) n → is_malformed n ≡ false → is_long n ≡ false → IsName n
is_name [] h m l = cc
is_name (b ∷ n) h m l =
    let parts : (is_dots (b ∷ n) ≡ false) × (list_any is_forbidden (b ∷ n) ≡ false) = or_parts _ _ m in
    let dots = or_parts _ _ parts.0 in
    record {
      some = omega arith;
      fits = ltb-false 255 (length (b ∷ n)) l;
      bytes = name_bytes (b ∷ n) h parts.1;
      not_dot = apart _ _ dots.0;
      not_dots = apart _ _ dots.1;
    }

-- components that pass both tests are names
pub each_name : (p : Path) → EachIn (λ b. b < 256) p → list_any is_malformed p ≡ false → list_any is_long p ≡ false → EachName p
each_name [] h m l = tt
each_name (n ∷ p) h m l =
    let ms : (is_malformed n ≡ false) × (list_any is_malformed p ≡ false) = or_parts _ _ m in
    let ls : (is_long n ≡ false) × (list_any is_long p ≡ false) = or_parts _ _ l in
    (is_name n h.0 ms.0 ls.0, each_name p h.1 ms.1 ls.1)

-- no forbidden byte in components that are not malformed
no_forbidden : (n : Name) → list_any is_forbidden n ≡ false → AllByRecursion (λ b. b ≢ 0) n
no_forbidden [] e = tt
no_forbidden (b ∷ n) e =
    let parts : (is_forbidden b ≡ false) × (list_any is_forbidden n ≡ false) = or_parts _ _ e in
    let each : (eqb b 0 ≡ false) × (eqb b 47 ≡ false) = or_parts _ _ parts.0 in
    (eqb-false b 0 each.0, no_forbidden n parts.1)

-- a component that is not malformed has no byte 0
no_null : (n : Name) → is_malformed n ≡ false → AllByRecursion (λ b. b ≢ 0) n
no_null [] m = tt
no_null (b ∷ n) m =
    let parts : (is_dots (b ∷ n) ≡ false) × (list_any is_forbidden (b ∷ n) ≡ false) = or_parts _ _ m in
    no_forbidden (b ∷ n) parts.1

-- nor has any of the components
pub no_nulls : (p : Path) → list_any is_malformed p ≡ false → EachIn (λ b. b ≢ 0) p
no_nulls [] m = tt
no_nulls (n ∷ p) m =
    let ms : (is_malformed n ≡ false) × (list_any is_malformed p ≡ false) = or_parts _ _ m in
    (no_null n ms.0, no_nulls p ms.1)

-- ---- what parsing makes
-- a key of the names that the text's components are
pub record KeyOfText (text key : List ℕ) : Type 0 where
  pub names : names_of key ≡ pieces 47 (text ++ 47 ∷ [])
  pub is_key : IsPathKey key

-- the key that is made of a text without a fault
pub key_of_text : (text key : List ℕ) → key ≡ map null_for_slash text ++ 0 ∷ [] → All (λ b. b < 256) text → length text < 1023
    → list_any is_malformed (pieces 47 (text ++ 47 ∷ [])) ≡ false → list_any is_long (pieces 47 (text ++ 47 ∷ [])) ≡ false → KeyOfText text key
key_of_text text key e bytes short m l =
    let nulls : AllByRecursion (λ b. b ≢ 0) text = each_from_pieces (λ b. b ≢ 0) 47 text (omega arith) (no_nulls (pieces 47 (text ++ 47 ∷ [])) m) in
    let names : names_of key ≡ pieces 47 (text ++ 47 ∷ []) = ap names_of e ∙ names_of_text text nulls in
    let spelled : enc (names_of key) ≡ key = subst (λ (k : List ℕ). enc (names_of k) ≡ k) (sym e) (enc_names_of (map null_for_slash text)) in
    let each : EachName (pieces 47 (text ++ 47 ∷ [])) = each_name (pieces 47 (text ++ 47 ∷ [])) (pieces_each (λ b. b < 256) 47 text (recursion_from_All (λ b. b < 256) text bytes) (omega arith)) m l in
    let size : length key ≡ length text + 1 = ap length e ∙ length-append (map null_for_slash text) (0 ∷ []) ∙ ap (λ (i : ℕ). i + 1) (length-map text null_for_slash) in
    let whole : text_len (names_of key) ≡ length key = text_len_enc (names_of key) ∙ ap length spelled in
    record {
      names = names;
      is_key = record {
        is_path = record { names = subst EachName (sym names) each; fits = omega arith };
        spelled = spelled;
      };
    }

-- the tests that a list of two faults passed
pub none_of_two : {A : Type 0} (m l : Bool) (d e : Errno) (x y : A) → unless (when m d ∷ when l e ∷ []) x ≡ Ok y → (m ≡ false) × (l ≡ false)
none_of_two true l d e x y h = cc
none_of_two false true d e x y h = cc
none_of_two false false d e x y h = (refl, refl)

-- the bytes after the first
pub rest_fits : (text rest : List ℕ) (b : ℕ) → ((i : ℕ) → Fits w8 (get_or text i 0)) → text ≡ b ∷ rest → All (λ b. b < 256) rest
rest_fits text rest b fits e = All-from_get_or (λ b. b < 256) rest 0 (λ i h.
    let at : Fits w8 (get_or (b ∷ rest) (suc i) 0) = subst (λ (t : List ℕ). Fits w8 (get_or t (suc i) 0)) e (fits (suc i)) in
    let byte : get_or (b ∷ rest) (suc i) 0 < 256 = omega arith in
    byte)

-- a text without a fault
pub record NoFault (text rest : List ℕ) (b : ℕ) : Type 0 where
  pub begins : text ≡ b ∷ rest
  pub slash : b ≡ 47
  pub some : (length rest == 0) ≡ false
  pub well_formed : list_any is_malformed (pieces 47 (rest ++ 47 ∷ [])) ≡ false
  pub short_names : list_any is_long (pieces 47 (rest ++ 47 ∷ [])) ≡ false
  pub short : length text ≤ 1023

-- is read as its components
pub parsed_text : (text rest : List ℕ) (b : ℕ) → NoFault text rest b → parsed text ≡ Ok (pieces 47 (rest ++ 47 ∷ []))
parsed_text text [] b u = absurd (false≢true (sym u.some))
parsed_text text (c ∷ rest) b u =
    ap parsed u.begins
    ∙ ap (λ (t : Bool). unless (when (not t) EINVAL ∷ when (list_any is_malformed (components (c ∷ rest))) EINVAL ∷ when (list_any is_long (components (c ∷ rest))) ENAMETOOLONG ∷ when (nat_lt 1023 (length (b ∷ c ∷ rest))) ENAMETOOLONG ∷ []) (components (c ∷ rest))) (eq-eqb b 47 u.slash)
    ∙ ap (λ (t : Bool). unless (when t EINVAL ∷ when (list_any is_long (components (c ∷ rest))) ENAMETOOLONG ∷ when (nat_lt 1023 (length (b ∷ c ∷ rest))) ENAMETOOLONG ∷ []) (components (c ∷ rest))) u.well_formed
    ∙ ap (λ (t : Bool). unless (when t ENAMETOOLONG ∷ when (nat_lt 1023 (length (b ∷ c ∷ rest))) ENAMETOOLONG ∷ []) (components (c ∷ rest))) u.short_names
    ∙ ap (λ (t : Bool). unless (when t ENAMETOOLONG ∷ []) (components (c ∷ rest))) (le-ltb 1023 (length (b ∷ c ∷ rest)) (subst (λ (t : List ℕ). length t ≤ 1023) u.begins u.short))

-- ---- names pass the tests
not_forbidden : (n : Name) → HasNameBytes n → list_any is_forbidden n ≡ false
not_forbidden [] h = refl
not_forbidden (b ∷ n) h = or_from _ _ (or_from _ _ (ne_eqb b 0 (let some : 0 < b = h.0 in omega arith)) (ne_eqb b 47 h.2)) (not_forbidden n h.3)

-- a name is not malformed
well_formed : (n : Name) → IsName n → is_malformed n ≡ false
well_formed [] h = let some : 0 < length {A = ℕ} [] = h.some in absurd (omega arith)
well_formed (b ∷ n) h = or_from _ _ (or_from _ _ (same_false (b ∷ n) (46 ∷ []) h.not_dot) (same_false (b ∷ n) (46 ∷ 46 ∷ []) h.not_dots)) (not_forbidden (b ∷ n) h.bytes)

-- no name is malformed
pub names_well_formed : (p : Path) → EachName p → list_any is_malformed p ≡ false
names_well_formed [] h = refl
names_well_formed (n ∷ p) h = or_from _ _ (well_formed n h.0) (names_well_formed p h.1)

-- and none is too long
pub names_short : (p : Path) → EachName p → list_any is_long p ≡ false
names_short [] h = refl
names_short (n ∷ p) h = or_from _ _ (le-ltb 255 (length n) h.0.fits) (names_short p h.1)

-- ---- texts of paths
-- a name has no slash
no_slash : (n : Name) → HasNameBytes n → AllByRecursion (λ b. b ≢ 47) n
no_slash [] h = tt
no_slash (b ∷ n) h = (h.2, no_slash n h.3)

-- the pieces of a path's names, each ended by a slash
pub pieces_slashed : (n : Name) (p : Path) → EachName (n ∷ p) → pieces 47 (n ++ (slashed p ++ 47 ∷ [])) ≡ n ∷ p
pieces_slashed n [] h = pieces_cut 47 n [] (All-from_recursion (λ b. b ≢ 47) n (no_slash n h.0.bytes))
pieces_slashed n (m ∷ p) h =
    ap (λ (x : List ℕ). pieces 47 (n ++ 47 ∷ x)) (append_assoc m (slashed p) (47 ∷ []))
    ∙ pieces_cut 47 n (m ++ (slashed p ++ 47 ∷ [])) (All-from_recursion (λ b. b ≢ 47) n (no_slash n h.0.bytes))
    ∙ ap (λ (q : Path). n ∷ q) (pieces_slashed m p h.1)

-- a byte put before the first piece is one more byte of the text
slashed_onto_first : (b : ℕ) (p : Path) (text : List ℕ) → slashed p ≡ 47 ∷ text → slashed (onto_first b p) ≡ 47 ∷ b ∷ text
slashed_onto_first b [] text e = cc
slashed_onto_first b (n ∷ p) text e = let f : n ++ slashed p ≡ text = cc in ap (λ (x : List ℕ). 47 ∷ b ∷ x) f

-- a text is that of its pieces
pub slashed_pieces : (text : List ℕ) → slashed (pieces 47 (text ++ 47 ∷ [])) ≡ 47 ∷ text
slashed_pieces [] = refl
slashed_pieces (b ∷ text) = elim (eqb b 47) as (λ t. eqb b 47 ≡ t → slashed (cond t ([] ∷ pieces 47 (text ++ 47 ∷ [])) (onto_first b (pieces 47 (text ++ 47 ∷ [])))) ≡ 47 ∷ b ∷ text) [
  | true ↦ λ t. ap (λ (x : List ℕ). 47 ∷ x) (slashed_pieces text) ∙ ap (λ (c : ℕ). 47 ∷ c ∷ text) (sym (eqb-true b 47 t))
  | false ↦ λ t. slashed_onto_first b (pieces 47 (text ++ 47 ∷ [])) text (slashed_pieces text)
] refl

-- the length of a text with a slash before each name
pub text_len_slashed : (p : Path) → text_len p ≡ length (slashed p)
text_len_slashed [] = refl
text_len_slashed (n ∷ p) = omega (arith, length-append n (slashed p), text_len_slashed p)

-- the text of a path is read as that path
pub read_back : (p : Path) → IsPath p → parsed (text_of p) ≡ Ok p
read_back [] h = refl
read_back ([] ∷ p) h = let some : 0 < length {A = ℕ} [] = h.names.0.some in absurd (omega arith)
read_back ((b ∷ n) ∷ p) h =
    let whole : pieces 47 ((b ∷ n ++ slashed p) ++ 47 ∷ []) ≡ (b ∷ n) ∷ p =
    ap (pieces 47) (append_assoc (b ∷ n) (slashed p) (47 ∷ [])) ∙ pieces_slashed (b ∷ n) p h.names in
    parsed_text (text_of ((b ∷ n) ∷ p)) (b ∷ n ++ slashed p) 47 (record {
      begins = refl;
      slash = refl;
      some = ne_eqb (length (b ∷ n ++ slashed p)) 0 (λ e. omega arith);
      well_formed = ap (list_any is_malformed) whole ∙ names_well_formed ((b ∷ n) ∷ p) h.names;
      short_names = ap (list_any is_long) whole ∙ names_short ((b ∷ n) ∷ p) h.names;
      short = omega (arith, h.fits, text_len_slashed ((b ∷ n) ∷ p));
    })
    ∙ ap Ok whole

-- the tests that a list of four faults passed, and the success that it gives
none_of_four : {A : Type 0} (j k m l : Bool) (d : Errno) (e : Errno) (f : Errno) (g : Errno) (x y : A) → unless (when j d ∷ when k e ∷ when m f ∷ when l g ∷ []) x ≡ Ok y
    → (j ≡ false) × (k ≡ false) × (m ≡ false) × (l ≡ false) × (x ≡ y)
none_of_four true k m l d e f g x y h = cc
none_of_four false true m l d e f g x y h = cc
none_of_four false false true l d e f g x y h = cc
none_of_four false false false true d e f g x y h = cc
none_of_four false false false false d e f g x y h = (refl, refl, refl, refl, cc)

-- what begins with a slash is a text as it stands
text_of_slashed : (p : Path) (text : List ℕ) → slashed p ≡ 47 ∷ text → text_of p ≡ 47 ∷ text
text_of_slashed [] text e = cc
text_of_slashed (n ∷ p) text e = e

-- components that pass the tests are a path, and the text is that path's
sound_components : (rest : List ℕ) → All (λ b. b < 256) rest → list_any is_malformed (components rest) ≡ false → list_any is_long (components rest) ≡ false
    → length rest < 1023 → IsPath (components rest) × (47 ∷ rest ≡ text_of (components rest))
sound_components [] bytes m l short = (record { names = tt; fits = omega arith }, refl)
sound_components (c ∷ rest) bytes m l short =
    let p : Path = components (c ∷ rest) in
    let text : slashed (components (c ∷ rest)) ≡ 47 ∷ c ∷ rest = slashed_pieces (c ∷ rest) in (
      record {
        names = each_name (components (c ∷ rest)) (pieces_each (λ b. b < 256) 47 (c ∷ rest) (recursion_from_All (λ b. b < 256) (c ∷ rest) bytes) (omega arith)) m l;
        fits = omega (arith, text_len_slashed (components (c ∷ rest)), ap length text);
      },
      sym (text_of_slashed (components (c ∷ rest)) (c ∷ rest) text),
    )

-- what is read is a path, and the text is that path's
pub only_texts : (text : List ℕ) (p : Path) → All (λ b. b < 256) text → parsed text ≡ Ok p → IsPath p × (text ≡ text_of p)
only_texts [] p bytes h = cc
only_texts (b ∷ rest) p bytes h =
    let tests = none_of_four _ _ _ _ _ _ _ _ (components rest) p h in
    let slash : b ≡ 47 = eqb-true b 47 (not-false (eqb b 47) tests.0) in
    let short : length (b ∷ rest) ≤ 1023 = ltb-false 1023 (length (b ∷ rest)) tests.3 in
    let sound : IsPath (components rest) × (47 ∷ rest ≡ text_of (components rest)) =
    sound_components rest (All-tail (λ c. c < 256) b rest bytes) tests.1 tests.2 (omega arith) in
    (subst IsPath tests.4 sound.0, ap (λ (c : ℕ). c ∷ rest) slash ∙ sound.1 ∙ ap text_of tests.4)
