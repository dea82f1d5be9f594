-- Plain texts: they are read byte by byte, and have no fault.
use Rattle.std.proofs.Common.{◌≡◌, ◌≢◌, ℕ, ◌+◌, ◌<◌, ◌≤◌, List, [], ◌∷◌, ◌++◌, length, Bool, true, false, ◌&&◌, ◌||◌, eqb, cond, not, arith, sym, ap, refl, ◌∙◌, subst, nat_lt, get_or, drop, map, Ok, Fits, w8}
use Rattle.std.proofs.lemmas.List.{at_drop_more, drop_all}
use Rattle.std.specs.Prelude.{◌==◌}
use Rattle.std.specs.List.{list_all, list_any, AllByRecursion}
use Rattle.std.proofs.lemmas.Bool.{and_parts, or_parts, or_from, eqb-true, eqb-false, le-ltb, ne_eqb, eq-eqb}
use Rattle.pathkey.specs.Names.{Name, Path, text_len}
use Rattle.pathkey.specs.Texts.{pieces, onto_first, is_forbidden, is_malformed, is_long, names_of, null_for_slash, parsed}
use Rattle.pathkey.specs.PathKeys.{IsPathKey}
use Rattle.pathkey.specs.PlainTexts.{is_plain_byte, is_plain_name, are_plain, is_plain, is_plain_after}
use Rattle.pathkey.proofs.OrderFacts.{same_false}
use Rattle.pathkey.proofs.TextFacts.{EachIn, each_from_pieces, slashed_pieces, text_len_slashed, NoFault, KeyOfText, key_of_text, rest_fits, parsed_text}

-- ---- byte by byte
-- the bytes go on plain names, where a name begins or has begun
abbrev pub plain_from : Bool → List ℕ → Bool
plain_from begins [] = not begins
plain_from begins (b ∷ names) = is_plain_after begins b && plain_from (eqb b 47) names

-- plain names, of the first of which a beginning may have been read
abbrev pub plain_names : Bool → Path → Bool
plain_names true p = list_all is_plain_name p
plain_names false [] = true
plain_names false (n ∷ p) = list_all is_plain_byte n && list_all is_plain_name p

-- a byte of a name that has begun, or begins with it: by cases of the byte
in_begun : (zero percent slash x y : Bool) → slash ≡ false → ((not (zero || percent) && not (false && slash)) && (x && y)) ≡ ((not ((zero || slash) || percent) && x) && y)
in_begun zero percent true x y e = cc
in_begun true true false x y e = refl
in_begun true false false x y e = refl
in_begun false true false x y e = refl
in_begun false false false x y e = refl

at_begin : (zero percent dot slash x y : Bool) → slash ≡ false → ((not (zero || percent) && not (dot || false)) && (x && y)) ≡ ((not dot && (not ((zero || slash) || percent) && x)) && y)
at_begin zero percent dot true x y e = cc
at_begin true true true false x y e = refl
at_begin true true false false x y e = refl
at_begin true false true false x y e = refl
at_begin true false false false x y e = refl
at_begin false true true false x y e = refl
at_begin false true false false x y e = refl
at_begin false false true false x y e = refl
at_begin false false false false x y e = refl

-- one more byte of a name
in_name : (begins : Bool) (b : ℕ) (p : Path) → eqb b 47 ≡ false
    → ((not ((b == 0) || (b == 37)) && not (begins && ((b == 46) || false))) && plain_names false p) ≡ plain_names begins (onto_first b p)
in_name true b [] e = at_begin (b == 0) (b == 37) (b == 46) (eqb b 47) true true e
in_name true b (n ∷ p) e = at_begin (b == 0) (b == 37) (b == 46) (eqb b 47) (list_all is_plain_byte n) (list_all is_plain_name p) e
in_name false b [] e = in_begun (b == 0) (b == 37) (eqb b 47) true true e
in_name false b (n ∷ p) e = in_begun (b == 0) (b == 37) (eqb b 47) (list_all is_plain_byte n) (list_all is_plain_name p) e

-- a slash, which ends a name
at_slash : (begins : Bool) (names : List ℕ) → plain_from true names ≡ list_all is_plain_name (pieces 47 (names ++ 47 ∷ []))
    → (is_plain_after begins 47 && plain_from true names) ≡ plain_names begins ([] ∷ pieces 47 (names ++ 47 ∷ []))
at_slash true names e = refl
at_slash false names e = e

-- byte by byte the names are found plain where they are
pub plain_pieces : (begins : Bool) (names : List ℕ) → plain_from begins names ≡ plain_names begins (pieces 47 (names ++ 47 ∷ []))
plain_pieces true [] = refl
plain_pieces false [] = refl
plain_pieces begins (b ∷ names) =
    elim (eqb b 47) as (λ t. eqb b 47 ≡ t → ((not ((b == 0) || (b == 37)) && not (begins && ((b == 46) || t))) && plain_from t names)
    ≡ plain_names begins (cond t ([] ∷ pieces 47 (names ++ 47 ∷ [])) (onto_first b (pieces 47 (names ++ 47 ∷ []))))) [
      | true ↦ λ t. subst (λ (c : ℕ). ((not ((c == 0) || (c == 37)) && not (begins && ((c == 46) || true))) && plain_from true names) ≡ plain_names begins ([] ∷ pieces 47 (names ++ 47 ∷ []))) (sym (eqb-true b 47 t))
          (at_slash begins names (plain_pieces true names))
      | false ↦ λ t. ap (λ (r : Bool). (not ((b == 0) || (b == 37)) && not (begins && ((b == 46) || false))) && r) (plain_pieces false names) ∙ in_name begins b (pieces 47 (names ++ 47 ∷ [])) t
    ] refl

-- a byte that cannot stand there settles it
pub stops_there : (begins : Bool) (names : List ℕ) (i d : ℕ) → i < length names → is_plain_after begins (get_or names i d) ≡ false → plain_from begins (drop i names) ≡ false
stops_there begins names i d h e =
    at_drop_more (plain_from begins) names i d h ∙ ap (λ (t : Bool). t && plain_from (eqb (get_or names i d) 47) (drop (i + 1) names)) e

-- and so does the end
pub none_left : (begins : Bool) (names : List ℕ) (i : ℕ) → length names ≤ i → plain_from begins (drop i names) ≡ not begins
none_left begins names i h = ap (plain_from begins) (drop_all i names h)

-- ---- plain names have no fault
plain_byte : (b : ℕ) → is_plain_byte b ≡ true → (is_forbidden b ≡ false) × (eqb b 37 ≡ false)
plain_byte b h = or_parts _ _ (true_not (is_forbidden b || (b == 37)) h)
  where
    true_not : (t : Bool) → not t ≡ true → t ≡ false
    true_not true e = cc
    true_not false e = refl

none_forbidden : (n : Name) → list_all is_plain_byte n ≡ true → list_any is_forbidden n ≡ false
none_forbidden [] h = refl
none_forbidden (b ∷ n) h = let parts = and_parts _ _ h in or_from _ _ (plain_byte b parts.0).0 (none_forbidden n parts.1)

well_formed : (n : Name) → is_plain_name n ≡ true → is_malformed n ≡ false
well_formed [] h = cc
well_formed (b ∷ n) h =
    let parts = and_parts _ _ h in
    let no_dot : b ≢ 46 = λ e. dot_first b e parts.0 in
    or_from _ _ (or_from _ _ (same_false (b ∷ n) (46 ∷ []) (λ e. no_dot (let f : b ≡ 46 = cc in f))) (same_false (b ∷ n) (46 ∷ 46 ∷ []) (λ e. no_dot (let f : b ≡ 46 = cc in f))))
    (none_forbidden (b ∷ n) parts.1)
  where
    dot_first : (b : ℕ) → b ≡ 46 → not (b == 46) ≡ true → ⊥
    dot_first b e h = let f : not (46 == 46) ≡ true = subst (λ (c : ℕ). not (c == 46) ≡ true) e h in cc

-- plain names pass the first test
plain_well_formed : (p : Path) → list_all is_plain_name p ≡ true → list_any is_malformed p ≡ false
plain_well_formed [] h = refl
plain_well_formed (n ∷ p) h = let parts = and_parts _ _ h in or_from _ _ (well_formed n parts.0) (plain_well_formed p parts.1)

-- and names of a text of at most 256 bytes pass the second
short_names : (p : Path) → text_len p ≤ 256 → list_any is_long p ≡ false
short_names [] h = refl
short_names (n ∷ p) h = or_from _ _ (le-ltb 255 (length n) (omega arith)) (short_names p (omega arith))

-- a plain text is read without a fault
pub plain_no_fault : (text names : List ℕ) (b : ℕ) → text ≡ b ∷ names → b ≡ 47 → length text ≤ 255 → are_plain names ≡ true → NoFault text names b
plain_no_fault text names b e slash short plain =
    let size : text_len (pieces 47 (names ++ 47 ∷ [])) ≡ length (47 ∷ names) = text_len_slashed (pieces 47 (names ++ 47 ∷ [])) ∙ ap length (slashed_pieces names) in
    let whole : length text ≡ length (b ∷ names) = ap length e in
    record {
      begins = e;
      slash = slash;
      some = some_names names plain;
      well_formed = plain_well_formed (pieces 47 (names ++ 47 ∷ [])) plain;
      short_names = short_names (pieces 47 (names ++ 47 ∷ [])) (omega arith);
      short = omega arith;
    }
  where
    some_names : (names : List ℕ) → are_plain names ≡ true → (length names == 0) ≡ false
    some_names [] h = cc
    some_names (c ∷ names) h = ne_eqb (length (c ∷ names)) 0 (omega arith)

-- ---- plain texts need no decoding
no_percent : (n : Name) → list_all is_plain_byte n ≡ true → AllByRecursion (λ b. b ≢ 37) n
no_percent [] h = tt
no_percent (b ∷ n) h = let parts = and_parts _ _ h in (eqb-false b 37 (plain_byte b parts.0).1, no_percent n parts.1)

no_percents : (p : Path) → list_all is_plain_name p ≡ true → EachIn (λ b. b ≢ 37) p
no_percents [] h = tt
no_percents ([] ∷ p) h = cc
no_percents ((b ∷ n) ∷ p) h = let parts = and_parts _ _ h in (no_percent (b ∷ n) (and_parts _ _ parts.0).1, no_percents p parts.1)

-- no byte of a plain text is a percent sign
pub lacks_percent : (text : List ℕ) → is_plain text ≡ true → AllByRecursion (λ b. b ≢ 37) text
lacks_percent [] h = tt
lacks_percent (b ∷ names) h =
    let parts = and_parts _ _ h in
    let slash : b ≡ 47 = eqb-true b 47 (and_parts _ _ parts.0).0 in
    (omega arith, each_from_pieces (λ b. b ≢ 37) 47 names (omega arith) (no_percents (pieces 47 (names ++ 47 ∷ [])) parts.1))

-- ---- what reading a plain text makes
-- the key that is made of a plain text, and the path that it is read as
pub record PlainKey (text key : List ℕ) : Type 0 where
  pub plain : is_plain text ≡ true
  pub is_key : IsPathKey key
  pub read : parsed text ≡ Ok (names_of key)

pub plain_key : (text names key : List ℕ) (b : ℕ) → text ≡ b ∷ names → b ≡ 47 → length text ≤ 255 → are_plain names ≡ true
    → key ≡ map null_for_slash names ++ 0 ∷ [] → ((i : ℕ) → Fits w8 (get_or text i 0)) → PlainKey text key
plain_key text names key b e slash short plain k fits =
    let sound : NoFault text names b = plain_no_fault text names b e slash short plain in
    let size : length text ≡ length (b ∷ names) = ap length e in
    let made : KeyOfText names key = key_of_text names key k (rest_fits text names b fits e) (omega arith) sound.well_formed sound.short_names in
    let within : nat_lt 255 (length (b ∷ names)) ≡ false = le-ltb 255 (length (b ∷ names)) (omega arith) in
    record {
      plain = ap is_plain e ∙ rw (eq-eqb b 47 slash, within, plain) refl;
      is_key = made.is_key;
      read = parsed_text text names b sound ∙ ap Ok (sym made.names);
    }
