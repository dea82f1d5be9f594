-- The root, the parent and the last name of a path, by its key.
use Rattle.std.proofs.Common.{◌≡◌, ◌≢◌, ℕ, ◌+◌, ◌<◌, ◌≤◌, ◌-◌, List, [], ◌∷◌, ◌++◌, length, take, drop, Bool, true, false, eqb, Some, None, arith, sym, ap, refl, ◌∙◌, subst, append_assoc, length-append, get_or, Fits, w8}
use Rattle.std.specs.List.{All, AllByRecursion, starts_with, list_any, join_with_byte}
use Rattle.std.proofs.lemmas.Slice.Eq.{starts_is}
use Rattle.std.proofs.lemmas.Bool.Decides.{Decides-eqb}
use Rattle.std.proofs.lemmas.List.{take_at, get_or_append_left, nil_from_length, same_from_push}
use Rattle.std.proofs.lemmas.List.Elements.{All-from_recursion, recursion_from_All, All-from_get_or}
use Rattle.std.proofs.lemmas.Bool.{and_parts, and_from, true≢false}
use Rattle.pathkey.specs.Names.{Name, Path, IsPath, EachName, HasNameBytes, parent, parent_path, last_name, text_len, is_under}
use Rattle.pathkey.specs.Texts.{names_of, pieces, is_malformed, is_long, component_faults}
use Rattle.pathkey.specs.Outcomes.{when, unless}
use Rattle.pathkey.specs.declared.errno.Errno.TheVariants.{EINVAL, ENAMETOOLONG}
use Rattle.std.specs.Result.{is_ok}
use Rattle.std.specs.Bool.{MatchBool}
use Rattle.std.specs.Cmp.{both_ways}
use Rattle.pathkey.specs.Keys.{subtree}
use Rattle.pathkey.specs.declared.range.KeyRange.{KeyRange}
use Rattle.pathkey.specs.Enc.{enc}
use Rattle.pathkey.specs.PathKeys.{IsPathKey, IsAfterLast}
use Rattle.pathkey.proofs.OrderFacts.{same_true, same_from_eq}
use Rattle.pathkey.proofs.KeyFacts.{under_from_key, enc-append, enc-join}
use Rattle.pathkey.proofs.Pieces.{pieces_cut, not_empty, last_piece}
use Rattle.pathkey.proofs.TextFacts.{text_len_enc, enc_names_of, each_name, pieces_each, names_well_formed, names_short}

-- a name has no byte 0
name_lacks_null : (n : Name) → HasNameBytes n → AllByRecursion (λ b. b ≢ 0) n
name_lacks_null [] h = tt
name_lacks_null (b ∷ n) h = (omega arith, name_lacks_null n h.3)

-- a path's key spells that path
pub names_of_enc : (p : Path) → EachName p → names_of (enc p) ≡ p
names_of_enc [] h = refl
names_of_enc (n ∷ p) h =
    pieces_cut 0 n (enc p) (All-from_recursion (λ b. b ≢ 0) n (name_lacks_null n h.0.bytes))
    ∙ ap (λ (q : Path). n ∷ q) (names_of_enc p h.1)

-- a path's key is a key of a path
pub enc_is_key : (p : Path) → IsPath p → IsPathKey (enc p)
enc_is_key p h = record {
  is_path = subst IsPath (sym (names_of_enc p h.names)) h;
  spelled = ap enc (names_of_enc p h.names);
}

-- ---- parent and last name
-- a path's key is its parent's, the last name and a byte 0
pub enc_parent : (p : Path) (n : Name) → last_name p ≡ Some n → enc p ≡ enc (parent p) ++ (n ++ 0 ∷ [])
enc_parent [] n e = cc
enc_parent (m ∷ []) n e = let f : m ≡ n = cc in ap (λ (k : Name). k ++ 0 ∷ []) f
enc_parent (m ∷ k ∷ p) n e =
    ap (λ (x : List ℕ). m ++ 0 ∷ x) (enc_parent (k ∷ p) n e)
    ∙ sym (append_assoc m (0 ∷ enc (parent (k ∷ p))) (n ++ 0 ∷ []))

-- a path with a last name has a parent
pub parent_path_some : (p : Path) (n : Name) → last_name p ≡ Some n → parent_path p ≡ Some (parent p)
parent_path_some [] n e = cc
parent_path_some (m ∷ p) n e = refl

-- a path that is not the root has a last name
last_name_some : (n : Name) (p : Path) → last_name (n ∷ p) ≡ None → ⊥
last_name_some n [] e = cc
last_name_some n (m ∷ p) e = last_name_some m p e

-- without a last name there is no parent
pub parent_path_none : (p : Path) → last_name p ≡ None → None ≡ parent_path p
parent_path_none [] e = refl
parent_path_none (n ∷ p) e = absurd (last_name_some n p e)

-- the parent's names are names
pub parent_names : (p : Path) → EachName p → EachName (parent p)
parent_names [] h = tt
parent_names (n ∷ []) h = tt
parent_names (n ∷ m ∷ p) h = (h.0, parent_names (m ∷ p) h.1)

-- the parent's text is no longer
pub parent_len : (p : Path) → text_len (parent p) ≤ text_len p
parent_len [] = omega arith
parent_len (n ∷ []) = omega arith
parent_len (n ∷ m ∷ p) = omega (arith, parent_len (m ∷ p))

-- the beginning of a path's key that is its parent's
pub record ParentKey (p : Path) (n : Name) (key : List ℕ) : Type 0 where
  pub fits : length n + 1 ≤ length key
  pub is_key : IsPathKey (take (length key - length n - 1) key)
  pub parent : Some (names_of (take (length key - length n - 1) key)) ≡ parent_path p

-- all but the last name and its byte 0 is the parent's key
pub parent_key : (p : Path) (n : Name) (key : List ℕ) → IsPath p → key ≡ enc p → Some n ≡ last_name p → ParentKey p n key
parent_key p n key h k e =
    let whole : key ≡ enc (parent p) ++ (n ++ 0 ∷ []) = k ∙ enc_parent p n (sym e) in
    let size : length key ≡ length (enc (parent p)) + (length n + 1) =
    ap length whole ∙ length-append (enc (parent p)) (n ++ 0 ∷ []) ∙ ap (λ (i : ℕ). length (enc (parent p)) + i) (length-append n (0 ∷ [])) in
    let place : length (enc (parent p)) ≡ length key - length n - 1 = omega arith in
    let cut : take (length key - length n - 1) key ≡ enc (parent p) =
    ap (take (length key - length n - 1)) whole ∙ take_at (enc (parent p)) (n ++ 0 ∷ []) (length key - length n - 1) place in
    let each : EachName (parent p) = parent_names p h.names in
    let is_path : IsPath (parent p) = record { names = each; fits = omega (arith, parent_len p, h.fits) } in
    record {
      fits = omega arith;
      is_key = subst IsPathKey (sym cut) (enc_is_key (parent p) is_path);
      parent = ap Some (ap names_of cut ∙ names_of_enc (parent p) each) ∙ sym (parent_path_some p n (sym e));
    }

-- ---- below a path
-- q is at or below p where its names begin with those of p
pub under_from_append : (p q r : Path) → q ≡ p ++ r → is_under p q ≡ true
under_from_append [] q r e = refl
under_from_append (n ∷ p) [] r e = cc
under_from_append (n ∷ p) (m ∷ q) r e =
    let f : n ≡ m = cc in let g : q ≡ p ++ r = cc in
    and_from _ _ (same_from_eq n m f) (under_from_append p q r g)

-- and only there
pub append_from_under : (p q : Path) → is_under p q ≡ true → (r : Path) × (q ≡ p ++ r)
append_from_under [] q h = (q, refl)
append_from_under (n ∷ p) [] h = cc
append_from_under (n ∷ p) (m ∷ q) h =
    let parts = and_parts _ _ h in
    let f : n ≡ m = same_true n m parts.0 in
    let ih : (r : Path) × (q ≡ p ++ r) = append_from_under p q parts.1 in
    (ih.0, (let b : q ≡ p ++ ih.0 = ih.1 in cc))

-- whether the key of q begins with that of p says whether q is at or below p
pub under_by_keys : (p q : Path) (k l : List ℕ) (begins : Bool) → EachName p → EachName q → k ≡ enc p → l ≡ enc q → begins ≡ starts_with eqb l k → begins ≡ is_under p q
under_by_keys p q k l begins u v e f h =
    let reads = starts_is {E = eqb} Decides-eqb l k begins h in
    both_ways begins (is_under p q)
    (λ t.
    let split : enc p ++ drop (length k) l ≡ enc q = ap (λ (x : List ℕ). x ++ drop (length k) l) (sym e) ∙ sym (reads.0 t) ∙ f in
    let below = under_from_key p q (drop (length k) l) u v split in
    under_from_append p q below.0 below.1)
    (λ t.
    let below : (r : Path) × (q ≡ p ++ r) = append_from_under p q t in
    reads.1 (enc below.0) (f ∙ ap enc below.1 ∙ enc-append p below.0 ∙ ap (λ (x : List ℕ). x ++ enc below.0) (sym e)))

-- ---- which bytes are a path's key
-- bytes that end with a byte 0 and whose components pass the tests
pub key_from_tests : (key body : List ℕ) → key ≡ body ++ 0 ∷ [] → All (λ b. b < 256) body → length key ≤ 1023
    → list_any is_malformed (pieces 0 (body ++ 0 ∷ [])) ≡ false → list_any is_long (pieces 0 (body ++ 0 ∷ [])) ≡ false → IsPathKey key
key_from_tests key body e bytes short m l =
    let spelled : enc (names_of key) ≡ key = subst (λ (k : List ℕ). enc (names_of k) ≡ k) (sym e) (enc_names_of body) in
    let each : EachName (pieces 0 (body ++ 0 ∷ [])) = each_name (pieces 0 (body ++ 0 ∷ [])) (pieces_each (λ b. b < 256) 0 body (recursion_from_All (λ b. b < 256) body bytes) (omega arith)) m l in
    let whole : text_len (names_of key) ≡ length key = text_len_enc (names_of key) ∙ ap length spelled in
    record {
      is_path = record { names = subst EachName (sym (ap names_of e)) each; fits = omega arith };
      spelled = spelled;
    }

-- a path's key ends with a byte 0
pub key_ends : (p : Path) (body : List ℕ) (last : ℕ) → enc p ≡ body ++ last ∷ [] → last ≡ 0
key_ends [] body last e = absurd (not_empty body [] last (sym e))
key_ends (n ∷ p) body last e = sym (same_from_push (join_with_byte 0 (n ∷ p)) body 0 last (sym (enc-join n p) ∙ e)).1

-- the names of a path's key pass the tests
pub tests_from_key : (p : Path) (body : List ℕ) → EachName p → enc p ≡ body ++ 0 ∷ []
    → (list_any is_malformed (pieces 0 (body ++ 0 ∷ [])) ≡ false) × (list_any is_long (pieces 0 (body ++ 0 ∷ [])) ≡ false)
tests_from_key p body h e =
    let names : pieces 0 (body ++ 0 ∷ []) ≡ p = ap names_of (sym e) ∙ names_of_enc p h in
    (ap (list_any is_malformed) names ∙ names_well_formed p h, ap (list_any is_long) names ∙ names_short p h)

-- ---- the end of a subtree
-- the empty key is the root's, whose subtree has no end
pub subtree_whole : (p : Path) → length (enc p) ≡ 0 → ◌≡◌ {A = KeyRange} (record { lo = enc p; hi = None }) (subtree p)
subtree_whole [] e = refl
subtree_whole (n ∷ p) e = absurd (not_empty n (enc p) 0 (nil_from_length (enc (n ∷ p)) e))

-- another key's subtree ends where its last byte is made 1
pub subtree_end : (p : Path) (front : List ℕ) (b : ℕ) → enc p ≡ front ++ b ∷ [] → ◌≡◌ {A = KeyRange} (record { lo = enc p; hi = Some (front ++ 1 ∷ []) }) (subtree p)
subtree_end [] front b e = absurd (not_empty front [] b (sym e))
subtree_end (n ∷ p) front b e =
    let same : join_with_byte 0 (n ∷ p) ≡ front = (same_from_push (join_with_byte 0 (n ∷ p)) front 0 b (sym (enc-join n p) ∙ e)).0 in
    ap {B = KeyRange} (λ (s : List ℕ). record { lo = enc (n ∷ p); hi = Some (s ++ 1 ∷ []) }) (sym same)

-- the bytes before the last
pub front_fits : (key body : List ℕ) (last : ℕ) → ((i : ℕ) → Fits w8 (get_or key i 0)) → key ≡ body ++ last ∷ [] → All (λ b. b < 256) body
front_fits key body last fits e = All-from_get_or (λ b. b < 256) body 0 (λ i h.
    let at : Fits w8 (get_or key i 0) = fits i in
    let same : get_or key i 0 ≡ get_or body i 0 = ap (λ (k : List ℕ). get_or k i 0) e ∙ get_or_append_left body (last ∷ []) 0 i h in
    omega arith)

-- the tests of the components say whether bytes that end with a byte 0 are a path's key
pub tests_decide : (key body : List ℕ) (ok : Bool) → key ≡ body ++ 0 ∷ [] → All (λ b. b < 256) body → length key ≤ 1023
    → ok ≡ is_ok (unless (component_faults 0 body) (tt {0})) → MatchBool ok (IsPathKey key) ((p : Path) → IsPath p → enc p ≢ key)
tests_decide key body ok e bytes short h =
    elim (list_any is_malformed (pieces 0 (body ++ 0 ∷ []))) as (λ m. list_any is_malformed (pieces 0 (body ++ 0 ∷ [])) ≡ m
    → ok ≡ is_ok (unless (when m EINVAL ∷ when (list_any is_long (pieces 0 (body ++ 0 ∷ []))) ENAMETOOLONG ∷ []) (tt {0})) → MatchBool ok (IsPathKey key) ((p : Path) → IsPath p → enc p ≢ key)) [
      | true ↦ λ em eo. subst (λ (b : Bool). MatchBool b (IsPathKey key) ((p : Path) → IsPath p → enc p ≢ key)) (sym eo)
          (λ p u f. true≢false (sym em ∙ (tests_from_key p body u.names (f ∙ e)).0))
      | false ↦ λ em.
          elim (list_any is_long (pieces 0 (body ++ 0 ∷ []))) as (λ l. list_any is_long (pieces 0 (body ++ 0 ∷ [])) ≡ l
          → ok ≡ is_ok (unless (when l ENAMETOOLONG ∷ []) (tt {0})) → MatchBool ok (IsPathKey key) ((p : Path) → IsPath p → enc p ≢ key)) [
            | true ↦ λ el eo. subst (λ (b : Bool). MatchBool b (IsPathKey key) ((p : Path) → IsPath p → enc p ≢ key)) (sym eo)
                (λ p u f. true≢false (sym el ∙ (tests_from_key p body u.names (f ∙ e)).1))
            | false ↦ λ el eo. subst (λ (b : Bool). MatchBool b (IsPathKey key) ((p : Path) → IsPath p → enc p ≢ key)) (sym eo)
                (key_from_tests key body e bytes short em el)
          ] refl
    ] refl h

-- the bytes behind the last byte 0 but that which ends a path's key are its last name
pub last_of_key : (key body last : List ℕ) (end : ℕ) → IsPathKey key → key ≡ body ++ end ∷ [] → IsAfterLast 0 body last → Some last ≡ last_name (names_of key)
last_of_key key body last end h e cut =
    let zero : end ≡ 0 = key_ends (names_of key) body end (h.spelled ∙ e) in
    sym (last_piece 0 body last cut) ∙ ap (λ (b : ℕ). last_name (names_of (body ++ b ∷ []))) (sym zero) ∙ ap (λ (k : List ℕ). last_name (names_of k)) (sym e)
