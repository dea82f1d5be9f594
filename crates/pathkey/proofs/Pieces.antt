-- Cutting bytes at a separator, and the names that a key spells.
use Rattle.std.proofs.Common.{◌≡◌, ◌≢◌, ◌<◌, ◌≤◌, ◌+◌, ◌-◌, ℕ, List, [], ◌∷◌, ◌++◌, length, take, drop, get_or, Some, true, false, cond, eqb, inl, inr, arith, sym, ap, refl, ◌∙◌, subst, length-drop}
use Rattle.std.specs.List.{All}
use Rattle.std.proofs.lemmas.Bool.{eq-eqb, ne_eqb, cond-true, cond-false}
use Rattle.std.proofs.lemmas.List.{append_cancel_left, drop_more, take_all, take-append-drop}
use Rattle.std.proofs.lemmas.List.Elements.{All-head, All-tail, All-from_recursion}
use Rattle.pathkey.specs.Names.{Name, Path, IsName, EachName, last_name}
use Rattle.pathkey.specs.Texts.{pieces, onto_first, names_of}
use Rattle.pathkey.specs.Enc.{enc}
use Rattle.pathkey.specs.PathKeys.{SpellsNames, IsAfterLast}

-- a list with a byte in it is not empty
pub not_empty : (xs ys : List ℕ) (b : ℕ) → xs ++ b ∷ ys ≡ [] → ⊥
not_empty [] ys b e = cc
not_empty (x ∷ xs) ys b e = cc

-- bytes without the separator before the first one are the first piece
pub pieces_cut : (s : ℕ) (front back : List ℕ) → All (λ b. b ≢ s) front → pieces s (front ++ s ∷ back) ≡ front ∷ pieces s back
pieces_cut s [] back h = cond-true (eqb s s) _ _ (eq-eqb s s refl)
pieces_cut s (b ∷ front) back h =
    cond-false (eqb b s) _ _ (ne_eqb b s (All-head (λ b. b ≢ s) b front h))
    ∙ ap (onto_first b) (pieces_cut s front back (All-tail (λ b. b ≢ s) b front h))

-- a list with the separator in it does not lack it
pub not_lacking : (s : ℕ) (front back : List ℕ) → All (λ b. b ≢ s) (front ++ s ∷ back) → ⊥
not_lacking s [] back h = All-head (λ b. b ≢ s) s back h refl
not_lacking s (b ∷ front) back h = not_lacking s front back (All-tail (λ b. b ≢ s) b (front ++ s ∷ back) h)

-- a key that spells names and has no byte 0 spells none
pub no_names : (key : List ℕ) → SpellsNames key → All (λ b. b ≢ 0) key → names_of key ≡ []
no_names key spells h = elim (names_of key) as (λ p. enc p ≡ key → p ≡ []) [
  | [] ↦ λ e. refl
  | n ∷ p ↦ λ e. absurd (not_lacking 0 n (enc p) (subst (All (λ b. b ≢ 0)) (sym e) h))
] spells.spelled

-- a key cut at its first byte 0: its first name, and the names after it
pub record CutAtName (key front back : List ℕ) : Type 0 where
  pub names : names_of key ≡ front ∷ names_of back
  pub is_name : IsName front
  pub rest : SpellsNames back

-- a key is cut at its first byte 0
pub cut_at_name : (key front back : List ℕ) → SpellsNames key → key ≡ front ++ 0 ∷ back → All (λ b. b ≢ 0) front → CutAtName key front back
cut_at_name key front back spells e h =
    let split : names_of key ≡ front ∷ names_of back = ap names_of e ∙ pieces_cut 0 front back h in
    let each : EachName (front ∷ names_of back) = subst EachName split spells.names in
    let spelled : front ++ 0 ∷ enc (names_of back) ≡ front ++ 0 ∷ back = ap enc (sym split) ∙ spells.spelled ∙ e in
    let after : 0 ∷ enc (names_of back) ≡ 0 ∷ back = append_cancel_left front (0 ∷ enc (names_of back)) (0 ∷ back) spelled in
    record {
      names = split;
      is_name = each.0;
      rest = record { names = each.1; spelled = (cc) };
    }

-- ---- the last piece
-- all bytes, where none of them is the separator
pub after_last_all : (s : ℕ) (bytes : List ℕ) (start : ℕ) → start ≡ 0 → All (λ b. b ≢ s) (drop start bytes) → IsAfterLast s bytes (take (length bytes - start) (drop start bytes))
after_last_all s bytes start zero lacks =
    let whole : take (length bytes - start) (drop start bytes) ≡ drop start bytes = take_all (length bytes - start) (drop start bytes) (omega (arith, length-drop start bytes)) in
    (subst (All (λ b. b ≢ s)) (sym whole) lacks, inl (whole ∙ ap (λ (i : ℕ). drop i bytes) zero))

-- the bytes from one on that stands behind the separator, none of which is the separator
pub after_last_cut : (s : ℕ) (bytes : List ℕ) (start : ℕ) → 0 < start → start ≤ length bytes → get_or bytes (start - 1) 0 ≡ s → All (λ b. b ≢ s) (drop start bytes)
    → IsAfterLast s bytes (take (length bytes - start) (drop start bytes))
after_last_cut s bytes start some within at lacks =
    let whole : take (length bytes - start) (drop start bytes) ≡ drop start bytes = take_all (length bytes - start) (drop start bytes) (omega (arith, length-drop start bytes)) in
    let next : start - 1 + 1 ≡ start = omega arith in
    let cut : bytes ≡ take (start - 1) bytes ++ s ∷ drop start bytes =
    sym (take-append-drop (start - 1) bytes) ∙ ap (λ (x : List ℕ). take (start - 1) bytes ++ x)
    (drop_more bytes (start - 1) 0 (omega arith) ∙ ap (λ (b : ℕ). b ∷ drop (start - 1 + 1) bytes) at ∙ ap (λ (i : ℕ). s ∷ drop i bytes) next) in
    (subst (All (λ b. b ≢ s)) (sym whole) lacks, inr (take (start - 1) bytes, cut ∙ ap (λ (x : List ℕ). take (start - 1) bytes ++ s ∷ x) (sym whole)))

-- pieces of which the last ends the bytes, and at least one stands before it
abbrev pub TwoOrMore : List ℕ → Path → Type 0
TwoOrMore last [] = ⊥
TwoOrMore last (n ∷ p) = last_name p ≡ Some last

one_more : (last : List ℕ) (n : Name) (p : Path) → last_name p ≡ Some last → last_name (n ∷ p) ≡ Some last
one_more last n [] e = cc
one_more last n (m ∷ p) e = e

last_of_two : (last : List ℕ) (p : Path) → TwoOrMore last p → last_name p ≡ Some last
last_of_two last [] h = absurd h
last_of_two last (n ∷ p) h = one_more last n p h

after_slash : (last : List ℕ) (p : Path) → TwoOrMore last p → TwoOrMore last ([] ∷ p)
after_slash last p h = last_of_two last p h

onto_two : (last : List ℕ) (b : ℕ) (p : Path) → TwoOrMore last p → TwoOrMore last (onto_first b p)
onto_two last b [] h = absurd h
onto_two last b (n ∷ p) h = h

last_cut : (s : ℕ) (front last : List ℕ) → All (λ b. b ≢ s) last → TwoOrMore last (pieces s (front ++ s ∷ last ++ s ∷ []))
last_cut s [] last h =
    subst (TwoOrMore last) (sym (pieces_cut s [] (last ++ s ∷ []) (All-from_recursion (λ b. b ≢ s) [] tt)))
    (ap last_name (pieces_cut s last [] h))
last_cut s (b ∷ front) last h = elim (eqb b s) as (λ t. TwoOrMore last (cond t ([] ∷ pieces s (front ++ s ∷ last ++ s ∷ [])) (onto_first b (pieces s (front ++ s ∷ last ++ s ∷ []))))) [
  | true ↦ after_slash last (pieces s (front ++ s ∷ last ++ s ∷ [])) (last_cut s front last h)
  | false ↦ onto_two last b (pieces s (front ++ s ∷ last ++ s ∷ [])) (last_cut s front last h)
]

-- the bytes behind the last separator are the last piece
pub last_piece : (s : ℕ) (bytes last : List ℕ) → IsAfterLast s bytes last → last_name (pieces s (bytes ++ s ∷ [])) ≡ Some last
last_piece s bytes last (lacks, inl e) = ap (λ (x : List ℕ). last_name (pieces s (x ++ s ∷ []))) (sym e) ∙ ap last_name (pieces_cut s last [] lacks)
last_piece s bytes last (lacks, inr (front, e)) =
    ap (λ (x : List ℕ). last_name (pieces s (x ++ s ∷ []))) e
    ∙ last_of_two last (pieces s (front ++ s ∷ last ++ s ∷ [])) (last_cut s front last lacks)
