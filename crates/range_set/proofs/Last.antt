-- The last range that begins by a key, and what it tells of all.
use Rattle.std.proofs.Common.{◌≡◌, ℕ, suc, ◌-◌, Bool, true, false, not, List, [], ◌∷◌, length, take, Option, Some, None, refl, ap, sym, ◌∙◌, subst, cond, arith}
use Rattle.std.specs.Prelude.{◌&&◌, ◌||◌}
use Rattle.std.proofs.lemmas.Bool.{and_from, or_left, or_right}
use Rattle.std.proofs.lemmas.Map.Keys.{sorted_head, sorted_tail}
use Rattle.std.specs.declared.cmp.Ordering.TheVariants.{Less, Equal, Greater}
use Rattle.std.specs.Ordering.{is_lt, is_le, match_ordering}
use Rattle.std.specs.List.{AllByRecursion, slice_get}
use Rattle.std.specs.Map.{keys_of}
use Rattle.pathkey.specs.Order.{by_bytes, by_bytes_total}
use Rattle.pathkey.specs.Keys.{is_below}
use Rattle.pathkey.proofs.KeyOrder.{reaches-from_before, reaches-from_not_before, before_from_not_reaches, not_reaches_from_before, le_le}
use Rattle.message.specs.Ranges.{reaches, before, within, ends_within}
use Rattle.message.proofs.KeyOrder.{both, split_bool}
use Rattle.message.proofs.RangeEnds.{below_later}
use Rattle.message.proofs.PointKeys.{or_none}
use Rattle.cow_map.specs.Places.{Rises, last_of, place, place_past}
use Rattle.range_set.specs.Disjoint.{Span, covered, ends_before, BeginBehind, AreApart, CoversMore}
use Rattle.range_set.specs.Ends.{EndBefore, AreHeld}
use Rattle.range_set.proofs.Ends.{not_true, ends_on, past_end, apart_rises}

-- the last range whose low end passes
abbrev pub last_or : Bool → Span → Option Span → Option Span
last_or b e None = cond b (Some e) None
last_or b e (Some x) = Some x

abbrev pub last_where : (List ℕ → Bool) → List Span → Option Span
last_where p [] = None
last_where p (e ∷ rs) = last_or (p e.0) e (last_where p rs)

abbrev pub by_key : List ℕ → List Span → Option Span
by_key q rs = last_where (λ k. not (before q k)) rs

abbrev pub before_key : List ℕ → List Span → Option Span
before_key q rs = last_where (λ k. not (reaches q k)) rs

-- ---- it is the last of those that stand before a place

pub last_rest : (e s : Span) (rs : List Span) → last_of (e ∷ s ∷ rs) ≡ last_of (s ∷ rs)
last_rest e s rs = (let is : length (e ∷ s ∷ rs) - 1 ≡ suc (length (s ∷ rs) - 1) = omega arith in ap (λ i. slice_get (e ∷ s ∷ rs) i) is)

pub last_one : (e : Span) → last_of (e ∷ []) ≡ Some e
last_one e = (let is : length (e ∷ []) - 1 ≡ 0 = omega arith in ap (λ i. slice_get (e ∷ []) i) is)

last_cons : (e : Span) (rs : List Span) → last_of (e ∷ rs) ≡ last_or true e (last_of rs)
last_cons e [] = last_one e
last_cons e (s ∷ rs) = last_rest e s rs ∙ some_last s rs
  where
    some_last : (s : Span) (rs : List Span) → last_of (s ∷ rs) ≡ last_or true e (last_of (s ∷ rs))
    some_last s [] = last_one s ∙ sym (ap (last_or true e) (last_one s))
    some_last s (t ∷ rs) = last_rest s t rs ∙ some_last t rs ∙ sym (ap (last_or true e) (last_rest s t rs))

-- what holds of all keys holds of its low end
pub last_keys : (P : List ℕ → Type 0) (rs : List Span) (x : Span) → AllByRecursion P (keys_of rs) → last_of rs ≡ Some x → P x.0
last_keys P [] x a h = absurd (cc)
last_keys P (e ∷ []) x a h = (let hit : Some e ≡ Some x = sym (last_one e) ∙ h in let is : e ≡ x = (cc) in subst (λ t. P t.0) is a.0)
last_keys P (e ∷ s ∷ rs) x a h = last_keys P (s ∷ rs) x a.1 (sym (last_rest e s rs) ∙ h)

none_passes : (p : List ℕ → Bool) (rs : List Span) → AllByRecursion (λ y. p y ≡ false) (keys_of rs) → last_where p rs ≡ None
none_passes p [] a = refl
none_passes p (e ∷ rs) a = ap (λ b. last_or b e (last_where p rs)) a.0 ∙ ap (last_or false e) (none_passes p rs a.1)

behind : (P : List ℕ → Type 0) (k : List ℕ) (rs : List Span) → ((y : List ℕ) → by_bytes k y ≡ Less → P y) → AllByRecursion (λ y. by_bytes k y ≡ Less) (keys_of rs) → AllByRecursion P (keys_of rs)
behind P k [] f a = tt
behind P k (e ∷ rs) f a = (f e.0 a.0, behind P k rs f a.1)

further : (q k : List ℕ) (rs : List Span) → by_bytes q k ≡ Less → AllByRecursion (λ y. by_bytes k y ≡ Less) (keys_of rs) → AllByRecursion (λ y. by_bytes q y ≡ Less) (keys_of rs)
further q k rs p a = behind (λ y. by_bytes q y ≡ Less) k rs (λ y l. by_bytes_total.trans q k y p l) a

past_where : (q : List ℕ) (rs : List Span) → Rises rs → last_of (take (place_past q rs) rs) ≡ by_key q rs
past_where q [] r = refl
past_where q (e ∷ rs) r =
    let rest = past_where q rs (sorted_tail by_bytes e.0 (keys_of rs) r) in
    let hit : by_bytes q e.0 ≡ by_bytes q e.0 → (not (before q e.0) ≡ true) → last_of (e ∷ take (place_past q rs) rs) ≡ by_key q (e ∷ rs) = λ s y. last_cons e (take (place_past q rs) rs) ∙ ap (last_or true e) rest ∙ sym (ap (λ b. last_or b e (by_key q rs)) y) in
    elim (by_bytes q e.0) as (λ o. by_bytes q e.0 ≡ o → last_of (take (match_ordering o 0 (suc (place_past q rs)) (suc (place_past q rs))) (e ∷ rs)) ≡ by_key q (e ∷ rs)) [
      | Less ↦ λ p. sym (none_passes (λ k. not (before q k)) (e ∷ rs) (ap (λ o. not (is_lt o)) p, behind (λ y. not (before q y) ≡ false) q rs (λ y l. ap (λ o. not (is_lt o)) l) (further q e.0 rs p (sorted_head by_bytes e.0 (keys_of rs) r))))
      | Equal ↦ λ p. hit refl (ap (λ o. not (is_lt o)) p)
      | Greater ↦ λ p. hit refl (ap (λ o. not (is_lt o)) p)
    ] refl

place_where : (q : List ℕ) (rs : List Span) → Rises rs → last_of (take (place q rs) rs) ≡ before_key q rs
place_where q [] r = refl
place_where q (e ∷ rs) r =
    let less = sorted_head by_bytes e.0 (keys_of rs) r in
    let none : (not (reaches q e.0) ≡ false) → AllByRecursion (λ y. by_bytes q y ≡ Less) (keys_of rs) → None ≡ before_key q (e ∷ rs) = λ n a. sym (none_passes (λ k. not (reaches q k)) (e ∷ rs) (n, behind (λ y. not (reaches q y) ≡ false) q rs (λ y l. ap (λ o. not (is_le o)) l) a)) in
    elim (by_bytes q e.0) as (λ o. by_bytes q e.0 ≡ o → last_of (take (match_ordering o 0 0 (suc (place q rs))) (e ∷ rs)) ≡ before_key q (e ∷ rs)) [
      | Less ↦ λ p. none (ap (λ o. not (is_le o)) p) (further q e.0 rs p less)
      | Equal ↦ λ p. none (ap (λ o. not (is_le o)) p) (behind (λ y. by_bytes q y ≡ Less) e.0 rs (λ y l. by_bytes_total.congr q e.0 y p ∙ l) less)
      | Greater ↦ λ p. last_cons e (take (place q rs) rs) ∙ ap (last_or true e) (place_where q rs (sorted_tail by_bytes e.0 (keys_of rs) r)) ∙ sym (ap (λ b. last_or b e (before_key q rs)) (ap (λ o. not (is_le o)) p))
    ] refl

pub by_key_is : (q : List ℕ) (rs : List Span) → AreApart rs → last_of (take (place_past q rs) rs) ≡ by_key q rs
by_key_is q rs a = past_where q rs (apart_rises rs a)

pub before_key_is : (q : List ℕ) (rs : List Span) → AreApart rs → last_of (take (place q rs) rs) ≡ before_key q rs
before_key_is q rs a = place_where q rs (apart_rises rs a)

-- ---- what it tells

-- a range ends behind the key
abbrev pub ends_after : Option Span → List ℕ → Bool
ends_after None k = false
ends_after (Some e) k = is_below k e.1

-- it begins behind what all begin behind
pub found_begins : (p : List ℕ → Bool) (rs : List Span) (h : Option (List ℕ)) (x : Span) → last_where p rs ≡ Some x → BeginBehind h rs → (ends_before h x.0 ≡ true) × (p x.0 ≡ true)
found_begins p [] h x e b = absurd (cc)
found_begins p (r ∷ rs) h x e b =
    elim (last_where p rs) as (λ t. last_where p rs ≡ t → last_or (p r.0) r t ≡ Some x → (ends_before h x.0 ≡ true) × (p x.0 ≡ true)) [
      | None ↦ λ n f. split_bool (p r.0)
          (λ y. (let hit : Some r ≡ Some x = sym (ap (λ c. cond c (Some r) None) y) ∙ f in let is : r ≡ x = cc in (subst (λ z. ends_before h z.0 ≡ true) is b.0, subst (λ z. p z.0 ≡ true) is y)))
          (λ y. (let no : None ≡ Some x = sym (ap (λ c. cond c (Some r) None) y) ∙ f in absurd (cc)))
      | Some z ↦ λ s f. found_begins p rs h x (s ∙ f) b.1
    ] refl e

-- it is one of them
pub found_covers : (p : List ℕ → Bool) (rs : List Span) (x : Span) (k : List ℕ) → last_where p rs ≡ Some x → (p x.0 ≡ true) × (within x.0 x.1 k ≡ true → covered rs k ≡ true)
found_covers p [] x k e = absurd (cc)
found_covers p (r ∷ rs) x k e =
    elim (last_where p rs) as (λ t. last_where p rs ≡ t → last_or (p r.0) r t ≡ Some x → (p x.0 ≡ true) × (within x.0 x.1 k ≡ true → covered (r ∷ rs) k ≡ true)) [
      | None ↦ λ n f. split_bool (p r.0)
          (λ y. (let hit : Some r ≡ Some x = sym (ap (λ c. cond c (Some r) None) y) ∙ f in let is : r ≡ x = cc in
          (subst (λ z. p z.0 ≡ true) is y, λ w. or_left (within r.0 r.1 k) (covered rs k) (subst (λ z. within z.0 z.1 k ≡ true) (sym is) w))))
          (λ y. (let no : None ≡ Some x = sym (ap (λ c. cond c (Some r) None) y) ∙ f in absurd (cc)))
      | Some z ↦ λ s f. (let g = found_covers p rs x k (s ∙ f) in (g.0, λ w. or_right (within r.0 r.1 k) (covered rs k) (g.1 w)))
    ] refl e

and_none : (a c : Bool) → ((a && false) || c) ≡ c
and_none true c = refl
and_none false c = refl

pub covered_by_last : (rs : List Span) (q : List ℕ) → AreApart rs → covered rs q ≡ ends_after (by_key q rs) q
covered_by_last [] q a = refl
covered_by_last (r ∷ rs) q a =
    elim (by_key q rs) as (λ t. by_key q rs ≡ t → (within r.0 r.1 q || covered rs q) ≡ ends_after (last_or (not (before q r.0)) r t) q) [
      | None ↦ λ n. (let none : covered rs q ≡ false = covered_by_last rs q a.2 ∙ ap (λ t. ends_after t q) n in
          split_bool (before q r.0)
          (λ y. ap (λ b. (b && is_below q r.1) || covered rs q) (not_reaches_from_before q r.0 y) ∙ none ∙ sym (ap (λ b. ends_after (cond (not b) (Some r) None) q) y))
          (λ y. ap (λ b. (b && is_below q r.1) || covered rs q) (reaches-from_not_before q r.0 y) ∙ ap (λ c. is_below q r.1 || c) none ∙ or_none (is_below q r.1) ∙ sym (ap (λ b. ends_after (cond (not b) (Some r) None) q) y)))
      | Some x ↦ λ s. (let f = found_begins (λ k. not (before q k)) rs r.1 x s a.1 in
          let out : is_below q r.1 ≡ false = past_end r.1 q (ends_on r.1 x.0 q f.0 (reaches-from_not_before q x.0 (not_true (before q x.0) f.1))) in
          ap (λ b. (reaches r.0 q && b) || covered rs q) out ∙ and_none (reaches r.0 q) (covered rs q) ∙ covered_by_last rs q a.2 ∙ ap (λ t. ends_after t q) s)
    ] refl

-- a range ends at the key or behind it
abbrev pub ends_from : Option Span → List ℕ → Bool
ends_from None k = false
ends_from (Some e) k = ends_within (Some k) e.1

not_reached : (h : Option (List ℕ)) (k : List ℕ) → ends_within (Some k) h ≡ false → ends_before h k ≡ true
not_reached None k e = absurd (cc)
not_reached (Some h) k e = before_from_not_reaches k h e

pub end_by_last : (rs : List Span) (q : List ℕ) → AreApart rs → ends_from (before_key q rs) q ≡ false → EndBefore q rs
end_by_last [] q a e = tt
end_by_last (r ∷ rs) q a e =
    elim (before_key q rs) as (λ t. before_key q rs ≡ t → ends_from (last_or (not (reaches q r.0)) r t) q ≡ false → EndBefore q (r ∷ rs)) [
      | None ↦ λ n f. (
        (λ b. not_reached r.1 q (sym (ap (λ c. ends_from (cond (not c) (Some r) None) q) (not_reaches_from_before r.0 q b)) ∙ f)),
        end_by_last rs q a.2 (ap (λ t. ends_from t q) n),
      )
      | Some x ↦ λ s f. (let g = found_begins (λ k. not (reaches q k)) rs r.1 x s a.1 in (
        (λ b. ends_on r.1 x.0 q g.0 (reaches-from_before x.0 q (before_from_not_reaches q x.0 (not_true (reaches q x.0) g.1)))),
        end_by_last rs q a.2 (ap (λ t. ends_from t q) s ∙ f),
      ))
    ] refl e

-- ---- a range that another holds

pub held_by_last : (rs : List Span) (lo : List ℕ) (hi : Option (List ℕ)) (x : Span) → Some x ≡ by_key lo rs → ends_within hi x.1 ≡ true → AreHeld lo hi rs
held_by_last rs lo hi x f e k w =
    let p = both (reaches lo k) (is_below k hi) w in
    let g = found_covers (λ q. not (before lo q)) rs x k (sym f) in
    let begins : reaches x.0 lo ≡ true = reaches-from_not_before lo x.0 (not_true (before lo x.0) g.0) in
    g.1 (and_from (reaches x.0 k) (is_below k x.1) (le_le x.0 lo k begins p.0) (below_later k hi x.1 e p.1))

held_more : (w c : Bool) → (w ≡ true → c ≡ true) → c ≡ (w || c)
held_more true c h = h refl
held_more false c h = refl

pub held_covers : (lo : List ℕ) (hi : Option (List ℕ)) (rs : List Span) → AreHeld lo hi rs → CoversMore lo hi rs rs
held_covers lo hi rs h k = held_more (within lo hi k) (covered rs k) (h k)

-- ---- the first range

pub first_none : (rs : List Span) → None ≡ slice_get rs 0 → rs ≡ []
first_none [] h = refl
first_none (e ∷ rs) h = absurd (cc)

pub first_some : (rs : List Span) (x : Span) → AreApart rs → Some x ≡ slice_get rs 0 → is_below x.0 x.1 ≡ true
first_some [] x a h = absurd (cc)
first_some (e ∷ rs) x a h = (let is : e ≡ x = (cc) in subst (λ t. is_below t.0 t.1 ≡ true) is a.0)

-- ---- the last of all

pub last_some : (rs : List Span) (x : Span) → AreApart rs → last_of rs ≡ Some x → is_below x.0 x.1 ≡ true
last_some [] x a h = absurd (cc)
last_some (e ∷ []) x a h = (let hit : Some e ≡ Some x = sym (last_one e) ∙ h in let is : e ≡ x = (cc) in subst (λ t. is_below t.0 t.1 ≡ true) is a.0)
last_some (e ∷ s ∷ rs) x a h = last_some (s ∷ rs) x a.2 (sym (last_rest e s rs) ∙ h)
