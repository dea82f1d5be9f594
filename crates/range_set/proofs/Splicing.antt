-- A range in the place of those that begin in it.
use Rattle.std.proofs.Common.{◌≡◌, ℕ, suc, ◌+◌, Bool, true, false, not, List, [], ◌∷◌, length, drop, Option, Some, None, refl, ap, sym, ◌∙◌, subst, cond, arith}
use Rattle.std.specs.Prelude.{◌&&◌, ◌||◌, is_some, IfSome}
use Rattle.std.specs.declared.cmp.Ordering.TheVariants.{Less, Equal, Greater}
use Rattle.std.specs.Ordering.{is_lt, is_le, match_ordering, ordering_reverse}
use Rattle.std.specs.List.{AllByRecursion, filter, slice_get, sum_by}
use Rattle.std.specs.Option.{option_map, unwrap_or}
use Rattle.std.specs.Map.{keys_of, values_of}
use Rattle.std.specs.BTreeMap.{insert_entry}
use mir.Val.{bool_byte}
use Rattle.std.proofs.lemmas.Bool.{or_parts}
use Rattle.std.proofs.lemmas.List.Filters.{length-filter_both}
use Rattle.std.proofs.lemmas.List.Sums.{sum_by-cons}
use Rattle.std.proofs.lemmas.Map.Entries.{sum_by-insert_entry}
use Rattle.std.proofs.lemmas.Map.Keys.{sorted_head, sorted_tail}
use Rattle.pathkey.specs.Order.{by_bytes, by_bytes_total}
use Rattle.pathkey.specs.Keys.{is_below, is_in}
use Rattle.pathkey.specs.declared.range.KeyRange.{KeyRange}
use Rattle.pathkey.proofs.OrderFacts.{equal}
use Rattle.pathkey.proofs.KeyOrder.{greater_from, reaches-from_before, reaches-from_not_before, not_before_from_reaches, not_reaches_from_before, le_le, le_lt}
use Rattle.message.specs.Ranges.{reaches, before, within}
use Rattle.message.proofs.KeyOrder.{both, split_bool}
use Rattle.message.proofs.Parting.{second_false}
use Rattle.cow_map.specs.Places.{Rises, at_key, place_past}
use Rattle.cow_map.specs.Moves.{IsFirstMoved}
use Rattle.range_set.specs.Disjoint.{Span, covered, ends_before, BeginBehind, AreApart, CoversMore, TakesFirst}
use Rattle.range_set.specs.Ends.{EndBefore, Fits, FitsFirst, IsFree, Widens, spliced}
use Rattle.range_set.proofs.Ends.{not_true, not_false, past_on, past_end, ahead_of_end, less_from_before, apart_rises}

-- ---- what stays and what goes

-- the range does not begin in this one
abbrev pub stays : KeyRange → Span → Bool
stays r e = not (is_in r e.0)

stays_before : (r : KeyRange) (e : Span) → before e.0 r.lo ≡ true → stays r e ≡ true
stays_before r e h = ap (λ b. not (b && is_below e.0 r.hi)) (not_reaches_from_before e.0 r.lo h)

stays_past : (r : KeyRange) (e : Span) → is_below e.0 r.hi ≡ false → stays r e ≡ true
stays_past r e h = ap not (second_false (reaches r.lo e.0) (is_below e.0 r.hi) h)

goes : (r : KeyRange) (e : Span) → reaches r.lo e.0 ≡ true → is_below e.0 r.hi ≡ true → stays r e ≡ false
goes r e l h = ap (λ b. not (b && is_below e.0 r.hi)) l ∙ ap not h

filter_in : (p : Span → Bool) (e : Span) (es : List Span) → p e ≡ true → filter p (e ∷ es) ≡ e ∷ filter p es
filter_in p e es h = ap (λ c. cond c (e ∷ filter p es) (filter p es)) h

filter_out : (p : Span → Bool) (e : Span) (es : List Span) → p e ≡ false → filter p (e ∷ es) ≡ filter p es
filter_out p e es h = ap (λ c. cond c (e ∷ filter p es) (filter p es)) h

begin_filter : (p : Span → Bool) (h : Option (List ℕ)) (es : List Span) → BeginBehind h es → BeginBehind h (filter p es)
begin_filter p h [] b = tt
begin_filter p h (e ∷ es) b = elim (p e) as (λ c. BeginBehind h (cond c (e ∷ filter p es) (filter p es))) [
  | true ↦ (b.0, begin_filter p h es b.1)
  | false ↦ begin_filter p h es b.1
]

apart_filter : (p : Span → Bool) (es : List Span) → AreApart es → AreApart (filter p es)
apart_filter p [] a = tt
apart_filter p (e ∷ es) a = elim (p e) as (λ c. AreApart (cond c (e ∷ filter p es) (filter p es))) [
  | true ↦ (a.0, begin_filter p e.1 es a.1, apart_filter p es a.2)
  | false ↦ apart_filter p es a.2
]

pub begin_insert : (h : Option (List ℕ)) (es : List Span) (lo : List ℕ) (hi : Option (List ℕ)) → ends_before h lo ≡ true → BeginBehind h es → BeginBehind h (insert_entry by_bytes es lo hi)
begin_insert h [] lo hi x b = (x, tt)
begin_insert h (e ∷ es) lo hi x b = elim (by_bytes lo e.0) as (λ o. BeginBehind h (match_ordering o ((lo, hi) ∷ e ∷ es) ((e.0, hi) ∷ es) (e ∷ insert_entry by_bytes es lo hi))) [
  | Less ↦ (x, b)
  | Equal ↦ (b.0, b.1)
  | Greater ↦ (b.0, begin_insert h es lo hi x b.1)
]

-- each range begins at the end or behind it
abbrev pub AllPast : Option (List ℕ) → List Span → Type 0
AllPast h es = AllByRecursion (λ q. is_below q h ≡ false) (keys_of es)

pub behind_past : (h : Option (List ℕ)) (es : List Span) → BeginBehind h es → AllPast h es
behind_past h [] b = tt
behind_past h (e ∷ es) b = (past_end h e.0 b.0, behind_past h es b.1)

pub insert_first : (lo : List ℕ) (hi : Option (List ℕ)) (es : List Span) → is_below lo hi ≡ true → AllPast hi es → insert_entry by_bytes es lo hi ≡ (lo, hi) ∷ es
insert_first lo hi [] b f = refl
insert_first lo hi (e ∷ es) b f = ap (λ o. match_ordering o ((lo, hi) ∷ e ∷ es) ((e.0, hi) ∷ es) (e ∷ insert_entry by_bytes es lo hi)) (less_from_before lo e.0 (ahead_of_end hi lo e.0 b f.0))

-- ---- the ranges that begin from a key on

abbrev pub AllFrom : List ℕ → List Span → Type 0
AllFrom k es = AllByRecursion (λ q. reaches k q ≡ true) (keys_of es)

pub from_later : (k x : List ℕ) (es : List Span) → reaches k x ≡ true → AllByRecursion (λ y. by_bytes x y ≡ Less) (keys_of es) → AllFrom k es
from_later k x [] h a = tt
from_later k x (e ∷ es) h a = (reaches-from_before k e.0 (le_lt k x e.0 h (ap is_lt a.0)), from_later k x es h a.1)

all_from : (k : List ℕ) (e : Span) (es : List Span) → Rises (e ∷ es) → before e.0 k ≡ false → AllFrom k (e ∷ es)
all_from k e es s n = (let h = reaches-from_not_before e.0 k n in (h, from_later k e.0 es h (sorted_head by_bytes e.0 (keys_of es) s)))

rest_past : (r : KeyRange) (es : List Span) → AllFrom r.lo es → AllPast r.hi (filter (λ e. stays r e) es)
rest_past r [] a = tt
rest_past r (e ∷ es) a = elim (stays r e) as (λ c. stays r e ≡ c → AllPast r.hi (cond c (e ∷ filter (λ x. stays r x) es) (filter (λ x. stays r x) es))) [
  | true ↦ λ k. (not_true (is_below e.0 r.hi) (sym (ap (λ b. not (b && is_below e.0 r.hi)) a.0) ∙ k), rest_past r es a.1)
  | false ↦ λ k. rest_past r es a.1
] refl

free_tail : (hi : Option (List ℕ)) (e : Span) (es : List Span) → IsFree (e ∷ es) hi → IsFree es hi
free_tail None e es f = tt
free_tail (Some h) e es f = (or_parts (within e.0 e.1 h) (covered es h) f).1

pub tie : (a b : List ℕ) → reaches a b ≡ true → reaches b a ≡ true → by_bytes a b ≡ Equal
tie a b y n = elim (by_bytes a b) as (λ o. is_le o ≡ true → is_lt o ≡ false → o ≡ Equal) [
  | Less ↦ λ s t. absurd (cc)
  | Equal ↦ λ s t. refl
  | Greater ↦ λ s t. absurd (cc)
] y (not_before_from_reaches b a n)

-- a range that begins at a free end or behind it begins behind it
behind_free : (hi : Option (List ℕ)) (e : Span) (es : List Span) → is_below e.0 e.1 ≡ true → IsFree (e ∷ es) hi → is_below e.0 hi ≡ false → ends_before hi e.0 ≡ true
behind_free None e es s f n = absurd (cc)
behind_free (Some h) e es s f n = split_bool (before h e.0)
    (λ y. y)
    (λ m.
    let at : reaches e.0 h ≡ true = reaches-from_not_before h e.0 m in
    let is : e.0 ≡ h = equal e.0 h (tie e.0 h at (reaches-from_not_before e.0 h n)) in
    let held : within e.0 e.1 h ≡ true = ap (λ c. c && is_below h e.1) at ∙ subst (λ k. is_below k e.1 ≡ true) is s in
    let no : true ≡ false = sym held ∙ (or_parts (within e.0 e.1 h) (covered es h) f).0 in absurd (cc))

rest_behind : (r : KeyRange) (es : List Span) → AllFrom r.lo es → AreApart es → IsFree es r.hi → BeginBehind r.hi (filter (λ e. stays r e) es)
rest_behind r [] a s f = tt
rest_behind r (e ∷ es) a s f =
    let rest = rest_behind r es a.1 s.2 (free_tail r.hi e es f) in
    elim (stays r e) as (λ c. stays r e ≡ c → BeginBehind r.hi (cond c (e ∷ filter (λ x. stays r x) es) (filter (λ x. stays r x) es))) [
      | true ↦ λ k. (behind_free r.hi e es s.0 f (not_true (is_below e.0 r.hi) (sym (ap (λ b. not (b && is_below e.0 r.hi)) a.0) ∙ k)), rest)
      | false ↦ λ k. rest
    ] refl

-- a range that begins in another whose end is free lies in it
inner_within : (lo : List ℕ) (hi : Option (List ℕ)) (e : Span) (es : List Span) (q : List ℕ) → reaches lo e.0 ≡ true → is_below e.0 hi ≡ true → IsFree (e ∷ es) hi → within e.0 e.1 q ≡ true → within lo hi q ≡ true
inner_within lo None e es q l b f w = (let p = both (reaches e.0 q) (is_below q e.1) w in ap (λ c. c && true) (le_le lo e.0 q l p.0))
inner_within lo (Some h) e es q l b f w =
    let p = both (reaches e.0 q) (is_below q e.1) w in
    let ends : is_below h e.1 ≡ false = sym (ap (λ c. c && is_below h e.1) (reaches-from_before e.0 h b)) ∙ (or_parts (within e.0 e.1 h) (covered es h) f).0 in
    ap (λ c. c && before q h) (le_le lo e.0 q l p.0) ∙ ahead_of_end e.1 q h p.1 ends

swap_or : (a b c : Bool) → (a || (b || c)) ≡ (b || (a || c))
swap_or true true c = refl
swap_or true false c = refl
swap_or false true c = refl
swap_or false false c = refl

absorb : (w x c : Bool) → (x ≡ true → w ≡ true) → (w || c) ≡ (w || (x || c))
absorb true x c h = refl
absorb false true c h = (let no : false ≡ true = h refl in cc)
absorb false false c h = refl

rest_covered : (r : KeyRange) (es : List Span) (q : List ℕ) → AllFrom r.lo es → IsFree es r.hi → (is_in r q || covered (filter (λ e. stays r e) es) q) ≡ (is_in r q || covered es q)
rest_covered r [] q a h = refl
rest_covered r (e ∷ es) q a h = elim (stays r e) as (λ c. stays r e ≡ c → (is_in r q || covered (cond c (e ∷ filter (λ x. stays r x) es) (filter (λ x. stays r x) es)) q) ≡ (is_in r q || covered (e ∷ es) q)) [
  | true ↦ λ k. swap_or (is_in r q) (within e.0 e.1 q) (covered (filter (λ x. stays r x) es) q) ∙ ap (λ c. within e.0 e.1 q || c) (rest_covered r es q a.1 (free_tail r.hi e es h)) ∙ swap_or (within e.0 e.1 q) (is_in r q) (covered es q)
  | false ↦ λ k. (let p = both (reaches r.lo e.0) (is_below e.0 r.hi) (not_false (is_in r e.0) k) in
      rest_covered r es q a.1 (free_tail r.hi e es h) ∙ absorb (is_in r q) (within e.0 e.1 q) (covered es q) (inner_within r.lo r.hi e es q p.0 p.1 h))
] refl

-- ---- spliced

-- behind a range that begins before it
past_one : (r : KeyRange) (e : Span) (es : List Span) → before e.0 r.lo ≡ true → spliced r (e ∷ es) ≡ e ∷ spliced r es
past_one r e es h =
    let rest = filter (λ x. stays r x) es in
    ap (λ t. insert_entry by_bytes t r.lo r.hi) (filter_in (λ x. stays r x) e es (stays_before r e h))
    ∙ ap (λ o. match_ordering o ((r.lo, r.hi) ∷ e ∷ rest) ((e.0, r.hi) ∷ rest) (e ∷ insert_entry by_bytes rest r.lo r.hi)) (greater_from r.lo e.0 h)

-- or before all others
at_first : (r : KeyRange) (es : List Span) → is_below r.lo r.hi ≡ true → AllFrom r.lo es → spliced r es ≡ (r.lo, r.hi) ∷ filter (λ e. stays r e) es
at_first r es b a = insert_first r.lo r.hi (filter (λ e. stays r e) es) b (rest_past r es a)

apart_by : (r : KeyRange) (es : List Span) → is_below r.lo r.hi ≡ true → Rises es → AreApart es → EndBefore r.lo es → IsFree es r.hi → AreApart (spliced r es)
apart_by r [] b s a f g = (b, tt, tt)
apart_by r (e ∷ es) b s a f g = split_bool (before e.0 r.lo)
    (λ y. subst (λ t. AreApart t) (sym (past_one r e es y)) (
      a.0,
      begin_insert e.1 (filter (λ x. stays r x) es) r.lo r.hi (f.0 y) (begin_filter (λ x. stays r x) e.1 es a.1),
      apart_by r es b (sorted_tail by_bytes e.0 (keys_of es) s) a.2 f.1 (free_tail r.hi e es g),
    ))
    (λ n. (let l = all_from r.lo e es s n in subst (λ t. AreApart t) (sym (at_first r (e ∷ es) b l)) (b, rest_behind r (e ∷ es) l a g, apart_filter (λ x. stays r x) (e ∷ es) a)))

covers_by : (r : KeyRange) (es : List Span) (q : List ℕ) → is_below r.lo r.hi ≡ true → Rises es → IsFree es r.hi → covered (spliced r es) q ≡ (is_in r q || covered es q)
covers_by r [] q b s f = refl
covers_by r (e ∷ es) q b s f = split_bool (before e.0 r.lo)
    (λ y.
    ap (λ t. covered t q) (past_one r e es y)
    ∙ ap (λ c. within e.0 e.1 q || c) (covers_by r es q b (sorted_tail by_bytes e.0 (keys_of es) s) (free_tail r.hi e es f))
    ∙ swap_or (within e.0 e.1 q) (is_in r q) (covered es q))
    (λ n. (let l = all_from r.lo e es s n in ap (λ t. covered t q) (at_first r (e ∷ es) b l) ∙ rest_covered r (e ∷ es) q l f))

pub spliced_apart : (r : KeyRange) (es : List Span) → is_below r.lo r.hi ≡ true → AreApart es → EndBefore r.lo es → IsFree es r.hi → AreApart (spliced r es)
spliced_apart r es b a f g = apart_by r es b (apart_rises es a) a f g

pub spliced_covers : (r : KeyRange) (es : List Span) (q : List ℕ) → is_below r.lo r.hi ≡ true → AreApart es → IsFree es r.hi → covered (spliced r es) q ≡ (is_in r q || covered es q)
spliced_covers r es q b a f = covers_by r es q b (apart_rises es a) f

-- ---- where none begins inside it, it is put in

all_stay : (r : KeyRange) (es : List Span) → AllPast r.hi es → filter (λ e. stays r e) es ≡ es
all_stay r [] f = refl
all_stay r (e ∷ es) f = filter_in (λ x. stays r x) e es (stays_past r e f.0) ∙ ap (λ t. e ∷ t) (all_stay r es f.1)

past_later : (h : Option (List ℕ)) (x : List ℕ) (es : List Span) → is_below x h ≡ false → AllByRecursion (λ y. by_bytes x y ≡ Less) (keys_of es) → AllPast h es
past_later h x [] n a = tt
past_later h x (e ∷ es) n a = (past_on h x e.0 n (reaches-from_before x e.0 (ap is_lt a.0)), past_later h x es n a.1)

abbrev pub NoneInside : KeyRange → List Span → Type 0
NoneInside r es = IfSome (slice_get (drop (place_past r.lo es) es) 0) (λ e. is_below e.0 r.hi ≡ false)

stay_behind : (r : KeyRange) (es : List Span) → Rises es → AllByRecursion (λ y. by_bytes r.lo y ≡ Less) (keys_of es) → NoneInside r es → filter (λ e. stays r e) es ≡ es
stay_behind r [] s a n = refl
stay_behind r (e ∷ es) s a n =
    let first : is_below e.0 r.hi ≡ false = subst (λ o. IfSome (slice_get (drop (match_ordering o 0 (suc (place_past r.lo es)) (suc (place_past r.lo es))) (e ∷ es)) 0) (λ x. is_below x.0 r.hi ≡ false)) a.0 n in
    all_stay r (e ∷ es) (first, past_later r.hi e.0 es first (sorted_head by_bytes e.0 (keys_of es) s))

pub put_alone : (r : KeyRange) (es : List Span) → Rises es → is_below r.lo r.hi ≡ true → NoneInside r es → spliced r es ≡ insert_entry by_bytes es r.lo r.hi
put_alone r [] s b n = refl
put_alone r (e ∷ es) s b n =
    let less = sorted_head by_bytes e.0 (keys_of es) s in
    let rest = sorted_tail by_bytes e.0 (keys_of es) s in
    let inner : by_bytes r.lo e.0 ≡ by_bytes r.lo e.0 → slice_get (drop (suc (place_past r.lo es)) (e ∷ es)) 0 ≡ slice_get (drop (place_past r.lo es) es) 0 = λ t. refl in
    elim (by_bytes r.lo e.0) as (λ o. by_bytes r.lo e.0 ≡ o → IfSome (slice_get (drop (match_ordering o 0 (suc (place_past r.lo es)) (suc (place_past r.lo es))) (e ∷ es)) 0) (λ x. is_below x.0 r.hi ≡ false) → spliced r (e ∷ es) ≡ match_ordering o ((r.lo, r.hi) ∷ e ∷ es) ((e.0, r.hi) ∷ es) (e ∷ insert_entry by_bytes es r.lo r.hi)) [
      | Less ↦ λ p m. (let from : AllFrom r.lo (e ∷ es) = all_from r.lo e es s (not_before_from_reaches r.lo e.0 (ap is_le p)) in
          at_first r (e ∷ es) b from ∙ ap (λ t. (r.lo, r.hi) ∷ t) (all_stay r (e ∷ es) (m, past_later r.hi e.0 es m less)))
      | Equal ↦ λ p m. (let is : r.lo ≡ e.0 = equal r.lo e.0 p in
          let from : AllFrom r.lo (e ∷ es) = all_from r.lo e es s (not_before_from_reaches r.lo e.0 (ap is_le p)) in
          let out : stays r e ≡ false = goes r e from.0 (subst (λ k. is_below k r.hi ≡ true) is b) in
          at_first r (e ∷ es) b from
          ∙ ap (λ t. (r.lo, r.hi) ∷ t) (filter_out (λ x. stays r x) e es out ∙ stay_behind r es rest (subst (λ k. AllByRecursion (λ y. by_bytes k y ≡ Less) (keys_of es)) (sym is) less) m)
          ∙ ap (λ k. (k, r.hi) ∷ es) is)
      | Greater ↦ λ p m. past_one r e es (ap is_lt (by_bytes_total.antisymm e.0 r.lo ∙ ap ordering_reverse p)) ∙ ap (λ t. e ∷ t) (put_alone r es rest b m)
    ] refl n

-- ---- how many there are then

abbrev one : Option (List ℕ) → ℕ
one h = 1

one_each : (rs : List Span) → sum_by one (values_of rs) ≡ length rs
one_each [] = refl
one_each (e ∷ rs) = omega (arith, sum_by-cons one e.1 (values_of rs), one_each rs)

pub put_new : (lo : List ℕ) (hi : Option (List ℕ)) (rs : List Span) → Rises rs → None ≡ at_key lo rs → length (insert_entry by_bytes rs lo hi) ≡ length rs + 1
put_new lo hi rs s n =
    let is : one hi ≡ 1 = refl in
    let none = ap (λ o. unwrap_or (option_map one o) 0) (sym n) in
    omega (arith, is, none, sum_by-insert_entry one by_bytes_total rs lo hi s, one_each rs, one_each (insert_entry by_bytes rs lo hi))

pub put_over : (lo : List ℕ) (hi old : Option (List ℕ)) (rs : List Span) → Rises rs → Some old ≡ at_key lo rs → length (insert_entry by_bytes rs lo hi) ≡ length rs
put_over lo hi old rs s n =
    let is : one hi ≡ 1 = refl in
    let some = ap (λ o. unwrap_or (option_map one o) 0) (sym n) in
    omega (arith, is, some, sum_by-insert_entry one by_bytes_total rs lo hi s, one_each rs, one_each (insert_entry by_bytes rs lo hi))

pub gone_counted : (r : KeyRange) (rs : List Span) → length (filter (λ e. is_in r e.0) rs) + length (filter (λ e. stays r e) rs) ≡ length rs
gone_counted r rs = length-filter_both (λ e. is_in r e.0) (λ e. stays r e) (λ e. refl) rs

-- behind a range that was widened
pub wide_covers : (lo : List ℕ) (hi : Option (List ℕ)) (rs : List Span) (wide : KeyRange) → AreApart rs → Widens rs lo hi wide → CoversMore lo hi rs (spliced wide rs)
wide_covers lo hi rs wide a w k = spliced_covers wide rs k w.some a w.high ∙ w.same k

-- a range that need not be made wider, and in which no other begins
pub fits_alone : (lo : List ℕ) (hi : Option (List ℕ)) (rs : List Span) → AreApart rs → Widens rs lo hi (record { lo = lo; hi = hi }) → spliced (record { lo = lo; hi = hi }) rs ≡ insert_entry by_bytes rs lo hi → Fits rs lo hi
fits_alone lo hi rs a w alone =
    let range : KeyRange = record { lo = lo; hi = hi } in
    record {
      apart = subst (λ t. AreApart t) alone (spliced_apart range rs w.some a w.low w.high);
      covers = subst (λ t. CoversMore lo hi rs t) alone (wide_covers lo hi rs range a w);
    }

-- ---- the first range is handed on

moved_length : (was : Option (Option (List ℕ))) (lo : List ℕ) (hi : Option (List ℕ)) (rs : List Span) → Rises rs → was ≡ at_key lo rs → length (insert_entry by_bytes rs lo hi) + bool_byte (is_some was) ≡ length rs + 1
moved_length None lo hi rs s n = omega (arith, put_new lo hi rs s n)
moved_length (Some old) lo hi rs s n = omega (arith, put_over lo hi old rs s n)

fits_moved : (from left old new : List Span) (was : Option (Option (List ℕ))) (m : IsFirstMoved was from old left new) → FitsFirst from old → Fits old m.key m.value
fits_moved from left old new was m f = subst (λ t. FitsFirst t old) m.parts f

pub moved_apart : (from left old new : List Span) (was : Option (Option (List ℕ))) → IsFirstMoved was from old left new → FitsFirst from old → AreApart new
moved_apart from left old new was m f = subst (λ t. AreApart t) (sym m.is) (fits_moved from left old new was m f).apart

pub moved_counted : (from left old new : List Span) (was : Option (Option (List ℕ))) → IsFirstMoved was from old left new → AreApart old → length new + bool_byte (is_some was) ≡ length old + 1
moved_counted from left old new was m a = ap (λ t. length t + bool_byte (is_some was)) m.is ∙ moved_length was m.key m.value old (apart_rises old a) m.found

pub moved_first : (from left old new : List Span) (was : Option (Option (List ℕ))) → IsFirstMoved was from old left new → AreApart old → FitsFirst from old → TakesFirst from left old new
moved_first from left old new was m a f =
    let fits = fits_moved from left old new was m f in
    record {
      first = (m.key, m.value);
      parts = m.parts;
      covers = subst (λ t. CoversMore m.key m.value old t) (sym m.is) fits.covers;
      bound = omega (arith, moved_counted from left old new was m a);
    }
