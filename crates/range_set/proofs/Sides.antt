-- Ranges on both sides of a pivot: parted there, and joined.
use Rattle.std.proofs.Common.{◌≡◌, ℕ, ◌+◌, ◌≤◌, Bool, true, false, List, [], ◌∷◌, ◌++◌, drop, length, Option, Some, None, refl, ap, sym, ◌∙◌, subst, cond, arith, append_assoc, append-nil, length-append, inl, inr}
use Rattle.std.specs.Prelude.{IfSome}
use Rattle.std.specs.declared.cmp.Ordering.TheVariants.{Less, Equal, Greater}
use Rattle.std.specs.Ordering.{is_lt, is_le, is_eq, match_ordering}
use Rattle.std.specs.List.{slice_get}
use Rattle.std.specs.Option.{option_to_list}
use Rattle.std.specs.Map.{keys_of}
use Rattle.std.specs.BTreeMap.{insert_entry}
use Rattle.std.proofs.lemmas.List.{length-map, map-append}
use Rattle.std.proofs.lemmas.List.Elements.{All-head, All-tail, recursion_from_All}
use Rattle.std.proofs.lemmas.Map.Keys.{sorted_head}
use Rattle.pathkey.specs.Order.{by_bytes, same}
use Rattle.pathkey.specs.Keys.{is_below}
use Rattle.pathkey.specs.declared.range.KeyRange.{KeyRange}
use Rattle.pathkey.proofs.OrderFacts.{equal, tied}
use Rattle.pathkey.proofs.KeyOrder.{greater_from, reaches-refl, reaches-from_before, reaches-from_not_before, not_before_from_reaches, le_le}
use Rattle.message.specs.declared.msg.Msg.{Msg}
use Rattle.message.specs.declared.msg.Msg.TheVariants.{DelRange}
use Rattle.message.specs.Cuts.{cut_range, cut_to, pieces, IsJoined, LieIn, LieOut}
use Rattle.message.specs.Ranges.{reaches, before, later_key, earlier_end}
use Rattle.message.specs.Stretches.{is_key}
use Rattle.message.proofs.KeyOrder.{reaches-later, begins_before_end, split_bool}
use Rattle.message.proofs.Parting.{pieces-in, pieces-out, pieces-append}
use Rattle.message.proofs.RangeEnds.{later_start, later_same, later_pivot}
use Rattle.cow_map.specs.Places.{last_of, AreBefore, AreFrom}
use Rattle.range_set.specs.Disjoint.{Span, range_msgs, ends_before, BeginBehind, AreApart}
use Rattle.range_set.specs.Ends.{AreDivided, AreMeeting, AreWelded, IsOver}
use Rattle.range_set.proofs.Ends.{ends_on, past_end, ahead_of_end, apart_rises, apart_left, apart_right}
use Rattle.range_set.proofs.Last.{last_one, last_rest, last_keys}
use Rattle.range_set.proofs.Splicing.{AllFrom, behind_past, from_later, insert_first, tie}

-- ---- ranges that end by a key

abbrev pub AllEndBy : List ℕ → List Span → Type 0
AllEndBy p [] = Unit {0}
AllEndBy p (e ∷ rs) = (is_below p e.1 ≡ false) × AllEndBy p rs

-- where the last does, all do
pub all_end : (p : List ℕ) (rs : List Span) → AreApart rs → IfSome (last_of rs) (λ e. is_below p e.1 ≡ false) → AllEndBy p rs
all_end p [] a h = tt
all_end p (e ∷ []) a h = (subst (λ o. IfSome o (λ x. is_below p x.1 ≡ false)) (last_one e) h, tt)
all_end p (e ∷ s ∷ rs) a h =
    let rest = all_end p (s ∷ rs) a.2 (subst (λ o. IfSome o (λ x. is_below p x.1 ≡ false)) (last_rest e s rs) h) in
    (past_end e.1 p (ends_on e.1 s.0 p a.1.0 (reaches-from_before s.0 p (ahead_of_end s.1 s.0 p a.2.0 rest.0))), rest)

-- ---- ends at a pivot

earlier_own : (p : List ℕ) (h : Option (List ℕ)) → is_below p h ≡ false → earlier_end (Some p) h ≡ h
earlier_own p None b = absurd (cc)
earlier_own p (Some q) b = ap (λ c. Some (cond c p q)) b

earlier_pivot : (p : List ℕ) (h : Option (List ℕ)) → is_below p h ≡ true → earlier_end (Some p) h ≡ Some p
earlier_pivot p None b = refl
earlier_pivot p (Some q) b = ap (λ c. Some (cond c p q)) b

-- a key that does not stand before the pivot stands before no earlier end
fewer_first : (k p : List ℕ) (h : Option (List ℕ)) → before k p ≡ false → is_below k (earlier_end (Some p) h) ≡ false
fewer_first k p None b = b
fewer_first k p (Some q) b = split_bool (before p q)
    (λ y. ap (λ c. before k (cond c p q)) y ∙ b)
    (λ n. ap (λ c. before k (cond c p q)) n ∙ not_before_from_reaches q k (le_le q p k (reaches-from_not_before p q n) (reaches-from_not_before k p b)))

-- ---- one range

module _ {U V : Type 0} where
  abbrev pub del : Span → Msg U V
  del e = DelRange (record { lo = e.0; hi = e.1 })

  a_part : (lo l : List ℕ) (hi h : Option (List ℕ)) (e : Span) → later_key lo e.0 ≡ l → earlier_end hi e.1 ≡ h → is_below l h ≡ true → cut_to {U = U} {V = V} lo hi (del e) ≡ Some (del (l, h))
  a_part lo l hi h e a b c = ap (λ x. cut_range {U = U} {V = V} x (earlier_end hi e.1)) a ∙ ap (λ x. cut_range {U = U} {V = V} l x) b ∙ ap (λ t. cond t (Some (del (l, h))) None) c

  no_part : (lo l : List ℕ) (hi h : Option (List ℕ)) (e : Span) → later_key lo e.0 ≡ l → earlier_end hi e.1 ≡ h → is_below l h ≡ false → cut_to {U = U} {V = V} lo hi (del e) ≡ None
  no_part lo l hi h e a b c = ap (λ x. cut_range {U = U} {V = V} x (earlier_end hi e.1)) a ∙ ap (λ x. cut_range {U = U} {V = V} l x) b ∙ ap (λ t. cond t (Some (del (l, h))) None) c

-- ---- ranges that end by the pivot, and such as begin from it on

module _ (U V : Type 0) where
  pub front_lies : (p : List ℕ) (rs : List Span) → AreApart rs → AllEndBy p rs → LieIn [] (Some p) (range_msgs {U = U} {V = V} rs)
  front_lies p [] a d = tt
  front_lies p (e ∷ rs) a d = (a_part [] e.0 (Some p) e.1 e (later_start e.0) (earlier_own p e.1 d.0) a.0, front_lies p rs a.2 d.1)

  pub front_off : (p : List ℕ) (rs : List Span) → AreApart rs → AllEndBy p rs → LieOut p None (range_msgs {U = U} {V = V} rs)
  front_off p [] a d = tt
  front_off p (e ∷ rs) a d = (no_part p p None e.1 e (later_pivot p e.0 (ahead_of_end e.1 e.0 p a.0 d.0)) refl d.0, front_off p rs a.2 d.1)

  pub back_lies : (p : List ℕ) (rs : List Span) → AreApart rs → AllFrom p rs → LieIn p None (range_msgs {U = U} {V = V} rs)
  back_lies p [] a b = tt
  back_lies p (e ∷ rs) a b = (a_part p e.0 None e.1 e (later_same p e.0 b.0) refl a.0, back_lies p rs a.2 b.1)

  pub back_off : (p : List ℕ) (rs : List Span) → AllFrom p rs → LieOut [] (Some p) (range_msgs {U = U} {V = V} rs)
  back_off p [] b = tt
  back_off p (e ∷ rs) b = (no_part [] e.0 (Some p) (earlier_end (Some p) e.1) e (later_start e.0) refl (fewer_first e.0 p e.1 (not_before_from_reaches p e.0 b.0)), back_off p rs b.1)

pub from_first : (p : List ℕ) (rs : List Span) → AreApart rs → IfSome (slice_get rs 0) (λ e. reaches p e.0 ≡ true) → AllFrom p rs
from_first p [] a h = tt
from_first p (e ∷ rs) a h = (h, from_later p e.0 rs h (sorted_head by_bytes e.0 (keys_of rs) (apart_rises (e ∷ rs) a)))

all_from : (p : List ℕ) (rs : List Span) → AreFrom p rs → AllFrom p rs
all_from p [] f = tt
all_from p (e ∷ rs) f = (All-head (λ q. reaches p q ≡ true) e.0 (keys_of rs) f, all_from p rs (All-tail (λ q. reaches p q ≡ true) e.0 (keys_of rs) f))

ends_by_own : (p : List ℕ) (h : Option (List ℕ)) → earlier_end (Some p) h ≡ h → is_below p h ≡ false
ends_by_own p None e = absurd (cc)
ends_by_own p (Some q) e = split_bool (before p q)
    (λ y. (let hit : Some p ≡ Some q = sym (ap (λ c. Some (cond c p q)) y) ∙ e in let is : p ≡ q = (cc) in subst (λ x. before p x ≡ false) is (not_before_from_reaches p p (reaches-refl p))))
    (λ n. n)

module _ {U V : Type 0} where
  -- a range-delete that is its own part
  own_part : (b : Bool) (l : List ℕ) (h : Option (List ℕ)) (e : Span) → cond b (Some (del {U = U} {V = V} (l, h))) None ≡ Some (del e) → (l ≡ e.0) × (h ≡ e.1)
  own_part true l h e c =
      let made : KeyRange = record { lo = l; hi = h } in
      let whole : KeyRange = record { lo = e.0; hi = e.1 } in
      let is : made ≡ whole = (cc) in
      (ap (λ (t : KeyRange). t.lo) is, ap (λ (t : KeyRange). t.hi) is)
  own_part false l h e c = absurd (cc)

module _ (U V : Type 0) where
  pub all_end_by : (p : List ℕ) (rs : List Span) → LieIn [] (Some p) (range_msgs {U = U} {V = V} rs) → AllEndBy p rs
  all_end_by p [] l = tt
  all_end_by p (e ∷ rs) l = (ends_by_own p e.1 (own_part {U = U} {V = V} (is_below (later_key [] e.0) (earlier_end (Some p) e.1)) (later_key [] e.0) (earlier_end (Some p) e.1) e l.0).1, all_end_by p rs l.1)

  pub all_begin : (p : List ℕ) (rs : List Span) → LieIn p None (range_msgs {U = U} {V = V} rs) → AllFrom p rs
  all_begin p [] l = tt
  all_begin p (e ∷ rs) l = (subst (λ x. reaches p x ≡ true) (own_part {U = U} {V = V} (is_below (later_key p e.0) e.1) (later_key p e.0) e.1 e l.0).0 (reaches-later p e.0), all_begin p rs l.1)

-- ---- the last range of a list

none_last : (es : List Span) → last_of es ≡ None → es ≡ []
none_last [] h = refl
none_last (e ∷ []) h = (let no : Some e ≡ None = sym (last_one e) ∙ h in absurd (cc))
none_last (e ∷ s ∷ es) h = (let rest : s ∷ es ≡ [] = none_last (s ∷ es) (sym (last_rest e s es) ∙ h) in absurd (cc))

last_split : (es : List Span) (x : Span) → last_of es ≡ Some x → (init : List Span) × (es ≡ init ++ x ∷ [])
last_split [] x h = absurd (cc)
last_split (e ∷ []) x h = (let hit : Some e ≡ Some x = sym (last_one e) ∙ h in let is : e ≡ x = (cc) in ([], ap (λ t. t ∷ []) is))
last_split (e ∷ s ∷ es) x h = (let r = last_split (s ∷ es) x (sym (last_rest e s es) ∙ h) in (e ∷ r.0, ap (λ t. e ∷ t) r.1))

begin_at : (h : Option (List ℕ)) (init : List Span) (x : Span) (rest : List Span) → BeginBehind h (init ++ x ∷ rest) → ends_before h x.0 ≡ true
begin_at h [] x rest b = b.0
begin_at h (e ∷ init) x rest b = begin_at h init x rest b.1

-- those before it end before it
ends_init : (p : List ℕ) (init : List Span) (x : Span) (rest : List Span) → AreApart (init ++ x ∷ rest) → reaches x.0 p ≡ true → AllEndBy p init
ends_init p [] x rest a r = tt
ends_init p (e ∷ init) x rest a r = (past_end e.1 p (ends_on e.1 x.0 p (begin_at e.1 init x rest a.1) r), ends_init p init x rest a.2 r)

-- it gets another end
insert_last : (init : List Span) (low : List ℕ) (h other : Option (List ℕ)) → AreApart (init ++ (low, h) ∷ []) → insert_entry by_bytes (init ++ (low, h) ∷ []) low other ≡ init ++ (low, other) ∷ []
insert_last [] low h other a = ap (λ o. match_ordering o ((low, other) ∷ (low, h) ∷ []) ((low, other) ∷ []) ((low, h) ∷ (low, other) ∷ [])) (tied low)
insert_last (e ∷ init) low h other a =
    let es = init ++ (low, h) ∷ [] in
    let first : before e.0 low ≡ true = ahead_of_end e.1 e.0 low a.0 (past_end e.1 low (begin_at e.1 init (low, h) [] a.1)) in
    ap (λ o. match_ordering o ((low, other) ∷ e ∷ es) ((e.0, other) ∷ es) (e ∷ insert_entry by_bytes es low other)) (greater_from low e.0 first) ∙ ap (λ t. e ∷ t) (insert_last init low h other a.2)

-- ---- ranges that lie apart, with another last range and others behind it

begin_again : (h : Option (List ℕ)) (init : List Span) (low : List ℕ) (x y : Option (List ℕ)) (rest later : List Span) → BeginBehind h (init ++ (low, x) ∷ rest) → BeginBehind h later → BeginBehind h (init ++ (low, y) ∷ later)
begin_again h [] low x y rest later b c = (b.0, c)
begin_again h (e ∷ init) low x y rest later b c = (b.0, begin_again h init low x y rest later b.1 c)

begin_later : (h : Option (List ℕ)) (x : Span) (rs : List Span) → ends_before h x.0 ≡ true → is_below x.0 x.1 ≡ true → BeginBehind x.1 rs → BeginBehind h rs
begin_later h x [] e s b = tt
begin_later h x (r ∷ rs) e s b = (ends_on h x.0 r.0 e (reaches-from_before x.0 r.0 (ahead_of_end x.1 x.0 r.0 s (past_end x.1 r.0 b.0))), begin_later h x rs e s b.1)

apart_again : (init : List Span) (low : List ℕ) (x y : Option (List ℕ)) (rest later : List Span) → AreApart (init ++ (low, x) ∷ rest) → is_below low y ≡ true → BeginBehind y later → AreApart later → AreApart (init ++ (low, y) ∷ later)
apart_again [] low x y rest later a s b c = (s, b, c)
apart_again (e ∷ init) low x y rest later a s b c = (
  a.0,
  begin_again e.1 init low x y rest later a.1 (begin_later e.1 (low, y) later (begin_at e.1 init (low, x) rest a.1) s b),
  apart_again init low x y rest later a.2 s b c,
)

-- ---- an end that does not reach a range

before_apart : (a b : List ℕ) → reaches a b ≡ true → same a b ≡ false → before a b ≡ true
before_apart a b r n = elim (by_bytes a b) as (λ o. is_le o ≡ true → is_eq o ≡ false → is_lt o ≡ true) [
  | Less ↦ λ s t. refl
  | Equal ↦ λ s t. absurd (cc)
  | Greater ↦ λ s t. absurd (cc)
] r n

begin_beyond : (h : Option (List ℕ)) (p : List ℕ) (fs : List Span) → is_below p h ≡ false → AllFrom p fs → AreApart fs → IfSome (slice_get fs 0) (λ y. is_key h y.0 ≡ false) → BeginBehind h fs
begin_beyond h p [] e f b n = tt
begin_beyond None p (y ∷ fs) e f b n = absurd (cc)
begin_beyond (Some d) p (y ∷ fs) e f b n = (let first = before_apart d y.0 (le_le d p y.0 (reaches-from_not_before p d e) f.0) n in (first, begin_later (Some d) y fs first b.0 b.1))

last_ends : (p : List ℕ) (init : List Span) (x : Span) → AllEndBy p (init ++ x ∷ []) → is_below p x.1 ≡ false
last_ends p [] x d = d.0
last_ends p (e ∷ init) x d = last_ends p init x d.1

pub end_of_last : (p : List ℕ) (es : List Span) (x : Span) → AllEndBy p es → last_of es ≡ Some x → is_below p x.1 ≡ false
end_of_last p es x d l = (let cut = last_split es x l in last_ends p cut.0 x (subst (λ t. AllEndBy p t) cut.1 d))

first_is : (fs : List Span) (y : Span) → slice_get fs 0 ≡ Some y → fs ≡ y ∷ drop 1 fs
first_is [] y h = absurd (cc)
first_is (f ∷ fs) y h = (let is : f ≡ y = (cc) in ap (λ t. t ∷ fs) is)

pub first_from : (p : List ℕ) (fs : List Span) (y : Span) → AllFrom p fs → slice_get fs 0 ≡ Some y → reaches p y.0 ≡ true
first_from p fs y f h = (subst (λ t. AllFrom p t) (first_is fs y h) f).0

-- ---- what lies on both sides

module _ (U V : Type 0) where
  -- the first two lists have what of the third lies before the pivot, and from it on
  abbrev pub AreSides : List ℕ → List Span → List Span → List Span → Type 0
  AreSides p es fs all = IsJoined p (range_msgs {U = U} {V = V} es) (range_msgs fs) (range_msgs all)

  counted : (es fs : List Span) → length (range_msgs {U = U} {V = V} (es ++ fs)) ≡ length (range_msgs {U = U} {V = V} es) + length (range_msgs {U = U} {V = V} fs)
  counted es fs = omega (arith, length-map (es ++ fs) (del {U = U} {V = V}), length-append es fs, length-map es (del {U = U} {V = V}), length-map fs (del {U = U} {V = V}))

  parts : (lo : List ℕ) (hi : Option (List ℕ)) (es fs : List Span) → pieces lo hi (range_msgs {U = U} {V = V} (es ++ fs)) ≡ pieces lo hi (range_msgs es) ++ pieces lo hi (range_msgs fs)
  parts lo hi es fs = ap (λ ms. pieces lo hi ms) (map-append del es fs) ∙ pieces-append lo hi (range_msgs es) (range_msgs fs)

  -- where no range lies over the pivot
  sides : (p : List ℕ) (es fs : List Span) → AreApart es → AreApart fs → AllEndBy p es → AllFrom p fs → AreSides p es fs (es ++ fs)
  sides p es fs a b d f = record {
    front_is =
        parts [] (Some p) es fs
        ∙ ap (λ ms. ms ++ pieces [] (Some p) (range_msgs fs)) (pieces-in [] (Some p) (range_msgs es) (front_lies U V p es a d))
        ∙ ap (λ ms. range_msgs es ++ ms) (pieces-out [] (Some p) (range_msgs fs) (back_off U V p fs f))
        ∙ append-nil (range_msgs es);
    back_is =
        parts p None es fs
        ∙ ap (λ ms. ms ++ pieces p None (range_msgs fs)) (pieces-out p None (range_msgs es) (front_off U V p es a d))
        ∙ pieces-in p None (range_msgs fs) (back_lies U V p fs b f);
    bound = omega (arith, counted es fs);
  }

  -- where one does
  sides_over : (p low : List ℕ) (high : Option (List ℕ)) (init rest : List Span) → AreApart (init ++ (low, high) ∷ rest) → before low p ≡ true → is_below p high ≡ true → AllFrom p rest → AreSides p (init ++ (low, Some p) ∷ []) ((p, high) ∷ rest) (init ++ (low, high) ∷ rest)
  sides_over p low high init rest a l o f =
      let first = apart_left init ((low, high) ∷ rest) a in
      let later = (apart_right init ((low, high) ∷ rest) a).2 in
      let ends = ends_init p init (low, high) rest a (reaches-from_before low p l) in
      record {
        front_is =
            parts [] (Some p) init ((low, high) ∷ rest)
            ∙ ap (λ ms. ms ++ pieces [] (Some p) (range_msgs ((low, high) ∷ rest))) (pieces-in [] (Some p) (range_msgs init) (front_lies U V p init first ends))
            ∙ ap (λ t. range_msgs init ++ (option_to_list t ++ pieces [] (Some p) (range_msgs rest))) (a_part [] low (Some p) (Some p) (low, high) (later_start low) (earlier_pivot p high o) l)
            ∙ ap (λ ms. range_msgs init ++ del (low, Some p) ∷ ms) (pieces-out [] (Some p) (range_msgs rest) (back_off U V p rest f))
            ∙ sym (map-append del init ((low, Some p) ∷ []));
        back_is =
            parts p None init ((low, high) ∷ rest)
            ∙ ap (λ ms. ms ++ pieces p None (range_msgs ((low, high) ∷ rest))) (pieces-out p None (range_msgs init) (front_off U V p init first ends))
            ∙ ap (λ t. option_to_list t ++ pieces p None (range_msgs rest)) (a_part p p None high (low, high) (later_pivot p low l) refl o)
            ∙ ap (λ ms. del (p, high) ∷ ms) (pieces-in p None (range_msgs rest) (back_lies U V p rest later f));
        bound = omega (arith, counted init ((low, high) ∷ rest), counted init ((low, Some p) ∷ []));
      }

  -- ---- a list is parted

  pub record IsParted (p : List ℕ) (all gs hs : List Span) : Type 0 where
    pub sides : AreSides p gs hs all
    pub front_apart : AreApart gs
    pub back_apart : AreApart hs
    pub few : length gs + length hs ≤ length all + 1

  module _ (p : List ℕ) (es fs : List Span) (a : AreApart (es ++ fs)) (b : AreBefore p es) (f : AreFrom p fs) where
    from : AllFrom p fs
    from = all_from p fs f

    parted_over : (r : KeyRange) → IsOver p es (Some r) → IsParted p (es ++ fs) (insert_entry by_bytes es r.lo (Some p)) (insert_entry by_bytes fs p r.hi)
    parted_over r o =
        let cut = last_split es (r.lo, r.hi) o.0 in
        let init = cut.0 in
        let all : es ++ fs ≡ init ++ (r.lo, r.hi) ∷ fs = ap (λ t. t ++ fs) cut.1 ∙ append_assoc init ((r.lo, r.hi) ∷ []) fs in
        let whole : AreApart (init ++ (r.lo, r.hi) ∷ fs) = subst (λ t. AreApart t) all a in
        let later = apart_right init ((r.lo, r.hi) ∷ fs) whole in
        let low : before r.lo p ≡ true = last_keys (λ q. before q p ≡ true) es (r.lo, r.hi) (recursion_from_All (λ q. before q p ≡ true) (keys_of es) b) o.0 in
        let front : insert_entry by_bytes es r.lo (Some p) ≡ init ++ (r.lo, Some p) ∷ [] = ap (λ t. insert_entry by_bytes t r.lo (Some p)) cut.1 ∙ insert_last init r.lo r.hi (Some p) (subst (λ t. AreApart t) cut.1 (apart_left es fs a)) in
        let back : insert_entry by_bytes fs p r.hi ≡ (p, r.hi) ∷ fs = insert_first p r.hi fs o.1 (behind_past r.hi fs later.1) in
        subst (λ t. IsParted p t (insert_entry by_bytes es r.lo (Some p)) (insert_entry by_bytes fs p r.hi)) (sym all) (subst (λ t. IsParted p (init ++ (r.lo, r.hi) ∷ fs) t (insert_entry by_bytes fs p r.hi)) (sym front) (subst (IsParted p (init ++ (r.lo, r.hi) ∷ fs) (init ++ (r.lo, Some p) ∷ [])) (sym back) (record {
          sides = sides_over p r.lo r.hi init fs whole low o.1 from;
          front_apart = apart_again init r.lo r.hi (Some p) fs [] whole low tt tt;
          back_apart = (o.1, later.1, later.2);
          few = omega (arith, length-append init ((r.lo, Some p) ∷ []), length-append init ((r.lo, r.hi) ∷ fs));
        })))

    parted : (gs hs : List Span) → AreDivided p es fs gs hs → IsParted p (es ++ fs) gs hs
    parted gs hs (inl (n, x, y)) = subst (λ t. IsParted p (es ++ fs) t hs) (sym x) (subst (IsParted p (es ++ fs) es) (sym y) (record {
      sides = sides p es fs (apart_left es fs a) (apart_right es fs a) (all_end p es (apart_left es fs a) n) from;
      front_apart = apart_left es fs a;
      back_apart = apart_right es fs a;
      few = omega (arith, length-append es fs);
    }))
    parted gs hs (inr (r, o, x, y)) = subst (λ t. IsParted p (es ++ fs) t hs) (sym x) (subst (IsParted p (es ++ fs) (insert_entry by_bytes es r.lo (Some p))) (sym y) (parted_over r o))

  pub parted_all : (p : List ℕ) (all es fs : List Span) → all ≡ es ++ fs → AreApart all → AreBefore p es → AreFrom p fs → (gs hs : List Span) → AreDivided p es fs gs hs → IsParted p all gs hs
  parted_all p all es fs e a b f gs hs d = subst (λ t. IsParted p t gs hs) (sym e) (parted p es fs (subst (λ t. AreApart t) e a) b f gs hs d)

  -- ---- two are joined

  pub record AreBeside (p : List ℕ) (es fs all : List Span) : Type 0 where
    pub sides : AreSides p es fs all
    pub apart : AreApart all

  module _ (p : List ℕ) (es fs : List Span) (a : AreApart es) (b : AreApart fs) (f : LieIn [] (Some p) (range_msgs {U = U} {V = V} es)) (t : LieIn p None (range_msgs {U = U} {V = V} fs)) where
    end : AllEndBy p es
    end = all_end_by U V p es f

    begin : AllFrom p fs
    begin = all_begin U V p fs t

    beside_whole : AreMeeting es fs None → AreBeside p es fs (es ++ fs)
    beside_whole n = record {
      sides = sides p es fs a b end begin;
      apart = by_last (last_of es) refl n;
    }
      where
        by_last : (o : Option Span) → last_of es ≡ o → IfSome o (λ x. IfSome (slice_get fs 0) (λ y. is_key x.1 y.0 ≡ false)) → AreApart (es ++ fs)
        by_last None e m = subst (λ xs. AreApart (xs ++ fs)) (sym (none_last es e)) b
        by_last (Some x) e m =
            let cut = last_split es x e in
            let behind = begin_beyond x.1 p fs (end_of_last p es x end e) begin b m in
            let some = (apart_right cut.0 (x ∷ []) (subst (λ xs. AreApart xs) cut.1 a)).0 in
            subst (λ xs. AreApart xs) (sym (ap (λ xs. xs ++ fs) cut.1 ∙ append_assoc cut.0 (x ∷ []) fs)) (apart_again cut.0 x.0 x.1 x.1 [] fs (subst (λ xs. AreApart xs) cut.1 a) some behind b)

    beside_welded : (r : KeyRange) (k : List ℕ) → last_of es ≡ Some (r.lo, Some k) → slice_get fs 0 ≡ Some (k, r.hi) → AreBeside p es fs (insert_entry by_bytes es r.lo r.hi ++ drop 1 fs)
    beside_welded r k l g =
        let hs = drop 1 fs in
        let cut = last_split es (r.lo, Some k) l in
        let init = cut.0 in
        let whole : fs ≡ (k, r.hi) ∷ hs = first_is fs (k, r.hi) g in
        let front : AreApart (init ++ (r.lo, Some k) ∷ []) = subst (λ xs. AreApart xs) cut.1 a in
        let later : AreApart ((k, r.hi) ∷ hs) = subst (λ xs. AreApart xs) whole b in
        let from : AllFrom p ((k, r.hi) ∷ hs) = subst (λ xs. AllFrom p xs) whole begin in
        let is : k ≡ p = equal k p (tie k p (reaches-from_not_before p k (end_of_last p es (r.lo, Some k) end l)) from.0) in
        let low : before r.lo k ≡ true = (apart_right init ((r.lo, Some k) ∷ []) front).0 in
        let apart : AreApart (init ++ (r.lo, r.hi) ∷ hs) = apart_again init r.lo (Some k) r.hi [] hs front (begins_before_end r.lo k r.hi (reaches-from_before r.lo k low) later.0) later.1 later.2 in
        let over : AreSides p (init ++ (r.lo, Some p) ∷ []) ((p, r.hi) ∷ hs) (init ++ (r.lo, r.hi) ∷ hs) = sides_over p r.lo r.hi init hs apart (subst (λ q. before r.lo q ≡ true) is low) (subst (λ q. is_below q r.hi ≡ true) is later.0) from.1 in
        let both : AreSides p es fs (init ++ (r.lo, r.hi) ∷ hs) = subst (λ xs. AreSides p xs fs (init ++ (r.lo, r.hi) ∷ hs)) (sym (cut.1 ∙ ap (λ q. init ++ (r.lo, Some q) ∷ []) is)) (subst (λ ys. AreSides p (init ++ (r.lo, Some p) ∷ []) ys (init ++ (r.lo, r.hi) ∷ hs)) (sym (whole ∙ ap (λ q. (q, r.hi) ∷ hs) is)) over) in
        let made : insert_entry by_bytes es r.lo r.hi ++ hs ≡ init ++ (r.lo, r.hi) ∷ hs = ap (λ xs. insert_entry by_bytes xs r.lo r.hi ++ hs) cut.1 ∙ ap (λ xs. xs ++ hs) (insert_last init r.lo (Some k) r.hi front) ∙ append_assoc init ((r.lo, r.hi) ∷ []) hs in
        subst (AreBeside p es fs) (sym made) (record { sides = both; apart = apart })

    pub beside : (gs hs : List Span) → AreWelded es fs gs hs → AreBeside p es fs (gs ++ hs)
    beside gs hs (inl (n, x, y)) = subst (λ xs. AreBeside p es fs (xs ++ hs)) (sym x) (subst (λ ys. AreBeside p es fs (es ++ ys)) (sym y) (beside_whole n))
    beside gs hs (inr (r, (k, l, g), x, y)) = subst (λ xs. AreBeside p es fs (xs ++ hs)) (sym x) (subst (λ ys. AreBeside p es fs (insert_entry by_bytes es r.lo r.hi ++ ys)) (sym y) (beside_welded r k l g))
