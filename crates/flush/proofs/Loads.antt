-- The first heaviest of loads that come one after the other, and how many messages they have in all.
use Rattle.std.proofs.Common.{◌≡◌, ℕ, zero, suc, pred, ◌+◌, ◌++◌, ◌<◌, ◌≤◌, List, [], ◌∷◌, length, get_or, refl, ap, sym, ◌∙◌, subst, arith}
use Rattle.std.specs.List.{All, sum_by}
use Rattle.std.proofs.lemmas.List.{append_assoc}
use Rattle.std.proofs.lemmas.List.Elements.{All-nil, All-cons, All-append, All-weaker}
use Rattle.std.proofs.lemmas.List.Sums.{sum_by-cons, sum_by-append, sum_by-le}
use Rattle.flush.specs.Heaviest.{Load, load_of, flush_into, own_loads, loads, loads_below, IsFirstHeaviest, FlushesHeaviest, IsFirstOf, IsFirst, AreLight, IsWalkable, AreWalkable}
use Rattle.flush.proofs.Named.{all-middle, all-after}
use Rattle.node.specs.declared.node.Slot.{Slot}
use Rattle.node.specs.declared.place.TreeStep.{TreeStep}
use Rattle.node.specs.declared.report.Quantity.TheVariants.{Pending}
use Rattle.node.specs.Lawful.{pending}
use Rattle.node.specs.Places.{way}
use Rattle.node.specs.Pure.{PNode, leaf, inner, PSlots, none, more}
use Rattle.node.specs.Report.{total, total_below}
use Rattle.node.specs.See.{seen_slots}
use Rattle.node.specs.Weights.{longest, longest_in}

-- the first that is heavy enough stays the first behind lighter loads
first-behind : (least : ℕ) (step : TreeStep) (xs ys : List Load) → All (λ l. l.count < least) xs → IsFirstOf least step ys → IsFirstOf least step (xs ++ ys)
first-behind least step xs ys light f = record {
  count = f.count;
  before = xs ++ f.before;
  after = f.after;
  is = ap (λ z. xs ++ z) f.is ∙ sym (append_assoc xs f.before (load_of step f.count ∷ f.after));
  many = f.many;
  lighter = All-append (λ (l : Load). l.count < least) xs f.before light f.lighter;
}

-- and before any loads
first-before : (least : ℕ) (step : TreeStep) (xs ys : List Load) → IsFirstOf least step xs → IsFirstOf least step (xs ++ ys)
first-before least step xs ys f = record {
  count = f.count;
  before = f.before;
  after = f.after ++ ys;
  is = ap (λ z. z ++ ys) f.is ∙ append_assoc f.before (load_of step f.count ∷ f.after) ys;
  many = f.many;
  lighter = f.lighter;
}

module _ {U V : Type 0} where
  -- slots with shorter lists have lighter loads
  own-light : (least : ℕ) (at : List ℕ) (k : ℕ) (ss : PSlots U V) → AreLight (λ ms n. length ms) least ss → All (λ l. l.count < least) (own_loads at k ss)
  own-light least at k none w = All-nil (λ (l : Load). l.count < least)
  own-light least at k (more lo ms n ss) w =
      let l : Load = record { at = at; slot = k; kind = flush_into n; count = length ms } in
      All-cons (λ (l : Load). l.count < least) l (own_loads at (k + 1) ss) w.0 (own-light least at (k + 1) ss w.1)

  -- the first slot whose own list is long enough, of slots that are numbered from k on
  own-first : (least : ℕ) (step : TreeStep) (h k i : ℕ) (ss : PSlots U V) → ((n : PNode U V) → IsWalkable (pred h) n → step.kind ≡ flush_into n) → AreWalkable h ss → step.slot ≡ k + i → IsFirst (λ ms n. length ms) least ss i → IsFirstOf least step (own_loads (way step.at) k ss)
  own-first least step h k i none same w e f = absurd f
  own-first least step h k zero (more lo ms n ss) same w e f =
      let here : k ≡ step.slot = omega (arith, e) in
      let kind : flush_into n ≡ step.kind = sym (same n w.0) in
      record {
        count = length ms;
        before = [];
        after = own_loads (way step.at) (k + 1) ss;
        is = λ j. record { at = way step.at; slot = here j; kind = kind j; count = length ms } ∷ own_loads (way step.at) (k + 1) ss;
        many = f;
        lighter = All-nil (λ (l : Load). l.count < least);
      }
  own-first least step h k (suc i) (more lo ms n ss) same w e f =
      let l : Load = record { at = way step.at; slot = k; kind = flush_into n; count = length ms } in
      let light = All-cons (λ (l : Load). l.count < least) l [] f.0 (All-nil (λ (l : Load). l.count < least)) in
      first-behind least step (l ∷ []) (own_loads (way step.at) (k + 1) ss) light (own-first least step h (k + 1) i ss same w.1 (omega (arith, e)) f.1)

  -- a slot of a node that has this number
  pub first-own : (least : ℕ) (step : TreeStep) (h : ℕ) (ss : PSlots U V) (n : PNode U V) → inner ss ≡ n → ((m : PNode U V) → IsWalkable (pred h) m → step.kind ≡ flush_into m) → AreWalkable h ss → IsFirst (λ ms m. length ms) least ss step.slot → IsFirstOf least step (loads (way step.at) n)
  first-own least step h ss n is same w f = subst (λ z. IsFirstOf least step (loads (way step.at) z)) is (first-before least step (own_loads (way step.at) 0 ss) (loads_below (way step.at) 0 ss) (own-first least step h 0 step.slot ss same w (omega arith) f))

  mutual
    -- no list at or below a node is longer than its longest
    pub loads-most : (at : List ℕ) (n : PNode U V) → All (λ l. l.count ≤ longest n) (loads at n)
    loads-most at (leaf es) = All-nil (λ (l : Load). l.count ≤ 0)
    loads-most at (inner ss) = All-append (λ (l : Load). l.count ≤ longest_in ss) (own_loads at 0 ss) (loads_below at 0 ss) (own-most at 0 ss) (below-most at 0 ss)

    own-most : (at : List ℕ) (k : ℕ) (ss : PSlots U V) → All (λ l. l.count ≤ longest_in ss) (own_loads at k ss)
    own-most at k none = All-nil (λ (l : Load). l.count ≤ 0)
    own-most at k (more lo ms n ss) =
        let l : Load = record { at = at; slot = k; kind = flush_into n; count = length ms } in
        let rest = All-weaker (λ (l : Load). l.count ≤ longest_in ss) (λ (l : Load). l.count ≤ longest_in (more lo ms n ss)) (λ l h. omega (arith, h)) (own_loads at (k + 1) ss) (own-most at (k + 1) ss) in
        All-cons (λ (l : Load). l.count ≤ longest_in (more lo ms n ss)) l (own_loads at (k + 1) ss) (omega arith) rest

    below-most : (at : List ℕ) (k : ℕ) (ss : PSlots U V) → All (λ l. l.count ≤ longest_in ss) (loads_below at k ss)
    below-most at k none = All-nil (λ (l : Load). l.count ≤ 0)
    below-most at k (more lo ms n ss) =
        let first = All-weaker (λ (l : Load). l.count ≤ longest n) (λ (l : Load). l.count ≤ longest_in (more lo ms n ss)) (λ l h. omega (arith, h)) (loads (at ++ k ∷ []) n) (loads-most (at ++ k ∷ []) n) in
        let rest = All-weaker (λ (l : Load). l.count ≤ longest_in ss) (λ (l : Load). l.count ≤ longest_in (more lo ms n ss)) (λ l h. omega (arith, h)) (loads_below at (k + 1) ss) (below-most at (k + 1) ss) in
        All-append (λ (l : Load). l.count ≤ longest_in (more lo ms n ss)) (loads (at ++ k ∷ []) n) (loads_below at (k + 1) ss) first rest

  -- what is first below the first slot above a list that is long enough, of slots that are numbered from k on
  below-first : (least : ℕ) (step : TreeStep) (at : List ℕ) (k i : ℕ) (xs : List (Slot U V)) (s : Slot U V) → s ≡ get_or xs i s → IsFirst (λ ms n. longest n) least (seen_slots xs) i → IsFirstOf least step (loads (at ++ (k + i) ∷ []) s.child.value) → IsFirstOf least step (loads_below at k (seen_slots xs))
  below-first least step at k i [] s e f d = absurd f
  below-first least step at k zero (x ∷ xs) s e f d =
      let here : k + 0 ≡ k = omega arith in
      let there = subst (λ j. IsFirstOf least step (loads (at ++ j ∷ []) s.child.value)) here d in
      first-before least step (loads (at ++ k ∷ []) x.child.value) (loads_below at (k + 1) (seen_slots xs)) (subst (λ (z : Slot U V). IsFirstOf least step (loads (at ++ k ∷ []) z.child.value)) e there)
  below-first least step at k (suc i) (x ∷ xs) s e f d =
      let next : k + suc i ≡ k + 1 + i = omega arith in
      let light = All-weaker (λ (l : Load). l.count ≤ longest x.child.value) (λ (l : Load). l.count < least) (λ l h. omega (arith, h, f.0)) (loads (at ++ k ∷ []) x.child.value) (loads-most (at ++ k ∷ []) x.child.value) in
      first-behind least step (loads (at ++ k ∷ []) x.child.value) (loads_below at (k + 1) (seen_slots xs)) light (below-first least step at (k + 1) i xs s e f.1 (subst (λ j. IsFirstOf least step (loads (at ++ j ∷ []) s.child.value)) next d))

  -- that slot has such a list below it
  pub first-reached : (least : ℕ) (xs : List (Slot U V)) (i : ℕ) (s : Slot U V) (child : PNode U V) → child ≡ s.child.value → s ≡ get_or xs i s → IsFirst (λ ms n. longest n) least (seen_slots xs) i → least ≤ longest child
  first-reached least [] i s child ec e f = absurd f
  first-reached least (x ∷ xs) zero s child ec e f = subst (λ n. least ≤ longest n) (sym (ec ∙ ap (λ (z : Slot U V). z.child.value) e)) f
  first-reached least (x ∷ xs) (suc i) s child ec e f = first-reached least xs i s child ec e f.1

  -- what is first below that slot of a node whose own lists are shorter
  pub first-below : (least : ℕ) (step : TreeStep) (at under : List ℕ) (i : ℕ) (xs : List (Slot U V)) (s : Slot U V) (child n : PNode U V) → inner (seen_slots xs) ≡ n → s ≡ get_or xs i s → child ≡ s.child.value → under ≡ at ++ i ∷ [] → AreLight (λ ms m. length ms) least (seen_slots xs) → IsFirst (λ ms m. longest m) least (seen_slots xs) i → IsFirstOf least step (loads under child) → IsFirstOf least step (loads at n)
  first-below least step at under i xs s child n is e ec eu light f d =
      let at_child = subst (λ z. IsFirstOf least step (loads under z)) ec d in
      let same : i ≡ 0 + i = omega arith in
      let placed = subst (λ z. IsFirstOf least step (loads z s.child.value)) (eu ∙ ap (λ j. at ++ j ∷ []) same) at_child in
      let below = below-first least step at 0 i xs s e f placed in
      subst (λ z. IsFirstOf least step (loads at z)) is (first-behind least step (own_loads at 0 (seen_slots xs)) (loads_below at 0 (seen_slots xs)) (own-light least at 0 (seen_slots xs) light) below)

  -- a node's own slots have its own pending pieces
  own_loads-count : (at : List ℕ) (i : ℕ) (ss : PSlots U V) → sum_by (λ (l : Load). l.count) (own_loads at i ss) ≡ pending ss
  own_loads-count at i none = refl
  own_loads-count at i (more lo ms n ss) =
      let l : Load = record { at = at; slot = i; kind = flush_into n; count = length ms } in
      omega (arith, sum_by-cons (λ (l : Load). l.count) l (own_loads at (i + 1) ss), own_loads-count at (i + 1) ss)

  mutual
    -- all slots have all pending pieces
    pub loads-count : (at : List ℕ) (n : PNode U V) → sum_by (λ (l : Load). l.count) (loads at n) ≡ total Pending n
    loads-count at (leaf es) = refl
    loads-count at (inner ss) = omega (arith, sum_by-append (λ (l : Load). l.count) (own_loads at 0 ss) (loads_below at 0 ss), own_loads-count at 0 ss, loads_below-count at 0 ss)

    loads_below-count : (at : List ℕ) (i : ℕ) (ss : PSlots U V) → sum_by (λ (l : Load). l.count) (loads_below at i ss) ≡ total_below Pending ss
    loads_below-count at i none = refl
    loads_below-count at i (more lo ms n ss) = omega (arith, sum_by-append (λ (l : Load). l.count) (loads (at ++ i ∷ []) n) (loads_below at (i + 1) ss), loads-count (at ++ i ∷ []) n, loads_below-count at (i + 1) ss)

-- loads without messages have none in all
count-none : (ls : List Load) → All (λ l. l.count ≡ 0) ls → sum_by (λ (l : Load). l.count) ls ≡ 0
count-none ls h = omega (arith, sum_by-le (λ (l : Load). l.count) 0 ls (All-weaker (λ (l : Load). l.count ≡ 0) (λ (l : Load). l.count ≤ 0) (λ l e. omega arith) ls h))

-- loads of which one is the first heaviest have some
count-some : (l : Load) (ls : List Load) → IsFirstHeaviest l ls → 0 < sum_by (λ (m : Load). m.count) ls
count-some l ls h = omega (arith, ap (sum_by (λ (m : Load). m.count)) h.is, sum_by-append (λ (m : Load). m.count) h.before (l ∷ h.after), sum_by-cons (λ (m : Load). m.count) l h.after, h.some)

module _ {U V : Type 0} where
  -- where no list is long, nothing is pending
  pub nothing_pending : (n : PNode U V) → longest n ≡ 0 → total Pending n ≡ 0
  nothing_pending n e = sym (loads-count [] n) ∙ count-none (loads [] n) (All-weaker (λ (l : Load). l.count ≤ longest n) (λ (l : Load). l.count ≡ 0) (λ l h. omega (arith, h, e)) (loads [] n) (loads-most [] n))

  -- the first load with as many messages as the longest list
  first_heaviest : (most : ℕ) (step : TreeStep) (n : PNode U V) → most ≡ longest n → 0 < most → IsFirstOf most step (loads [] n) → FlushesHeaviest (loads [] n) step
  first_heaviest most step n e some f =
      let all = subst (All (λ l. l.count ≤ longest n)) f.is (loads-most [] n) in
      let no_more = all-middle (λ (l : Load). l.count ≤ longest n) f.before f.after (load_of step f.count) all in (
        f.count,
        record {
          before = f.before;
          after = f.after;
          is = f.is;
          some = omega (arith, f.many, some);
          lighter = All-weaker (λ (l : Load). l.count < most) (λ (l : Load). l.count < f.count) (λ l h. omega (arith, h, f.many)) f.before f.lighter;
          no_heavier = All-weaker (λ (l : Load). l.count ≤ longest n) (λ (l : Load). l.count ≤ f.count) (λ l h. omega (arith, h, e, f.many)) f.after (all-after (λ (l : Load). l.count ≤ longest n) f.before f.after (load_of step f.count) all);
        },
      )

  -- likewise where the walk began at the root
  pub heaviest_of_all : (most : ℕ) (step : TreeStep) (at : List ℕ) (n root : PNode U V) → at ≡ [] → n ≡ root → most ≡ longest n → 0 < most → IsFirstOf most step (loads at n) → FlushesHeaviest (loads [] root) step
  heaviest_of_all most step at n root ea en e some f = subst (λ z. FlushesHeaviest (loads [] z) step) en (first_heaviest most step n e some (subst (λ z. IsFirstOf most step (loads z n)) ea f))

  -- and where something is, something is
  pub some_pending : (l : Load) (n : PNode U V) → IsFirstHeaviest l (loads [] n) → 0 < total Pending n
  some_pending l n h = omega (arith, count-some l (loads [] n) h, loads-count [] n)
