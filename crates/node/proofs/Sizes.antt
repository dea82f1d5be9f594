-- How large a lawful tree can be.
use Rattle.std.proofs.Common.{◌≡◌, ℕ, zero, suc, pred, ◌+◌, ◌*◌, ◌^◌, ◌<◌, ◌≤◌, List, [], ◌∷◌, length, get_or, take, refl, sym, subst, Option, None, arith, add-one}
use Rattle.std.proofs.Math.Nat.{add-mul, mul-le-mul_right}
use Rattle.node.specs.declared.node.Slot.{Slot}
use Rattle.node.specs.declared.report.Quantity.{Quantity}
use Rattle.node.specs.declared.report.Quantity.TheVariants.{Slots, Pending, Entries}
use Rattle.node.specs.declared.report.ShapeReport.{ShapeReport}
use Rattle.node.specs.declared.shape.Shape.{Shape}
use Rattle.node.specs.Lawful.{IsLawfulNode, AreLawfulSlots, IsLawfulRoot, IsLawful, slot_count, next_lo}
use Rattle.node.specs.Report.{own, width, total, total_below, report_of}
use Rattle.node.specs.RootSteps.{levels}
use Rattle.node.proofs.Roots.{small_shape}
use Rattle.node.specs.Pure.{PNode, leaf, inner, PSlots, none, more, PTree, depth, depths}
use Rattle.node.specs.See.{seen_slots}

module _ {U V : Type 0} where
  -- the same by successors
  total_below-one_more : (q : Quantity) (xs : List (Slot U V)) (i : ℕ) (d : Slot U V) → i < length xs → total_below q (seen_slots (take (suc i) xs)) ≡ total_below q (seen_slots (take i xs)) + total q (get_or xs i d).child.value
  total_below-one_more q [] i d h = absurd (omega arith)
  total_below-one_more q (x ∷ xs) zero d h = omega arith
  total_below-one_more q (x ∷ xs) (suc i) d h = omega (arith, total_below-one_more q xs i d (omega arith))

  -- one slot more
  pub total_below-take : (q : Quantity) (xs : List (Slot U V)) (i : ℕ) (d : Slot U V) → i < length xs → total_below q (seen_slots (take (i + 1) xs)) ≡ total_below q (seen_slots (take i xs)) + total q (get_or xs i d).child.value
  total_below-take q xs i d h = rw add-one (total_below-one_more q xs i d h)

-- a lawful node at this height has at most so much of each quantity in itself and below
abbrev most : ℕ → ℕ
most zero = 1024
most (suc h) = 1024 + 64 * most h

-- it is no less than a node has itself
most-some : (h : ℕ) → 1024 ≤ most h
most-some zero = omega arith
most-some (suc h) = omega arith

-- it for the children of the highest root
most-whole : most 15 ≡ 1287772038327090185647444526080
most-whole = refl

-- as much for each of at most 64 slots
below_all : (c b m : ℕ) → c ≤ 64 → b ≤ c * m → b ≤ 64 * m
below_all c b m h e = let f : c * m ≤ 64 * m = mul-le-mul_right m h in omega (arith, e, f)

module _ {U V : Type 0} where
  -- a lawful node stands as high as its way to its first leaf is long
  lawful_levels : (S : Shape) (n : PNode U V) (h : ℕ) (lo : List ℕ) (hi : Option (List ℕ)) → IsLawfulNode S n h lo hi → levels n ≡ h
  lawful_levels S (leaf es) h lo hi l = sym l.0
  lawful_levels S (inner none) h lo hi l = absurd l.3
  lawful_levels S (inner (more lp ms n ss)) h lo hi l = omega (arith, l.0, lawful_levels S n (pred h) lp (next_lo hi ss) l.4.2)

  -- a lawful root's levels of inner nodes are counted on the way to its first leaf
  pub root_levels : (S : Shape) (h : ℕ) (a : PNode U V) → IsLawfulRoot S a h → levels a ≡ h
  root_levels S h (leaf es) l = absurd l
  root_levels S h (inner none) l = absurd l.3
  root_levels S h (inner (more lp ms n ss)) l = omega (arith, l.0, lawful_levels S n (pred h) lp (next_lo None ss) l.4.2)

  mutual
    -- a lawful node has one level more than stand above its leaves
    pub lawful_depth : (S : Shape) (n : PNode U V) (h : ℕ) (lo : List ℕ) (hi : Option (List ℕ)) → IsLawfulNode S n h lo hi → depth n ≡ h + 1
    lawful_depth S (leaf es) h lo hi l = omega (arith, l.0)
    lawful_depth S (inner none) h lo hi l = absurd l.3
    lawful_depth S (inner (more lp ms n ss)) h lo hi l = omega (arith, l.0, lawful_depth S n (pred h) lp (next_lo hi ss) l.4.2, lawful_depths S ss h hi l.0 l.4.3)

    -- lawful slots have no more than their node above its leaves
    lawful_depths : (S : Shape) (ss : PSlots U V) (h : ℕ) (hi : Option (List ℕ)) → 0 < h → AreLawfulSlots S ss h hi → depths ss ≤ h
    lawful_depths S none h hi some l = omega arith
    lawful_depths S (more lo ms n ss) h hi some l = omega (arith, some, lawful_depth S n (pred h) lo (next_lo hi ss) l.2, lawful_depths S ss h hi some l.3)

  module _ (S : Shape) (few : S.fanout ≤ 64) (light : S.pending ≤ 1024) (short : S.leaf ≤ 1024) where
    -- a lawful node has little itself
    own-lawful : (q : Quantity) (n : PNode U V) (h : ℕ) (lo : List ℕ) (hi : Option (List ℕ)) → IsLawfulNode S n h lo hi → own q n ≤ 1024
    own-lawful Slots (leaf es) h lo hi l = omega arith
    own-lawful Pending (leaf es) h lo hi l = omega arith
    own-lawful Entries (leaf es) h lo hi l = omega (arith, l.1, short)
    own-lawful Slots (inner ss) h lo hi l = omega (arith, l.1, few)
    own-lawful Pending (inner ss) h lo hi l = omega (arith, l.2, light)
    own-lawful Entries (inner ss) h lo hi l = omega arith

    -- a lawful node has at most so much
    mutual
      total-lawful : (q : Quantity) (n : PNode U V) (h f : ℕ) (lo : List ℕ) (hi : Option (List ℕ)) → h ≤ f → IsLawfulNode S n h lo hi → total q n ≤ most f
      total-lawful q (leaf es) h f lo hi e l = omega (arith, own-lawful q (leaf es) h lo hi l, most-some f)
      total-lawful q (inner ss) h zero lo hi e l = absurd (omega (arith, e, l.0))
      total-lawful q (inner ss) h (suc f) lo hi e l = omega (arith, own-lawful q (inner ss) h lo hi l, below_all (slot_count ss) (total_below q ss) (most f) (omega (arith, l.1, few)) (below-lawful q ss h f hi (omega (arith, e)) l.4))

      below-lawful : (q : Quantity) (ss : PSlots U V) (h f : ℕ) (hi : Option (List ℕ)) → pred h ≤ f → AreLawfulSlots S ss h hi → total_below q ss ≤ slot_count ss * most f
      below-lawful q none h f hi e l = omega arith
      below-lawful q (more lo ms n ss) h f hi e l = omega (arith, total-lawful q n (pred h) f lo (next_lo hi ss) e l.2, below-lawful q ss h f hi e l.3, add-mul (slot_count ss) 1 (most f))

    -- so much is far below the greatest number that is counted
    root_total : (q : Quantity) (a : PNode U V) (h : ℕ) → IsLawfulRoot S a h → own q a ≤ 18446744073709551615 * width a + 18446744073709551615 → total q a < 2 ^ 127
    root_total q (leaf es) h l o = absurd l
    root_total q (inner ss) h l o = omega (arith, o, l.2, few, most-whole, below_all (slot_count ss) (total_below q ss) (most 15) (omega (arith, l.2, few)) (below-lawful q ss h 15 None (omega (arith, l.1)) l.4))

  -- a count that is exact where it is small is exact in a lawful tree
  exact_here : (t : PTree U V) (q : Quantity) (x : ℕ) → IsLawful t → x ≤ total q t.root → (x < 2 ^ 127 → x ≡ total q t.root) → own q t.root ≤ 18446744073709551615 * width t.root + 18446744073709551615 → x ≡ total q t.root
  exact_here t q x l low exact o =
      let s = small_shape t.shape l.shape in
      let r = root_total t.shape s.0 s.1 s.2 q t.root l.levels l.root o in
      exact (omega (arith, low, r))

  -- a count of the root that is exact where it is small is exact in a lawful tree
  pub exact_total : (t : PTree U V) (q : Quantity) (x : ℕ) (n : PNode U V) → n ≡ t.root → IsLawful t → x ≤ total q n → (x < 2 ^ 127 → x ≡ total q n) → own q n ≤ 18446744073709551615 * width n + 18446744073709551615 → x ≡ total q t.root
  exact_total t q x n e l low exact o = exact_here t q x l (subst (λ z. x ≤ total q z) e low) (subst (λ z. x < 2 ^ 127 → x ≡ total q z) e exact) (subst (λ z. own q z ≤ 18446744073709551615 * width z + 18446744073709551615) e o)

  -- a lawful root is at most 16 levels high
  pub low_root : (S : Shape) (a : PNode U V) (h : ℕ) → IsLawfulRoot S a h → h ≤ 16
  low_root S (leaf es) h l = absurd l
  low_root S (inner ss) h l = l.1

  -- likewise for its levels
  pub exact_levels : (t : PTree U V) (x : ℕ) (n : PNode U V) → n ≡ t.root → IsLawful t → x ≤ levels n → (x < 2 ^ 127 → x ≡ levels n) → x ≡ levels t.root
  exact_levels t x n e l low exact =
      let up : x ≤ levels t.root = subst (λ z. x ≤ levels z) e low in
      let same : x < 2 ^ 127 → x ≡ levels t.root = subst (λ z. x < 2 ^ 127 → x ≡ levels z) e exact in
      let high = root_levels t.shape l.levels t.root l.root in
      let most_levels = low_root t.shape t.root l.levels l.root in
      same (omega (arith, up, high, most_levels))

  -- four right numbers are the report
  pub report_is : (t : PTree U V) (r : ShapeReport) → r.levels ≡ levels t.root → r.slots ≡ total Slots t.root → r.pending ≡ total Pending t.root → r.entries ≡ total Entries t.root → r ≡ report_of t
  report_is t r a b c d = λ i. record { levels = a i; slots = b i; pending = c i; entries = d i }
