-- Pieces of a range that are taken one after the other.
use Rattle.std.proofs.Common.{◌≡◌, ℕ, suc, ◌+◌, ◌<◌, ◌++◌, true, List, [], ◌∷◌, length, length-append, get_or, sym, ◌∙◌, subst, Option, Some, arith, ◌⊎◌, inl, inr}
use Rattle.std.specs.Prelude.{All, AllPairs, Contains}
use Rattle.std.proofs.Math.ListN.{get_or-append}
use Rattle.std.proofs.Math.Seq.{get_or-append_seam}
use Rattle.std.proofs.lemmas.List.{append-nil}
use Rattle.std.proofs.lemmas.List.Elements.{All-append, All-push, All-weaker, Contains-append_left, Contains-append_right, Contains-push, All-contains}
use Rattle.std.proofs.lemmas.List.Kept.{AllPairs-cons}
use Rattle.pathkey.specs.Keys.{is_below, next_key}
use Rattle.pathkey.proofs.KeyOrder.{le_le, lt_le, reaches-from_before}
use Rattle.message.specs.Ranges.{reaches, before, within}
use Rattle.message.proofs.KeyOrder.{both}
use Rattle.scan.specs.Pairs.{IsRising, IsScan, EndsAt, HasAll}
use Rattle.message.proofs.NextKey.{in_range, before-next, reaches-next}

-- two lists, if R relates each element of the first to each of the second
pub pairs_append : {X : Type 0} (R : X → X → Type 0) (xs ys : List X) → AllPairs R xs → AllPairs R ys → All (λ x. All (R x) ys) xs → AllPairs R (xs ++ ys)
pairs_append R [] ys a b c = b
pairs_append R (x ∷ xs) ys a b c = AllPairs-cons R x (xs ++ ys)
    (All-append (R x) xs ys (λ j d l. a 0 (suc j) d (omega arith) (omega arith)) (c 0 x (omega arith)))
    (pairs_append R xs ys (λ i j d l m. a (suc i) (suc j) d (omega arith) (omega arith)) b (λ i d l. c (suc i) d (omega arith)))

module _ {V : Type 0} where
  -- each pair is at or before the last one, so before the next key
  before_next : (front : List (List ℕ × V)) (k : List ℕ) (v : V) → IsRising (front ++ (k, v) ∷ []) → All (λ p. before p.0 (next_key k) ≡ true) (front ++ (k, v) ∷ [])
  before_next front k v rising = All-push (λ p. before p.0 (next_key k) ≡ true) front (k, v)
      (λ i d l.
      let own : get_or (front ++ (k, v) ∷ []) i d ≡ get_or front i d = get_or-append front ((k, v) ∷ []) d i l in
      let last : get_or (front ++ (k, v) ∷ []) (length front) d ≡ (k, v) = get_or-append_seam front (k, v) [] d in
      let few : length (front ++ (k, v) ∷ []) ≡ length front + 1 = length-append front ((k, v) ∷ []) in
      let h : before (get_or (front ++ (k, v) ∷ []) i d).0 (get_or (front ++ (k, v) ∷ []) (length front) d).0 ≡ true = rising i (length front) d l (omega (arith, few)) in
      lt_le (get_or front i d).0 k (next_key k)
      (subst (λ (x : List ℕ × V). before x.0 k ≡ true) own (subst (λ (y : List ℕ × V). before (get_or (front ++ (k, v) ∷ []) i d).0 y.0 ≡ true) last h))
      (reaches-from_before k (next_key k) (before-next k)))
      (before-next k)

  -- a scan with fewer pairs than its limit
  pub short_law : (f : List ℕ → Option V) (lo : List ℕ) (hi : Option (List ℕ)) (n : ℕ) (ps : List (List ℕ × V)) → IsScan f lo hi n ps → length ps < n → HasAll f lo hi ps
  short_law f lo hi n ps s short k v w e = elim (s.complete k v w e) [
    | inl c ↦ c
    | inr x ↦ absurd (omega (arith, x.0, short))
  ]

  module _ (f : List ℕ → Option V) (lo : List ℕ) (hi : Option (List ℕ)) (n m : ℕ) (ps qs : List (List ℕ × V)) (k : List ℕ) (s : IsScan f lo hi n ps) (ends : EndsAt ps k) (t : IsScan f (next_key k) hi m qs) where
    all_before : All (λ p. before p.0 (next_key k) ≡ true) ps
    all_before = subst (λ (x : List (List ℕ × V)). All (λ p. before p.0 (next_key k) ≡ true) x) (sym ends.2) (before_next ends.0 k ends.1 (subst (λ (x : List (List ℕ × V)). IsRising x) ends.2 s.rising))

    last_there : Contains ps (k, ends.1)
    last_there = subst (λ (x : List (List ℕ × V)). Contains x (k, ends.1)) (sym ends.2) (Contains-push ends.0 (k, ends.1))

    -- the range after the last key is within the whole range
    goes_on : (q : List ℕ) → within (next_key k) hi q ≡ true → within lo hi q ≡ true
    goes_on q w =
        let last : within lo hi k ≡ true = (All-contains (λ (p : List ℕ × V). (within lo hi p.0 ≡ true) × (f p.0 ≡ Some p.1)) ps (k, ends.1) s.sound last_there).0 in
        let low : reaches lo k ≡ true = (both (reaches lo k) (is_below k hi) last).0 in
        let on : (reaches (next_key k) q ≡ true) × (is_below q hi ≡ true) = both (reaches (next_key k) q) (is_below q hi) w in
        in_range lo q hi (le_le lo k q low (le_le k (next_key k) q (reaches-from_before k (next_key k) (before-next k)) on.0)) on.1

    -- what is missing in the first batch is in the second, or after all
    join_complete : (q : List ℕ) (v : V) → within lo hi q ≡ true → f q ≡ Some v → Contains (ps ++ qs) (q, v) ⊎ ((length (ps ++ qs) ≡ n + m) × All (λ p. before p.0 q ≡ true) (ps ++ qs))
    join_complete q v w e = elim (s.complete q v w e) [
      | inl c ↦ inl (Contains-append_left ps qs (q, v) c)
      | inr x ↦
          let behind : before k q ≡ true = All-contains (λ (p : List ℕ × V). before p.0 q ≡ true) ps (k, ends.1) x.1 last_there in
          let there : within (next_key k) hi q ≡ true = in_range (next_key k) q hi (reaches-next k q ∙ behind) (both (reaches lo q) (is_below q hi) w).1 in
          elim (t.complete q v there e) [
            | inl c ↦ inl (Contains-append_right ps qs (q, v) c)
            | inr y ↦ inr (omega (arith, length-append ps qs, x.0, y.0), All-append (λ p. before p.0 q ≡ true) ps qs x.1 y.1)
          ]
    ]

    -- a scan, followed by the scan after its last key
    pub join_law : IsScan f lo hi (n + m) (ps ++ qs)
    join_law = record {
      few = omega (arith, length-append ps qs, s.few, t.few);
      sound = All-append (λ p. (within lo hi p.0 ≡ true) × (f p.0 ≡ Some p.1)) ps qs s.sound
          (All-weaker (λ p. (within (next_key k) hi p.0 ≡ true) × (f p.0 ≡ Some p.1)) (λ p. (within lo hi p.0 ≡ true) × (f p.0 ≡ Some p.1)) (λ p h. (goes_on p.0 h.0, h.1)) qs t.sound);
      rising = pairs_append (λ p q. before p.0 q.0 ≡ true) ps qs s.rising t.rising
          (All-weaker (λ p. before p.0 (next_key k) ≡ true) (λ p. All (λ q. before p.0 q.0 ≡ true) qs)
          (λ p b. All-weaker (λ q. (within (next_key k) hi q.0 ≡ true) × (f q.0 ≡ Some q.1)) (λ q. before p.0 q.0 ≡ true) (λ q h. lt_le p.0 (next_key k) q.0 b (both (reaches (next_key k) q.0) (is_below q.0 hi) h.0).0) qs t.sound)
          ps all_before);
      complete = join_complete;
    }

  -- a scan after which nothing was found
  pub last_law : (f : List ℕ → Option V) (lo : List ℕ) (hi : Option (List ℕ)) (n m : ℕ) (ps : List (List ℕ × V)) (k : List ℕ) → IsScan f lo hi n ps → EndsAt ps k → IsScan f (next_key k) hi m [] → 0 < m → HasAll f lo hi ps
  last_law f lo hi n m ps k s ends t some =
      short_law f lo hi (n + m) ps (subst (λ (x : List (List ℕ × V)). IsScan f lo hi (n + m) x) (append-nil ps) (join_law f lo hi n m ps [] k s ends t)) (omega (arith, s.few, some))
