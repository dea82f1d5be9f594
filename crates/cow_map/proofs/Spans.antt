-- What is left of rows where a range within one of them leaves.
use Rattle.std.proofs.Common.{◌≡◌, ℕ, suc, ◌+◌, ◌-◌, ◌<◌, ◌≤◌, List, [], ◌∷◌, ◌++◌, take, drop, get_or, ap, sym, ◌∙◌, subst, arith, append_assoc, append-nil, not}
use Rattle.std.specs.List.{AllByRecursion, filter, remove_range, slice_set}
use Rattle.std.specs.Map.{keys_of}
use Rattle.std.specs.declared.cmp.Ordering.TheVariants.{Greater}
use Rattle.std.proofs.Math.Seq.{take-add}
use Rattle.std.proofs.lemmas.List.{drop-drop, length-append, length-take, length-drop, take-append-drop}
use Rattle.pathkey.specs.Keys.{is_in}
use Rattle.pathkey.specs.Order.{by_bytes}
use Rattle.pathkey.specs.declared.range.KeyRange.{KeyRange}
use Rattle.cow_map.specs.Places.{Rises, AreBefore, place}
use Rattle.cow_map.specs.CowMap.{joined, AreRows, AreSized}
use Rattle.cow_map.specs.Spans.{IsSpan}
use Rattle.cow_map.proofs.Cuts.{kept, kept_rises, taken}
use Rattle.cow_map.proofs.Parts.{AllBefore, are_before, rises_left, rises_right, taken_before}
use Rattle.cow_map.proofs.TableFacts.{joined_cut, joined_set, sized_at, sized_set}

module _ {X : Type 0} where
  right_from : (P : List ℕ → Type 0) (xs ys : List (List ℕ × X)) → AllByRecursion P (keys_of (xs ++ ys)) → AllByRecursion P (keys_of ys)
  right_from P [] ys a = a
  right_from P (x ∷ xs) ys a = right_from P xs ys a.1

  -- the entries from number i on, in two parts
  rest_parts : (i j : ℕ) (row : List (List ℕ × X)) → i ≤ j → drop i row ≡ take (j - i) (drop i row) ++ drop j row
  rest_parts i j row o =
      let sum : i + (j - i) ≡ j = omega (arith, o) in
      sym (take-append-drop (j - i) (drop i row)) ∙ ap (λ t. take (j - i) (drop i row) ++ t) (drop-drop (j - i) i row ∙ ap (λ m. drop m row) sum)

  -- those up to the place of a key stand before it
  pub below_end : (k : List ℕ) (i j : ℕ) (row : List (List ℕ × X)) → i ≤ j → j ≡ place k row → AreBefore k (take (j - i) (drop i row))
  below_end k i j row o p =
      let sum : i + (j - i) ≡ j = omega (arith, o) in
      let all : AllBefore k (take i row ++ take (j - i) (drop i row)) = subst (λ t. AllBefore k t) (ap (λ m. take m row) (sym (sum ∙ p)) ∙ take-add i (j - i) row) (taken_before k row) in
      are_before k (take (j - i) (drop i row)) (right_from (λ y. by_bytes k y ≡ Greater) (take i row) (take (j - i) (drop i row)) all)

  module _ (range : KeyRange) (rs : List (List (List ℕ × X))) (n i j : ℕ) (s : IsSpan range n i j rs) where
    abbrev row : List (List ℕ × X)
    row = get_or rs n []

    abbrev front : List (List ℕ × X)
    front = joined (take n rs) ++ take i row

    abbrev rest : List (List ℕ × X)
    rest = drop i row ++ joined (drop (n + 1) rs)

    abbrev mid : List (List ℕ × X)
    mid = take (j - i) (drop i row)

    abbrev back : List (List ℕ × X)
    back = drop j row ++ joined (drop (n + 1) rs)

    all_parts : joined rs ≡ front ++ rest
    all_parts =
        let one : suc n ≡ n + 1 = omega arith in
        joined_cut n rs s.row
        ∙ ap (λ m. joined (take n rs) ++ (row ++ joined (drop m rs))) one
        ∙ ap (λ t. joined (take n rs) ++ (t ++ joined (drop (n + 1) rs))) (sym (take-append-drop i row))
        ∙ ap (λ t. joined (take n rs) ++ t) (append_assoc (take i row) (drop i row) (joined (drop (n + 1) rs)))
        ∙ sym (append_assoc (joined (take n rs)) (take i row) rest)

    more : rest ≡ mid ++ back
    more = ap (λ t. t ++ joined (drop (n + 1) rs)) (rest_parts i j row s.order) ∙ append_assoc mid (drop j row) (joined (drop (n + 1) rs))

    set_is : (ss : List (List (List ℕ × X))) → ss ≡ slice_set rs n (remove_range row i j) → joined ss ≡ front ++ back
    set_is ss e =
        let one : suc n ≡ n + 1 = omega arith in
        ap (λ (t : List (List (List ℕ × X))). joined t) e
        ∙ joined_set n rs (remove_range row i j) s.row
        ∙ ap (λ m. joined (take n rs) ++ ((take i row ++ drop j row) ++ joined (drop m rs))) one
        ∙ ap (λ t. joined (take n rs) ++ t) (append_assoc (take i row) (drop j row) (joined (drop (n + 1) rs)))
        ∙ sym (append_assoc (joined (take n rs)) (take i row) back)

    pub span_kept : (ss : List (List (List ℕ × X))) → ss ≡ slice_set rs n (remove_range row i j) → joined ss ≡ filter (λ e. not (is_in range e.0)) (joined rs)
    span_kept ss e = set_is ss e ∙ kept range (joined rs) front rest mid back all_parts more s.before s.reach s.below s.beyond

    pub span_taken : mid ≡ filter (λ e. is_in range e.0) (joined rs)
    span_taken = taken range (joined rs) front rest mid back all_parts more s.before s.reach s.below s.beyond

    pub span_rows : (ss : List (List (List ℕ × X))) → ss ≡ slice_set rs n (remove_range row i j) → AreRows rs → AreRows ss
    span_rows ss e w =
        let size = sized_at rs n w.sized s.row in
        let long = length-append (take i row) (drop j row) in
        record {
          rises = subst (λ (t : List (List ℕ × X)). Rises t) (sym (set_is ss e)) (kept_rises range (joined rs) front rest mid back all_parts more s.before s.reach s.below s.beyond w.rises);
          sized = subst (λ (t : List (List (List ℕ × X))). AreSized t) (sym e)
              (sized_set n rs (remove_range row i j)
              (omega (arith, long, length-take i row, length-drop j row, s.order, s.bound, s.others))
              (omega (arith, long, length-take i row, length-drop j row, s.order, s.bound, size.1)) w.sized);
        }

    pub span_out : (ss : List (List (List ℕ × X))) → i < j → ss ≡ mid ∷ [] → AreRows rs → AreRows ss
    span_out ss l e w =
        let size = sized_at rs n w.sized s.row in
        let r : Rises (front ++ (mid ++ back)) = subst (λ (t : List (List ℕ × X)). Rises t) (all_parts ∙ ap (λ t. front ++ t) more) w.rises in
        let q : Rises mid = rises_left mid back (rises_right front (mid ++ back) r) in
        record {
          rises = subst (λ (t : List (List ℕ × X)). Rises t) (sym (ap (λ (t : List (List (List ℕ × X))). joined t) e ∙ append-nil mid)) q;
          sized = subst (λ (t : List (List (List ℕ × X))). AreSized t) (sym e)
              (omega (arith, l, s.bound, length-take (j - i) (drop i row), length-drop i row), omega (arith, s.bound, size.1, length-take (j - i) (drop i row), length-drop i row), tt);
        }

    -- no entry is in the range
    pub span_none : i ≡ j → mid ≡ []
    span_none h = (let none : j - i ≡ 0 = omega (arith, h) in ap (λ m. take m (drop i row)) none)

    pub span_same : i ≡ j → joined rs ≡ filter (λ e. not (is_in range e.0)) (joined rs)
    span_same h = all_parts ∙ ap (λ t. front ++ t) (more ∙ ap (λ t. t ++ back) (span_none h)) ∙ kept range (joined rs) front rest mid back all_parts more s.before s.reach s.below s.beyond
