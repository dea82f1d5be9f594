-- Entries that leave a list, and those that stay.
use Rattle.std.proofs.Common.{◌≡◌, ℕ, zero, suc, ◌+◌, ◌<◌, ◌≤◌, Bool, true, false, not, cond, ◌||◌, List, [], ◌∷◌, ◌++◌, length, take, drop, refl, ap, sym, ◌∙◌, subst, arith, length-drop}
use Rattle.std.specs.List.{filter, list_any}
use Rattle.std.proofs.Math.Seq.{drop-append-add, drop-append_seam, take-append_seam}
use Rattle.std.proofs.lemmas.List.{drop-map, length-map, drop-append-le}
use Rattle.std.proofs.lemmas.List.Elements.{All-append, All-cons, All-drop, All-filter, All-tail, All-take}
use Rattle.std.proofs.lemmas.List.Filters.{sum_by-filter_both}
use Rattle.std.proofs.lemmas.List.Sums.{sum_by-append, sum_by-take-drop}
use Rattle.point_ops.specs.Changes.{KeyOp, msg_at, run_msgs}
use Rattle.point_ops.specs.PointOps.{left, point_count, point_msgs, AreRuns, IsLeft}
use Rattle.point_ops.proofs.Counting.{point_count-cons}
use Rattle.message.proofs.KeyOrder.{split_bool}

module _ {X : Type 0} where
  -- a filter that lets the first pass, or not
  filter_in : (p : X → Bool) (x : X) (xs : List X) → p x ≡ true → filter p (x ∷ xs) ≡ x ∷ filter p xs
  filter_in p x xs h = ap (λ b. cond b (x ∷ filter p xs) (filter p xs)) h

  -- where none passes, a filter by the opposite keeps all
  pub kept_all : (p : X → Bool) (xs : List X) → false ≡ list_any p xs → filter (λ x. not (p x)) xs ≡ xs
  kept_all p [] h = refl
  kept_all p (x ∷ xs) h =
      split_bool (p x)
      (λ y. absurd (let no : list_any p (x ∷ xs) ≡ true = ap (λ b. b || list_any p xs) y in cc))
      (λ n. filter_in (λ z. not (p z)) x xs (ap not n) ∙ ap (λ t. x ∷ t) (kept_all p xs (h ∙ ap (λ b. b || list_any p xs) n)))

module _ {U V : Type 0} where
  -- ---- how many stay, and how many leave

  pub counted_filter : (p : List ℕ × List (KeyOp U V) → Bool) (es kept out : List (List ℕ × List (KeyOp U V))) → kept ≡ filter (λ e. not (p e)) es → out ≡ filter p es → point_count out + point_count kept ≡ point_count es
  counted_filter p es kept out k o =
      let both = sum_by-filter_both p (λ e. not (p e)) (λ e. refl) (λ (e : List ℕ × List (KeyOp U V)). length e.1) es in
      omega (arith, both, ap (λ t. point_count t) k, ap (λ t. point_count t) o)

  pub counted_parts : (es front back : List (List ℕ × List (KeyOp U V))) → es ≡ front ++ back → point_count front + point_count back ≡ point_count es
  counted_parts es front back e = omega (arith, ap (λ t. point_count t) e, sum_by-append (λ (x : List ℕ × List (KeyOp U V)). length x.1) front back)

  pub counted_drop : (es fs : List (List ℕ × List (KeyOp U V))) (n : ℕ) → fs ≡ drop n es → point_count (take n es) + point_count fs ≡ point_count es
  counted_drop es fs n e = omega (arith, sum_by-take-drop (λ (x : List ℕ × List (KeyOp U V)). length x.1) es n, ap (λ t. point_count t) e)

  pub counted_left : (n : ℕ) (es : List (List ℕ × List (KeyOp U V))) → IsLeft n es → point_count (left n es) + n ≡ point_count es
  counted_left n [] l = omega (arith, l)
  counted_left n (e ∷ es) l = omega (arith, l, point_count-cons e.0 e.1 es, point_count-cons e.0 (drop n e.1) es, length-drop n e.1)

  -- ---- some change waits still at each key

  pub runs_filter : (p : List ℕ × List (KeyOp U V) → Bool) (es fs : List (List ℕ × List (KeyOp U V))) → fs ≡ filter p es → AreRuns es → AreRuns fs
  runs_filter p es fs e h = subst (λ t. AreRuns t) (sym e) (All-filter p (λ (x : List ℕ × List (KeyOp U V)). 0 < length x.1) es h)

  pub runs_front : (es front back : List (List ℕ × List (KeyOp U V))) → es ≡ front ++ back → AreRuns es → AreRuns front
  runs_front es front back e h = subst (λ t. AreRuns t) (ap (λ t. take (length front) t) e ∙ take-append_seam front back) (All-take (λ (x : List ℕ × List (KeyOp U V)). 0 < length x.1) (length front) es h)

  pub runs_back : (es front back : List (List ℕ × List (KeyOp U V))) → es ≡ front ++ back → AreRuns es → AreRuns back
  runs_back es front back e h = subst (λ t. AreRuns t) (ap (λ t. drop (length front) t) e ∙ drop-append_seam front back) (All-drop (λ (x : List ℕ × List (KeyOp U V)). 0 < length x.1) (length front) es h)

  pub runs_joined : (es front back : List (List ℕ × List (KeyOp U V))) → es ≡ front ++ back → AreRuns front → AreRuns back → AreRuns es
  runs_joined es front back e f b = subst (λ t. AreRuns t) (sym e) (All-append (λ (x : List ℕ × List (KeyOp U V)). 0 < length x.1) front back f b)

  pub runs_drop : (n : ℕ) (es fs : List (List ℕ × List (KeyOp U V))) → fs ≡ drop n es → AreRuns es → AreRuns fs
  runs_drop n es fs e h = subst (λ t. AreRuns t) (sym e) (All-drop (λ (x : List ℕ × List (KeyOp U V)). 0 < length x.1) n es h)

  pub runs_left : (n : ℕ) (es : List (List ℕ × List (KeyOp U V))) → IsLeft n es → AreRuns es → AreRuns (left n es)
  runs_left n [] l h = h
  runs_left n (e ∷ es) l h =
      let some = λ (x : List ℕ × List (KeyOp U V)). 0 < length x.1 in
      All-cons some (e.0, drop n e.1) es (omega (arith, l, length-drop n e.1)) (All-tail some e es h)

  -- ---- the messages without the oldest

  pub msgs_len : (k : List ℕ) (cs : List (KeyOp U V)) → length (run_msgs k cs) ≡ length cs
  msgs_len k cs = length-map cs (msg_at k)

  pub msgs_left : (n : ℕ) (es : List (List ℕ × List (KeyOp U V))) → IsLeft n es → point_msgs (left n es) ≡ drop n (point_msgs es)
  msgs_left n [] l = sym (ap (λ i. drop i (point_msgs {U = U} {V = V} [])) l)
  msgs_left n (e ∷ es) l =
      ap (λ t. t ++ point_msgs es) (sym (drop-map (msg_at e.0) n e.1))
      ∙ sym (drop-append-le n (run_msgs e.0 e.1) (point_msgs es) (omega (arith, l, msgs_len e.0 e.1)))

  -- so many keys are passed
  msgs_past : (n m : ℕ) (es : List (List ℕ × List (KeyOp U V))) → n ≤ length es → drop m (point_msgs (drop n es)) ≡ drop (point_count (take n es) + m) (point_msgs es)
  msgs_past zero m es h = (let none : point_count {U = U} {V = V} [] + m ≡ m = omega arith in sym (ap (λ i. drop i (point_msgs es)) none))
  msgs_past (suc n) m [] h = absurd (omega arith)
  msgs_past (suc n) m (e ∷ es) h =
      let all : point_count (e ∷ take n es) + m ≡ length (run_msgs e.0 e.1) + (point_count (take n es) + m) = omega (arith, point_count-cons e.0 e.1 (take n es), msgs_len e.0 e.1) in
      msgs_past n m es (omega arith)
      ∙ sym (ap (λ i. drop i (run_msgs e.0 e.1 ++ point_msgs es)) all ∙ drop-append-add (run_msgs e.0 e.1) (point_msgs es) (point_count (take n es) + m))

  pub msgs_dropped : (n m count : ℕ) (es fs : List (List ℕ × List (KeyOp U V))) → n ≤ length es → fs ≡ drop n es → IsLeft m fs → point_count (take n es) + m ≡ count → point_msgs (left m fs) ≡ drop count (point_msgs es)
  msgs_dropped n m count es fs h e l c =
      msgs_left m fs l
      ∙ ap (λ t. drop m (point_msgs t)) e
      ∙ msgs_past n m es h
      ∙ ap (λ i. drop i (point_msgs es)) c
