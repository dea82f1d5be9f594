-- What is done to one row, said of all entries.
use Rattle.std.proofs.Common.{◌≡◌, ℕ, zero, suc, ◌+◌, ◌-◌, ◌<◌, ◌≤◌, List, [], ◌∷◌, ◌++◌, length, take, drop, get_or, refl, ap, sym, ◌∙◌, subst, Option, Some, None, cond, arith}
use Rattle.std.specs.Prelude.{Result, Ok, Err}
use Rattle.std.specs.declared.cmp.Ordering.TheVariants.{Less, Equal, Greater}
use Rattle.std.specs.Ordering.{is_eq, match_ordering}
use Rattle.std.specs.List.{slice_set}
use Rattle.std.specs.Map.{keys_of}
use Rattle.std.specs.BTreeMap.{insert_entry}
use Rattle.std.proofs.Math.Seq.{drop-append-add}
use Rattle.std.proofs.lemmas.List.{drop-append-le, length-drop, length-append}
use Rattle.std.proofs.lemmas.Map.Keys.{sorted_head, sorted_tail}
use Rattle.pathkey.specs.Order.{by_bytes}
use Rattle.cow_map.specs.Changes.{ChangesValue, IsPut, IsRowChanged, IsEdited, IsEditedOrPut}
use Rattle.cow_map.specs.declared.edit.Edited.{Edited}
use Rattle.cow_map.specs.declared.edit.Edited.TheVariants.{Done, Absent, Refused}
use Rattle.cow_map.specs.Places.{Rises, at_key, place, place_past}
use Rattle.cow_map.specs.CowMap.{joined, AreSized, AreRows, chunk_index}
use Rattle.cow_map.proofs.Entries.{all_ahead, none_ahead, rises_put}
use Rattle.cow_map.proofs.Parts.{at_between, drop_between, past_between, place_between, put_between, rest_is, rises_drop, take_between}
use Rattle.cow_map.proofs.TableFacts.{IsRow, around, joined_cut, sized_at, sized_set}

module _ {X : Type 0} where
  -- ---- how many entries there are after a value was put

  put_most : (k : List ℕ) (v : X) (es : List (List ℕ × X)) → length (insert_entry by_bytes es k v) ≤ length es + 1
  put_most k v [] = omega arith
  put_most k v (e ∷ es) = elim (by_bytes k e.0) as (λ o. length (match_ordering o ((k, v) ∷ e ∷ es) ((e.0, v) ∷ es) (e ∷ insert_entry by_bytes es k v)) ≤ length (e ∷ es) + 1) [
    | Less ↦ omega arith
    | Equal ↦ omega arith
    | Greater ↦ omega (arith, put_most k v es)
  ]

  put_some : (k : List ℕ) (v : X) (es : List (List ℕ × X)) → 0 < length (insert_entry by_bytes es k v)
  put_some k v [] = omega arith
  put_some k v (e ∷ es) = elim (by_bytes k e.0) as (λ o. 0 < length (match_ordering o ((k, v) ∷ e ∷ es) ((e.0, v) ∷ es) (e ∷ insert_entry by_bytes es k v))) [
    | Less ↦ omega arith
    | Equal ↦ omega arith
    | Greater ↦ omega arith
  ]

  put_as_many : (k : List ℕ) (v old : X) (es : List (List ℕ × X)) → Rises es → at_key k es ≡ Some old → length (insert_entry by_bytes es k v) ≡ length es
  put_as_many k v old [] r h = absurd (cc)
  put_as_many k v old (e ∷ es) r h =
      elim (by_bytes k e.0) as (λ o. by_bytes k e.0 ≡ o → cond (is_eq o) (Some e.1) (at_key k es) ≡ Some old → length (match_ordering o ((k, v) ∷ e ∷ es) ((e.0, v) ∷ es) (e ∷ insert_entry by_bytes es k v)) ≡ length (e ∷ es)) [
        | Less ↦ λ p i. absurd (let none : at_key k es ≡ None = none_ahead k es (all_ahead k e.0 (keys_of es) p (sorted_head by_bytes e.0 (keys_of es) r)) in cc)
        | Equal ↦ λ p i. refl
        | Greater ↦ λ p i. ap (λ n. suc n) (put_as_many k v old es (sorted_tail by_bytes e.0 (keys_of es) r) i)
      ] refl h

  -- ---- a change at a key of the row in which it stands or would

  module _ (k : List ℕ) (rs : List (List (List ℕ × X))) (n : ℕ) (w : AreRows rs) (e : n ≡ chunk_index k rs) (l : n < length rs) where
    -- what stands there
    pub row_value : at_key k (get_or rs n []) ≡ at_key k (joined rs)
    row_value =
        let c = around k rs n w e l in
        sym (ap (at_key k) c.is ∙ at_between k c.front (get_or rs n []) c.back c.before c.behind)

    -- where its entries stand among all
    pub row_place : place k (joined rs) ≡ length (joined (take n rs)) + place k (get_or rs n [])
    row_place = (let c = around k rs n w e l in ap (place k) c.is ∙ place_between k c.front (get_or rs n []) c.back c.before c.behind ∙ ap (λ (t : List (List ℕ × X)). length t + place k (get_or rs n [])) c.is_front)

    pub row_past : place_past k (joined rs) ≡ length (joined (take n rs)) + place_past k (get_or rs n [])
    row_past = (let c = around k rs n w e l in ap (place_past k) c.is ∙ past_between k c.front (get_or rs n []) c.back c.before c.behind ∙ ap (λ (t : List (List ℕ × X)). length t + place_past k (get_or rs n [])) c.is_front)

    row_put : (v : X) (ss : List (List (List ℕ × X))) (row : List (List ℕ × X)) → ss ≡ slice_set rs n row → row ≡ insert_entry by_bytes (get_or rs n []) k v → joined ss ≡ insert_entry by_bytes (joined rs) k v
    row_put v ss row s h =
        let c = around k rs n w e l in
        ap (λ (t : List (List (List ℕ × X))). joined t) s
        ∙ c.set row
        ∙ ap (λ (t : List (List ℕ × X)). c.front ++ (t ++ c.back)) h
        ∙ sym (put_between k v c.front (get_or rs n []) c.back c.before c.behind)
        ∙ sym (ap (λ (t : List (List ℕ × X)). insert_entry by_bytes t k v) c.is)

    row_same : (ss : List (List (List ℕ × X))) (row : List (List ℕ × X)) → ss ≡ slice_set rs n row → row ≡ get_or rs n [] → joined ss ≡ joined rs
    row_same ss row s h =
        let c = around k rs n w e l in
        ap (λ (t : List (List (List ℕ × X))). joined t) s ∙ c.set row ∙ ap (λ (t : List (List ℕ × X)). c.front ++ (t ++ c.back)) h ∙ sym c.is

    changed_rows : (ss : List (List (List ℕ × X))) (row : List (List ℕ × X)) → ss ≡ slice_set rs n row → 0 < length row → length row ≤ 128 → Rises (joined ss) → AreRows ss
    changed_rows ss row s p q r = record { rises = r; sized = subst (λ (t : List (List (List ℕ × X))). AreSized t) (sym s) (sized_set n rs row p q w.sized) }

    same_rows : (ss : List (List (List ℕ × X))) (row : List (List ℕ × X)) → ss ≡ slice_set rs n row → row ≡ get_or rs n [] → AreRows ss
    same_rows ss row s h =
        let size = sized_at rs n w.sized l in
        let long : length row ≡ length (get_or rs n []) = ap (λ (t : List (List ℕ × X)). length t) h in
        changed_rows ss row s (omega (arith, long, size.0)) (omega (arith, long, size.1)) (subst (λ (t : List (List ℕ × X)). Rises t) (sym (row_same ss row s h)) w.rises)

    put_rises : (v : X) (ss : List (List (List ℕ × X))) → joined ss ≡ insert_entry by_bytes (joined rs) k v → Rises (joined ss)
    put_rises v ss h = subst (λ (t : List (List ℕ × X)). Rises t) (sym h) (rises_put k v (joined rs) w.rises)

    -- a value was put
    pub put_whole : (v : X) (ss : List (List (List ℕ × X))) (r : Result (Option X) (List ℕ × X)) → IsRowChanged (IsPut k v) n rs ss r → IsPut k v (joined rs) (joined ss) r
    put_whole v ss (Ok was) h = (row_put v ss h.row h.is h.done.0, h.done.1 ∙ row_value)
    put_whole v ss (Err p) h = (row_same ss h.row h.is h.done.0, h.done.1)

    pub put_rows : (v : X) (ss : List (List (List ℕ × X))) (r : Result (Option X) (List ℕ × X)) → length (get_or rs n []) < 128 → IsRowChanged (IsPut k v) n rs ss r → AreRows ss
    put_rows v ss (Ok was) b h =
        let long : length h.row ≡ length (insert_entry by_bytes (get_or rs n []) k v) = ap (λ (t : List (List ℕ × X)). length t) h.done.0 in
        changed_rows ss h.row h.is (omega (arith, long, put_some k v (get_or rs n []))) (omega (arith, long, b, put_most k v (get_or rs n []))) (put_rises v ss (row_put v ss h.row h.is h.done.0))
    put_rows v ss (Err p) b h = same_rows ss h.row h.is h.done.0

    -- the value there was changed
    module _ {A : Type 0} (does : X → X → A → Type 0) (ss : List (List (List ℕ × X))) (row : List (List ℕ × X)) (s : ss ≡ slice_set rs n row) (a : A) (c : ChangesValue does k (get_or rs n []) row a) where
      value_whole : ChangesValue does k (joined rs) (joined ss) a
      value_whole = record { old = c.old; new = c.new; there = sym row_value ∙ c.there; done = c.done; is = row_put c.new ss row s c.is }

      value_rows : Rises (get_or rs n []) → AreRows ss
      value_rows r =
          let size = sized_at rs n w.sized l in
          let long : length row ≡ length (get_or rs n []) = ap (λ (t : List (List ℕ × X)). length t) c.is ∙ put_as_many k c.new c.old (get_or rs n []) r c.there in
          changed_rows ss row s (omega (arith, long, size.0)) (omega (arith, long, size.1)) (put_rises c.new ss (row_put c.new ss row s c.is))

    module _ {A E : Type 0} (does : X → X → A → Type 0) (edit : E) (ss : List (List (List ℕ × X))) where
      pub edit_whole : (r : Edited A E) → IsRowChanged (IsEdited does k edit) n rs ss r → IsEdited does k edit (joined rs) (joined ss) r
      edit_whole (Done a) h = value_whole does ss h.row h.is a h.done
      edit_whole (Absent back) h = (sym row_value ∙ h.done.0, row_same ss h.row h.is h.done.1, h.done.2)
      edit_whole (Refused back) h = (row_same ss h.row h.is h.done.0, h.done.1)

      pub edit_rows : (r : Edited A E) → Rises (get_or rs n []) → IsRowChanged (IsEdited does k edit) n rs ss r → AreRows ss
      edit_rows (Done a) r h = value_rows does ss h.row h.is a h.done r
      edit_rows (Absent back) r h = same_rows ss h.row h.is h.done.1
      edit_rows (Refused back) r h = same_rows ss h.row h.is h.done.0

    -- it was changed, or a value was put where there was none
    module _ {A E : Type 0} (does : X → X → A → Type 0) (v : X) (ss : List (List (List ℕ × X))) where
      pub join_whole : (r : Result (Option A) E) → IsRowChanged (IsEditedOrPut does k v) n rs ss r → IsEditedOrPut does k v (joined rs) (joined ss) r
      join_whole (Ok (Some a)) h = value_whole does ss h.row h.is a h.done
      join_whole (Ok None) h = (sym row_value ∙ h.done.0, row_put v ss h.row h.is h.done.1)
      join_whole (Err e) h = row_same ss h.row h.is h.done

      pub join_rows : (r : Result (Option A) E) → Rises (get_or rs n []) → length (get_or rs n []) < 128 → IsRowChanged (IsEditedOrPut does k v) n rs ss r → AreRows ss
      join_rows (Ok (Some a)) r b h = value_rows does ss h.row h.is a h.done r
      join_rows (Ok None) r b h = put_rows v ss (Ok None) b (record { row = h.row; is = h.is; done = (h.done.1, sym h.done.0) })
      join_rows (Err e) r b h = same_rows ss h.row h.is h.done

  -- ---- a place in the row that was found, among all entries

  module _ (count : List (List ℕ × X) → ℕ) (rs : List (List (List ℕ × X))) (n i : ℕ) (es : List (List ℕ × X)) (f : IsRow rs n es) (lift : count (joined rs) ≡ length (joined (take n rs)) + count (get_or rs n [])) (is : i ≡ count es) (bound : i ≤ length es) where
    whole : count (joined rs) ≡ length (joined (take n rs)) + i
    whole = lift ∙ ap (λ j. length (joined (take n rs)) + j) (sym (is ∙ ap count f.own))

    parts : joined rs ≡ joined (take n rs) ++ (es ++ joined (drop (suc n) rs))
    parts = joined_cut n rs f.low ∙ ap (λ (t : List (List ℕ × X)). joined (take n rs) ++ (t ++ joined (drop (suc n) rs))) (sym f.own)

    pub found_take : joined (take n rs) ++ take i es ≡ take (count (joined rs)) (joined rs)
    found_take =
        sym (ap (λ j. take j (joined rs)) whole
        ∙ ap (λ (t : List (List ℕ × X)). take (length (joined (take n rs)) + i) t) parts
        ∙ take_between (joined (take n rs)) es (joined (drop (suc n) rs)) i bound)

    pub found_drop : drop i es ++ joined (drop (n + 1) rs) ≡ drop (count (joined rs)) (joined rs)
    found_drop =
        let one : n + 1 ≡ suc n = omega arith in
        ap (λ j. drop i es ++ joined (drop j rs)) one
        ∙ sym (ap (λ j. drop j (joined rs)) whole
        ∙ ap (λ (t : List (List ℕ × X)). drop (length (joined (take n rs)) + i) t) parts
        ∙ drop_between (joined (take n rs)) es (joined (drop (suc n) rs)) i bound)

    -- as a cursor begins there: with what is left of the row, and the rows behind it
    pub found_rest : take (length es - i) (drop i es) ++ joined (take (length rs - (n + 1)) (drop (n + 1) rs)) ≡ drop (count (joined rs)) (joined rs)
    found_rest =
        ap (λ (t : List (List ℕ × X)). t ++ joined (take (length rs - (n + 1)) (drop (n + 1) rs))) (rest_is i es)
        ∙ ap (λ (t : List (List (List ℕ × X))). drop i es ++ joined t) (rest_is (n + 1) rs)
        ∙ found_drop

  -- ---- the first entries leave

  -- those of a whole row
  pub passed : (rs : List (List (List ℕ × X))) (n left : ℕ) → n < length rs → length (get_or rs n []) ≤ left → drop left (joined (drop n rs)) ≡ drop (left - length (get_or rs n [])) (joined (drop (suc n) rs))
  passed [] n left l h = absurd (omega arith)
  passed (r ∷ rs) zero left l h =
      let is : left ≡ length r + (left - length r) = omega (arith, h) in
      ap (λ m. drop m (r ++ joined rs)) is ∙ drop-append-add r (joined rs) (left - length r)
  passed (r ∷ rs) (suc n) left l h = passed rs n left (omega arith) h

  pub passed_length : (rs : List (List (List ℕ × X))) (n : ℕ) → n < length rs → length (joined (drop n rs)) ≡ length (get_or rs n []) + length (joined (drop (suc n) rs))
  passed_length [] n l = absurd (omega arith)
  passed_length (r ∷ rs) zero l = length-append r (joined rs)
  passed_length (r ∷ rs) (suc n) l = passed_length rs n (omega arith)

  -- some of the first row
  pub shortened : (rs ss : List (List (List ℕ × X))) (count : ℕ) (row : List (List ℕ × X)) → 0 < length rs → count ≤ length (get_or rs 0 []) → ss ≡ slice_set rs 0 row → row ≡ drop count (get_or rs 0 []) → joined ss ≡ drop count (joined rs)
  shortened [] ss count row l h s d = absurd (omega arith)
  shortened (r ∷ rs) ss count row l h s d =
      ap (λ (t : List (List (List ℕ × X))). joined t) s ∙ ap (λ (t : List (List ℕ × X)). t ++ joined rs) d ∙ sym (drop-append-le count r (joined rs) h)

  pub shortened_rows : (rs ss : List (List (List ℕ × X))) (count : ℕ) (row : List (List ℕ × X)) → 0 < length rs → count < length (get_or rs 0 []) → ss ≡ slice_set rs 0 row → row ≡ drop count (get_or rs 0 []) → AreRows rs → AreRows ss
  shortened_rows rs ss count row l h s d w =
      let size = sized_at rs 0 w.sized l in
      let long : length row ≡ length (drop count (get_or rs 0 [])) = ap (λ (t : List (List ℕ × X)). length t) d in
      record {
        rises = subst (λ (t : List (List ℕ × X)). Rises t) (sym (shortened rs ss count row l (omega (arith, h)) s d)) (rises_drop count (joined rs) w.rises);
        sized = subst (λ (t : List (List (List ℕ × X))). AreSized t) (sym s) (sized_set 0 rs row (omega (arith, long, h, length-drop count (get_or rs 0 []))) (omega (arith, long, size.1, length-drop count (get_or rs 0 []))) w.sized);
      }
