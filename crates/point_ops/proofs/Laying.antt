-- What becomes of entries where a change comes to one key.
use Rattle.std.proofs.Common.{◌≡◌, ℕ, ◌+◌, ◌<◌, ◌≤◌, Bool, true, false, List, [], ◌∷◌, length, drop, refl, ap, sym, ◌∙◌, subst, Option, Some, None, cond, arith}
use Rattle.std.specs.declared.cmp.Ordering.TheVariants.{Less, Equal, Greater}
use Rattle.std.specs.Ordering.{is_eq, match_ordering}
use Rattle.std.specs.List.{slice_get, sum_by}
use Rattle.std.specs.Map.{values_of}
use Rattle.std.specs.BTreeMap.{insert_entry, is_at}
use Rattle.std.specs.Option.{option_map, unwrap_or}
use Rattle.std.proofs.lemmas.List.Elements.{All-cons, All-head, All-tail}
use Rattle.std.proofs.lemmas.List.Sums.{sum_by-cons}
use Rattle.std.proofs.lemmas.Map.{lookup-none}
use Rattle.std.proofs.lemmas.Map.Entries.{none_below_head, sum_by-insert_entry}
use Rattle.std.proofs.lemmas.Map.Keys.{sorted_tail}
use Rattle.std.specs.Map.{keys_of}
use Rattle.pathkey.specs.Order.{by_bytes, by_bytes_total, by_bytes_equiv, same}
use Rattle.pathkey.proofs.OrderFacts.{equal, tied, same_true, same_false, same_itself}
use Rattle.cow_map.specs.Places.{Rises, at_key}
use Rattle.point_ops.specs.Changes.{KeyOp, run_effect}
use Rattle.point_ops.specs.PointOps.{found_effect, left, point_count, AreRuns, IsLeft, IsShared, Inserts}
use Rattle.point_ops.proofs.Counting.{point_count-cons}
use Rattle.message.proofs.KeyOrder.{split_bool}

same_back : (k q : List ℕ) → same q k ≡ same k q
same_back k q = by_bytes_equiv.symm q k

module _ {X : Type 0} where
  at_other : (b c : Bool) (v w : X) (t : Option X) → (b ≡ true → c ≡ false) → cond b (Some v) (cond c (Some w) t) ≡ cond c (Some w) (cond b (Some v) t)
  at_other true true v w t h = (let no : true ≡ false = h refl in absurd (cc))
  at_other true false v w t h = refl
  at_other false c v w t h = refl

  at_same : (b : Bool) (v w : X) (t : Option X) → cond b (Some w) t ≡ cond b (Some w) (cond b (Some v) t)
  at_same true v w t = refl
  at_same false v w t = refl

  -- what stands at a key after another value came
  pub at_put : (k q : List ℕ) (w : X) (es : List (List ℕ × X)) → at_key q (insert_entry by_bytes es k w) ≡ cond (same k q) (Some w) (at_key q es)
  at_put k q w [] = ap (λ b. cond b (Some w) None) (same_back k q)
  at_put k q w (e ∷ es) =
      elim (by_bytes k e.0) as (λ o. by_bytes k e.0 ≡ o → at_key q (match_ordering o ((k, w) ∷ e ∷ es) ((e.0, w) ∷ es) (e ∷ insert_entry by_bytes es k w)) ≡ cond (same k q) (Some w) (at_key q (e ∷ es))) [
        | Less ↦ λ p. ap (λ b. cond b (Some w) (at_key q (e ∷ es))) (same_back k q)
        | Equal ↦ λ p.
            let is : same q e.0 ≡ same k q = ap (λ (x : List ℕ). same q x) (sym (equal k e.0 p)) ∙ same_back k q in
            ap (λ b. cond b (Some w) (at_key q es)) is ∙ at_same (same k q) e.1 w (at_key q es) ∙ ap (λ b. cond (same k q) (Some w) (cond b (Some e.1) (at_key q es))) (sym is)
        | Greater ↦ λ p.
            ap (λ t. cond (same q e.0) (Some e.1) t) (at_put k q w es)
            ∙ at_other (same q e.0) (same k q) e.1 w (at_key q es) (λ h. same_false k q (λ s.
            let one : k ≡ e.0 = s ∙ same_true q e.0 h in
            let no : same k e.0 ≡ true = subst (λ (x : List ℕ). same k x ≡ true) one (same_itself k) in
            let f : same k e.0 ≡ false = ap is_eq p in
            (cc)))
      ] refl

  -- equal keys have the same
  pub at_alike : (k q : List ℕ) (es : List (List ℕ × X)) → same k q ≡ true → at_key q es ≡ at_key k es
  at_alike k q es h = ap (λ (x : List ℕ). at_key x es) (sym (same_true k q h))

  -- the same value comes
  pub put_same : (k : List ℕ) (v : X) (es : List (List ℕ × X)) → Rises es → at_key k es ≡ Some v → insert_entry by_bytes es k v ≡ es
  put_same k v [] r h = absurd (cc)
  put_same k v (e ∷ es) r h =
      elim (by_bytes k e.0) as (λ o. by_bytes k e.0 ≡ o → cond (is_eq o) (Some e.1) (at_key k es) ≡ Some v → match_ordering o ((k, v) ∷ e ∷ es) ((e.0, v) ∷ es) (e ∷ insert_entry by_bytes es k v) ≡ e ∷ es) [
        | Less ↦ λ p i. absurd (let none : at_key k (e ∷ es) ≡ None = lookup-none (is_at (by_bytes k)) (e ∷ es) (none_below_head by_bytes_total k e es r p) in cc)
        | Equal ↦ λ p i. (let is : e.1 ≡ v = cc in ap (λ (x : X). (e.0, x) ∷ es) (sym is))
        | Greater ↦ λ p i. ap (λ t. e ∷ t) (put_same k v es (sorted_tail by_bytes e.0 (keys_of es) r) i)
      ] refl h

-- there is a first
pub first_some : {X : Type 0} (e : X) (es : List X) → Some e ≡ slice_get es 0 → 0 < length es
first_some e [] h = absurd (cc)
first_some e (x ∷ es) h = omega arith

-- what stands at its key
pub next_is : {X : Type 0} (k : List ℕ) (v w : X) (es fs : List (List ℕ × X)) → Some w ≡ option_map (λ (e : List ℕ × X). e.1) (slice_get es 0) → es ≡ (k, v) ∷ fs → w ≡ v
next_is {X} k v w es fs h p = (let is : Some w ≡ Some v = h ∙ ap (λ t. option_map (λ (e : List ℕ × X). e.1) (slice_get t 0)) p in cc)

pub first_is : {X : Type 0} (e f : X) (es fs : List X) → Some e ≡ slice_get es 0 → es ≡ f ∷ fs → e ≡ f
first_is e f es fs h p = (let is : Some e ≡ Some f = h ∙ ap (λ t. slice_get t 0) p in cc)

module _ {U V : Type 0} where
  -- changes of the first key are gone
  pub first_shortened : (n : ℕ) (k : List ℕ) (cs old new : List (KeyOp U V)) (es fs : List (List ℕ × List (KeyOp U V))) → Some (k, cs) ≡ slice_get es 0 → at_key k es ≡ Some old → fs ≡ insert_entry by_bytes es k new → (n < length old → new ≡ drop n old) → IsLeft n es → fs ≡ left n es
  first_shortened n k cs old new [] fs h a e d l = absurd (cc)
  first_shortened n k cs old new (x ∷ es) fs h a e d l =
      let key : k ≡ x.0 = cc in
      let at : by_bytes k x.0 ≡ Equal = ap (λ t. by_bytes k t) (sym key) ∙ tied k in
      let here : Some x.1 ≡ Some old = sym (ap (λ o. cond (is_eq o) (Some x.1) (at_key k es)) at) ∙ a in
      let was : x.1 ≡ old = cc in
      let is : new ≡ drop n x.1 = d (subst (λ (t : List (KeyOp U V)). n < length t) was l) ∙ ap (λ t. drop n t) (sym was) in
      e ∙ ap (λ o. match_ordering o ((k, new) ∷ x ∷ es) ((x.0, new) ∷ es) (x ∷ insert_entry by_bytes es k new)) at ∙ ap (λ t. (x.0, t) ∷ es) is

  -- ---- how many there are

  counted_values : (es : List (List ℕ × List (KeyOp U V))) → point_count es ≡ sum_by (λ (cs : List (KeyOp U V)). length cs) (values_of es)
  counted_values [] = refl
  counted_values (e ∷ es) = omega (arith, point_count-cons e.0 e.1 es, counted_values es, sum_by-cons (λ (cs : List (KeyOp U V)). length cs) e.1 (values_of es))

  pub counted_put : (k : List ℕ) (cs : List (KeyOp U V)) (es fs : List (List ℕ × List (KeyOp U V))) (was : Option (List (KeyOp U V))) (n : ℕ) → Rises es → fs ≡ insert_entry by_bytes es k cs → was ≡ at_key k es → n ≡ unwrap_or (option_map (λ (t : List (KeyOp U V)). length t) was) 0 → point_count fs + n ≡ point_count es + length cs
  counted_put k cs es fs was n r e w l =
      let f = λ (t : List (KeyOp U V)). length t in
      let one : n ≡ unwrap_or (option_map f (at_key k es)) 0 = l ∙ ap (λ t. unwrap_or (option_map f t) 0) w in
      let all : sum_by f (values_of fs) + unwrap_or (option_map f (at_key k es)) 0 ≡ sum_by f (values_of es) + length cs = ap (λ t. sum_by f (values_of t) + unwrap_or (option_map f (at_key k es)) 0) e ∙ sum_by-insert_entry f by_bytes_total es k cs r in
      omega (arith, counted_values es, counted_values fs, one, all)

  pub counted_at : (k : List ℕ) (es : List (List ℕ × List (KeyOp U V))) (cs : List (KeyOp U V)) → at_key k es ≡ Some cs → length cs ≤ point_count es
  counted_at k [] cs h = absurd (cc)
  counted_at k (e ∷ es) cs h =
      split_bool (is_eq (by_bytes k e.0))
      (λ p.
      let is : e.1 ≡ cs = (let hit : cond (is_eq (by_bytes k e.0)) (Some e.1) (at_key k es) ≡ Some e.1 = ap (λ b. cond b (Some e.1) (at_key k es)) p in cc) in
      let len : length e.1 ≡ length cs = ap (λ (t : List (KeyOp U V)). length t) is in
      omega (arith, len, point_count-cons e.0 e.1 es))
      (λ p. omega (arith, counted_at k es cs (sym (ap (λ b. cond b (Some e.1) (at_key k es)) p) ∙ h), point_count-cons e.0 e.1 es))

  count_within : (k : List ℕ) (es : List (List ℕ × List (KeyOp U V))) (was : Option (List (KeyOp U V))) (n : ℕ) → was ≡ at_key k es → n ≡ unwrap_or (option_map (λ (t : List (KeyOp U V)). length t) was) 0 → n ≤ point_count es
  count_within k es None n w l = omega (arith, l)
  count_within k es (Some cs) n w l = omega (arith, l, counted_at k es cs (sym w))

  -- ---- that some change waits at each key

  runs_insert : (k : List ℕ) (cs : List (KeyOp U V)) (es : List (List ℕ × List (KeyOp U V))) → AreRuns es → 0 < length cs → AreRuns (insert_entry by_bytes es k cs)
  runs_insert k cs [] h l = All-cons (λ (e : List ℕ × List (KeyOp U V)). 0 < length e.1) (k, cs) [] l h
  runs_insert k cs (x ∷ es) h l =
      let some = λ (e : List ℕ × List (KeyOp U V)). 0 < length e.1 in
      let here = All-head some x es h in
      let rest = All-tail some x es h in
      elim (by_bytes k x.0) as (λ o. AreRuns (match_ordering o ((k, cs) ∷ x ∷ es) ((x.0, cs) ∷ es) (x ∷ insert_entry by_bytes es k cs))) [
        | Less ↦ All-cons some (k, cs) (x ∷ es) l h
        | Equal ↦ All-cons some (x.0, cs) es l rest
        | Greater ↦ All-cons some x (insert_entry by_bytes es k cs) here (runs_insert k cs es rest l)
      ]

  pub runs_put : (k : List ℕ) (cs : List (KeyOp U V)) (es fs : List (List ℕ × List (KeyOp U V))) → fs ≡ insert_entry by_bytes es k cs → 0 < length cs → AreRuns es → AreRuns fs
  runs_put k cs es fs e l h = subst (λ t. AreRuns t) (sym e) (runs_insert k cs es h l)

-- ---- what they mean

module _ {U V : Type 0} (means : U → Option V → Option V) where
  found-cond : (b : Bool) (cs : List (KeyOp U V)) (t : Option (List (KeyOp U V))) (o : Option V) → found_effect means (cond b (Some cs) t) o ≡ cond b (run_effect means cs o) (found_effect means t o)
  found-cond true cs t o = refl
  found-cond false cs t o = refl

  -- the changes that come make f of what was there
  pub inserts_put : (k : List ℕ) (f : Option V → Option V) (cs : List (KeyOp U V)) (es fs : List (List ℕ × List (KeyOp U V))) → fs ≡ insert_entry by_bytes es k cs → ((o : Option V) → run_effect means cs o ≡ f (found_effect means (at_key k es) o)) → Inserts means k f es fs
  inserts_put k f cs es fs e d =
      let found = λ (q : List ℕ). ap (λ t. at_key q t) e ∙ at_put k q cs es in
      record {
        meaning = λ q o.
            ap (λ t. found_effect means t o) (found q)
            ∙ found-cond (same k q) cs (at_key q es) o
            ∙ split_bool (same k q)
            (λ h. ap (λ x. cond (same k q) x (found_effect means (at_key q es) o)) (d o ∙ sym (ap (λ t. f (found_effect means t o)) (at_alike k q es h))))
            (λ h. ap (λ c. cond c (run_effect means cs o) (found_effect means (at_key q es) o)) h ∙ sym (ap (λ c. cond c (f (found_effect means (at_key q es) o)) (found_effect means (at_key q es) o)) h));
        touched = λ q h a. found q ∙ ap (λ c. cond c (Some cs) (at_key q es)) h ∙ a;
      }

  -- the operations of the first key of other entries came to those at its key, which gave cs
  pub shared_at : (k : List ℕ) (run cs : List (KeyOp U V)) (was : Option (List (KeyOp U V))) (before after : ℕ) (from es rest fs : List (List ℕ × List (KeyOp U V))) → from ≡ (k, run) ∷ rest → Rises es → fs ≡ insert_entry by_bytes es k cs → was ≡ at_key k es → before ≡ unwrap_or (option_map (λ (t : List (KeyOp U V)). length t) was) 0 → after ≡ length cs → 0 < length cs → after ≤ before + length run → ((o : Option V) → run_effect means cs o ≡ run_effect means run (found_effect means was o)) → IsShared means before after from es rest fs
  shared_at k run cs was before after from es rest fs p r e w n m some b d =
      let counted = counted_put k cs es fs was before r e w n in
      record {
        key = k;
        run = run;
        parts = p;
        inserts = inserts_put k (run_effect means run) cs es fs e (λ o. d o ∙ ap (λ t. run_effect means run (found_effect means t o)) w);
        bound = b;
        within = count_within k es was before w n;
        counted = omega (arith, counted, m);
        runs = runs_put k cs es fs e some;
      }
