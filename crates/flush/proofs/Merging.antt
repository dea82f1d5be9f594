-- A pass over a leaf's entries and the messages of a walk: the messages of a key, applied between what is done and what is left.
use Rattle.std.proofs.Common.{◌≡◌, ℕ, zero, suc, ◌+◌, ◌<◌, ◌≤◌, true, false, List, [], ◌∷◌, ◌++◌, length, take, drop, refl, ap, sym, ◌∙◌, subst, Option, Some, None, cond, arith, length-append, append-nil, length-take, length-drop, min, get_or, slice_get, ◌-◌, Ordering}
use Rattle.std.specs.Prelude.{◌&&◌}
use Rattle.std.specs.Option.{option_or}
use Rattle.std.specs.Ordering.{is_eq, is_gt, is_le, is_lt}
use Rattle.std.specs.declared.cmp.Ordering.TheVariants.{Less, Equal, Greater}
use Rattle.std.proofs.Math.Seq.{take-add}
use Rattle.std.proofs.lemmas.List.{append_assoc, take-append-le, take-take}
use Rattle.pathkey.specs.Order.{by_bytes, same}
use Rattle.pathkey.specs.Keys.{is_below}
use Rattle.pathkey.proofs.OrderFacts.{equal, same_true}
use Rattle.pathkey.proofs.KeyOrder.{reaches-refl, from_start, not_reaches_from_before, not_before_from_reaches, before_from_not_reaches}
use Rattle.message.specs.declared.msg.Msg.{Msg}
use Rattle.message.specs.Ranges.{reaches, before, within}
use Rattle.message.specs.Effects.{any_touches, effects}
use Rattle.message.proofs.KeyOrder.{below_next, both}
use Rattle.message.proofs.Lists.{untouched}
use Rattle.point_ops.specs.Changes.{KeyOp}
use Rattle.point_ops.specs.PointOps.{point_msgs}
use Rattle.pending.specs.OldestWalk.{IsWalk}
use Rattle.node.specs.Lawful.{first_key, Rises, TouchOnly}
use Rattle.node.specs.Meaning.{lookup}
use Rattle.node.specs.Leaves.{Applied}
use Rattle.node.proofs.EntryFacts.{first_below, rises_all, rises_from, rises-append, lookup-append, lookup_outside, or_none}
use Rattle.node.proofs.Applying.{applied_nothing, applied_then, applied_more, rising_applied}
use Rattle.flush.specs.Merge.{EndsAt, HasCome, IsFilled}
use Rattle.flush.proofs.Keyed.{AreAt}

-- each step leaves fewer entries, or is the last
pub come_nearer : (o : Ordering) (n m : ℕ) → (o ≡ Less → n < m) → n ≤ m → n + cond (is_lt o) 1 0 < m + 1
come_nearer Less n m f l = omega (arith, f refl)
come_nearer Equal n m f l = omega (arith, l)
come_nearer Greater n m f l = omega (arith, l)

module _ {V : Type 0} where
  -- one entry has one key
  same_key : (x e : List ℕ × V) → Some x ≡ Some e → x.0 ≡ e.0
  same_key x e h = (cc)

  -- entries behind others rise by themselves
  pub rises_behind : (lo : List ℕ) (hi : Option (List ℕ)) (xs ys : List (List ℕ × V)) → Rises lo hi (xs ++ ys) → Rises lo hi ys
  rises_behind lo hi [] ys r = r
  rises_behind lo hi (x ∷ xs) ys r = rises_from lo x.0 hi ys r.0 (rises_behind x.0 hi xs ys r.2)

  -- and those before others, up to the first of these
  pub rises_ahead : (lo : List ℕ) (hi : Option (List ℕ)) (xs ys : List (List ℕ × V)) → Rises lo hi (xs ++ ys) → Rises lo (first_key hi ys) xs
  rises_ahead lo hi [] ys r = tt
  rises_ahead lo hi (x ∷ []) ys r = (r.0, r.1, tt)
  rises_ahead lo hi (x ∷ (y ∷ xs)) ys r = (r.0, r.1, rises_ahead x.0 hi (y ∷ xs) ys r.2)

  -- or without end
  pub rises_front : (xs ys : List (List ℕ × V)) → Rises [] None (xs ++ ys) → Rises [] None xs
  rises_front xs ys r = rises_all [] (first_key None ys) xs (rises_ahead [] None xs ys r)

  -- and up to a later end
  pub rises_wider : (lo k n : List ℕ) (es : List (List ℕ × V)) → before k n ≡ true → Rises lo (Some k) es → Rises lo (Some n) es
  rises_wider lo k n [] b r = tt
  rises_wider lo k n (e ∷ []) b r = (r.0, below_next e.0 k (Some n) r.1 b, tt)
  rises_wider lo k n (e ∷ (f ∷ es)) b r = (r.0, r.1, rises_wider e.0 k n (f ∷ es) b r.2)

  -- two lists of entries, of which the first ends where the second begins
  rises_joined : (lo : List ℕ) (hi : Option (List ℕ)) (xs ys : List (List ℕ × V)) → Rises lo (first_key hi ys) xs → Rises lo hi ys → Rises lo hi (xs ++ ys)
  rises_joined lo hi xs [] r s = subst (λ (zs : List (List ℕ × V)). Rises lo hi zs) (sym (append-nil xs)) r
  rises_joined lo hi xs (y ∷ ys) r s = rises-append lo y.0 hi xs (y ∷ ys) s.0 (first_below lo hi y ys s) r (reaches-refl y.0, s.1, s.2)

  -- no entry has the key behind which they begin
  lookup_behind : (k : List ℕ) (lo : List ℕ) (hi : Option (List ℕ)) (ys : List (List ℕ × V)) → Rises lo hi ys → is_below k (first_key None ys) ≡ true → lookup ys k ≡ None
  lookup_behind k lo hi [] r b = refl
  lookup_behind k lo hi (y ∷ ys) r b = lookup_outside y.0 hi (y ∷ ys) k (reaches-refl y.0, r.1, r.2) (ap (λ c. c && is_below k hi) (not_reaches_from_before k y.0 b))

  -- nor one that ends before it
  pub lookup_ahead : (k : List ℕ) (xs : List (List ℕ × V)) → Rises [] (Some k) xs → lookup xs k ≡ None
  lookup_ahead k xs r = lookup_outside [] (Some k) xs k r (ap (λ c. c && before k k) (from_start k) ∙ not_before_from_reaches k k (reaches-refl k))

  -- the end of entries, or the beginning of others
  ends_before : (k : List ℕ) (hi : Option (List ℕ)) (ys : List (List ℕ × V)) → is_below k hi ≡ true → is_below k (first_key None ys) ≡ true → is_below k (first_key hi ys) ≡ true
  ends_before k hi [] l b = l
  ends_before k hi (y ∷ ys) l b = b

  -- what the first entry shows of all
  begins_behind : (k : List ℕ) (e : List ℕ × V) (es : List (List ℕ × V)) → e ≡ get_or es 0 e → reaches e.0 k ≡ false → is_below k (first_key None es) ≡ true
  begins_behind k e [] at f = refl
  begins_behind k e (x ∷ es) at f = before_from_not_reaches x.0 k (subst (λ (y : List ℕ × V). reaches y.0 k ≡ false) at f)

  -- the first entry, as it is shown and as it is taken away
  pub same_first : (x e : List ℕ × V) (xs ys : List (List ℕ × V)) → x ≡ get_or xs 0 x → xs ≡ e ∷ ys → x ≡ e
  same_first x e xs ys at is = at ∙ ap (λ zs. get_or zs 0 x) is

  -- what the last entry shows of all
  rises_by_last : (lo k : List ℕ) (e : List ℕ × V) (es : List (List ℕ × V)) (i : ℕ) → length es ≡ suc i → Rises lo None es → slice_get es i ≡ Some e → before e.0 k ≡ true → Rises lo (Some k) es
  rises_by_last lo k e [] i n r at b = tt
  rises_by_last lo k e (x ∷ []) zero n r at b = (r.0, subst (λ q. before q k ≡ true) (sym (same_key x e at)) b, tt)
  rises_by_last lo k e (x ∷ []) (suc i) n r at b = absurd (omega (arith, n))
  rises_by_last lo k e (x ∷ (y ∷ es)) zero n r at b = absurd (omega (arith, n))
  rises_by_last lo k e (x ∷ (y ∷ es)) (suc i) n r at b = (r.0, r.1, rises_by_last x.0 k e (y ∷ es) i (omega (arith, n)) r.2 at b)

  rises_to : (k : List ℕ) (e : List ℕ × V) (es : List (List ℕ × V)) → Rises [] None es → slice_get es (length es - 1) ≡ Some e → before e.0 k ≡ true → Rises [] (Some k) es
  rises_to k e [] r at b = tt
  rises_to k e (x ∷ es) r at b = rises_by_last [] k e (x ∷ es) (length (x ∷ es) - 1) (omega arith) r at b

  -- the last of entries
  last_after : (xs : List (List ℕ × V)) (e : List ℕ × V) → slice_get (xs ++ e ∷ []) (length xs) ≡ Some e
  last_after [] e = refl
  last_after (x ∷ xs) e = last_after xs e

  last_is : (es xs : List (List ℕ × V)) (e : List ℕ × V) → es ≡ xs ++ e ∷ [] → slice_get es (length es - 1) ≡ Some e
  last_is es xs e h =
      let n : length es - 1 ≡ length xs = omega (arith, ap length h, length-append xs (e ∷ [])) in
      ap (slice_get es) n ∙ ap (λ zs. slice_get zs (length xs)) h ∙ last_after xs e

  -- lists of as many entries
  pub as_many : (xs ys zs ts : List (List ℕ × V)) → xs ++ ys ≡ zs ++ ts → length xs + length ys ≡ length zs + length ts
  as_many xs ys zs ts h = sym (length-append xs ys) ∙ ap length h ∙ length-append zs ts

  -- ---- how far a pass has come

  -- the next entry stays
  pub come_stopped : (k : List ℕ) (e : List ℕ × V) (done left : List (List ℕ × V)) (o : Ordering) → o ≡ by_bytes e.0 k → is_gt o ≡ true → e ≡ get_or left 0 e → Rises [] (Some k) done → HasCome k done left o
  come_stopped k e done left Less c t at r = (cc)
  come_stopped k e done left Equal c t at r = (cc)
  come_stopped k e done left Greater c t at r = (r, begins_behind k e left at (sym (ap is_le c)))

  -- or is done
  pub come_moved : (k : List ℕ) (e : List ℕ × V) (old done left : List (List ℕ × V)) (o : Ordering) → o ≡ by_bytes e.0 k → is_gt o ≡ false → done ≡ old ++ e ∷ [] → Rises [] None (done ++ left) → HasCome k done left o
  come_moved k e old done left Less c f h r = rises_to k e done (rises_front done left r) (last_is done old e h) (sym (ap is_lt c))
  come_moved k e old done left Equal c f h r = record { front = old; value = e.1; is = h ∙ ap (λ q. old ++ (q, e.1) ∷ []) (equal e.0 k (sym c)) }
  come_moved k e old done left Greater c f h r = (cc)

  -- it goes on
  pub come_on : (k : List ℕ) (done left : List (List ℕ × V)) (o : Ordering) → HasCome k done left o → is_lt o ≡ true → Rises [] (Some k) done
  come_on k done left Less h t = h
  come_on k done left Equal h t = (cc)
  come_on k done left Greater h t = (cc)

  -- or ends at the key
  pub come_there : (k : List ℕ) (done left : List (List ℕ × V)) (o : Ordering) → HasCome k done left o → is_eq o ≡ true → EndsAt k done
  come_there k done left Less h t = (cc)
  come_there k done left Equal h t = h
  come_there k done left Greater h t = (cc)

  -- or behind it
  pub come_past : (k : List ℕ) (done left : List (List ℕ × V)) (o : Ordering) → HasCome k done left o → is_lt o ≡ false → is_eq o ≡ false → Rises [] (Some k) done × (is_below k (first_key None left) ≡ true)
  come_past k done left Less h l t = (cc)
  come_past k done left Equal h l t = (cc)
  come_past k done left Greater h l t = h

  -- where the last entry has a key, the others end before the keys behind it
  pub rises_past : (k n : List ℕ) (es : List (List ℕ × V)) → EndsAt k es → Rises [] None es → before k n ≡ true → Rises [] (Some n) es
  rises_past k n es e r b = rises_to n (k, e.value) es r (last_is es e.front (k, e.value) e.is) b

  -- and what stands behind it begins behind the key
  pub behind_last : (k : List ℕ) (es ys : List (List ℕ × V)) → EndsAt k es → Rises [] None (es ++ ys) → is_below k (first_key None ys) ≡ true
  behind_last k es ys e r =
      let is : es ++ ys ≡ e.front ++ (k, e.value) ∷ ys = ap (λ zs. zs ++ ys) e.is ∙ append_assoc e.front ((k, e.value) ∷ []) ys in
      (rises_behind [] None e.front ((k, e.value) ∷ ys) (subst (λ zs. Rises [] None zs) is r)).1

-- messages of one key, applied to entries before those that stand behind the key
module _ {U V : Type 0} (means : U → Option V → Option V) (ms : List (Msg U V)) (k : List ℕ) (a : AreAt k ms) (xs zs ys : List (List ℕ × V)) (behind : is_below k (first_key None ys) ≡ true) (p : Applied means ms xs zs) (r : Rises [] None (xs ++ ys)) where
  value_before : (q : List ℕ) → lookup (zs ++ ys) q ≡ effects means ms q (lookup (xs ++ ys) q)
  value_before q = lookup-append zs ys q ∙ elim (same k q) as (λ b. same k q ≡ b → option_or (lookup zs q) (lookup ys q) ≡ effects means ms q (lookup (xs ++ ys) q)) [
    | true ↦ λ s.
        let none : lookup ys q ≡ None = subst (λ z. lookup ys z ≡ None) (same_true k q s) (lookup_behind k [] None ys (rises_behind [] None xs ys r) behind) in
        ap (option_or (lookup zs q)) none ∙ or_none (lookup zs q) ∙ p.value q ∙ ap (effects means ms q) (sym (lookup-append xs ys q ∙ ap (option_or (lookup xs q)) none ∙ or_none (lookup xs q)))
    | false ↦ λ d. ap (λ o. option_or o (lookup ys q)) (p.value q ∙ untouched means ms q (lookup xs q) (a q d)) ∙ sym (lookup-append xs ys q) ∙ sym (untouched means ms q (lookup (xs ++ ys) q) (a q d))
  ] refl

  -- messages inside a range are inside the part of it before those entries
  inside : (lo : List ℕ) (hi : Option (List ℕ)) → TouchOnly lo hi ms → TouchOnly lo (first_key hi ys) ms
  inside lo hi o q out = elim (same k q) as (λ b. same k q ≡ b → any_touches ms q ≡ false) [
    | false ↦ λ d. a q d
    | true ↦ λ s. elim (within lo hi q) as (λ c. within lo hi q ≡ c → any_touches ms q ≡ false) [
      | false ↦ λ f. o q f
      | true ↦ λ t. absurd (
          let w = both (reaches lo q) (is_below q hi) t in
          let b : is_below q (first_key hi ys) ≡ true = ends_before q hi ys w.1 (subst (λ z. is_below z (first_key None ys) ≡ true) (same_true k q s) behind) in
          let here : within lo (first_key hi ys) q ≡ true = ap (λ c. c && is_below q (first_key hi ys)) w.0 ∙ b in
          (cc))
    ] refl
  ] refl

  pub applied_before : Applied means ms (xs ++ ys) (zs ++ ys)
  applied_before = record {
    value = value_before;
    rises = λ lo hi s o. rises_joined lo hi zs ys (p.rises lo (first_key hi ys) (rises_ahead lo hi xs ys s) (inside lo hi o)) (rises_behind lo hi xs ys s);
    longer = omega (arith, p.longer, length-append zs ys, length-append xs ys);
  }

  -- they leave entries that end before the keys behind theirs
  ahead_applied : (n : List ℕ) → before k n ≡ true → Rises [] (Some n) xs → Rises [] (Some n) zs
  ahead_applied n b s = p.rises [] (Some n) s (λ q out. a q (elim (same k q) as (λ c. same k q ≡ c → c ≡ false) [
    | false ↦ λ d. refl
    | true ↦ λ e. absurd (
        let below : before q n ≡ true = subst (λ z. before z n ≡ true) (same_true k q e) b in
        let here : within [] (Some n) q ≡ true = ap (λ c. c && before q n) (from_start q) ∙ below in
        (cc))
  ] refl))

  -- and so up to the next key
  pub ahead_next : (o : Option (List ℕ)) → is_below k o ≡ true → ((n : List ℕ) → before k n ≡ true → Rises [] (Some n) xs) → Rises [] None xs → Rises [] o zs
  ahead_next None b f s = rising_applied means ms xs zs p s
  ahead_next (Some n) b f s = ahead_applied n b (f n b)

-- ---- messages in parts

module _ {U V : Type 0} (means : U → Option V → Option V) (most : ℕ) (ms : List (Msg U V)) where
  -- messages behind others
  pub filled_then : (a b : ℕ) (old mid new : List (List ℕ × V)) → IsFilled means most ms a old mid → IsFilled means most (drop a ms) b mid new → IsFilled means most ms (a + b) old new
  filled_then a b old mid new p q = record {
    within = omega (arith, p.within, q.within, length-drop a ms);
    applied = subst (λ (xs : List (Msg U V)). Applied means xs old new) (sym (take-add a b ms)) (applied_then means (take a ms) (take b (drop a ms)) old mid new p.applied q.applied);
    few = λ l. q.few (p.few l);
    none = λ z. q.none (omega arith) ∙ p.none (omega arith);
  }

  -- messages among the first
  pub filled_first : (k n : ℕ) (old new : List (List ℕ × V)) → IsFilled means most (take k ms) n old new → IsFilled means most ms n old new
  filled_first k n old new p =
      let few : n ≤ min k (length ms) = omega (arith, p.within, length-take k ms) in
      record {
        within = omega (arith, few);
        applied = subst (λ (xs : List (Msg U V)). Applied means xs old new) (take-take n k ms (omega (arith, few))) p.applied;
        few = p.few;
        none = p.none;
      }

  -- messages of a walk
  pub filled_walk : (es : List (List ℕ × List (KeyOp U V))) (n : ℕ) (old new : List (List ℕ × V)) → IsWalk es ms → IsFilled means most (point_msgs es) n old new → IsFilled means most ms n old new
  filled_walk es n old new w p = record {
    within = omega (arith, p.within, ap length w.is, length-append (point_msgs es) w.later);
    applied = subst (λ (xs : List (Msg U V)). Applied means xs old new) (sym (ap (take n) w.is ∙ take-append-le n (point_msgs es) w.later p.within)) p.applied;
    few = p.few;
    none = p.none;
  }

  -- no message
  pub filled_none : (es : List (List ℕ × V)) → IsFilled means most ms 0 es es
  filled_none es = record { within = omega arith; applied = applied_nothing means es; few = λ h. h; none = λ z. refl }

  -- one message more
  pub filled_more : (i : ℕ) (m : Msg U V) (old mid new : List (List ℕ × V)) → i < length ms → m ≡ get_or ms i m → IsFilled means most ms i old mid → Applied means (m ∷ []) mid new → (length mid ≤ most → length new ≤ most) → IsFilled means most ms (i + 1) old new
  filled_more i m old mid new h at p a f = record {
    within = omega arith;
    applied = applied_more means ms i m old mid new h at p.applied a;
    few = λ l. f (p.few l);
    none = λ z. absurd (omega arith);
  }

  -- under another limit
  pub filled_within : (room n : ℕ) (old new : List (List ℕ × V)) → IsFilled means room ms n old new → (length old ≤ most → length new ≤ most) → IsFilled means most ms n old new
  filled_within room n old new p f = record { within = p.within; applied = p.applied; few = f; none = p.none }

-- the messages of a key at the front, and the entries behind it
pub filled_before : {U V : Type 0} (means : U → Option V → Option V) (room most n : ℕ) (ms : List (Msg U V)) (k : List ℕ) (xs zs ys : List (List ℕ × V)) → most + length ys ≡ room → AreAt k (take n ms) → is_below k (first_key None ys) ≡ true → Rises [] None (xs ++ ys) → IsFilled means most ms n xs zs → IsFilled means room ms n (xs ++ ys) (zs ++ ys)
filled_before means room most n ms k xs zs ys e a b r p = record {
  within = p.within;
  applied = applied_before means (take n ms) k a xs zs ys b p.applied r;
  few = λ l. let m : length zs ≤ most = p.few (omega (arith, l, e, length-append xs ys)) in omega (arith, m, e, length-append zs ys);
  none = λ z. ap (λ es. es ++ ys) (p.none z);
}
