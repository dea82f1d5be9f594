-- A walk through the keys with messages for them alone.
use Rattle.std.proofs.Common.{◌≡◌, ℕ, zero, suc, ◌<◌, List, [], ◌∷◌, drop, length, refl, sym, ap, ◌∙◌, subst, Option, Some, None, true, false, Bool, cond, not, arith}
use Rattle.std.specs.declared.cmp.Ordering.TheVariants.{Less, Equal, Greater}
use Rattle.std.specs.Ordering.{is_lt, is_le, is_eq, match_ordering}
use Rattle.std.specs.List.{AllByRecursion, slice_get}
use Rattle.std.specs.Map.{keys_of}
use Rattle.std.specs.Option.{option_map, is_some}
use Rattle.std.specs.Prelude.{IfSome, IfNone}
use Rattle.std.specs.BTreeMap.{is_at}
use Rattle.std.proofs.lemmas.Map.Entries.{lookup_head, lookup_tail}
use Rattle.std.proofs.lemmas.Map.Keys.{sorted_head, sorted_tail}
use Rattle.std.proofs.lemmas.Bool.{and_from}
use Rattle.pathkey.specs.Keys.{is_below, next_key}
use Rattle.pathkey.specs.Order.{by_bytes, same}
use Rattle.pathkey.proofs.OrderFacts.{same_itself}
use Rattle.pathkey.proofs.KeyOrder.{greater_from, lt_le, reaches-from_before}
use Rattle.message.specs.declared.msg.Msg.{Msg}
use Rattle.message.specs.Effects.{effects}
use Rattle.message.specs.PointKeys.{point_stop, is_cleared, IsPointStop, IsNextPoint}
use Rattle.message.specs.Ranges.{within}
use Rattle.message.proofs.KeyOrder.{split_bool}
use Rattle.message.proofs.NextKey.{reaches-next, before-next}
use Rattle.message.proofs.Parting.{second_false}
use Rattle.message.proofs.PointKeys.{next_some, next_none}
use Rattle.cow_map.specs.Places.{Rises, at_key, place, reaches}
use Rattle.cow_map.proofs.Parts.{weaker}
use Rattle.point_ops.specs.Changes.{KeyOp, run_effect}
use Rattle.point_ops.specs.PointOps.{first_from, first_where}
use Rattle.point_ops.proofs.Nearby.{from_place}
use Rattle.pending.specs.Ahead.{AreFrom, WaitAt, StandsAt, IsMet, IsPassed, BeginPast, entries_left}
use Rattle.pending.proofs.Meaning.{found_at}
use Rattle.pending.proofs.Runs.{some_at}
use Rattle.pending.proofs.Stretching.{sorted_clears, sorted_stop}

module _ {X : Type 0} where
  -- what holds of all keys holds of that of a later entry
  of_later : (P : List ℕ → Type 0) (n : ℕ) (es rest : List (List ℕ × X)) (e : List ℕ × X) → AllByRecursion P (keys_of es) → drop n es ≡ e ∷ rest → P e.0
  of_later P zero [] rest e a h = absurd (cc)
  of_later P zero (x ∷ es) rest e a h = (let is : x ≡ e = cc in subst (λ t. P t.0) is a.0)
  of_later P (suc n) [] rest e a h = absurd (cc)
  of_later P (suc n) (x ∷ es) rest e a h = of_later P n es rest e a.1 h

  -- no entry stands before the key
  at_front : (k : List ℕ) (es : List (List ℕ × X)) → AllByRecursion (λ y. reaches k y ≡ true) (keys_of es) → place k es ≡ 0
  at_front k [] a = refl
  at_front k (e ∷ es) a = elim (by_bytes k e.0) as (λ o. is_le o ≡ true → match_ordering o 0 0 (suc (place k es)) ≡ 0) [
    | Less ↦ λ h. refl
    | Equal ↦ λ h. refl
    | Greater ↦ λ h. absurd (cc)
  ] a.0

  -- behind the first entry
  past_first : (e : List ℕ × X) (es : List (List ℕ × X)) → Rises (e ∷ es) → place (next_key e.0) (e ∷ es) ≡ 1
  past_first e es r =
      let behind : by_bytes (next_key e.0) e.0 ≡ Greater = greater_from (next_key e.0) e.0 (before-next e.0) in
      let later : AllByRecursion (λ y. by_bytes e.0 y ≡ Less) (keys_of es) = sorted_head by_bytes e.0 (keys_of es) r in
      ap (λ o. match_ordering o 0 0 (suc (place (next_key e.0) es))) behind
      ∙ ap suc (at_front (next_key e.0) es (weaker (λ y. by_bytes e.0 y ≡ Less) (λ y. reaches (next_key e.0) y ≡ true) (keys_of es) (λ y l. reaches-next e.0 y ∙ ap is_lt l) later))

  -- behind an entry that was the first of those from a key on
  pub rest_from : (from : List ℕ) (es rest : List (List ℕ × X)) (e : List ℕ × X) → Rises es → drop (place from es) es ≡ e ∷ rest → rest ≡ drop (place (next_key e.0) es) es
  rest_from from [] rest e r h = absurd (cc)
  rest_from from (x ∷ es) rest e r h =
      let tail : Rises es = sorted_tail by_bytes x.0 (keys_of es) r in
      let later : AllByRecursion (λ y. by_bytes x.0 y ≡ Less) (keys_of es) = sorted_head by_bytes x.0 (keys_of es) r in
      let here : x ∷ es ≡ e ∷ rest → rest ≡ drop (place (next_key e.0) (x ∷ es)) (x ∷ es) = λ p. (let first : x ≡ e = cc in let last : es ≡ rest = cc in
      sym last ∙ sym (ap (λ n. drop n (x ∷ es)) (ap (λ t. place (next_key t.0) (x ∷ es)) (sym first) ∙ past_first x es r))) in
      elim (by_bytes from x.0) as (λ o. drop (match_ordering o 0 0 (suc (place from es))) (x ∷ es) ≡ e ∷ rest → rest ≡ drop (place (next_key e.0) (x ∷ es)) (x ∷ es)) [
        | Less ↦ here
        | Equal ↦ here
        | Greater ↦ λ p. (let less : by_bytes x.0 e.0 ≡ Less = of_later (λ y. by_bytes x.0 y ≡ Less) (place from es) es rest e later p in
            let behind : by_bytes (next_key e.0) x.0 ≡ Greater = greater_from (next_key e.0) x.0 (lt_le x.0 e.0 (next_key e.0) (ap is_lt less) (reaches-from_before e.0 (next_key e.0) (before-next e.0))) in
            rest_from from es rest e tail p ∙ sym (ap (λ o. drop (match_ordering o 0 0 (suc (place (next_key e.0) es))) (x ∷ es)) behind))
      ] h

  -- an entry stands at its key
  pub at_later : (n : ℕ) (es rest : List (List ℕ × X)) (e : List ℕ × X) → Rises es → drop n es ≡ e ∷ rest → Some e.1 ≡ at_key e.0 es
  at_later zero [] rest e r h = absurd (cc)
  at_later zero (x ∷ es) rest e r h = (let is : x ≡ e = cc in subst (λ t. Some t.1 ≡ at_key t.0 (x ∷ es)) is (sym (lookup_head (is_at (by_bytes x.0)) x es (same_itself x.0))))
  at_later (suc n) [] rest e r h = absurd (cc)
  at_later (suc n) (x ∷ es) rest e r h =
      let less : by_bytes x.0 e.0 ≡ Less = of_later (λ y. by_bytes x.0 y ≡ Less) n es rest e (sorted_head by_bytes x.0 (keys_of es) r) h in
      let apart : same e.0 x.0 ≡ false = ap (λ o. is_eq o) (greater_from e.0 x.0 (ap is_lt less)) in
      at_later n es rest e (sorted_tail by_bytes x.0 (keys_of es) r) h ∙ sym (lookup_tail (is_at (by_bytes e.0)) x es apart)

abbrev Entries : Type 0 → Type 0 → Type 0
Entries U V = List (List ℕ × List (KeyOp U V))

-- what was met, if anything was
abbrev Met : Type 0 → Type 0 → Type 0
Met U V = List ℕ × Option (List (KeyOp U V))

module _ {U V : Type 0} where
  -- where the walk stands, the first entry that is left has the next key
  first_left : (ms : List (Msg U V)) (from : List ℕ) (rest : Entries U V) (a : AreFrom ms from rest) → option_map (λ (e : List ℕ × List (KeyOp U V)). e.0) (slice_get rest 0) ≡ first_from from a.entries
  first_left ms from rest a = ap (λ es. option_map (λ (e : List ℕ × List (KeyOp U V)). e.0) (slice_get es 0)) a.from_here ∙ from_place from a.entries

  stop_is : (ms : List (Msg U V)) (from : List ℕ) (end : Option (List ℕ)) (rest : Entries U V) (next : Option (List ℕ)) → AreFrom ms from rest → next ≡ option_map (λ (e : List ℕ × List (KeyOp U V)). e.0) (slice_get rest 0) → IsPointStop ms from end (point_stop next from end)
  stop_is ms from end rest next a n = subst (λ t. IsPointStop t from end (point_stop next from end)) a.is (sorted_stop a.spans a.entries from end (point_stop next from end) a.rises a.runs (ap (λ o. point_stop o from end) (n ∙ first_left ms from rest a)))

  -- the first key that is left stands at `from` or behind it
  reached_where : (p : List ℕ → Bool) (q : List ℕ) (es : Entries U V) → Some q ≡ first_where p es → p q ≡ true
  reached_where p q [] h = absurd (cc)
  reached_where p q (e ∷ es) h = split_bool (p e.0)
      (λ t. let is : Some q ≡ Some e.0 = h ∙ ap (λ c. cond c (Some e.0) (first_where p es)) t in let same_key : q ≡ e.0 = cc in ap p same_key ∙ t)
      (λ f. reached_where p q es (h ∙ ap (λ c. cond c (Some e.0) (first_where p es)) f))

  reached_by : (ms : List (Msg U V)) (from : List ℕ) (rest : Entries U V) (q : List ℕ) → AreFrom ms from rest → Some q ≡ option_map (λ (e : List ℕ × List (KeyOp U V)). e.0) (slice_get rest 0) → reaches from q ≡ true
  reached_by ms from rest q a h = reached_where (reaches from) q a.entries (h ∙ first_left ms from rest a)

  pub passed_waits : (ms : List (Msg U V)) (from : List ℕ) (end : Option (List ℕ)) (old new : Entries U V) (met : Met U V) → AreFrom ms from old → (p : IsPassed end old new met) → WaitAt ms met.0 p.run
  passed_waits ms from end old new met a p = record {
    spans = a.spans;
    entries = a.entries;
    is = a.is;
    rises = a.rises;
    runs = a.runs;
    here = at_later (place from a.entries) a.entries new (met.0, p.run) a.rises (sym a.from_here ∙ p.parts);
  }

  pub passed_stands : (ms : List (Msg U V)) (from : List ℕ) (end : Option (List ℕ)) (old new : Entries U V) (met : Met U V) → AreFrom ms from old → IsPassed end old new met → AreFrom ms (next_key met.0) new
  passed_stands ms from end old new met a p = record {
    spans = a.spans;
    entries = a.entries;
    is = a.is;
    rises = a.rises;
    runs = a.runs;
    from_here = rest_from from a.entries new (met.0, p.run) a.rises (sym a.from_here ∙ p.parts);
  }

  -- changes that wait at a key act as the list does
  pub run_acts : (means : U → Option V → Option V) (ms : List (Msg U V)) (k : List ℕ) (run : List (KeyOp U V)) (b : Bool) (o : Option V) → WaitAt ms k run → b ≡ is_cleared ms k → run_effect means run (cond b None o) ≡ effects means ms k o
  run_acts means ms k run b o w c = found_at means w.spans w.entries ms k b (Some run) w.rises w.is (c ∙ ap (λ t. is_cleared t k) (sym w.is) ∙ sorted_clears w.spans w.entries k) w.here o

  pub waits_some : (ms : List (Msg U V)) (k : List ℕ) (run : List (KeyOp U V)) → WaitAt ms k run → 0 < length run
  waits_some ms k run w = subst (λ t. IfSome t (λ cs. 0 < length cs)) (sym w.here) (some_at w.entries k w.runs)

  -- the next key that the walk meets, or none
  pub met_next : (ms : List (Msg U V)) (from : List ℕ) (end : Option (List ℕ)) (old new : Entries U V) (met : Met U V) → AreFrom ms from old → IsPassed end old new met → IsNextPoint ms from end (Some met.0)
  met_next ms from end old new met a p =
      let first : Some met.0 ≡ option_map (λ (e : List ℕ × List (KeyOp U V)). e.0) (slice_get old 0) = sym (ap (λ es. option_map (λ (e : List ℕ × List (KeyOp U V)). e.0) (slice_get es 0)) p.parts) in
      let here : within from end met.0 ≡ true = and_from (reaches from met.0) (is_below met.0 end) (reached_by ms from old met.0 a first) p.before in
      next_some ms from end (point_stop (Some met.0) from end) met.0 (stop_is ms from end old (Some met.0) a first) (ap (λ b. cond b (Some met.0) end) here) p.before

  pub met_none : (ms : List (Msg U V)) (from : List ℕ) (end : Option (List ℕ)) (old : Entries U V) → AreFrom ms from old → BeginPast end old → IsNextPoint ms from end None
  met_none ms from end [] a b = next_none ms from end end (stop_is ms from end [] None a refl) (λ k h. h)
  met_none ms from end (e ∷ es) a b =
      let out : point_stop (Some e.0) from end ≡ end = ap (λ c. cond c (Some e.0) end) (second_false (reaches from e.0) (is_below e.0 end) b) in
      next_none ms from end (point_stop (Some e.0) from end) (stop_is ms from end (e ∷ es) (Some e.0) a refl) (λ k h. ap (is_below k) out ∙ h)

  pub met_some : (ms : List (Msg U V)) (from : List ℕ) (end : Option (List ℕ)) (old new : Entries U V) (r : Option (Met U V)) → AreFrom ms from old → IfSome r (λ m. IsPassed end old new m) → IfNone r ((new ≡ old) × BeginPast end old) → IsNextPoint ms from end (option_map (λ (m : Met U V). m.0) r)
  met_some ms from end old new None a s n = met_none ms from end old a n.1
  met_some ms from end old new (Some m) a s n = met_next ms from end old new m a s

  pub met_stands : (ms : List (Msg U V)) (from : List ℕ) (end : Option (List ℕ)) (old new : Entries U V) (r : Option (Met U V)) → AreFrom ms from old → IfSome r (λ m. IsPassed end old new m) → IfSome r (λ m. AreFrom ms (next_key m.0) new)
  met_stands ms from end old new None a s = tt
  met_stands ms from end old new (Some m) a s = passed_stands ms from end old new m a s

  pub met_waits : (ms : List (Msg U V)) (from : List ℕ) (end : Option (List ℕ)) (old new : Entries U V) (r : Option (Met U V)) → AreFrom ms from old → IfSome r (λ m. IsPassed end old new m) → IfSome r (λ m. IsMet ms m)
  met_waits ms from end old new None a s = tt
  met_waits ms from end old new (Some m) a s = subst (λ t. IfSome t (λ run. WaitAt ms m.0 run)) (sym s.is) (passed_waits ms from end old new m a s)

  -- fewer entries are left
  pub met_fewer : (end : Option (List ℕ)) (old new : Entries U V) (r : Option (Met U V)) → IfSome r (λ m. IsPassed end old new m) → IfSome r (λ m. length new < length old)
  met_fewer end old new None s = tt
  met_fewer end old new (Some m) s = omega (arith, ap length s.parts)

  -- a walk that goes along no entries stands at each key
  pub stands_anywhere : (from : List ℕ) (walk : List (Msg U V) × Option (Entries U V)) → is_some walk.1 ≡ false → StandsAt from walk
  stands_anywhere from (ms, None) h = tt
  stands_anywhere from (ms, Some rest) h = absurd (cc)

  -- and has none before it
  pub none_ahead : (rest : Option (Entries U V)) → is_some rest ≡ false → entries_left rest ≡ 0
  none_ahead None h = refl
  none_ahead (Some rest) h = absurd (cc)

-- where no value was, none is left
pub nothing_left : {V : Type 0} (b c : Bool) (o : Option V) → is_some o ≡ not c → c ≡ true → None ≡ cond b None o
nothing_left true c o h t = refl
nothing_left false c None h t = refl
nothing_left false c (Some v) h t = absurd (let no : true ≡ false = h ∙ ap not t in cc)
