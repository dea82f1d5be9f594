-- The snapshots that a log knows.
use Rattle.std.proofs.Common.{◌≡◌, ℕ, ◌<◌, ◌+◌, Bool, true, false, cond, List, [], ◌∷◌, ◌++◌, map, length, get_or, suc, zero, arith, refl, sym, ap, ◌∙◌, subst}
use Rattle.std.specs.Prelude.{not}
use Rattle.std.specs.List.{AllByRecursion, Contains, filter}
use Rattle.std.proofs.lemmas.List.{drop_all, map-append}
use Rattle.message.specs.declared.msg.Msg.{Msg}
use Rattle.pathkey.specs.Order.{same}
use Rattle.change_log.specs.KeyLogs.{IsPast, end_of, since}
use Rattle.change_log.specs.Snapshots.{ArePast, Since, nothing_since, since_position, with_batch, without}
use Rattle.change_log.specs.Touched.{Touched, untouched, with_msgs}
use Rattle.change_log.specs.declared.change_log.SnapshotPosition.{SnapshotPosition}
use Rattle.change_log.proofs.Noting.{msgs_past, msgs_since}

-- what a log with these keys and ranges knows
abbrev pub known : Touched → Touched → List SnapshotPosition → List Since
known a b ps = map (λ p. since_position a b p) ps

-- ---- messages

module _ {U V W X : Type 0} (ms : List (Msg U V)) (ns : List (Msg W X)) where
  pub batch_past : (a b : Touched) (ps : List SnapshotPosition) → ArePast a b ps → ArePast (with_msgs ms a) (with_msgs ns b) ps
  batch_past a b [] h = tt
  batch_past a b (p ∷ ps) h = ((msgs_past p.meta ms a h.0.0, msgs_past p.block ns b h.0.1), batch_past a b ps h.1)

  pub batch_known : (a b : Touched) (ps : List SnapshotPosition) → ArePast a b ps → known (with_msgs ms a) (with_msgs ns b) ps ≡ map (λ s. with_batch ms ns s) (known a b ps)
  batch_known a b [] h = refl
  batch_known a b (p ∷ ps) h =
      let one : since_position (with_msgs ms a) (with_msgs ns b) p ≡ with_batch ms ns (since_position a b p) =
      (λ i. record { name = p.name; meta = msgs_since p.meta ms a h.0.0 i; block = msgs_since p.block ns b h.0.1 i })
      in
      (λ i. one i ∷ batch_known a b ps h.1 i)

-- ---- a new snapshot

end_past : (t : Touched) → IsPast t (end_of t)
end_past t = (omega arith, omega arith)

since_end : (t : Touched) → since (end_of t) t ≡ untouched
since_end t = (λ i. record { keys = drop_all (length t.keys) t.keys (omega arith) i; ranges = drop_all (length t.ranges) t.ranges (omega arith) i })

abbrev pub at_end : List ℕ → Touched → Touched → SnapshotPosition
at_end s a b = record { name = s; meta = end_of a; block = end_of b }

pub begun_past : (s : List ℕ) (a b : Touched) (ps : List SnapshotPosition) → ArePast a b ps → ArePast a b (ps ++ at_end s a b ∷ [])
begun_past s a b [] h = ((end_past a, end_past b), tt)
begun_past s a b (p ∷ ps) h = (h.0, begun_past s a b ps h.1)

pub begun_known : (s : List ℕ) (a b : Touched) (ps : List SnapshotPosition) → known a b (ps ++ at_end s a b ∷ []) ≡ known a b ps ++ nothing_since s ∷ []
begun_known s a b ps =
    map-append (λ p. since_position a b p) ps (at_end s a b ∷ [])
    ∙ (λ i. known a b ps ++ (record { name = s; meta = since_end a i; block = since_end b i }) ∷ [])

-- ---- a snapshot that is forgotten

-- whether a position is that of another snapshot
abbrev pub is_other : List ℕ → SnapshotPosition → Bool
is_other s p = not (same p.name s)

pub others_past : (s : List ℕ) (a b : Touched) (ps : List SnapshotPosition) → ArePast a b ps → ArePast a b (filter (is_other s) ps)
others_past s a b [] h = tt
others_past s a b (p ∷ ps) h =
    elim (is_other s p) as (λ c. ArePast a b (cond c (p ∷ filter (is_other s) ps) (filter (is_other s) ps))) [
      | true ↦ (h.0, others_past s a b ps h.1)
      | false ↦ others_past s a b ps h.1
    ]

pub others_known : (s : List ℕ) (a b : Touched) (ps : List SnapshotPosition) → known a b (filter (is_other s) ps) ≡ without s (known a b ps)
others_known s a b [] = refl
others_known s a b (p ∷ ps) =
    elim (is_other s p) as (λ c. known a b (cond c (p ∷ filter (is_other s) ps) (filter (is_other s) ps)) ≡ cond c (since_position a b p ∷ without s (known a b ps)) (without s (known a b ps))) [
      | true ↦ ap (λ (l : List Since). since_position a b p ∷ l) (others_known s a b ps)
      | false ↦ others_known s a b ps
    ]

-- ---- a look-up

pub contains_known : (a b : Touched) (ps : List SnapshotPosition) (i : ℕ) (p : SnapshotPosition) → i < length ps → p ≡ get_or ps i p → Contains (known a b ps) (since_position a b p)
contains_known a b [] i p lt is = absurd (omega (arith, lt))
contains_known a b (q ∷ ps) zero p lt is = (0, omega arith, ap (λ (x : SnapshotPosition). since_position a b x) (sym is))
contains_known a b (q ∷ ps) (suc i) p lt is =
    let rest = contains_known a b ps i p (omega (arith, lt)) is in
    (suc rest.0, omega (arith, rest.1), rest.2)
