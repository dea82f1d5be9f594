-- A subtree in the place of a root slot's child.
use Rattle.std.proofs.Common.{◌≡◌, ℕ, zero, suc, ◌<◌, ◌≤◌, List, [], ◌∷◌, length, get_or, take, drop, refl, ap, sym, ◌∙◌, subst, arith, Option, None, pred}
use Rattle.std.proofs.Math.ListN.{set}
use Rattle.std.specs.Prelude.{OnOk, Result}
use Rattle.std.proofs.lemmas.Result.{on_ok_weaker}
use Rattle.pathkey.proofs.KeyOrder.{from_start}
use Rattle.message.specs.declared.msg.Msg.{Msg}
use Rattle.message.specs.Ranges.{reaches}
use Rattle.node.specs.declared.node.Slot.{Slot}
use Rattle.node.specs.declared.shape.Shape.{Shape}
use Rattle.node.specs.See.{seen_slots}
use Rattle.node.specs.Pure.{PNode, leaf, inner, PSlots, none, more, PTree}
use Rattle.node.specs.Lawful.{IsLawful, IsLawfulRoot, AreLawfulSlots, slot_count, next_lo}
use Rattle.node.specs.Grafts.{OfSlot, AtSlot, AtRootSlot, CanReplace, TookPlace, IsGrafted, Grafted, KeepsLists}
use Rattle.node.specs.Meaning.{value, slots_value}
use Rattle.node.specs.Site.{joined, Spliced}
use Rattle.node.specs.Sinks.{Sinks}
use Rattle.node.proofs.Roots.{tree_of}
use Rattle.node.proofs.Sinking.{touch_only-drop}
use Rattle.node.proofs.Wholes.{kept-none}
use Rattle.node.proofs.Splice.{slots-split, slots-set_split, slot_count-take, slot_count-joined, starts_at-joined, lawful-spliced, value-spliced, starts-first}

module _ {U V : Type 0} where
  -- what holds at a slot is of a slot
  pub at_bound : (R : OfSlot U V) (xs : List (Slot U V)) (i : ℕ) (hi : Option (List ℕ)) → AtSlot R i hi (seen_slots xs) → i < length xs
  at_bound R [] i hi h = absurd h
  at_bound R (x ∷ xs) zero hi h = omega arith
  at_bound R (x ∷ xs) (suc i) hi h = omega (arith, at_bound R xs i hi h)

  -- where the slot with a number ends
  abbrev pub end_after : Option (List ℕ) → List (Slot U V) → ℕ → Option (List ℕ)
  end_after hi xs i = next_lo hi (seen_slots (drop (suc i) xs))

  -- and of the one that the code reads
  pub at_read : (R : OfSlot U V) (xs : List (Slot U V)) (i : ℕ) (d : Slot U V) (hi : Option (List ℕ)) → AtSlot R i hi (seen_slots xs) → R (get_or xs i d).lo (end_after hi xs i) (get_or xs i d).pending.0 (get_or xs i d).child.value
  at_read R [] i d hi h = absurd h
  at_read R (x ∷ xs) zero d hi h = h
  at_read R (x ∷ xs) (suc i) d hi h = at_read R xs i d hi h

  -- and of the one between others
  pub at_joined : (R : OfSlot U V) (i : ℕ) (hi : Option (List ℕ)) (b : PSlots U V) (lo : List ℕ) (ms : List (Msg U V)) (c : PNode U V) (a : PSlots U V) → slot_count b ≡ i → AtSlot R i hi (joined b (more lo ms c a)) → R lo (next_lo hi a) ms c
  at_joined R zero hi none lo ms c a e h = h
  at_joined R zero hi (more l m n b) lo ms c a e h = absurd (omega arith)
  at_joined R (suc i) hi none lo ms c a e h = absurd (omega arith)
  at_joined R (suc i) hi (more l m n b) lo ms c a e h = at_joined R i hi b lo ms c a (omega arith) h

  -- a fact that follows from another, of a slot
  pub at_map : (R T : OfSlot U V) (i : ℕ) (hi : Option (List ℕ)) (ss : PSlots U V) → ((lo : List ℕ) (e : Option (List ℕ)) (ms : List (Msg U V)) (c : PNode U V) → R lo e ms c → T lo e ms c) → AtSlot R i hi ss → AtSlot T i hi ss
  at_map R T i hi none f h = absurd h
  at_map R T zero hi (more lo ms n ss) f h = f lo (next_lo hi ss) ms n h
  at_map R T (suc i) hi (more lo ms n ss) f h = at_map R T i hi ss f h

  -- and of a root's slot
  pub root_map : (R T : OfSlot U V) (i : ℕ) (a : PNode U V) → ((lo : List ℕ) (e : Option (List ℕ)) (ms : List (Msg U V)) (c : PNode U V) → R lo e ms c → T lo e ms c) → AtRootSlot R i a → AtRootSlot T i a
  root_map R T i (leaf es) f h = absurd h
  root_map R T i (inner ss) f h = at_map R T i None ss f h

  -- the slot as the code writes it
  pub slot_grafted : (xs : List (Slot U V)) (i count : ℕ) (d t : Slot U V) (sub : PNode U V) → i < length xs → count ≤ length (get_or xs i d).pending.0 → t.lo ≡ (get_or xs i d).lo → t.pending.0 ≡ drop count (get_or xs i d).pending.0 → t.child.value ≡ sub → IsGrafted i count sub (inner (seen_slots xs)) (inner (seen_slots (set xs i t)))
  slot_grafted xs i count d t sub h has el em ec =
      let s = get_or xs i d in
      let new : more t.lo t.pending.0 t.child.value none ≡ more s.lo (drop count s.pending.0) sub none = λ j. more (el j) (em j) (ec j) none in
      record {
        before = seen_slots (take i xs);
        old = more s.lo s.pending.0 s.child.value none;
        new = more t.lo t.pending.0 t.child.value none;
        after = seen_slots (drop (suc i) xs);
        was = slots-split xs i d h;
        is = slots-set_split xs i t h;
        number = slot_count-take xs i (omega arith);
        width = refl;
        changed = record { lo = s.lo; msgs = s.pending.0; child = s.child.value; has = has; was = refl; is = new };
      }

  module _ (means : U → Option V → Option V) (S : Shape) (h i count : ℕ) (sub : PNode U V) where
    -- what stays of a root
    abbrev Kept : PSlots U V → PSlots U V → Type 0
    Kept ss ts = IsLawfulRoot S (inner ts) h × ((k : List ℕ) → slots_value means ts k ≡ slots_value means ss k)

    -- the same, the slot written out
    kept_between : (b : PSlots U V) (lo : List ℕ) (ms : List (Msg U V)) (c : PNode U V) (a : PSlots U V) → CanReplace means S count sub lo (next_lo None a) ms c → IsLawfulRoot S (inner (joined b (more lo ms c a))) h → Kept (joined b (more lo ms c a)) (joined b (more lo (drop count ms) sub a))
    kept_between b lo ms c a applies l =
        let e = next_lo None a in
        let x = more lo ms c none in
        let y = more lo (drop count ms) sub none in
        let each : AreLawfulSlots S (joined b (joined y a)) h None = lawful-spliced S h None b x y a tt tt refl (λ z. (z.0, touch_only-drop count lo e ms z.1, applies.lawful (pred h) z.2, tt)) l.4 in
        let sinks : Sinks means count e x y = record { starts = refl; below = λ k w. applies.same k w; above = λ k v w. refl } in (
          (l.0, l.1, omega (arith, l.2, slot_count-joined b (joined x a), slot_count-joined b (joined y a)), starts_at-joined [] lo b ms (drop count ms) c sub a a l.3, each),
          λ k. value-spliced means S h count None x y a tt tt sinks b k l.4 each (ap (λ z. reaches z k) (starts-first [] (joined b (joined x a)) l.3) ∙ from_start k) refl,
        )

    -- the slots with the slot's list and child in their place
    kept_slots : (ss ts : PSlots U V) → AtSlot (CanReplace means S count sub) i None ss → Spliced (λ e old new. TookPlace count sub old new) i 1 None ss ts → IsLawfulRoot S (inner ss) h → Kept ss ts
    kept_slots ss ts applies g l =
        let t = g.changed in
        let was : ss ≡ joined g.before (more t.lo t.msgs t.child g.after) = g.was ∙ ap (λ z. joined g.before (joined z g.after)) t.was in
        let is : ts ≡ joined g.before (more t.lo (drop count t.msgs) sub g.after) = g.is ∙ ap (λ z. joined g.before (joined z g.after)) t.is in
        let here = at_joined (CanReplace means S count sub) i None g.before t.lo t.msgs t.child g.after g.number (subst (λ z. AtSlot (CanReplace means S count sub) i None z) was applies) in
        let k = kept_between g.before t.lo t.msgs t.child g.after here (subst (λ z. IsLawfulRoot S (inner z) h) was l) in
        subst (λ z. Kept z ts) (sym was) (subst (λ z. Kept (joined g.before (more t.lo t.msgs t.child g.after)) z) (sym is) k)

    -- the root
    kept_root : (a b : PNode U V) → AtRootSlot (CanReplace means S count sub) i a → IsGrafted i count sub a b → IsLawfulRoot S a h → IsLawfulRoot S b h × ((k : List ℕ) → value means b k ≡ value means a k)
    kept_root (leaf es) b applies g l = absurd l
    kept_root (inner ss) (leaf es) applies g l = absurd g
    kept_root (inner ss) (inner ts) applies g l = kept_slots ss ts applies g l

  -- the tree, in the words of its code: `now` is the root that is lent for the change, `new` what was left there
  pub lawful_grafted : (means : U → Option V → Option V) (S : Shape) (i count : ℕ) (sub : PNode U V) (was : PTree U V) (old now new seen : PNode U V) → IsLawful (tree_of S old) → tree_of S old ≡ was → AtRootSlot (CanReplace means was.shape count sub) i was.root → now ≡ old → IsGrafted i count sub now new → seen ≡ new → IsLawful (tree_of S seen) × Grafted means i count sub was (tree_of S seen)
  lawful_grafted means S i count sub was old now new seen l w applies e g s =
      let here : AtRootSlot (CanReplace means S count sub) i old = subst (λ (t : PTree U V). AtRootSlot (CanReplace means t.shape count sub) i t.root) (sym w) applies in
      let done : IsGrafted i count sub old seen = subst (λ z. IsGrafted i count sub old z) (sym s) (subst (λ z. IsGrafted i count sub z new) e g) in
      let k = kept_root means S l.levels i count sub old seen here done l.root in (
        record { shape = l.shape; levels = l.levels; root = k.0 },
        subst (λ (t : PTree U V). Grafted means i count sub t (tree_of S seen)) w (record { shape_kept = refl; value_kept = k.1; slots = done }),
      )

  -- the slot of the lent root
  pub has_grafted : (means : U → Option V → Option V) (S : Shape) (i count : ℕ) (sub : PNode U V) (was : PTree U V) (old now : PNode U V) → tree_of S old ≡ was → AtRootSlot (CanReplace means was.shape count sub) i was.root → now ≡ old → AtRootSlot (λ lo hi ms c. count ≤ length ms) i now
  has_grafted means S i count sub was old now w applies e =
      root_map (CanReplace means was.shape count sub) (λ lo hi ms c. count ≤ length ms) i now (λ lo e ms c q. q.has) (subst (λ z. AtRootSlot (CanReplace means was.shape count sub) i z) (ap (λ (t : PTree U V). t.root) (sym w) ∙ sym e) applies)

  -- nothing was appended, and lists stay
  pub keeps_nothing : (S : Shape) (h : ℕ) (ks : List ℕ) (ms : List (Msg U V)) (was : PTree U V) (old : PNode U V) → tree_of S old ≡ was → ms ≡ [] → KeepsLists ks ms was.root old
  keeps_nothing S h ks ms was old w e =
      subst (λ z. KeepsLists ks z was.root old) (sym e) (subst (λ (t : PTree U V). KeepsLists ks [] t.root old) w (same ks old))
    where
      same : (ks : List ℕ) (a : PNode U V) → KeepsLists ks [] a a
      same ks (leaf es) = tt
      same ks (inner ss) = kept-none ks ss

  -- lists that stay in the lent root stay in the tree
  pub kept_after : (S : Shape) {T X : Type 0} (r : Result T X) (ks : List ℕ) (ms : List (Msg U V)) (was : PTree U V) (old now new seen : PNode U V) → tree_of S old ≡ was → now ≡ old → OnOk r (KeepsLists ks ms now new) → seen ≡ new → OnOk r (KeepsLists ks ms was.root seen)
  kept_after S r ks ms was old now new seen w e k s =
      on_ok_weaker r (λ (q : KeepsLists ks ms now new).
      subst (λ (t : PTree U V). KeepsLists ks ms t.root seen) w (subst (λ n. KeepsLists ks ms n seen) e (subst (λ n. KeepsLists ks ms now n) (sym s) q))) k
