-- A flush of one slot into a leaf, in the words of its row.
use Rattle.std.proofs.Common.{◌≡◌, ℕ, suc, ◌+◌, ◌-◌, ◌<◌, ◌≤◌, Bool, true, false, List, [], ◌∷◌, length, get_or, take, drop, refl, ap, sym, ◌∙◌, subst, arith, cond, pred, Option, Some, None, inl, inr, ⊎_elim, length-drop, length-append}
use Rattle.std.specs.Prelude.{◌&&◌, nat_le, IsTrue, ◌⊎◌, ⊤, Result, Ok, Err, is_err}
use Rattle.std.proofs.Math.ListN.{set}
use Rattle.std.proofs.lemmas.List.{length-take-le}
use Rattle.std.specs.List.{insert}
use Rattle.pathkey.specs.Order.{same}
use Rattle.pathkey.proofs.OrderFacts.{same_true}
use Rattle.message.specs.declared.msg.Msg.{Msg}
use Rattle.message.specs.declared.msg.Msg.TheVariants.{Put, Del, DelRange, Edit}
use Rattle.message.specs.Cuts.{pieces}
use Rattle.message.specs.Effects.{touches, made_of, effect, Takes, range_count}
use Rattle.std.proofs.lemmas.Bool.{leb-true}
use Rattle.message.proofs.KeyOrder.{both}
use Rattle.node.specs.declared.node.Slot.{Slot}
use Rattle.node.specs.declared.shape.Shape.{Shape}
use Rattle.node.specs.declared.step.StepReply.{StepReply}
use Rattle.node.specs.declared.step.StepReply.TheVariants.{Did, NotThere, NoRoom, NoMemory}
use Rattle.node.specs.declared.step.StepKind.TheVariants.{FlushLeaf}
use Rattle.node.specs.Shapes.{is_between, is_shape}
use Rattle.node.specs.See.{seen_slots}
use Rattle.node.specs.Pure.{PNode, leaf, inner, PSlots, none, more}
use Rattle.node.specs.Lawful.{Rises, IsLawfulNode, AreLawfulSlots, slot_count, pending, next_lo}
use Rattle.node.specs.Leaves.{Applied, IsDivided, IsGap, IsPlace}
use Rattle.node.specs.Searchable.{IsSearchable}
use Rattle.node.specs.Meaning.{lookup}
use Rattle.node.specs.StepRows.{can_flush_leaf, EditsAbsent, LeafHasNoRoom, CanPart, CannotPart, Overflows}
use Rattle.node.specs.Site.{joined, slots_from}
use Rattle.node.specs.Sinks.{Sinks}
use Rattle.node.specs.Steps.{Formed, HasNoRoom, LawfulSlots, MayHaveRoom, Replies}
use Rattle.node.proofs.Applying.{applied_put, rising_applied}
use Rattle.node.proofs.LeafChanges.{is_inserted}
use Rattle.std.proofs.lemmas.List.Edits.{length-insert}
use Rattle.pathkey.proofs.KeyOrder.{not_before_from_reaches, before_from_not_reaches}
use Rattle.flush.proofs.Growth.{grows_by_one}
use Rattle.node.proofs.StepDone.{replies_did, slots-cut}
use Rattle.node.proofs.Fewer.{no_more}
use Rattle.node.proofs.Parting.{Parted, parted_pieces, parted_lawful, parted_sinks}
use Rattle.node.proofs.Sinking.{touch_only-take, touch_only-drop}
use Rattle.node.proofs.StepPlaces.{slots_from-get}
use Rattle.flush.proofs.Flushable.{seen_from}
use Rattle.node.proofs.Splice.{slots_from-past, slots-split, slots-set_split, slot_count-take, slots_from-joined, slot_count-joined, pending-joined, lawful-split}
use Rattle.flush.specs.Sunk.{left}
use Rattle.flush.specs.Leaf.{AddsNone, Absorbed, HasPlace, Filled, AfterOldest, MayGo, KeptOldest, IsHalved}

-- a leaf of an allowed shape has room for four entries
pub some_leaf : (S : Shape) → IsTrue (is_shape S) → 4 ≤ S.leaf
some_leaf S h =
    let p = both (is_between 4 64 S.fanout && is_between S.fanout 1024 S.pending) (is_between 4 1024 S.leaf) h in
    leb-true 4 S.leaf (both (nat_le 4 S.leaf) (nat_le S.leaf 1024) p.1).0

module _ {U V : Type 0} (means : U → Option V → Option V) where
  -- ---- room for a message

  -- a message for a key with a value adds none
  pub adds_none-at : (m : Msg U V) (es : List (List ℕ × V)) (q : List ℕ) (v : V) → ((k : List ℕ) → touches m k ≡ same q k) → lookup es q ≡ Some v → AddsNone means es m
  adds_none-at m es q v t h k n = elim (touches m k) as (λ b. touches m k ≡ b → cond b (made_of means m None) None ≡ None) [
    | true ↦ λ e. absurd (let w : lookup es q ≡ None = subst (λ z. lookup es z ≡ None) (sym (same_true q k (sym (t k) ∙ e))) n in (cc))
    | false ↦ λ e. refl
  ] refl

  -- as a search found it
  pub adds_none-found : (m : Msg U V) (es : List (List ℕ × V)) (q : List ℕ) (r : Result ℕ ℕ) → ((k : List ℕ) → touches m k ≡ same q k) → IsPlace es q r → is_err r ≡ false → AddsNone means es m
  adds_none-found m [] q (Ok i) t p f = absurd (let b : i < 0 = p.bound in omega (arith, b))
  adds_none-found m (x ∷ es) q (Ok i) t p f = adds_none-at m (x ∷ es) q (get_or (x ∷ es) i x).1 t (p.value x)
  adds_none-found m es q (Err i) t p f = (cc)

  -- nor does one that takes values away
  pub adds_none-removed : (m : Msg U V) (es : List (List ℕ × V)) → made_of means m None ≡ None → AddsNone means es m
  adds_none-removed m es h k n = elim (touches m k) as (λ b. cond b (made_of means m None) None ≡ None) [ true ↦ h | false ↦ refl ]

  -- a leaf with room for a message stays within the limit
  pub stays_within : (most : ℕ) (m : Msg U V) (es new : List (List ℕ × V)) → Rises [] None es → Applied means (m ∷ []) es new → (length es < most) ⊎ AddsNone means es m → length es ≤ most → length new ≤ most
  stays_within most m es new r a (inl h) l = omega (arith, a.longer)
  stays_within most m es new r a (inr h) l = omega (arith, l, no_more [] [] None None new es (rising_applied means (m ∷ []) es new a r) r (λ k n. a.value k ∙ ap (λ o. effect means m k o) n ∙ h k n))

  -- nor do other entries with the same values
  within_after : (most : ℕ) (m : Msg U V) (es new : List (List ℕ × V)) → Rises [] None new → ((k : List ℕ) → lookup new k ≡ effect means m k (lookup es k)) → length new ≤ most → Overflows means most es (m ∷ []) → ⊥
  within_after most m es new r same l o = let less = no_more [] [] None None o.after new o.rises r (λ k n. o.same k ∙ sym (same k) ∙ n) in omega (arith, less, l, o.many)

  -- where a leaf has room for a message it does not grow past the limit
  pub room_within : (most : ℕ) (m : Msg U V) (es : List (List ℕ × V)) → Rises [] None es → (length es < most) ⊎ AddsNone means es m → length es ≤ most → Overflows means most es (m ∷ []) → ⊥
  room_within most m es r (inl h) l o = let less = grows_by_one means m es o.after r o.rises o.same in omega (arith, less, h, o.many)
  room_within most m es r (inr h) l o = let less = no_more [] [] None None o.after es o.rises r (λ k n. o.same k ∙ ap (λ z. effect means m k z) n ∙ h k n) in omega (arith, less, l, o.many)

  -- entries with messages that are too many
  too_many : (most : ℕ) (ms : List (Msg U V)) (es new : List (List ℕ × V)) → Applied means ms es new → Rises [] None new → most < length new → Overflows means most es ms
  too_many most ms es new q r l = record { after = new; rises = r; same = q.value; many = l }

  -- a message that is no put does so only where it edits an absent key
  pub no_put : (most : ℕ) (m : Msg U V) (es : List (List ℕ × V)) → Rises [] None es → ((q : List ℕ) (v : V) → m ≡ Put q v → ⊥) → length es ≤ most → Overflows means most es (m ∷ []) → EditsAbsent (more [] (m ∷ []) (leaf es) none)
  no_put most (Put q v) es r f l o = absurd (f q v refl)
  no_put most (Del q) es r f l o = absurd (room_within most (Del q) es r (inr (adds_none-removed (Del q) es refl)) l o)
  no_put most (DelRange d) es r f l o = absurd (room_within most (DelRange d) es r (inr (adds_none-removed (DelRange d) es refl)) l o)
  no_put most (Edit q u) es r f l o = (elim (lookup es q) as (λ z. lookup es q ≡ z → z ≡ None) [
    | None ↦ λ e. refl
    | Some v ↦ λ e. absurd (room_within most (Edit q u) es r (inr (adds_none-at (Edit q u) es q v (λ k. refl) e)) l o)
  ]) refl

  -- a put of a key that a full leaf has not does so
  pub puts_new : (most : ℕ) (q : List ℕ) (v : V) (es : List (List ℕ × V)) (i : ℕ) → Rises [] None es → IsGap es q i → most ≤ length es → Overflows means most es (Put q v ∷ [])
  puts_new most q v es i r g l =
      let new = insert es i (q, v) in
      let a = applied_put means (Put q v) q v v es new refl refl (is_inserted q es i v g) in
      let long = length-insert es i (q, v) g.count.bound in
      too_many most (Put q v ∷ []) es new a (rising_applied means (Put q v ∷ []) es new a r) (omega (arith, long, l))

  -- as a search found it
  pub overfull_found : (most : ℕ) (m : Msg U V) (q : List ℕ) (v : V) (es : List (List ℕ × V)) (r : Result ℕ ℕ) → m ≡ Put q v → Rises [] None es → IsPlace es q r → is_err r ≡ true → most ≤ length es → Overflows means most es (m ∷ [])
  overfull_found most m q v es (Ok i) p u g f l = (cc)
  overfull_found most m q v es (Err i) p u g f l = subst (λ z. Overflows means most es (z ∷ [])) (sym p) (puts_new most q v es i u g l)

  -- and where it did not
  pub place_found : (m : Msg U V) (q : List ℕ) (v : V) (es : List (List ℕ × V)) (r : Result ℕ ℕ) → m ≡ Put q v → IsPlace es q r → is_err r ≡ false → AddsNone means es m
  place_found m q v es r p g f = adds_none-found m es q r (λ k. ap (λ z. touches z k) p) g f

  -- the oldest message does not take the leaf past the limit
  abbrev pub StaysWithin : ℕ → List (Msg U V) → PNode U V → Type 0
  StaysWithin most [] c = ⊤
  StaysWithin most (m ∷ ms) (leaf es) = length es ≤ most → Overflows means most es (m ∷ []) → ⊥
  StaysWithin most (m ∷ ms) (inner cs) = ⊤

  -- as where there is room for it
  stays_placed : (most : ℕ) (ms : List (Msg U V)) (c : PNode U V) → IsSearchable c → HasPlace means most ms c → StaysWithin most ms c
  stays_placed most [] c r p = tt
  stays_placed most (m ∷ ms) (leaf es) r p = room_within most m es r p
  stays_placed most (m ∷ ms) (inner cs) r p = tt

  -- as the code finds it
  pub place_is : (most : ℕ) (ms ns : List (Msg U V)) (m : Msg U V) (es : List (List ℕ × V)) (c : PNode U V) → ms ≡ m ∷ ns → leaf es ≡ c → (length es < most) ⊎ AddsNone means es m → HasPlace means most ms c
  place_is most ms ns m es c ep ec h = subst (λ z. HasPlace means most ms z) ec (subst (λ z. HasPlace means most z (leaf es)) (sym ep) h)

  -- and where it was applied within the limit
  stays_applied : (most : ℕ) (ms : List (Msg U V)) (c : PNode U V) (new : List (List ℕ × V)) → AfterOldest means 1 ms c new → Rises [] None new → length new ≤ most → StaysWithin most ms c
  stays_applied most [] c new a r l = tt
  stays_applied most (m ∷ ms) (leaf es) new a r l = λ _ o. within_after most m es new r a.1.value l o
  stays_applied most (m ∷ ms) (inner cs) new a r l = tt

  -- as where others may go with it, or it went alone
  stays_consumed : (shape : Shape) (root : Bool) (ss : PSlots U V) (n : ℕ) (ms : List (Msg U V)) (c : PNode U V) (new : List (List ℕ × V)) → IsSearchable c → MayGo means shape root ss n ms c → AfterOldest means n ms c new → Rises [] None new → length new ≤ shape.leaf → StaysWithin shape.leaf ms c
  stays_consumed shape root ss n ms c new u may a r l = ⊎_elim (λ e. stays_applied shape.leaf ms c new (subst (λ z. AfterOldest means z ms c new) e a) r l) (λ p. stays_placed shape.leaf ms c u p.0) may.room

  -- a node, from which no more leave than wait there, has room for one slot more or not
  pub not_both : (shape : Shape) (root : Bool) (ss : PSlots U V) (consumed n : ℕ) → consumed ≤ pending ss → CanPart shape root ss consumed n → CannotPart shape root ss consumed n → ⊥
  not_both shape root ss consumed n some applies cannot = ⊎_elim (λ f. omega (arith, f, applies.0)) (λ p. omega (arith, p.1, applies.1 p.0)) cannot

  -- ---- the flush in place

  -- what became of the slot whose leaf took messages
  absorbed : (shape : Shape) (n : ℕ) (lo : List ℕ) (ms : List (Msg U V)) (es fs : List (List ℕ × V)) → 1 ≤ n → n ≤ length ms → Applied means (take n ms) es fs → (length es ≤ shape.leaf → length fs ≤ shape.leaf) → (h : ℕ) (e : Option (List ℕ)) → AreLawfulSlots shape (more lo ms (leaf es) none) h e → Sinks means n e (more lo ms (leaf es) none) (more lo (drop n ms) (leaf fs) none) × Formed means FlushLeaf shape n (more lo ms (leaf es) none) (more lo (drop n ms) (leaf fs) none) × AreLawfulSlots shape (more lo (drop n ms) (leaf fs) none) h e
  absorbed shape n lo ms es fs one has a fits h e l = (
    record { starts = refl; below = λ k w. a.value k; above = λ k v w. refl },
    record { lo = lo; msgs = ms; entries = es; some = one; has = has; was = refl; leaves = tt; uncut = λ z. (fs, refl); cut = λ z. absurd (omega arith); pieces_grow = omega arith },
    (l.0, touch_only-drop n lo e ms l.1, (l.2.0, fits l.2.1, a.rises lo e l.2.2 (touch_only-take n lo e ms l.1)), tt),
  )

  -- what can be done at a slot rests on its messages and its child
  same_there : (lo lp : List ℕ) (ms : List (Msg U V)) (c : PNode U V) (a x : PSlots U V) → can_flush_leaf (more lo ms c a) ≡ can_flush_leaf (more lp ms c x)
  same_there lo lp [] c a x = refl
  same_there lo lp (m ∷ ms) (leaf es) a x = refl
  same_there lo lp (m ∷ ms) (inner cs) a x = refl

  module _ (shape : Shape) (root : Bool) (i : ℕ) (b a : PSlots U V) (lo : List ℕ) (at_i : slot_count b ≡ i) where
    -- nothing can be done at the slot between b and a
    unable : (ms : List (Msg U V)) (c : PNode U V) → can_flush_leaf (more [] ms c none) ≡ false → (z : PSlots U V) → z ≡ joined b (more lo ms c a) → can_flush_leaf (slots_from i z) ≡ false
    unable ms c q z is = ap (λ y. can_flush_leaf (slots_from i y)) is ∙ ap can_flush_leaf (slots_from-joined i b (more lo ms c a) at_i) ∙ same_there lo [] ms c a none ∙ q

    -- a slot whose leaf stays within the limit has room
    roomy : (z : PSlots U V) (ms : List (Msg U V)) (c : PNode U V) (h : ℕ) (e : Option (List ℕ)) → StaysWithin shape.leaf ms c → AreLawfulSlots shape (more lo ms c none) h e → LeafHasNoRoom means shape root z (more lo ms c a) → ⊥
    roomy z [] c h e st l f = f
    roomy z (m ∷ ms) (leaf es) h e st l f = st l.2.1 f.0
    roomy z (m ∷ ms) (inner cs) h e st l f = f

    -- what a flush in place that is done says of the node
    did_in_place : (n : ℕ) (ms : List (Msg U V)) (c d : PNode U V) → 1 ≤ n → n ≤ length ms → Absorbed means shape.leaf (take n ms) c d → StaysWithin shape.leaf ms c → Replies means FlushLeaf shape root i (Did n) (joined b (more lo ms c a)) (joined b (more lo (drop n ms) d a))
    did_in_place n ms (inner cs) d one has q st = absurd q
    did_in_place n ms (leaf es) (inner ds) one has q st = absurd q
    did_in_place n ms (leaf es) (leaf fs) one has q st = λ h lp hi l able may.
        let old = more lo ms (leaf es) none in
        let all = joined b (joined old a) in
        let here : AreLawfulSlots shape old h (next_lo hi a) = (lawful-split shape h hi old a (lawful-split shape h hi b (joined old a) l.each).1).0 in
        replies_did means FlushLeaf shape root i n b old (more lo (drop n ms) (leaf fs) none) a at_i refl tt tt refl (λ z. z) (λ r z. omega (arith, z, length-drop n ms)) (λ h hi l able. absorbed shape n lo ms es fs one has q.0 q.1 h (next_lo hi a) l) (λ _ f. roomy all ms (leaf es) h (next_lo hi a) st here (subst (LeafHasNoRoom means shape root all) (slots_from-joined i b (joined old a) at_i) f)) h lp hi l able may

    -- what each reply of a flush in place says of the node
    in_place : (r : StepReply) (ms : List (Msg U V)) (c d : PNode U V) → IsSearchable c → HasPlace means shape.leaf ms c → Filled means shape.leaf r ms c d → Replies means FlushLeaf shape root i r (joined b (more lo ms c a)) (joined b (more lo (left r ms) d a))
    in_place (Did n) ms c d u p q = did_in_place n ms c d q.0 q.1 q.2 (stays_placed shape.leaf ms c u p)
    in_place NotThere ms c d u p q = (ap (λ z. joined b (more lo ms z a)) q.0, λ hi. unable ms c q.1 (joined b (more lo ms c a)) refl)
    in_place NoRoom ms c d u p q = absurd q
    in_place NoMemory ms c d u p q = ap (λ z. joined b (more lo ms z a)) q

    -- ---- the leaf cut in two

    -- a slot whose oldest messages may go into its leaf has room
    roomy_cut : (z : PSlots U V) (n : ℕ) (ms : List (Msg U V)) (c : PNode U V) (h : ℕ) (e : Option (List ℕ)) → 1 ≤ pending z → IsSearchable c → MayGo means shape root z n ms c → CanPart shape root z n (range_count (drop n ms)) → AreLawfulSlots shape (more lo ms c none) h e → LeafHasNoRoom means shape root z (more lo ms c a) → ⊥
    roomy_cut z n [] c h e some u may applies l f = f
    roomy_cut z n (m ∷ ms) (inner cs) h e some u may applies l f = f
    roomy_cut z n (m ∷ ms) (leaf es) h e some u may applies l f = ⊎_elim (λ one. not_both shape root z 1 (range_count ms) some (subst (λ k. CanPart shape root z k (range_count (drop k (m ∷ ms)))) one applies) f.1) (λ p. roomy z (m ∷ ms) (leaf es) h e (stays_placed shape.leaf (m ∷ ms) (leaf es) u p.0) l f) may.room

    module _ (n : ℕ) (ms lm rm : List (Msg U V)) (es new front back : List (List ℕ × V)) (pivot : List ℕ) (p : Applied means (take n ms) es new) (d : IsDivided new front back pivot) where
      -- the slot before
      abbrev old : PSlots U V
      old = more lo ms (leaf es) none

      -- the slots after
      abbrev two : PSlots U V
      two = more lo lm (leaf front) (more pivot rm (leaf back) none)

      -- the oldest messages went into the leaf, and the others were cut with it
      pub leaf_parted : Takes means [] (pieces lo (Some pivot) (drop n ms)) lm → Takes means [] (pieces pivot None (drop n ms)) rm → Parted means n lo pivot ms lm rm (leaf es) (leaf front) (leaf back)
      leaf_parted l r = record {
        left_msgs = l;
        right_msgs = r;
        below = λ k f. sym (d.below k (before_from_not_reaches pivot k f)) ∙ p.value k;
        above = λ k f. sym (d.above k (not_before_from_reaches pivot k f)) ∙ p.value k;
      }

      module _ (tl : Takes means [] (pieces lo (Some pivot) (drop n ms)) lm) (tr : Takes means [] (pieces pivot None (drop n ms)) rm) (one : 1 ≤ n) (has : n ≤ length ms) where
        -- what became of the slot
        cut_in_two : Overflows means shape.leaf es (take n ms) → length new ≤ shape.leaf + shape.leaf → (h : ℕ) (e : Option (List ℕ)) → AreLawfulSlots shape old h e → Sinks means n e old two × Formed means FlushLeaf shape n old two × AreLawfulSlots shape two h e
        cut_in_two over few h e l =
            let q = leaf_parted tl tr in
            let sum : length new ≡ length front + length back = ap length d.whole ∙ length-append front back in
            let rise = d.rise lo e (p.rises lo e l.2.2 (touch_only-take n lo e ms l.1)) in (
              parted_sinks means n lo pivot ms lm rm (leaf es) (leaf front) (leaf back) q e,
              record { lo = lo; msgs = ms; entries = es; some = one; has = has; was = refl; leaves = tt; uncut = λ z. absurd (omega arith); cut = λ z. over; pieces_grow = omega (arith, parted_pieces means n lo pivot ms lm rm (leaf es) (leaf front) (leaf back) q) },
              parted_lawful means n lo pivot ms lm rm (leaf es) (leaf front) (leaf back) q shape h e l.1 rise.0 rise.1 (l.2.0, omega (arith, few, sum, d.halves.0), rise.2) (l.2.0, omega (arith, few, sum, d.halves.1), rise.3),
            )

        -- what the cut of a leaf has done to the node
        pub was_cut : IsSearchable {U = U} (leaf es) → MayGo means shape root (joined b (more lo ms (leaf es) a)) n ms (leaf es) → Overflows means shape.leaf es (take n ms) → CanPart shape root (joined b (more lo ms (leaf es) a)) n (range_count (drop n ms)) → Replies means FlushLeaf shape root i (Did n) (joined b (more lo ms (leaf es) a)) (joined b (more lo lm (leaf front) (more pivot rm (leaf back) a)))
        was_cut u go over room h lp hi l able may =
            let all = joined b (joined old a) in
            let w = pending-joined b (more lo ms (leaf es) a) in
            let here : AreLawfulSlots shape old h (next_lo hi a) = (lawful-split shape h hi old a (lawful-split shape h hi b (joined old a) l.each).1).0 in
            let fits : LeafHasNoRoom means shape root all (slots_from i all) → ⊥ = λ f. roomy_cut all n ms (leaf es) h (next_lo hi a) (omega (arith, w, one, has)) u go room here (subst (LeafHasNoRoom means shape root all) (slots_from-joined i b (joined old a) at_i) f) in
            let count = slot_count-joined b (more lo ms (leaf es) a) in
            let q = leaf_parted tl tr in
            let small : length es ≤ shape.leaf = here.2.1 in
            let few : length new ≤ shape.leaf + shape.leaf = omega (arith, small, go.few, p.longer, length-take-le n ms has) in
            let grow = parted_pieces means n lo pivot ms lm rm (leaf es) (leaf front) (leaf back) q in
            replies_did means FlushLeaf shape root i n b old two a at_i refl tt tt refl (λ z. omega (arith, room.0, count)) (λ r z. let y = room.1 r in omega (arith, y, w, grow, has, length-drop n ms)) (λ g e w able. cut_in_two over few g (next_lo e a) w) (λ _. fits) h lp hi l able may

-- ---- likewise for the slots as the code writes them

module _ {U V : Type 0} (means : U → Option V → Option V) where
  -- entries that have the oldest messages, as a leaf
  as_absorbed : (most n : ℕ) (ms : List (Msg U V)) (c : PNode U V) (new : List (List ℕ × V)) → AfterOldest means n ms c new → length new ≤ most → (n ≤ length ms) × Absorbed means most (take n ms) c (leaf new)
  as_absorbed most n ms (inner cs) new q l = absurd q
  as_absorbed most n ms (leaf es) new q l = (q.0, (q.1, λ z. l))

  module _ (shape : Shape) (root : Bool) (i : ℕ) (xs : List (Slot U V)) (s : Slot U V) (h : i < length xs) (at : s ≡ get_or xs i s) where
    -- the slots before it
    abbrev before : PSlots U V
    before = seen_slots (take i xs)

    -- and behind it
    abbrev after : PSlots U V
    after = seen_slots (drop (suc i) xs)

    -- there are i before it
    number : slot_count before ≡ i
    number = slot_count-take xs i (omega arith)

    -- the slot between them
    was : seen_slots xs ≡ joined before (more s.lo s.pending.0 s.child.value after)
    was = slots-split xs i s h ∙ ap (λ (x : Slot U V). joined before (more x.lo x.pending.0 x.child.value after)) (sym at)

    -- another in its place, which begins where it does
    is : (t : Slot U V) → t.lo ≡ s.lo → seen_slots (set xs i t) ≡ joined before (more s.lo t.pending.0 t.child.value after)
    is t e = slots-set_split xs i t h ∙ ap (λ z. joined before (more z t.pending.0 t.child.value after)) e

    -- where nothing can be done
    pub not_there : can_flush_leaf (more [] s.pending.0 s.child.value none) ≡ false → can_flush_leaf (slots_from i (seen_slots xs)) ≡ false
    not_there q = unable means shape root i before after s.lo number s.pending.0 s.child.value q (seen_slots xs) was

    -- what is said of the slot between them is said of all
    placed : (t : Slot U V) (r : StepReply) → t.lo ≡ s.lo → t.pending.0 ≡ left r s.pending.0 → Replies means FlushLeaf shape root i r (joined before (more s.lo s.pending.0 s.child.value after)) (joined before (more s.lo (left r s.pending.0) t.child.value after)) → Replies means FlushLeaf shape root i r (seen_slots xs) (seen_slots (set xs i t))
    placed t r e p core =
        let now : seen_slots (set xs i t) ≡ joined before (more s.lo (left r s.pending.0) t.child.value after) = is t e ∙ ap (λ z. joined before (more s.lo z t.child.value after)) p in
        subst (λ z. Replies means FlushLeaf shape root i r z (seen_slots (set xs i t))) (sym was) (subst (λ z. Replies means FlushLeaf shape root i r (joined before (more s.lo s.pending.0 s.child.value after)) z) (sym now) core)

    -- a flush in place
    pub filled : (t : Slot U V) (r : StepReply) → IsSearchable s.child.value → HasPlace means shape.leaf s.pending.0 s.child.value → t.lo ≡ s.lo → t.pending.0 ≡ left r s.pending.0 → Filled means shape.leaf r s.pending.0 s.child.value t.child.value → Replies means FlushLeaf shape root i r (seen_slots xs) (seen_slots (set xs i t))
    filled t r u o e p q = placed t r e p (in_place means shape root i before after s.lo number r s.pending.0 s.child.value t.child.value u o q)

    -- a slot that means the same leaves them
    unfilled : (t : Slot U V) → t.lo ≡ s.lo → t.pending.0 ≡ s.pending.0 → t.child.value ≡ s.child.value → seen_slots (set xs i t) ≡ seen_slots xs
    unfilled t e p c = is t e ∙ (λ j. joined before (more s.lo (p j) (c j) after)) ∙ sym was

    -- as many wait in all slots as in this one, or more
    some_wait : (n : ℕ) → n ≤ length s.pending.0 → n ≤ pending (seen_slots xs)
    some_wait n q = let e = ap pending was in omega (arith, q, e, pending-joined before (more s.lo s.pending.0 s.child.value after))

    -- entries with the oldest messages in the leaf's place
    pub kept : (n : ℕ) (t : Slot U V) (r : StepReply) (new : List (List ℕ × V)) → KeptOldest n r new s t → IsSearchable s.child.value → MayGo means shape root (seen_slots xs) n s.pending.0 s.child.value → AfterOldest means n s.pending.0 s.child.value new → Rises [] None new → length new ≤ shape.leaf → Replies means FlushLeaf shape root i r (seen_slots xs) (seen_slots (set xs i t))
    kept n t (Did k) new q u go o up l =
        let a = as_absorbed shape.leaf n s.pending.0 s.child.value new o l in
        let st = stays_consumed means shape root (seen_slots xs) n s.pending.0 s.child.value new u go o up l in
        let one = did_in_place means shape root i before after s.lo number n s.pending.0 s.child.value t.child.value go.some a.0 (subst (λ z. Absorbed means shape.leaf (take n s.pending.0) s.child.value z) (sym q.3) a.1) st in
        subst (λ z. Replies means FlushLeaf shape root i (Did z) (seen_slots xs) (seen_slots (set xs i t))) (sym q.0) (placed t (Did n) q.1 q.2 one)
    kept n t NotThere new q u go o up l = absurd q
    kept n t NoRoom new q u go o up l = absurd q
    kept n t NoMemory new q u go o up l = unfilled t (ap (λ (x : Slot U V). x.lo) q) (ap (λ (x : Slot U V). x.pending.0) q) (ap (λ (x : Slot U V). x.child.value) q)

    -- where the leaf is too large after the first message and cannot be cut
    full : (ms : List (Msg U V)) (c : PNode U V) (new : List (List ℕ × V)) (z : PSlots U V) → AfterOldest means 1 ms c new → Rises [] None new → shape.leaf < length new → CannotPart shape root z 1 (range_count (drop 1 ms)) → LeafHasNoRoom means shape root z (more s.lo ms c after)
    full ms (inner cs) new z q r l o = absurd q
    full [] (leaf es) new z q r l o = absurd (let h : 1 ≤ 0 = q.0 in omega (arith, h))
    full (m ∷ ms) (leaf es) new z q r l o = (too_many means shape.leaf (m ∷ []) es new q.1 r l, o)

    -- likewise for all slots, where others go with it only if the leaf can be cut
    pub no_room : (n : ℕ) (new : List (List ℕ × V)) → MayGo means shape root (seen_slots xs) n s.pending.0 s.child.value → AfterOldest means n s.pending.0 s.child.value new → Rises [] None new → shape.leaf < length new → CannotPart shape root (seen_slots xs) n (range_count (drop n s.pending.0)) → LeafHasNoRoom means shape root (seen_slots xs) (slots_from i (seen_slots xs))
    no_room n new go q r l o = subst (λ z. LeafHasNoRoom means shape root (seen_slots xs) z) (sym (ap (slots_from i) was ∙ slots_from-joined i before (more s.lo s.pending.0 s.child.value after) number)) (⊎_elim
        (λ e. full s.pending.0 s.child.value new (seen_slots xs) (subst (λ z. AfterOldest means z s.pending.0 s.child.value new) e q) r l (subst (λ z. CannotPart shape root (seen_slots xs) z (range_count (drop z s.pending.0))) e o))
        (λ p. absurd (not_both means shape root (seen_slots xs) n (range_count (drop n s.pending.0)) (some_wait n p.1.0) p.1.1 o))
        go.room)

    -- the leaf cut in two
    split_leaf_slot : (n : ℕ) (ms : List (Msg U V)) (c : PNode U V) (new : List (List ℕ × V)) (l r : Slot U V) → IsSearchable c → MayGo means shape root (joined before (more s.lo ms c after)) n ms c → AfterOldest means n ms c new → Rises [] None new → shape.leaf < length new → IsHalved means s.lo new (drop n ms) l r → CanPart shape root (joined before (more s.lo ms c after)) n (range_count (drop n ms)) → Replies means FlushLeaf shape root i (Did n) (joined before (more s.lo ms c after)) (joined before (more l.lo l.pending.0 l.child.value (more r.lo r.pending.0 r.child.value after)))
    split_leaf_slot n ms (inner cs) new l r u go q up many p o = absurd q
    split_leaf_slot n ms (leaf es) new l r u go q up many p o =
        let core = was_cut means shape root i before after s.lo number n ms l.pending.0 r.pending.0 es new p.front p.back r.lo q.1 p.divided p.left_msgs p.right_msgs go.some q.0 u go (too_many means shape.leaf (take n ms) es new q.1 up many) o in
        subst (λ z. Replies means FlushLeaf shape root i (Did n) (joined before (more s.lo ms (leaf es) after)) z) (λ j. joined before (more (sym p.left_lo j) l.pending.0 (sym p.left_is j) (more r.lo r.pending.0 (sym p.right_is j) after))) core

    -- likewise for all slots
    pub halved : (n : ℕ) (new : List (List ℕ × V)) (l r : Slot U V) → IsSearchable s.child.value → MayGo means shape root (seen_slots xs) n s.pending.0 s.child.value → AfterOldest means n s.pending.0 s.child.value new → Rises [] None new → shape.leaf < length new → IsHalved means s.lo new (drop n s.pending.0) l r → CanPart shape root (seen_slots xs) n (range_count (drop n s.pending.0)) → Replies means FlushLeaf shape root i (Did n) (seen_slots xs) (seen_slots (insert (set xs i l) (suc i) r))
    halved n new l r u go q up many p o =
        let core = split_leaf_slot n s.pending.0 s.child.value new l r u (subst (λ z. MayGo means shape root z n s.pending.0 s.child.value) was go) q up many p (subst (λ z. CanPart shape root z n (range_count (drop n s.pending.0))) was o) in
        subst (λ z. Replies means FlushLeaf shape root i (Did n) z (seen_slots (insert (set xs i l) (suc i) r))) (sym was) (subst (λ z. Replies means FlushLeaf shape root i (Did n) (joined before (more s.lo s.pending.0 s.child.value after)) z) (sym (slots-cut xs i l r h)) core)

-- ---- whether there is room, as the code reads it

module _ {U V : Type 0} (means : U → Option V → Option V) (shape : Shape) (root : Bool) (i : ℕ) (xs : List (Slot U V)) (s : Slot U V) (m : Msg U V) (ms : List (Msg U V)) (es : List (List ℕ × V)) (h : i < length xs) (at : s ≡ get_or xs i s) (ep : s.pending.0 ≡ m ∷ ms) (ec : leaf es ≡ s.child.value) where
  -- the slots from the number on
  seen : slots_from i (seen_slots xs) ≡ more s.lo (m ∷ ms) (leaf es) (seen_slots (drop (suc i) xs))
  seen = seen_from i xs s m ms (leaf es) h at ep ec

  -- some message waits
  one_waits : 1 ≤ pending (seen_slots xs)
  one_waits = some_wait means shape root i xs s h at 1 (omega (arith, ap length ep))

  -- whether a message edits an absent key rests on the message and the leaf
  same_absent : (m : Msg U V) (lo lp : List ℕ) (ms ns : List (Msg U V)) (a b : PSlots U V) → EditsAbsent (more lo (m ∷ ms) (leaf es) a) → EditsAbsent (more lp (m ∷ ns) (leaf es) b)
  same_absent (Put q v) lo lp ms ns a b f = f
  same_absent (Del q) lo lp ms ns a b f = f
  same_absent (DelRange d) lo lp ms ns a b f = f
  same_absent (Edit q u) lo lp ms ns a b f = f

  -- a lawful leaf is within the limit
  small : (g : ℕ) (lo : List ℕ) (hi : Option (List ℕ)) → LawfulSlots shape root g lo hi (seen_slots xs) → length es ≤ shape.leaf
  small g lo hi l =
      let all = subst (λ z. AreLawfulSlots shape z g hi) (was means shape root i xs s h at) l.each in
      let here = (lawful-split shape g hi (seen_slots (take i xs)) (more s.lo s.pending.0 s.child.value (seen_slots (drop (suc i) xs))) all).1.2 in
      let mine = subst (λ c. IsLawfulNode shape c (pred g) s.lo (next_lo hi (seen_slots (drop (suc i) xs)))) (sym ec) here in
      mine.1

  -- where the leaf takes the oldest message, or only applying it tells
  pub may_take : (length es ≤ shape.leaf → Overflows means shape.leaf es (m ∷ []) → EditsAbsent (more [] (m ∷ []) (leaf es) none)) → (g : ℕ) (lo : List ℕ) (hi : Option (List ℕ)) → LawfulSlots shape root g lo hi (seen_slots xs) → MayHaveRoom means FlushLeaf shape root i (seen_slots xs)
  may_take f g lo hi l full =
      let q = subst (λ z. LeafHasNoRoom means shape root (seen_slots xs) z) seen full in
      subst EditsAbsent (sym seen) (same_absent m [] s.lo [] ms none (seen_slots (drop (suc i) xs)) (f (small g lo hi l) q.0))

  -- where the node has room for one slot more
  pub may_cut : CanPart shape root (seen_slots xs) 1 (range_count ms) → MayHaveRoom means FlushLeaf shape root i (seen_slots xs)
  may_cut applies full =
      let q = subst (λ z. LeafHasNoRoom means shape root (seen_slots xs) z) seen full in
      absurd (not_both means shape root (seen_slots xs) 1 (range_count ms) one_waits applies q.1)

  -- where there is room in neither
  pub cannot : Overflows means shape.leaf es (m ∷ []) → CannotPart shape root (seen_slots xs) 1 (range_count ms) → HasNoRoom means FlushLeaf shape root i (seen_slots xs)
  cannot o c = subst (λ z. LeafHasNoRoom means shape root (seen_slots xs) z) (sym seen) (o, c)

module _ {U V : Type 0} (means : U → Option V → Option V) (shape : Shape) (root : Bool) (i : ℕ) (xs : List (Slot U V)) where
  -- where no flush can be done, there is no lack of room
  pub may_past : length xs ≤ i → MayHaveRoom means FlushLeaf shape root i (seen_slots xs)
  may_past past full = absurd (subst (λ z. LeafHasNoRoom means shape root (seen_slots xs) z) (slots_from-past xs i past) full)

  -- nor where the slot cannot be flushed into a leaf
  pub may_unable : (s : Slot U V) → i < length xs → s ≡ get_or xs i s → ((m : Msg U V) (ms : List (Msg U V)) (es : List (List ℕ × V)) → s.pending.0 ≡ m ∷ ms → leaf es ≡ s.child.value → ⊥) → MayHaveRoom means FlushLeaf shape root i (seen_slots xs)
  may_unable s h at f full = absurd (never s.pending.0 s.child.value refl refl (subst (λ z. LeafHasNoRoom means shape root (seen_slots xs) z) (slots_from-get xs i s h ∙ ap (λ (x : Slot U V). more x.lo x.pending.0 x.child.value (seen_slots (drop (suc i) xs))) (sym at)) full))
    where
      never : (ms : List (Msg U V)) (c : PNode U V) → s.pending.0 ≡ ms → c ≡ s.child.value → LeafHasNoRoom means shape root (seen_slots xs) (more s.lo ms c (seen_slots (drop (suc i) xs))) → ⊥
      never [] c ep ec g = g
      never (m ∷ ms) (leaf es) ep ec g = f m ms es ep ec
      never (m ∷ ms) (inner cs) ep ec g = g
