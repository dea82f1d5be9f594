-- What is read of a slot of which a job is taken.
use Rattle.std.proofs.Common.{◌≡◌, ℕ, zero, suc, ◌+◌, ◌<◌, ◌≤◌, Bool, true, false, List, [], ◌∷◌, ◌++◌, length, get_or, take, drop, refl, ap, sym, ◌∙◌, subst, arith, Option, None, pred}
use Rattle.std.specs.Prelude.{◌&&◌, ◌==◌, IsTrue}
use Rattle.std.proofs.lemmas.Bool.{eqb-true}
use Rattle.std.proofs.lemmas.List.{length-take-le}
use Rattle.message.specs.declared.msg.Msg.{Msg}
use Rattle.message.specs.Effects.{effects}
use Rattle.message.proofs.KeyOrder.{both}
use Rattle.pathkey.specs.declared.range.KeyRange.{KeyRange}
use Rattle.node.specs.declared.node.Slot.{Slot}
use Rattle.node.specs.declared.shape.Shape.{Shape}
use Rattle.node.specs.Grafts.{OfSlot, AtSlot, AtRootSlot}
use Rattle.node.specs.Lawful.{TouchOnly, pending}
use Rattle.node.specs.Meaning.{value}
use Rattle.node.specs.Pure.{PNode, leaf, inner, PSlots, none, more, is_leaf, depth, PTree}
use Rattle.node.specs.See.{seen_slots}
use Rattle.node.specs.Shapes.{is_shape}
use Rattle.node.specs.Sinks.{first_lo}
use Rattle.node.specs.Site.{slots_from}
use Rattle.node.specs.StepRows.{can_flush_inner, IsFullBelow, piece_count}
use Rattle.node.proofs.Grafting.{end_after, at_read, root_map}
use Rattle.node.proofs.Sinking.{touch_only-take}
use Rattle.node.proofs.Splice.{slots_from-past}
use Rattle.node.proofs.StepPlaces.{slots_from-get}
use Rattle.flush.proofs.OldestOf.{take_few, few_long}
use Rattle.jobs.specs.declared.mark.Mark.{Mark}
use Rattle.jobs.specs.Content.{HasContent, job_content}
use Rattle.jobs.specs.Job.{PJob, FitBelow, IsJob}
use Rattle.jobs.specs.Marks.{IsMarked, Stands, MarkHas, AreMarks, kept_at}
use Rattle.jobs.specs.Replies.{IsJobOf, IsOf, can_take_at, can_take_first, mark_of}
use Rattle.jobs.specs.Taking.{AreOldest, AreRootSlots, CanBeTaken}
use Rattle.jobs.proofs.MarkFacts.{none_at, marks_more}
use Rattle.jobs.proofs.Slots.{LawfulSlot, lawful_at}

module _ {U V : Type 0} where
  -- what holds of what the code reads holds of the slot
  pub read_at : (R : OfSlot U V) (xs : List (Slot U V)) (i : ℕ) (d : Slot U V) (hi : Option (List ℕ)) → i < length xs → R (get_or xs i d).lo (end_after hi xs i) (get_or xs i d).pending.0 (get_or xs i d).child.value → AtSlot R i hi (seen_slots xs)
  read_at R [] i d hi b h = absurd (omega arith)
  read_at R (x ∷ xs) zero d hi b h = h
  read_at R (x ∷ xs) (suc i) d hi b h = read_at R xs i d hi (omega arith) h

  -- past the last there is nothing to take
  pub none_past : (ms : List Mark) (xs : List (Slot U V)) (i : ℕ) → length xs ≤ i → can_take_first ms (slots_from i (seen_slots xs)) ≡ false
  none_past ms xs i b = ap (can_take_first ms) (slots_from-past xs i b)

  -- what the tests say of the slot
  pub free_at : (ms : List Mark) (xs : List (Slot U V)) (i : ℕ) (d : Slot U V) (b : Bool) (n : ℕ) → i < length xs → b ≡ can_flush_inner (slots_from i (seen_slots xs)) → n ≡ kept_at ms (get_or xs i d).lo → (b && (n == 0)) ≡ can_take_first ms (slots_from i (seen_slots xs))
  free_at ms xs i d b n h e k =
      let first : first_lo (slots_from i (seen_slots xs)) ≡ (get_or xs i d).lo = ap first_lo (slots_from-get xs i d h) in
      ap (λ z. z && (n == 0)) e ∙ ap (λ z. can_flush_inner (slots_from i (seen_slots xs)) && (z == 0)) (k ∙ ap (kept_at ms) (sym first))

  -- ---- the oldest messages that fit

  -- no message is among the oldest
  pub oldest_none : (ms : List (Msg U V)) → AreOldest [] ms
  oldest_none ms = record { few = omega arith; has = omega arith; oldest = refl }

  -- the first of the oldest few
  pub oldest_few : (ms front : List (Msg U V)) (few count : ℕ) → front ≡ take few ms → count ≤ length front → count < 65536 → AreOldest (take count front) ms
  oldest_few ms front few count e b s =
      let within : count ≤ length (take few ms) = subst (λ z. count ≤ length z) e b in
      let long : length (take count front) ≡ count = length-take-le count front b in
      record {
        few = omega (arith, long, s);
        has = omega (arith, long, few_long ms few count within);
        oldest = ap (take count) e ∙ take_few ms count few within ∙ ap (λ n. take n ms) (sym long);
      }

  -- where they have room
  pub fit_below : (most : ℕ) (ms : List (Msg U V)) (c : PNode U V) (cs : PSlots U V) → inner cs ≡ c → pending cs + piece_count ms cs ≤ most → FitBelow most ms c
  fit_below most ms c cs e h = subst (FitBelow most ms) e h

  -- a leaf takes none
  pub leaf_never : (most : ℕ) (lo : List ℕ) (ms : List (Msg U V)) (c : PNode U V) (es : List (List ℕ × V)) (ss : PSlots U V) → leaf es ≡ c → can_flush_inner (more lo ms c ss) ≡ true → IsFullBelow most (more lo ms c ss)
  leaf_never most lo [] c es ss e h = (cc)
  leaf_never most lo (m ∷ ms) (leaf fs) es ss e h = (cc)
  leaf_never most lo (m ∷ ms) (inner cs) es ss e h = (cc)

  -- and where the first message has none
  pub none_fits : (most : ℕ) (lo : List ℕ) (ms front : List (Msg U V)) (few : ℕ) (c : PNode U V) (cs ss : PSlots U V) → inner cs ≡ c → front ≡ take few ms → (0 < length ms → 0 < few) → (0 < length front → most < pending cs + piece_count (take 1 front) cs) → can_flush_inner (more lo ms c ss) ≡ true → IsFullBelow most (more lo ms c ss)
  none_fits most lo [] front few c cs ss e f some full h = (cc)
  none_fits most lo (m ∷ ms) front zero c cs ss e f some full h = absurd (let z : 0 < 0 = some (omega arith) in omega (arith, z))
  none_fits most lo (m ∷ ms) front (suc few) c cs ss e f some full h =
      let here : most < pending cs + piece_count (take 1 (m ∷ take few ms)) cs = subst (λ z. most < pending cs + piece_count (take 1 z) cs) f (full (subst (λ z. 0 < length z) (sym f) (omega arith))) in
      subst (λ z. IsFullBelow most (more lo (m ∷ ms) z ss)) e here

  -- no room at the slot that is read
  pub full_from : (most : ℕ) (xs : List (Slot U V)) (i : ℕ) (d s : Slot U V) → i < length xs → s ≡ get_or xs i d → can_flush_inner (slots_from i (seen_slots xs)) ≡ true → ((ss : PSlots U V) → can_flush_inner (more s.lo s.pending.0 s.child.value ss) ≡ true → IsFullBelow most (more s.lo s.pending.0 s.child.value ss)) → IsFullBelow most (slots_from i (seen_slots xs))
  full_from most xs i d s b e can f =
      let rest = seen_slots (drop (suc i) xs) in
      let at : slots_from i (seen_slots xs) ≡ more s.lo s.pending.0 s.child.value rest = slots_from-get xs i d b ∙ ap (λ (x : Slot U V). more x.lo x.pending.0 x.child.value rest) (sym e) in
      subst (IsFullBelow most) (sym at) (f rest (ap can_flush_inner (sym at) ∙ can))

  -- ---- the job

  -- a node with room is an inner one
  fits_inner : (most : ℕ) (ms : List (Msg U V)) (c : PNode U V) → FitBelow most ms c → is_leaf c ≡ false
  fits_inner most ms (leaf es) h = absurd h
  fits_inner most ms (inner cs) h = refl

  -- the facts that a job keeps
  is_job : (S : Shape) (h : ℕ) (lo : List ℕ) (e : Option (List ℕ)) (ms taken : List (Msg U V)) (c : PNode U V) → IsTrue (is_shape S) → LawfulSlot S h lo e ms c → CanBeTaken S taken lo e ms c → IsJob S (record { lo = lo; hi = e }) taken c
  is_job S h lo e ms taken c ok l t = record {
    allowed = ok;
    subtree = record { inner = fits_inner S.pending taken c t.fit; height = pred h; lawful = l.1 };
    some = t.some;
    few = t.oldest.few;
    only = subst (TouchOnly lo e) (sym t.oldest.oldest) (touch_only-take (length taken) lo e ms l.0);
    fit = t.fit;
  }

  -- the job in the words of the code
  pub job_made : (ticket : ℕ) (S : Shape) (xs : List (Slot U V)) (i : ℕ) (d : Slot U V) (lo : List ℕ) (hi : Option (List ℕ)) (taken : List (Msg U V)) (child : PNode U V) → AreRootSlots S (seen_slots xs) → AtSlot (CanBeTaken S taken) i None (seen_slots xs) → i < length xs → lo ≡ (get_or xs i d).lo → hi ≡ end_after None xs i → child ≡ (get_or xs i d).child.value → IsJob S (record { lo = lo; hi = hi }) taken child × AtSlot (IsOf (record { ticket = ticket; shape = S; range = record { lo = lo; hi = hi }; msgs = taken; child = child })) i None (seen_slots xs)
  job_made ticket S xs i d lo hi taken child l fits b el eh ec =
      let s = get_or xs i d in
      let end = end_after None xs i in
      let can = at_read (CanBeTaken S taken) xs i d None fits in
      let law = at_read (LawfulSlot S l.1) xs i d None (lawful_at S l.1 (CanBeTaken S taken) i None (seen_slots xs) l.2 fits) in
      let job : IsJob S (record { lo = s.lo; hi = end }) taken s.child.value = is_job S l.1 s.lo end s.pending.0 taken s.child.value l.0 law can in
      let of : IsOf (record { ticket = ticket; shape = S; range = record { lo = lo; hi = hi }; msgs = taken; child = child }) s.lo end s.pending.0 s.child.value = record { begins = sym el; ends = sym eh; has = can.oldest.has; oldest = can.oldest.oldest; below = ec } in
      let range : record { lo = s.lo; hi = end } ≡ record { lo = lo; hi = hi } = λ j. record { lo = sym el j; hi = sym eh j } in (
        subst (λ (r : KeyRange). IsJob S r taken child) range (subst (λ z. IsJob S (record { lo = s.lo; hi = end }) taken z) (sym ec) job),
        read_at (IsOf (record { ticket = ticket; shape = S; range = record { lo = lo; hi = hi }; msgs = taken; child = child })) xs i d None b of,
      )

  -- a slot that can be taken keeps none
  keeps_none : (ms : List Mark) (l : List ℕ) (i : ℕ) (hi : Option (List ℕ)) (ss : PSlots U V) → can_take_first ms (slots_from i ss) ≡ true → AtSlot (λ b e xs c. b ≡ l) i hi ss → kept_at ms l ≡ 0
  keeps_none ms l i hi none t h = absurd h
  keeps_none ms l zero hi (more lo xs n ss) t h =
      let free = eqb-true (kept_at ms lo) 0 (both (can_flush_inner (more lo xs n ss)) (kept_at ms lo == 0) t).1 in
      subst (λ z. kept_at ms z ≡ 0) h free
  keeps_none ms l (suc i) hi (more lo xs n ss) t h = keeps_none ms l i hi ss t h

  keeps_none_in : (ms : List Mark) (l : List ℕ) (i : ℕ) (a : PNode U V) → can_take_at i ms a ≡ true → AtRootSlot (λ b e xs c. b ≡ l) i a → kept_at ms l ≡ 0
  keeps_none_in ms l i (leaf es) t h = absurd h
  keeps_none_in ms l i (inner ss) t h = keeps_none ms l i None ss t h

  module _ (means : U → Option V → Option V) (job : PJob U V) (a : PTree U V) (i t : ℕ) (j : IsJob job.shape job.range job.msgs job.child) (of : IsJobOf i t a job) where
    -- the job's mark stands
    pub job_stands : Stands a.root (mark_of job)
    job_stands = (i, root_map (IsOf job) (IsMarked (mark_of job)) i a.root (λ lo e ms c q. record { begins = q.begins; ends = q.ends; some = j.some; has = q.has; inner = ap is_leaf (sym q.below) ∙ j.subtree.inner }) of.slot)

    -- and has its content
    pub job_has : MarkHas means (mark_of job) (job_content means job) a
    job_has = record {
      shape = sym of.shape;
      range = refl;
      count = refl;
      slot = (
        i,
        root_map (IsOf job) (HasContent means (job_content means job)) i a.root (λ lo e ms c q. record {
          begins = q.begins;
          ends = q.ends;
          has = q.has;
          inner = ap is_leaf (sym q.below) ∙ j.subtree.inner;
          depth = ap depth (sym q.below);
          same = λ k w. ap (λ z. effects means z k (value means c k)) (sym q.oldest) ∙ ap (λ z. effects means job.msgs k (value means z k)) (sym q.below);
        }) of.slot,
      );
    }

    -- with it the marks are marks
    pub job_marked : (ms : List Mark) (given : ℕ) → AreMarks a.root 0 ms given → t ≡ given → can_take_at i ms a.root ≡ true → AreMarks a.root 0 (ms ++ mark_of job ∷ []) (given + 1)
    job_marked ms given h e free =
        let none = keeps_none_in ms job.range.lo i a.root free (root_map (IsOf job) (λ b f xs c. b ≡ job.range.lo) i a.root (λ lo f xs c q. q.begins) of.slot) in
        marks_more a.root (mark_of job) 0 ms given h job_stands (of.ticket ∙ e) (none_at a.root job.range.lo 0 ms given h none)
