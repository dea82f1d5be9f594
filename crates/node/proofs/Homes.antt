-- A few messages, each of which goes as it is to one slot.
use Rattle.std.proofs.Common.{◌≡◌, ℕ, zero, suc, ◌+◌, ◌++◌, ◌<◌, ◌≤◌, Bool, true, List, [], ◌∷◌, length, get_or, map, refl, ap, sym, ◌∙◌, subst, Option, None, arith}
use Rattle.std.specs.Prelude.{IfOk, OnOk, OnErr, Result, Ok, Err}
use Rattle.std.proofs.Math.ListN.{set}
use Rattle.std.proofs.lemmas.List.{append_assoc}
use Rattle.std.proofs.lemmas.Result.{on_ok_weaker}
use Rattle.message.specs.declared.msg.Msg.{Msg}
use Rattle.message.specs.Effects.{Takes}
use Rattle.message.specs.Cuts.{pieces}
use Rattle.message.proofs.Composing.{takes-then}
use Rattle.node.specs.declared.node.Slot.{Slot}
use Rattle.node.specs.Appended.{batches_by_slot, all_at, HaveTaken}
use Rattle.node.specs.Batches.{HaveHomes}
use Rattle.node.specs.Grafts.{KeepLists}
use Rattle.node.specs.Homes.{IsHome}
use Rattle.node.specs.Lawful.{next_lo}
use Rattle.node.specs.Pure.{PSlots, inner, none, more, slots}
use Rattle.node.specs.Searchable.{HasRoomAt, IsRoot}
use Rattle.node.specs.See.{see_slot, seen_slots}
use Rattle.node.proofs.Appending.{next_lo-taken}
use Rattle.message.proofs.Parting.{pieces-append}
use Rattle.node.proofs.Wholes.{see-pending, room-get, kept-at, kept-none, taken-at, taken-none}

-- ---- one slot gets another list

module _ {U V : Type 0} where
  -- the slots with this list in the place of one slot's
  abbrev pub relisted : List (Slot U V) → ℕ → Slot U V → List (Msg U V) × ℕ → List (Slot U V)
  relisted xs i d p = set xs i (record { lo = (get_or xs i d).lo; pending = p; child = (get_or xs i d).child })

  next_lo-relisted : (xs : List (Slot U V)) (i : ℕ) (d : Slot U V) (p : List (Msg U V) × ℕ) → next_lo None (seen_slots (relisted xs i d p)) ≡ next_lo None (seen_slots xs)
  next_lo-relisted [] i d p = refl
  next_lo-relisted (x ∷ xs) zero d p = refl
  next_lo-relisted (x ∷ xs) (suc i) d p = refl

  -- each slot takes what it took
  batches_by_slot-relisted : (ms : List (Msg U V)) (xs : List (Slot U V)) (i : ℕ) (d : Slot U V) (p : List (Msg U V) × ℕ) → batches_by_slot None ms (seen_slots (relisted xs i d p)) ≡ batches_by_slot None ms (seen_slots xs)
  batches_by_slot-relisted ms [] i d p = refl
  batches_by_slot-relisted ms (x ∷ xs) zero d p = refl
  batches_by_slot-relisted ms (x ∷ xs) (suc i) d p = λ j. pieces x.lo (next_lo-relisted xs i d p j) ms ∷ batches_by_slot-relisted ms xs i d p j

  all_at-relisted : (k : ℕ) (ms : List (Msg U V)) (xs : List (Slot U V)) (i : ℕ) (d : Slot U V) (p : List (Msg U V) × ℕ) → all_at k ms (seen_slots (relisted xs i d p)) ≡ all_at k ms (seen_slots xs)
  all_at-relisted k ms [] i d p = refl
  all_at-relisted zero ms (x ∷ xs) zero d p = refl
  all_at-relisted (suc k) ms (x ∷ xs) zero d p = refl
  all_at-relisted zero ms (x ∷ xs) (suc i) d p = ap (λ ps. ms ∷ ps) (batches_by_slot-relisted [] xs i d p)
  all_at-relisted (suc k) ms (x ∷ xs) (suc i) d p = ap (λ ps. [] ∷ ps) (all_at-relisted k ms xs i d p)

  -- a message has the slot that it had
  pub home-relisted : (k : ℕ) (m : Msg U V) (xs : List (Slot U V)) (i : ℕ) (d : Slot U V) (p : List (Msg U V) × ℕ) → IsHome k m (seen_slots xs) → IsHome k m (seen_slots (relisted xs i d p))
  home-relisted k m xs i d p h = all_at-relisted k (m ∷ []) xs i d p ∙ h ∙ sym (batches_by_slot-relisted (m ∷ []) xs i d p)

  -- where the list has room left, so has each slot
  pub room-relisted : (xs : List (Slot U V)) (i j n k : ℕ) (d : Slot U V) (p : List (Msg U V) × ℕ) → k ≤ n → (get_or xs i d).pending.1 + k ≤ p.1 + n → HasRoomAt j n xs → HasRoomAt j k (relisted xs i d p)
  room-relisted [] i j n k d p b m h = absurd h
  room-relisted (x ∷ xs) zero zero n k d p b m h = omega (arith, m, h)
  room-relisted (x ∷ xs) (suc i) zero n k d p b m h = omega (arith, b, h)
  room-relisted (x ∷ xs) zero (suc j) n k d p b m h = room-less xs j n k b h
    where
      room-less : (xs : List (Slot U V)) (j n k : ℕ) → k ≤ n → HasRoomAt j n xs → HasRoomAt j k xs
      room-less [] j n k b h = absurd h
      room-less (x ∷ xs) zero n k b h = omega (arith, b, h)
      room-less (x ∷ xs) (suc j) n k b h = room-less xs j n k b h
  room-relisted (x ∷ xs) (suc i) (suc j) n k d p b m h = room-relisted xs i j n k d p b m h

  homes-relisted : (ms : List (Msg U V)) (homes : List ℕ) (xs : List (Slot U V)) (i n k : ℕ) (d : Slot U V) (p : List (Msg U V) × ℕ) → k ≤ n → (get_or xs i d).pending.1 + k ≤ p.1 + n → HaveHomes n xs ms homes → HaveHomes k (relisted xs i d p) ms homes
  homes-relisted [] homes xs i n k d p b r h = tt
  homes-relisted (m ∷ ms) [] xs i n k d p b r h = absurd h
  homes-relisted (m ∷ ms) (j ∷ homes) xs i n k d p b r h = (home-relisted j m xs i d p h.0, room-relisted xs i j n k d p b r h.1, homes-relisted ms homes xs i n k d p b r h.2)

  -- a slot with room is there
  pub room-bound : (xs : List (Slot U V)) (i n : ℕ) → HasRoomAt i n xs → i < length xs
  room-bound [] i n h = absurd h
  room-bound (x ∷ xs) zero n h = omega arith
  room-bound (x ∷ xs) (suc i) n h = let b = room-bound xs i n h in omega (arith, b)

  -- slots that mean the same are a root's where the others are
  pub root_alike : (xs ys : List (Slot U V)) → map see_slot ys ≡ map see_slot xs → IsRoot (inner (seen_slots xs)) → IsRoot (inner (seen_slots ys))
  root_alike xs ys e r = subst (λ z. IsRoot (inner (slots z))) (sym e) r

  -- and take a message where the others do
  pub home_alike : (i : ℕ) (m : Msg U V) (xs ys : List (Slot U V)) → map see_slot ys ≡ map see_slot xs → IsHome i m (seen_slots xs) → IsHome i m (seen_slots ys)
  home_alike i m xs ys e h = subst (λ z. IsHome i m (slots z)) (sym e) h

  -- one message more that has its slot
  pub homes_more : {X : Type 0} (r : Result Bool X) (n : ℕ) (xs : List (Slot U V)) (all : List (Msg U V)) (m : Msg U V) (ms : List (Msg U V)) (i : ℕ) (homes : List ℕ) → all ≡ m ∷ ms → IsHome i m (seen_slots xs) → HasRoomAt i n xs → IfOk r (λ b. b ≡ true → HaveHomes n xs ms homes) → IfOk r (λ b. b ≡ true → HaveHomes n xs all (i ∷ homes))
  homes_more (Ok b) n xs all m ms i homes w h room later = λ yes. subst (λ z. HaveHomes n xs z (i ∷ homes)) (sym w) (h, room, later yes)
  homes_more (Err e) n xs all m ms i homes w h room later = tt

-- ---- one message after the other

module _ {U V : Type 0} where
  pieces-more : (lo low : List ℕ) (hi high : Option (List ℕ)) (m : Msg U V) (ms : List (Msg U V)) → low ≡ lo → high ≡ hi → pieces lo hi (m ∷ []) ++ pieces low high ms ≡ pieces lo hi (m ∷ ms)
  pieces-more lo low hi high m ms l h = ap (λ x. pieces lo hi (m ∷ []) ++ pieces x high ms) l ∙ ap (λ x. pieces lo hi (m ∷ []) ++ pieces lo x ms) h ∙ sym (pieces-append lo hi (m ∷ []) ms)

  module _ (means : U → Option V → Option V) where
    -- slots that take a message and then others take them all
    taken-more : (hi : Option (List ℕ)) (m : Msg U V) (ms : List (Msg U V)) (ss ts us : PSlots U V) → HaveTaken means ss (batches_by_slot hi (m ∷ []) ss) ts → HaveTaken means ts (batches_by_slot hi ms ts) us → HaveTaken means ss (batches_by_slot hi (m ∷ ms) ss) us
    taken-more hi m ms none none none t u = tt
    taken-more hi m ms none none (more lu nu cu us) t u = absurd u
    taken-more hi m ms none (more lt nt ct ts) us t u = absurd t
    taken-more hi m ms (more lo old n ss) none us t u = absurd t
    taken-more hi m ms (more lo old n ss) (more lt nt ct ts) none t u = absurd u
    taken-more hi m ms (more lo old n ss) (more lt nt ct ts) (more lu nu cu us) t u =
        let both = takes-then means old (pieces lo (next_lo hi ss) (m ∷ [])) nt (pieces lt (next_lo hi ts) ms) nu t.1 u.1 in
        (u.0 ∙ t.0, subst (λ x. Takes means old x nu) (pieces-more lo lt (next_lo hi ss) (next_lo hi ts) m ms t.0 (next_lo-taken means hi hi (m ∷ []) ss ts t.3)) both, u.2 ∙ t.2, taken-more hi m ms ss ts us t.3 u.3)

    -- lists that stay under a message and then under others stay under all
    kept-more : (ks : List ℕ) (hi : Option (List ℕ)) (m : Msg U V) (ms : List (Msg U V)) (ss ts us : PSlots U V) → HaveTaken means ss (batches_by_slot hi (m ∷ []) ss) ts → KeepLists ks (batches_by_slot hi (m ∷ []) ss) ss ts → KeepLists ks (batches_by_slot hi ms ts) ts us → KeepLists ks (batches_by_slot hi (m ∷ ms) ss) ss us
    kept-more ks hi m ms none ts us t a b = tt
    kept-more [] hi m ms (more lo old n ss) ts us t a b = tt
    kept-more (k ∷ ks) hi m ms (more lo old n ss) none us t a b = absurd t
    kept-more (k ∷ ks) hi m ms (more lo old n ss) (more lt nt ct ts) none t a b = tt
    kept-more (k ∷ ks) hi m ms (more lo old n ss) (more lt nt ct ts) (more lu nu cu us) t a b =
        let first = pieces lo (next_lo hi ss) (m ∷ []) in
        let later = pieces lt (next_lo hi ts) ms in
        let all = pieces-more lo lt (next_lo hi ss) (next_lo hi ts) m ms t.0 (next_lo-taken means hi hi (m ∷ []) ss ts t.3) in
        (λ z. b.0 z ∙ ap (λ x. x ++ later) (a.0 z) ∙ append_assoc old first later ∙ ap (λ x. old ++ x) all, kept-more ks hi m ms ss ts us t.3 a.1 b.1)

-- ---- in the words of the code: the oldest message m goes to the slot i, whose list is p after it, and the messages ms are
-- left, with the numbers homes

module _ {U V : Type 0} (all : List (Msg U V)) (m : Msg U V) (ms : List (Msg U V)) (places : List ℕ) (i : ℕ) (homes : List ℕ) (xs : List (Slot U V)) where
  -- where each message has its slot, so has the oldest
  both_homes : all ≡ m ∷ ms → places ≡ i ∷ homes → HaveHomes (length all) xs all places → HaveHomes (suc (length ms)) xs (m ∷ ms) (i ∷ homes)
  both_homes w h have = subst (λ z. HaveHomes (suc (length ms)) xs (m ∷ ms) z) h (subst (λ z. HaveHomes (length z) xs z places) w have)

  pub is_there : all ≡ m ∷ ms → places ≡ i ∷ homes → HaveHomes (length all) xs all places → i < length xs
  is_there w h have = room-bound xs i (suc (length ms)) (both_homes w h have).1

module _ {U V : Type 0} (means : U → Option V → Option V) (all : List (Msg U V)) (m : Msg U V) (ms : List (Msg U V)) (places : List ℕ) (i : ℕ) (homes : List ℕ) (xs : List (Slot U V)) (d : Slot U V) where
  pub has_room : all ≡ m ∷ ms → places ≡ i ∷ homes → HaveHomes (length all) xs all places → 0 < (get_or xs i d).pending.1
  has_room w h have =
      let enough = room-get xs i (suc (length ms)) d (both_homes all m ms places i homes xs w h have).1 in
      omega (arith, enough)

  pub left_homes : (p : List (Msg U V) × ℕ) → all ≡ m ∷ ms → places ≡ i ∷ homes → (get_or xs i d).pending.1 ≤ p.1 + 1 → HaveHomes (length all) xs all places → HaveHomes (length ms) (relisted xs i d p) ms homes
  left_homes p w h b have = homes-relisted ms homes xs i (suc (length ms)) (length ms) d p (omega arith) (omega (arith, b)) (both_homes all m ms places i homes xs w h have).2

  one_taken : (p : List (Msg U V) × ℕ) → all ≡ m ∷ ms → places ≡ i ∷ homes → HaveHomes (length all) xs all places → Takes means (get_or xs i d).pending.0 (m ∷ []) p.0 → HaveTaken means (seen_slots xs) (batches_by_slot None (m ∷ []) (seen_slots xs)) (seen_slots (relisted xs i d p))
  one_taken p w h have t = subst (λ z. HaveTaken means (seen_slots xs) z (seen_slots (relisted xs i d p))) (both_homes all m ms places i homes xs w h have).0 (taken-at means (m ∷ []) xs i d p (is_there all m ms places i homes xs w h have) t)

  pub all_taken : (p : List (Msg U V) × ℕ) (us : PSlots U V) → all ≡ m ∷ ms → places ≡ i ∷ homes → HaveHomes (length all) xs all places → Takes means (get_or xs i d).pending.0 (m ∷ []) p.0
      → HaveTaken means (seen_slots (relisted xs i d p)) (batches_by_slot None ms (seen_slots (relisted xs i d p))) us → HaveTaken means (seen_slots xs) (batches_by_slot None all (seen_slots xs)) us
  all_taken p us w h have t later =
      subst (λ z. HaveTaken means (seen_slots xs) (batches_by_slot None z (seen_slots xs)) us) (sym w) (taken-more means None m ms (seen_slots xs) (seen_slots (relisted xs i d p)) us (one_taken p w h have t) later)

  pub all_kept : (ks : List ℕ) (p : List (Msg U V) × ℕ) (us : PSlots U V) → all ≡ m ∷ ms → places ≡ i ∷ homes → HaveHomes (length all) xs all places → Takes means (get_or xs i d).pending.0 (m ∷ []) p.0
      → (0 < get_or ks i 0 → p.0 ≡ (get_or xs i d).pending.0 ++ m ∷ []) → KeepLists ks (batches_by_slot None ms (seen_slots (relisted xs i d p))) (seen_slots (relisted xs i d p)) us → KeepLists ks (batches_by_slot None all (seen_slots xs)) (seen_slots xs) us
  all_kept ks p us w h have t same later =
      let ss = seen_slots xs in
      let ts = seen_slots (relisted xs i d p) in
      let one : KeepLists ks (batches_by_slot None (m ∷ []) ss) ss ts = subst (λ z. KeepLists ks z ss ts) (both_homes all m ms places i homes xs w h have).0 (kept-at ks (m ∷ []) xs i d p (is_there all m ms places i homes xs w h have) same) in
      subst (λ z. KeepLists ks (batches_by_slot None z ss) ss us) (sym w) (kept-more means ks None m ms ss ts us (one_taken p w h have t) one later)

module _ {U V : Type 0} where
  pub none_taken : (means : U → Option V → Option V) (all : List (Msg U V)) (ss : PSlots U V) → all ≡ [] → HaveTaken means ss (batches_by_slot None all ss) ss
  none_taken means all ss w = subst (λ z. HaveTaken means ss (batches_by_slot None z ss) ss) (sym w) (taken-none means ss)

  pub none_kept : (ks : List ℕ) (all : List (Msg U V)) (ss : PSlots U V) → all ≡ [] → KeepLists ks (batches_by_slot None all ss) ss ss
  none_kept ks all ss w = subst (λ z. KeepLists ks (batches_by_slot None z ss) ss ss) (sym w) (kept-none ks ss)

-- ---- one message alone

module _ {U V : Type 0} {T X : Type 0} (r : Result T X) (m : Msg U V) (xs : List (Slot U V)) (i : ℕ) (d : Slot U V) (p : List (Msg U V) × ℕ) where
  pub one_appended : (means : U → Option V → Option V) → IsHome i m (seen_slots xs) → i < length xs → OnOk r (Takes means (get_or xs i d).pending.0 (m ∷ []) p.0) → OnOk r (HaveTaken means (seen_slots xs) (batches_by_slot None (m ∷ []) (seen_slots xs)) (seen_slots (relisted xs i d p)))
  one_appended means h b ok =
      on_ok_weaker r (λ (t : Takes means (get_or xs i d).pending.0 (m ∷ []) p.0). subst (λ z. HaveTaken means (seen_slots xs) z (seen_slots (relisted xs i d p))) h (taken-at means (m ∷ []) xs i d p b t)) ok

module _ {U V : Type 0} {T X : Type 0} where
  pub one_refused : (r : Result T X) (xs : List (Slot U V)) (i : ℕ) (d : Slot U V) (p : List (Msg U V) × ℕ) → OnErr r (p.0 ≡ (get_or xs i d).pending.0) → OnErr r (map see_slot (relisted xs i d p) ≡ map see_slot xs)
  one_refused (Ok x) xs i d p e = tt
  one_refused (Err x) xs i d p e = see-pending xs i d p e
