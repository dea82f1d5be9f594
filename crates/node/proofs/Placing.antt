-- Which slots take a message, and that a lawful root takes every message.
use Rattle.std.proofs.Common.{◌≡◌, ℕ, zero, suc, ◌+◌, ◌++◌, ◌<◌, Bool, true, false, List, [], ◌∷◌, length, get_or, map, refl, ap, sym, ◌∙◌, Option, Some, None, cond, pred, take, arith, add-one}
use Rattle.std.specs.Option.{option_to_list}
use Rattle.std.specs.Prelude.{◌&&◌, ◌||◌}
use Rattle.std.proofs.Math.ListN.{set}
use Rattle.std.proofs.lemmas.List.{append_assoc, append-nil, length-map, get_or-map, map-set}
use Rattle.std.specs.Global.{Vec}
use Rattle.std.proofs.lemmas.Bool.{and_right}
use Rattle.pathkey.specs.Order.{same}
use Rattle.pathkey.specs.Keys.{is_below}
use Rattle.pathkey.proofs.OrderFacts.{same_itself}
use Rattle.pathkey.proofs.KeyOrder.{le_le, from_start, before_from_not_reaches, not_before_from_reaches, reaches-from_before}
use Rattle.message.specs.declared.msg.Msg.{Msg}
use Rattle.message.specs.declared.msg.Msg.TheVariants.{Put, Del, DelRange, Edit}
use Rattle.message.specs.Ranges.{reaches, before, within}
use Rattle.message.specs.Effects.{touches, point_key}
use Rattle.message.specs.Cuts.{cut_to, pieces}
use Rattle.message.specs.Oldest.{first_point}
use Rattle.message.proofs.Parting.{pieces-append}
use Rattle.message.proofs.KeyOrder.{both}
use Rattle.node.specs.declared.node.Slot.{Slot}
use Rattle.node.specs.declared.shape.Shape.{Shape}
use Rattle.node.specs.Meaning.{begins_by, slot_number}
use Rattle.node.specs.Appended.{batches_by_slot, placed}
use Rattle.node.specs.Pure.{PNode, leaf, inner, depth, PSlots, none, more}
use Rattle.node.specs.Lawful.{slot_count, next_lo, TouchOnly, starts_at, IsLawfulNode, AreLawfulSlots, IsLawfulRoot}
use Rattle.node.specs.Searchable.{AreRising, Fits, AllFit, IsRoot, IsSearchable, AreSearchable, see_list}
use Rattle.node.specs.See.{seen_slots}
use Rattle.node.specs.StepRows.{piece_count}
use Rattle.node.proofs.EntryFacts.{rises_all}

abbrev or_empty : Option (List ℕ) → List ℕ
or_empty None = []
or_empty (Some q) = q

-- the next slot begins above a key above which this one begins
pub next_above : (c : Bool) (lo lp q : List ℕ) → reaches lp q ≡ c → before lo lp ≡ true → reaches lo q ≡ false → c ≡ false
next_above false lo lp q e h f = refl
next_above true lo lp q e h f = sym (le_le lo lp q (reaches-from_before lo lp h) e) ∙ f

from : {lo : List ℕ} → lo ≡ [] → (q : List ℕ) → within lo None q ≡ true
from e q = ap (λ x. reaches x q && true) e ∙ ap (λ b. b && true) (from_start q)

module _ {U V : Type 0} where
  -- one message more
  pub placed-batches_by_slot : (hi : Option (List ℕ)) (ms : List (Msg U V)) (m : Msg U V) (ss : PSlots U V) → placed hi m ss (batches_by_slot hi ms ss) ≡ batches_by_slot hi (ms ++ m ∷ []) ss
  placed-batches_by_slot hi ms m none = refl
  placed-batches_by_slot hi ms m (more lo old n ss) =
      let e : pieces lo (next_lo hi ss) ms ++ option_to_list (cut_to lo (next_lo hi ss) m) ≡ pieces lo (next_lo hi ss) (ms ++ m ∷ []) = sym (pieces-append lo (next_lo hi ss) ms (m ∷ []) ∙ ap (λ z. pieces lo (next_lo hi ss) ms ++ z) (append-nil (option_to_list (cut_to lo (next_lo hi ss) m)))) in
      λ i. e i ∷ placed-batches_by_slot hi ms m ss i

  -- no message yet
  pub batches_by_slot-none : (hi : Option (List ℕ)) (xs : List (Slot U V)) → batches_by_slot hi [] (seen_slots xs) ≡ map (λ s. []) xs
  batches_by_slot-none hi [] = refl
  batches_by_slot-none hi (x ∷ xs) = ap (λ z. [] ∷ z) (batches_by_slot-none hi xs)

  pub length-batches_by_slot : (hi : Option (List ℕ)) (ms : List (Msg U V)) (xs : List (Slot U V)) → length (batches_by_slot hi ms (seen_slots xs)) ≡ length xs
  length-batches_by_slot hi ms [] = refl
  length-batches_by_slot hi ms (x ∷ xs) = ap suc (length-batches_by_slot hi ms xs)

  -- the parts with what each slot takes of messages put behind, one message after the other
  abbrev pub all_placed : Option (List ℕ) → List (Msg U V) → PSlots U V → List (List (Msg U V)) → List (List (Msg U V))
  all_placed hi [] ss ps = ps
  all_placed hi (m ∷ ms) ss ps = all_placed hi ms ss (placed hi m ss ps)

  all_placed-batches_by_slot : (hi : Option (List ℕ)) (ms done : List (Msg U V)) (ss : PSlots U V) → all_placed hi ms ss (batches_by_slot hi done ss) ≡ batches_by_slot hi (done ++ ms) ss
  all_placed-batches_by_slot hi [] done ss = ap (λ z. batches_by_slot hi z ss) (sym (append-nil done))
  all_placed-batches_by_slot hi (m ∷ ms) done ss = ap (all_placed hi ms ss) (placed-batches_by_slot hi done m ss) ∙ all_placed-batches_by_slot hi ms (done ++ m ∷ []) ss ∙ ap (λ z. batches_by_slot hi z ss) (append_assoc done (m ∷ []) ms)

  -- all messages, placed one after the other in empty parts
  pub all_placed-empty : (hi : Option (List ℕ)) (ms : List (Msg U V)) (xs : List (Slot U V)) → all_placed hi ms (seen_slots xs) (map (λ s. []) xs) ≡ batches_by_slot hi ms (seen_slots xs)
  all_placed-empty hi ms xs = ap (all_placed hi ms (seen_slots xs)) (sym (batches_by_slot-none hi xs)) ∙ all_placed-batches_by_slot hi ms [] (seen_slots xs)

  -- a message for one key is taken whole where its key lies, and not at all elsewhere
  cut-by : (lo : List ℕ) (hi : Option (List ℕ)) (m : Msg U V) (q : List ℕ) → point_key m ≡ Some q → cut_to lo hi m ≡ cond (within lo hi q) (Some m) None
  cut-by lo hi (Put p v) q e = ap (λ x. cond (within lo hi x) (Some (Put p v)) None) (ap or_empty e)
  cut-by lo hi (Del p) q e = ap (λ x. cond (within lo hi x) (Some (Del p)) None) (ap or_empty e)
  cut-by lo hi (DelRange r) q e = (cc)
  cut-by lo hi (Edit p u) q e = ap (λ x. cond (within lo hi x) (Some (Edit p u)) None) (ap or_empty e)

  out : (lo : List ℕ) (hi : Option (List ℕ)) (m : Msg U V) (q : List ℕ) (p : List (Msg U V)) → point_key m ≡ Some q → within lo hi q ≡ false → p ++ option_to_list (cut_to lo hi m) ≡ p
  out lo hi m q p e f = ap (λ o. p ++ option_to_list o) (cut-by lo hi m q e ∙ ap (λ b. cond b (Some m) None) f) ∙ append-nil p

  inside : (lo : List ℕ) (hi : Option (List ℕ)) (m : Msg U V) (q : List ℕ) (p : List (Msg U V)) → point_key m ≡ Some q → within lo hi q ≡ true → p ++ option_to_list (cut_to lo hi m) ≡ p ++ m ∷ []
  inside lo hi m q p e f = ap (λ o. p ++ option_to_list o) (cut-by lo hi m q e ∙ ap (λ b. cond b (Some m) None) f)

  below_all : (hi : Option (List ℕ)) (m : Msg U V) (q : List ℕ) (ss : PSlots U V) (ps : List (List (Msg U V))) → point_key m ≡ Some q → AreRising ss → begins_by ss q ≡ false → placed hi m ss ps ≡ ps
  below_all hi m q none ps e r f = refl
  below_all hi m q (more lo old n ss) [] e r f = refl
  below_all hi m q (more lo old n none) (p ∷ ps) e r f = ap (λ z. z ∷ ps) (out lo hi m q p e (ap (λ b. b && is_below q hi) f))
  below_all hi m q (more lo old n (more lp o k ss)) (p ∷ ps) e r f =
      let here = out lo (Some lp) m q p e (ap (λ b. b && before q lp) f) in
      let rest = below_all hi m q (more lp o k ss) ps e r.1 (next_above (reaches lp q) lo lp q refl r.0 f) in
      λ i. here i ∷ rest i

  first_taken : (hi : Option (List ℕ)) (m : Msg U V) (q lo : List ℕ) (ss : PSlots U V) (p : List (Msg U V)) → point_key m ≡ Some q → reaches lo q ≡ true → is_below q hi ≡ true → begins_by ss q ≡ false → p ++ option_to_list (cut_to lo (next_lo hi ss) m) ≡ p ++ m ∷ []
  first_taken hi m q lo none p e a b f = inside lo hi m q p e (ap (λ c. c && is_below q hi) a ∙ b)
  first_taken hi m q lo (more lp o k ss) p e a b f = inside lo (Some lp) m q p e (ap (λ c. c && before q lp) a ∙ before_from_not_reaches lp q f)

  not_taken : (hi : Option (List ℕ)) (m : Msg U V) (q lo : List ℕ) (ss : PSlots U V) (p : List (Msg U V)) → point_key m ≡ Some q → begins_by ss q ≡ true → p ++ option_to_list (cut_to lo (next_lo hi ss) m) ≡ p
  not_taken hi m q lo none p e f = (cc)
  not_taken hi m q lo (more lp o k ss) p e f = out lo (Some lp) m q p e (and_right (reaches lo q) (before q lp) (not_before_from_reaches lp q f))

  -- a slot before one that begins at or before a key does too
  pub reached_before : (lo q : List ℕ) (ss : PSlots U V) → is_below lo (next_lo None ss) ≡ true → begins_by ss q ≡ true → reaches lo q ≡ true
  reached_before lo q none b h = (cc)
  reached_before lo q (more lp o k ss) b h = le_le lo lp q (reaches-from_before lo lp b) h

  -- slots that begin at or before a key begin at or before a later one
  pub begins_later : (ss : PSlots U V) (k l : List ℕ) → reaches k l ≡ true → begins_by ss k ≡ true → begins_by ss l ≡ true
  begins_later none k l b h = h
  begins_later (more lo ms n ss) k l b h = le_le lo k l h b

  -- so one of the slots takes it, if the first begins at or before its key
  pub one_piece : (m : Msg U V) (q : List ℕ) (ss : PSlots U V) → point_key m ≡ Some q → AreRising ss → piece_count (m ∷ []) ss ≡ cond (begins_by ss q) 1 0
  one_piece m q none e r = refl
  one_piece m q (more lo old n ss) e r =
      let none_after = λ (ps : List (Msg U V)). ap length (append-nil ps) in
      (elim (begins_by ss q) as (λ c. begins_by ss q ≡ c → length (option_to_list (cut_to lo (next_lo None ss) m) ++ []) + piece_count (m ∷ []) ss ≡ cond (reaches lo q) 1 0) [
        | true ↦ λ f.
            let rest = one_piece m q ss e r.1 ∙ ap {B = ℕ} (λ b. cond b 1 0) f in
            let here = none_after _ ∙ ap length (not_taken None m q lo ss [] e f) in
            let at = ap {B = ℕ} (λ b. cond b 1 0) (reached_before lo q ss r.0 f) in
            omega (arith, rest, here, at)
        | false ↦ λ f.
            let rest = one_piece m q ss e r.1 ∙ ap {B = ℕ} (λ b. cond b 1 0) f in
            (elim (reaches lo q) as (λ c. reaches lo q ≡ c → length (option_to_list (cut_to lo (next_lo None ss) m) ++ []) + piece_count (m ∷ []) ss ≡ cond c 1 0) [
              | true ↦ λ a. omega (arith, rest, none_after _ ∙ ap length (first_taken None m q lo ss [] e a refl f))
              | false ↦ λ a. omega (arith, rest, none_after _ ∙ ap length (out lo (next_lo None ss) m q [] e (ap (λ b. b && is_below q (next_lo None ss)) a)))
            ]) refl
      ]) refl

  pub first_piece : (ms : List (Msg U V)) (q : List ℕ) (ss : PSlots U V) → Some q ≡ first_point ms → AreRising ss → piece_count (take 1 ms) ss ≡ cond (begins_by ss q) 1 0
  first_piece [] q ss e r = absurd (cc)
  first_piece (m ∷ ms) q ss e r = one_piece m q ss (sym e) r

  -- a message for one key goes to the slot that holds it, and to no other
  pub placed-at : (hi : Option (List ℕ)) (m : Msg U V) (q : List ℕ) (ss : PSlots U V) (ps : List (List (Msg U V))) → point_key m ≡ Some q → AreRising ss → begins_by ss q ≡ true → is_below q hi ≡ true → length ps ≡ slot_count ss → placed hi m ss ps ≡ set ps (slot_number ss q) (get_or ps (slot_number ss q) [] ++ m ∷ [])
  placed-at hi m q none ps e r b l h = (cc)
  placed-at hi m q (more lo old n ss) [] e r b l h = absurd (omega arith)
  placed-at hi m q (more lo old n ss) (p ∷ ps) e r b l h =
      (elim (begins_by ss q) as (λ c. begins_by ss q ≡ c → (p ++ option_to_list (cut_to lo (next_lo hi ss) m)) ∷ placed hi m ss ps ≡ set (p ∷ ps) (cond c (slot_number ss q + 1) 0) (get_or (p ∷ ps) (cond c (slot_number ss q + 1) 0) [] ++ m ∷ [])) [
        | true ↦ λ f.
            let here = not_taken hi m q lo ss p e f in
            let rest = placed-at hi m q ss ps e r.1 f l (omega (arith, h)) in
            rw add-one (λ i. here i ∷ rest i)
        | false ↦ λ f.
            let here = first_taken hi m q lo ss p e b l f in
            let rest = below_all hi m q ss ps e r.1 f in
            λ i. here i ∷ rest i
      ]) refl

  touched_itself : (m : Msg U V) (q : List ℕ) → point_key m ≡ Some q → touches m q ≡ true
  touched_itself (Put p v) q e = ap (λ x. same x q) (ap or_empty e) ∙ same_itself q
  touched_itself (Del p) q e = ap (λ x. same x q) (ap or_empty e) ∙ same_itself q
  touched_itself (DelRange r) q e = (cc)
  touched_itself (Edit p u) q e = ap (λ x. same x q) (ap or_empty e) ∙ same_itself q

  begins : (q lo : List ℕ) (m : Msg U V) (hi : Option (List ℕ)) → point_key m ≡ Some q → TouchOnly lo hi (m ∷ []) → within lo hi q ≡ true
  begins q lo m hi e only = elim (within lo hi q) as (λ b. within lo hi q ≡ b → within lo hi q ≡ true) [
    | true ↦ λ f. f
    | false ↦ λ f. absurd (let g : (touches m q || false) ≡ false = only q f in let h : touches m q ≡ true = touched_itself m q e in let k : (true || false) ≡ false = sym (ap (λ b. b || false) h) ∙ g in cc)
  ] refl

  pub slot_count-slots : (xs : List (Slot U V)) → slot_count (seen_slots xs) ≡ length xs
  slot_count-slots [] = refl
  slot_count-slots (x ∷ xs) = ap (λ n. n + 1) (slot_count-slots xs) ∙ add-one (length xs)

  -- the same in the words of the code: v is what the slot's part becomes
  pub placed-set : (hi : Option (List ℕ)) (m : Msg U V) (q : List ℕ) (xs : List (Slot U V)) (ps : List (Vec (Msg U V))) (i : ℕ) (d v : Vec (Msg U V)) → Some q ≡ point_key m → AreRising (seen_slots xs) → Fits hi (seen_slots xs) m → length ps ≡ length xs → i < length xs → i ≡ slot_number (seen_slots xs) q → v.items ≡ (get_or ps i d).items ++ m ∷ [] → map see_list (set ps i v) ≡ placed hi m (seen_slots xs) (map see_list ps)
  placed-set hi m q [] ps i d v e r f l b n h = absurd f
  placed-set hi m q (x ∷ xs) ps i d v e r f l b n h =
      let ss = seen_slots (x ∷ xs) in
      let w = begins q x.lo m hi (sym e) f in
      let p = both (reaches x.lo q) (is_below q hi) w in
      let len : length (map see_list ps) ≡ slot_count ss = length-map ps see_list ∙ l ∙ sym (slot_count-slots (x ∷ xs)) in
      let at : get_or (map see_list ps) i [] ≡ (get_or ps i d).items = get_or-map see_list ps i d [] (omega (arith, l, b)) in
      map-set see_list ps i v
      ∙ ap (λ z. set (map see_list ps) i z) (h ∙ ap (λ z. z ++ m ∷ []) (sym at))
      ∙ ap (λ j. set (map see_list ps) j (get_or (map see_list ps) j [] ++ m ∷ [])) n
      ∙ sym (placed-at hi m q ss (map see_list ps) (sym e) r p.0 p.1 len)

  -- every message fits a root
  fit : (ss : PSlots U V) (m : Msg U V) → starts_at [] ss → Fits None ss m
  fit none m s = s
  fit (more lo old n ss) m s = λ k out. absurd (let f : within lo None k ≡ true = from s k in cc)

  pub all_fit : (ss : PSlots U V) (ms : List (Msg U V)) → starts_at [] ss → AllFit None ss ms
  all_fit ss [] s = tt
  all_fit ss (m ∷ ms) s = (fit ss m s, all_fit ss ms s)

  rising-lawful : (S : Shape) (h : ℕ) (hi : Option (List ℕ)) (ss : PSlots U V) → AreLawfulSlots S ss h hi → AreRising ss
  rising-lawful S h hi none l = tt
  rising-lawful S h hi (more lo ms n none) l = (refl, tt)
  rising-lawful S h hi (more lo ms n (more lp mp np ss)) l = (l.0, rising-lawful S h hi (more lp mp np ss) l.3)

  -- a lawful root takes every message
  pub is_root : (S : Shape) (h : ℕ) (n : PNode U V) → IsLawfulRoot S n h → IsRoot n
  is_root S h (leaf es) l = l
  is_root S h (inner ss) l = (l.3, rising-lawful S h None ss l.4)

  mutual
    pub searchable : (S : Shape) (h : ℕ) (lo : List ℕ) (hi : Option (List ℕ)) (n : PNode U V) → IsLawfulNode S n h lo hi → IsSearchable n
    searchable S h lo hi (leaf es) l = rises_all lo hi es l.2
    searchable S h lo hi (inner ss) l = (rising-lawful S h hi ss l.4, all_searchable S h hi ss l.4)

    all_searchable : (S : Shape) (h : ℕ) (hi : Option (List ℕ)) (ss : PSlots U V) → AreLawfulSlots S ss h hi → AreSearchable ss
    all_searchable S h hi none l = tt
    all_searchable S h hi (more lo ms n ss) l = (searchable S (pred h) lo (next_lo hi ss) n l.2, all_searchable S h hi ss l.3)

  pub searchable_root : (S : Shape) (h : ℕ) (n : PNode U V) → IsLawfulRoot S n h → IsSearchable n
  searchable_root S h (leaf es) l = absurd l
  searchable_root S h (inner ss) l = (rising-lawful S h None ss l.4, all_searchable S h None ss l.4)

  pub searchable_child : (xs : List (Slot U V)) (i : ℕ) (d : Slot U V) → i < length xs → AreSearchable (seen_slots xs) → IsSearchable (get_or xs i d).child.value
  searchable_child [] i d b a = absurd (omega arith)
  searchable_child (x ∷ xs) zero d b a = a.0
  searchable_child (x ∷ xs) (suc i) d b a = searchable_child xs i d (omega arith) a.1

  pub depth_child : (xs : List (Slot U V)) (i : ℕ) (d : Slot U V) → i < length xs → depth (get_or xs i d).child.value < depth (inner (seen_slots xs))
  depth_child [] i d b = absurd (omega arith)
  depth_child (x ∷ xs) zero d b = omega arith
  depth_child (x ∷ xs) (suc i) d b = let r = depth_child xs i d (omega arith) in omega (arith, r)
