-- Messages that go into slots without an end, where the messages themselves end with the slots' range.
use Rattle.std.proofs.Common.{◌≡◌, ℕ, ◌+◌, ◌≤◌, zero, suc, Bool, true, false, List, [], ◌∷◌, take, drop, refl, ap, sym, ◌∙◌, subst, Option, Some, None, cond, pred, arith}
use Rattle.std.specs.Prelude.{◌&&◌, ◌||◌}
use Rattle.std.specs.Option.{option_to_list}
use Rattle.std.proofs.lemmas.Bool.{and_right, or_parts}
use Rattle.pathkey.specs.Keys.{is_below}
use Rattle.message.specs.declared.msg.Msg.{Msg}
use Rattle.message.specs.declared.msg.Msg.TheVariants.{Put, Del, DelRange, Edit}
use Rattle.message.specs.Ranges.{reaches, within, later_key, earlier_end}
use Rattle.message.specs.Effects.{touches, any_touches}
use Rattle.message.specs.Cuts.{cut_to, pieces}
use Rattle.message.proofs.KeyOrder.{within-cut}
use Rattle.message.proofs.Lists.{any_touches-append}
use Rattle.message.proofs.CutFacts.{cut_outside}
use Rattle.node.specs.declared.shape.Shape.{Shape}
use Rattle.node.specs.Pure.{PNode, PSlots, none, more}
use Rattle.node.specs.Lawful.{next_lo, pending, TouchOnly, IsLawfulNode, AreLawfulSlots}
use Rattle.node.specs.Appended.{batches_by_slot, HaveTaken}
use Rattle.node.specs.StepRows.{piece_count, emptied}
use Rattle.node.proofs.Appending.{pieces_outside, next_lo-taken}

module _ {U V : Type 0} where
  -- a message that does not touch a key, or none
  if_kept : (b : Bool) (m : Msg U V) (k : List ℕ) → touches m k ≡ false → any_touches (option_to_list (cond b (Some m) None)) k ≡ false
  if_kept true m k f = ap (λ c. c || false) f
  if_kept false m k f = refl

  -- inside the range a piece touches only what the message touches
  cut_inside : (lo : List ℕ) (hi : Option (List ℕ)) (m : Msg U V) (k : List ℕ) → within lo hi k ≡ true → touches m k ≡ false → any_touches (option_to_list (cut_to lo hi m)) k ≡ false
  cut_inside lo hi (Put q v) k h f = if_kept (within lo hi q) (Put q v) k f
  cut_inside lo hi (Del q) k h f = if_kept (within lo hi q) (Del q) k f
  cut_inside lo hi (Edit q u) k h f = if_kept (within lo hi q) (Edit q u) k f
  cut_inside lo hi (DelRange r) k h f =
      let l = later_key lo r.lo in
      let e = earlier_end hi r.hi in
      if_kept (is_below l e) (DelRange (record { lo = l; hi = e })) k (within-cut lo r.lo hi r.hi k h ∙ f)

  -- a piece touches only what the message touches
  cut_touches : (lo : List ℕ) (hi : Option (List ℕ)) (m : Msg U V) (k : List ℕ) → touches m k ≡ false → any_touches (option_to_list (cut_to lo hi m)) k ≡ false
  cut_touches lo hi m k f =
      elim (within lo hi k) as (λ c. within lo hi k ≡ c → any_touches (option_to_list (cut_to lo hi m)) k ≡ false) [
        | true ↦ λ h. cut_inside lo hi m k h f
        | false ↦ λ h. cut_outside lo hi m k h
      ] refl

  -- pieces touch only what the messages touch
  pub pieces_touch : (lo : List ℕ) (hi : Option (List ℕ)) (ms : List (Msg U V)) (k : List ℕ) → any_touches ms k ≡ false → any_touches (pieces lo hi ms) k ≡ false
  pieces_touch lo hi [] k f = refl
  pieces_touch lo hi (m ∷ ms) k f =
      let p = or_parts (touches m k) (any_touches ms k) f in
      any_touches-append (option_to_list (cut_to lo hi m)) (pieces lo hi ms) k (cut_touches lo hi m k p.0) (pieces_touch lo hi ms k p.1)

  -- pieces of messages that end at e lie before e, also where they are cut without an end
  pub pieces_end : (l lo : List ℕ) (e : Option (List ℕ)) (ms : List (Msg U V)) → TouchOnly l e ms → TouchOnly lo e (pieces lo None ms)
  pieces_end l lo e ms only k out =
      elim (reaches lo k) as (λ c. reaches lo k ≡ c → any_touches (pieces lo None ms) k ≡ false) [
        | true ↦ λ r.
            let past : is_below k e ≡ false = ap (λ z. z && is_below k e) (sym r) ∙ out in
            pieces_touch lo None ms k (only k (and_right (reaches l k) (is_below k e) past))
        | false ↦ λ r. pieces_outside lo None ms k (ap (λ z. z && true) r)
      ] refl

  -- the first messages touch only the keys of all
  pub touch_only-take : (n : ℕ) (lo : List ℕ) (hi : Option (List ℕ)) (ms : List (Msg U V)) → TouchOnly lo hi ms → TouchOnly lo hi (take n ms)
  touch_only-take n lo hi ms only k out = any_touches-take n ms k (only k out)
    where
      -- what no message touches none of the first does
      any_touches-take : (n : ℕ) (ms : List (Msg U V)) (k : List ℕ) → any_touches ms k ≡ false → any_touches (take n ms) k ≡ false
      any_touches-take zero ms k h = refl
      any_touches-take (suc n) [] k h = refl
      any_touches-take (suc n) (m ∷ ms) k h = let p = or_parts (touches m k) (any_touches ms k) h in ap (λ c. c || any_touches (take n ms) k) p.0 ∙ any_touches-take n ms k p.1

  -- and so do the others
  pub touch_only-drop : (n : ℕ) (lo : List ℕ) (hi : Option (List ℕ)) (ms : List (Msg U V)) → TouchOnly lo hi ms → TouchOnly lo hi (drop n ms)
  touch_only-drop n lo hi ms only k out = any_touches-drop n ms k (only k out)
    where
      -- nor does one of the others
      any_touches-drop : (n : ℕ) (ms : List (Msg U V)) (k : List ℕ) → any_touches ms k ≡ false → any_touches (drop n ms) k ≡ false
      any_touches-drop zero ms k h = h
      any_touches-drop (suc n) [] k h = h
      any_touches-drop (suc n) (m ∷ ms) k h = any_touches-drop n ms k (or_parts (touches m k) (any_touches ms k) h).1

module _ {U V : Type 0} (means : U → Option V → Option V) where
  -- messages of a range go into slots that end with it as they go into slots without an end
  pub lawful-sunk : (S : Shape) (h : ℕ) (l : List ℕ) (e : Option (List ℕ)) (ms : List (Msg U V)) (ss new : PSlots U V) → TouchOnly l e ms → HaveTaken means ss (batches_by_slot None ms ss) new → AreLawfulSlots S ss h e → AreLawfulSlots S new h e
  lawful-sunk S h l e ms none none only t w = tt
  lawful-sunk S h l e ms none (more lo' new' n' ss') only t w = absurd t
  lawful-sunk S h l e ms (more lo old n ss) none only t w = absurd t
  lawful-sunk S h l e ms (more lo old n ss) (more lo' new' n' ss') only t w =
      let next : next_lo e ss ≡ next_lo e ss' = sym (next_lo-taken means None e ms ss ss' t.3) in
      let low : lo ≡ lo' = sym t.0 in
      let child : n ≡ n' = sym t.2 in
      let taken : TouchOnly lo (next_lo e ss) (pieces lo (next_lo None ss) ms) = slot_batch ss lo in
      let here : TouchOnly lo (next_lo e ss) new' = λ k out. t.1.touched k (w.1 k out) (taken k out) in (
        subst (λ (x : List ℕ). is_below x (next_lo e ss') ≡ true) low (subst (λ (x : Option (List ℕ)). is_below lo x ≡ true) next w.0),
        subst (λ (x : List ℕ). TouchOnly x (next_lo e ss') new') low (subst (λ (x : Option (List ℕ)). TouchOnly lo x new') next here),
        subst (λ (x : PNode U V). IsLawfulNode S x (pred h) lo' (next_lo e ss')) child (subst (λ (x : List ℕ). IsLawfulNode S n (pred h) x (next_lo e ss')) low (subst (λ (x : Option (List ℕ)). IsLawfulNode S n (pred h) lo x) next w.2)),
        lawful-sunk S h l e ms ss ss' only t.3 w.3,
      )
    where
      -- the part of a slot touches only its range
      slot_batch : (ss : PSlots U V) (lo : List ℕ) → TouchOnly lo (next_lo e ss) (pieces lo (next_lo None ss) ms)
      slot_batch none lo = pieces_end l lo e ms only
      slot_batch (more lp o p ss) lo = pieces_outside lo (Some lp) ms

  -- the pieces grow by no more than those of the messages
  pub pending-taken : (ms : List (Msg U V)) (ss new : PSlots U V) → HaveTaken means ss (batches_by_slot None ms ss) new → pending new ≤ pending ss + piece_count ms ss
  pending-taken ms none none t = omega arith
  pending-taken ms none (more lo' new' n' ss') t = absurd t
  pending-taken ms (more lo old n ss) none t = absurd t
  pending-taken ms (more lo old n ss) (more lo' new' n' ss') t = omega (arith, t.1.bound, pending-taken ms ss ss' t.3)

  -- ranges and children stay
  pub emptied-taken : (ms : List (Msg U V)) (ss new : PSlots U V) → HaveTaken means ss (batches_by_slot None ms ss) new → emptied new ≡ emptied ss
  emptied-taken ms none none t = refl
  emptied-taken ms none (more lo' new' n' ss') t = absurd t
  emptied-taken ms (more lo old n ss) none t = absurd t
  emptied-taken ms (more lo old n ss) (more lo' new' n' ss') t = λ i. more (t.0 i) [] (t.2 i) (emptied-taken ms ss ss' t.3 i)
