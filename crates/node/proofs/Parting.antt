-- A slot cut in two at a pivot, whatever its child is.
use Rattle.std.proofs.Common.{◌≡◌, ℕ, ◌+◌, ◌≤◌, Bool, true, false, List, [], ◌∷◌, length, take, drop, refl, ap, ◌∙◌, arith, cond, Option, Some, None, pred, length-append}
use Rattle.std.specs.Prelude.{◌&&◌}
use Rattle.std.specs.Option.{option_to_list}
use Rattle.pathkey.specs.Keys.{is_below}
use Rattle.pathkey.proofs.KeyOrder.{not_reaches_from_before, before_from_not_reaches}
use Rattle.message.specs.declared.msg.Msg.{Msg}
use Rattle.message.specs.declared.msg.Msg.TheVariants.{Put, Del, DelRange, Edit}
use Rattle.message.specs.Ranges.{reaches, before, later_key, earlier_end}
use Rattle.message.specs.Cuts.{cut_to, pieces}
use Rattle.message.specs.Effects.{effects, Takes, range_count}
use Rattle.message.proofs.CutFacts.{effects-pieces}
use Rattle.message.proofs.KeyOrder.{both}
use Rattle.node.specs.declared.shape.Shape.{Shape}
use Rattle.node.specs.Pure.{PNode, PSlots, none, more}
use Rattle.node.specs.Meaning.{value}
use Rattle.node.specs.Lawful.{IsLawfulNode, AreLawfulSlots, TouchOnly}
use Rattle.node.specs.Sinks.{Sinks}
use Rattle.node.proofs.Appending.{pieces_outside}
use Rattle.node.proofs.Sinking.{pieces_end, touch_only-drop}

module _ {U V : Type 0} where
  -- a message for one key stands on one side
  one_side : (x y z : Bool) (m : Msg U V) → (y ≡ true → z ≡ false) → length (option_to_list (cond (x && y) (Some m) None)) + length (option_to_list (cond (z && true) (Some m) None)) ≤ 1
  one_side true true true m h = absurd (let e = h refl in (cc))
  one_side true true false m h = omega arith
  one_side true false true m h = omega arith
  one_side true false false m h = omega arith
  one_side false y true m h = omega arith
  one_side false y false m h = omega arith

  -- a part is at most one message
  at_most_one : (b : Bool) (m : Msg U V) → length (option_to_list (cond b (Some m) None)) ≤ 1
  at_most_one true m = omega arith
  at_most_one false m = omega arith

  -- only range-deletes stand on both sides of a pivot
  pub pieces-apart : (lo p : List ℕ) (ms : List (Msg U V)) → length (pieces lo (Some p) ms) + length (pieces p None ms) ≤ length ms + range_count ms
  pieces-apart lo p [] = omega arith
  pieces-apart lo p (Put q v ∷ ms) = omega (arith, pieces-apart lo p ms, one_side (reaches lo q) (before q p) (reaches p q) (Put q v) (not_reaches_from_before q p), length-append (option_to_list (cut_to lo (Some p) (Put q v))) (pieces lo (Some p) ms), length-append (option_to_list (cut_to p None (Put q v))) (pieces p None ms))
  pieces-apart lo p (Del q ∷ ms) = omega (arith, pieces-apart lo p ms, one_side (reaches lo q) (before q p) (reaches p q) (Del q) (not_reaches_from_before q p), length-append (option_to_list (cut_to lo (Some p) (Del q))) (pieces lo (Some p) ms), length-append (option_to_list (cut_to p None (Del q))) (pieces p None ms))
  pieces-apart lo p (Edit q u ∷ ms) = omega (arith, pieces-apart lo p ms, one_side (reaches lo q) (before q p) (reaches p q) (Edit q u) (not_reaches_from_before q p), length-append (option_to_list (cut_to lo (Some p) (Edit q u))) (pieces lo (Some p) ms), length-append (option_to_list (cut_to p None (Edit q u))) (pieces p None ms))
  pieces-apart lo p (DelRange r ∷ ms) =
      let a = at_most_one (is_below (later_key lo r.lo) (earlier_end (Some p) r.hi)) (DelRange (record { lo = later_key lo r.lo; hi = earlier_end (Some p) r.hi })) in
      let b = at_most_one (is_below (later_key p r.lo) (earlier_end None r.hi)) (DelRange (record { lo = later_key p r.lo; hi = earlier_end None r.hi })) in
      omega (arith, pieces-apart lo p ms, a, b, length-append (option_to_list (cut_to lo (Some p) (DelRange r))) (pieces lo (Some p) ms), length-append (option_to_list (cut_to p None (DelRange r))) (pieces p None ms))

  -- the oldest n of the messages `ms` went into the child c, which is x before the pivot and y from it on; the other
  -- messages were cut there
  pub record Parted (means : U → Option V → Option V) (n : ℕ) (lo pivot : List ℕ) (ms lm rm : List (Msg U V)) (c x y : PNode U V) : Type 0 where
    pub left_msgs : Takes means [] (pieces lo (Some pivot) (drop n ms)) lm
    pub right_msgs : Takes means [] (pieces pivot None (drop n ms)) rm
    pub below : (k : List ℕ) → reaches pivot k ≡ false → value means x k ≡ effects means (take n ms) k (value means c k)
    pub above : (k : List ℕ) → reaches pivot k ≡ true → value means y k ≡ effects means (take n ms) k (value means c k)

  module _ (means : U → Option V → Option V) (n : ℕ) (lo pivot : List ℕ) (ms lm rm : List (Msg U V)) (c x y : PNode U V) (p : Parted means n lo pivot ms lm rm c x y) where
    -- the slot before
    abbrev old : PSlots U V
    old = more lo ms c none

    -- the two slots after
    abbrev new : PSlots U V
    new = more lo lm x (more pivot rm y none)

    -- only the range-deletes are more
    pub parted_pieces : length lm + length rm ≤ length (drop n ms) + range_count (drop n ms)
    parted_pieces = omega (arith, pieces-apart lo pivot (drop n ms), p.left_msgs.bound, p.right_msgs.bound)

    -- the two slots are lawful where their children are
    pub parted_lawful : (shape : Shape) (h : ℕ) (e : Option (List ℕ)) → TouchOnly lo e ms → before lo pivot ≡ true → is_below pivot e ≡ true → IsLawfulNode shape x (pred h) lo (Some pivot) → IsLawfulNode shape y (pred h) pivot e → AreLawfulSlots shape new h e
    parted_lawful shape h e only low high left right = (
      low,
      (λ k out. p.left_msgs.touched k refl (pieces_outside lo (Some pivot) (drop n ms) k out)),
      left,
      (high, (λ k out. p.right_msgs.touched k refl (pieces_end lo pivot e (drop n ms) (touch_only-drop n lo e ms only) k out)), right, tt),
    )

    -- the messages that went into the child have sunk, and each other means what it meant
    pub parted_sinks : (e : Option (List ℕ)) → Sinks means n e old new
    parted_sinks e = record {
      starts = refl;
      below = λ k w. (elim (reaches pivot k) as (λ b. reaches pivot k ≡ b → cond b (value means y k) (value means x k) ≡ effects means (take n ms) k (value means c k)) [
        | true ↦ λ r. p.above k r
        | false ↦ λ r. p.below k r
      ]) refl;
      above = λ k v w.
          let q = both (reaches lo k) (is_below k e) w in
          (elim (reaches pivot k) as (λ b. reaches pivot k ≡ b → effects means (cond b rm lm) k v ≡ effects means (drop n ms) k v) [
            | true ↦ λ r. p.right_msgs.meaning k v ∙ effects-pieces means pivot None (drop n ms) k v (ap (λ z. z && true) r)
            | false ↦ λ r. p.left_msgs.meaning k v ∙ effects-pieces means lo (Some pivot) (drop n ms) k v (ap (λ z. z && before k pivot) q.0 ∙ before_from_not_reaches pivot k r)
          ]) refl;
    }
