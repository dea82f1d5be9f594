-- The oldest message of a list, as the code asks for it, and the oldest few.
use Rattle.std.proofs.Common.{◌≡◌, ℕ, zero, suc, ◌<◌, ◌≤◌, List, [], ◌∷◌, length, length-take, take, refl, ap, sym, ◌∙◌, subst, Option, Some, None, arith, Bool, false, true, Result, ⊎_elim}
use Rattle.std.proofs.lemmas.List.{take-take}
use Rattle.std.proofs.lemmas.Option.{same_Some}
use Rattle.std.specs.Prelude.{Ok, Err, is_ok, is_err}
use Rattle.pathkey.specs.Order.{same}
use Rattle.message.specs.declared.msg.Msg.{Msg}
use Rattle.message.specs.declared.msg.Msg.TheVariants.{Put, Del, DelRange, Edit}
use Rattle.message.specs.Effects.{touches, made_of}
use Rattle.message.specs.Oldest.{given_at, put_at}
use Rattle.node.specs.declared.step.StepReply.{StepReply}
use Rattle.node.specs.declared.step.StepReply.TheVariants.{Did, NotThere, NoRoom, NoMemory}
use Rattle.node.specs.declared.shape.Shape.{Shape}
use Rattle.node.specs.Pure.{PNode, PSlots, leaf, inner}
use Rattle.flush.specs.Sunk.{Sunk, ConsumedInto}
use Rattle.flush.specs.Leaf.{AfterOldest, MayGo}

-- a list that is not empty has a first element
pub first_of : {X : Type 0} (xs : List X) → 0 < length xs → (x : X) × (ys : List X) × (xs ≡ x ∷ ys)
first_of [] h = absurd (omega arith)
first_of (x ∷ ys) h = (x, ys, refl)

-- the first few of the first few
pub take_few : {X : Type 0} (xs : List X) (k n : ℕ) → k ≤ length (take n xs) → take k (take n xs) ≡ take k xs
take_few xs k n h = take-take k n xs (omega (arith, h, length-take n xs))

pub few_long : {X : Type 0} (xs : List X) (n k : ℕ) → k ≤ length (take n xs) → k ≤ length xs
few_long xs n k h = omega (arith, h, length-take n xs)

module _ {U V : Type 0} where
  -- a message that may give a value to a key touches that key alone
  pub given_touches : (m : Msg U V) (q : List ℕ) → given_at m ≡ Some q → (k : List ℕ) → touches m k ≡ same q k
  given_touches (Put p v) q e k = ap (λ x. same x k) (same_Some p q e)
  given_touches (Del p) q e k = (cc)
  given_touches (DelRange r) q e k = (cc)
  given_touches (Edit p u) q e k = ap (λ x. same x k) (same_Some p q e)

  -- one that gives none takes it away
  pub given_none : (means : U → Option V → Option V) (m : Msg U V) → given_at m ≡ None → made_of means m None ≡ None
  given_none means (Put p v) e = (cc)
  given_none means (Del p) e = refl
  given_none means (DelRange r) e = refl
  given_none means (Edit p u) e = (cc)

  -- a put of a key
  pub put_is : (m : Msg U V) (q : List ℕ) → put_at m ≡ Some q → (v : V) × (m ≡ Put q v)
  put_is (Put p v) q e = (v, ap (λ x. Put x v) (same_Some p q e))
  put_is (Del p) q e = (cc)
  put_is (DelRange r) q e = (cc)
  put_is (Edit p u) q e = (cc)

  -- and no put
  pub put_none : (m : Msg U V) → put_at m ≡ None → (q : List ℕ) (v : V) → m ≡ Put q v → ⊥
  put_none m e q v p = let f : None ≡ Some q = sym e ∙ ap put_at p in (cc)

  -- entries after the n oldest messages are those of a list that has as many
  pub after_some : (means : U → Option V → Option V) (n : ℕ) (ms : List (Msg U V)) (c : PNode U V) (es : List (List ℕ × V)) → AfterOldest means n ms c es → n ≤ length ms
  after_some means n ms (leaf fs) es q = q.0
  after_some means n ms (inner cs) es q = absurd q

  -- as many as may go wait, where one does
  pub may_wait : (means : U → Option V → Option V) (shape : Shape) (root : Bool) (ss : PSlots U V) (n : ℕ) (ms : List (Msg U V)) (c : PNode U V) → MayGo means shape root ss n ms c → 0 < length ms → n ≤ length ms
  may_wait means shape root ss n ms c go h = ⊎_elim (λ e. omega (arith, e, h)) (λ p. p.1.0) go.room

  module _ (means : U → Option V → Option V) (most : ℕ) where
    -- what is done with the oldest few messages is done with the oldest of all
    pub few_sunk : (ms : List (Msg U V)) (n : ℕ) (r : StepReply) (c d : PNode U V) → (0 < length ms → 0 < n) → Sunk means most r (take n ms) c d → Sunk means most r ms c d
    few_sunk ms n (Did k) c d some q = (q.0, few_long ms n k q.1, subst (λ xs. ConsumedInto means most xs c d) (take_few ms k n q.1) q.2)
    few_sunk [] zero NotThere c d some q = q
    few_sunk [] (suc n) NotThere c d some q = q
    few_sunk (m ∷ ms) zero NotThere c d some q = absurd (let h : 0 < 0 = some (omega arith) in omega (arith, h))
    few_sunk (m ∷ ms) (suc n) NotThere (leaf es) d some q = q
    few_sunk (m ∷ ms) (suc n) NotThere (inner cs) d some q = q
    few_sunk [] zero NoRoom c d some q = q
    few_sunk [] (suc n) NoRoom c d some q = q
    few_sunk (m ∷ ms) zero NoRoom c d some q = absurd (let h : 0 < 0 = some (omega arith) in omega (arith, h))
    few_sunk (m ∷ ms) (suc n) NoRoom (leaf es) d some q = q
    few_sunk (m ∷ ms) (suc n) NoRoom (inner cs) d some q = q
    few_sunk ms n NoMemory c d some q = q

-- what was found was not missed
pub not_err : (r : Result ℕ ℕ) → is_ok r ≡ true → is_err r ≡ false
not_err (Ok i) h = refl
not_err (Err i) h = (cc)
