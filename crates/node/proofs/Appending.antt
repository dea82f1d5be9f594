-- What an append keeps, and what it makes of the value at each key.
use Rattle.std.proofs.Common.{◌≡◌, ℕ, ◌+◌, ◌≤◌, Bool, true, false, List, [], ◌∷◌, refl, ap, sym, ◌∙◌, subst, Option, Some, None, cond, pred}
use Rattle.std.specs.Prelude.{◌&&◌}
use Rattle.std.specs.Option.{option_to_list}
use Rattle.pathkey.specs.Keys.{is_below}
use Rattle.pathkey.proofs.KeyOrder.{from_start, before_from_not_reaches}
use Rattle.message.specs.declared.msg.Msg.{Msg}
use Rattle.message.specs.Ranges.{reaches, within}
use Rattle.message.specs.Effects.{effects, Takes}
use Rattle.message.specs.Cuts.{cut_to, pieces}
use Rattle.message.proofs.Lists.{any_touches-append}
use Rattle.message.proofs.CutFacts.{cut_outside, effects-pieces}
use Rattle.node.specs.declared.shape.Shape.{Shape}
use Rattle.node.specs.Pure.{PNode, leaf, inner, PSlots, none, more}
use Rattle.node.specs.Meaning.{value, slots_value}
use Rattle.node.specs.Lawful.{slot_count, next_lo, TouchOnly, starts_at, IsLawfulNode, AreLawfulSlots, IsLawfulRoot}
use Rattle.node.specs.Appended.{batches_by_slot, HaveTaken, IsAppended}
use Rattle.node.proofs.Wholes.{taken-none}

module _ {U V : Type 0} where
  -- pieces cut to a range touch no key outside it
  pub pieces_outside : (lo : List ℕ) (hi : Option (List ℕ)) (ms : List (Msg U V)) → TouchOnly lo hi (pieces lo hi ms)
  pieces_outside lo hi [] k out = refl
  pieces_outside lo hi (m ∷ ms) k out = any_touches-append (option_to_list (cut_to lo hi m)) (pieces lo hi ms) k (cut_outside lo hi m k out) (pieces_outside lo hi ms k out)

module _ {U V : Type 0} (means : U → Option V → Option V) where
  touch_only-taken : (lo : List ℕ) (hi : Option (List ℕ)) (old ms new : List (Msg U V)) → Takes means old (pieces lo hi ms) new → TouchOnly lo hi old → TouchOnly lo hi new
  touch_only-taken lo hi old ms new takes only k out = takes.touched k (only k out) (pieces_outside lo hi ms k out)

  pub next_lo-taken : (hi e : Option (List ℕ)) (ms : List (Msg U V)) (ss new : PSlots U V) → HaveTaken means ss (batches_by_slot hi ms ss) new → next_lo e new ≡ next_lo e ss
  next_lo-taken hi e ms none none t = refl
  next_lo-taken hi e ms none (more lo' new' n' ss') t = absurd t
  next_lo-taken hi e ms (more lo old n ss) none t = absurd t
  next_lo-taken hi e ms (more lo old n ss) (more lo' new' n' ss') t = ap (λ (x : List ℕ). Some x) t.0

  pub slot_count-taken : (hi : Option (List ℕ)) (ms : List (Msg U V)) (ss new : PSlots U V) → HaveTaken means ss (batches_by_slot hi ms ss) new → slot_count new ≡ slot_count ss
  slot_count-taken hi ms none none t = refl
  slot_count-taken hi ms none (more lo' new' n' ss') t = absurd t
  slot_count-taken hi ms (more lo old n ss) none t = absurd t
  slot_count-taken hi ms (more lo old n ss) (more lo' new' n' ss') t = ap (λ (x : ℕ). x + 1) (slot_count-taken hi ms ss ss' t.3)

  pub starts_at-taken : (lo : List ℕ) (hi : Option (List ℕ)) (ms : List (Msg U V)) (ss new : PSlots U V) → HaveTaken means ss (batches_by_slot hi ms ss) new → starts_at lo ss → starts_at lo new
  starts_at-taken at hi ms none new t h = absurd h
  starts_at-taken at hi ms (more lo old n ss) none t h = absurd t
  starts_at-taken at hi ms (more lo old n ss) (more lo' new' n' ss') t h = t.0 ∙ h

  lawful-taken : (S : Shape) (h : ℕ) (hi : Option (List ℕ)) (ms : List (Msg U V)) (ss new : PSlots U V) → HaveTaken means ss (batches_by_slot hi ms ss) new → AreLawfulSlots S ss h hi → AreLawfulSlots S new h hi
  lawful-taken S h hi ms none none t l = tt
  lawful-taken S h hi ms none (more lo' new' n' ss') t l = absurd t
  lawful-taken S h hi ms (more lo old n ss) none t l = absurd t
  lawful-taken S h hi ms (more lo old n ss) (more lo' new' n' ss') t l =
      let next : next_lo hi ss ≡ next_lo hi ss' = sym (next_lo-taken hi hi ms ss ss' t.3) in
      let low : lo ≡ lo' = sym t.0 in
      let child : n ≡ n' = sym t.2 in
      let only : TouchOnly lo (next_lo hi ss) new' = touch_only-taken lo (next_lo hi ss) old ms new' t.1 l.1 in (
        subst (λ (x : List ℕ). is_below x (next_lo hi ss') ≡ true) low (subst (λ (x : Option (List ℕ)). is_below lo x ≡ true) next l.0),
        subst (λ (x : List ℕ). TouchOnly x (next_lo hi ss') new') low (subst (λ (x : Option (List ℕ)). TouchOnly lo x new') next only),
        subst (λ (x : PNode U V). IsLawfulNode S x (pred h) lo' (next_lo hi ss')) child (subst (λ (x : List ℕ). IsLawfulNode S n (pred h) x (next_lo hi ss')) low (subst (λ (x : Option (List ℕ)). IsLawfulNode S n (pred h) lo x) next l.2)),
        lawful-taken S h hi ms ss ss' t.3 l.3,
      )

  -- a root stays lawful
  pub lawful-appended : (S : Shape) (h : ℕ) (ms : List (Msg U V)) (n new : PNode U V) → IsAppended means ms n new → IsLawfulRoot S n h → IsLawfulRoot S new h
  lawful-appended S h ms (leaf es) new t l = absurd l
  lawful-appended S h ms (inner ss) (leaf es) t l = absurd t
  lawful-appended S h ms (inner ss) (inner new) t l = (l.0, l.1, subst (λ (x : ℕ). x ≤ S.fanout) (sym (slot_count-taken None ms ss new t)) l.2, starts_at-taken [] None ms ss new t l.3, lawful-taken S h None ms ss new t l.4)

  -- ---- the value at a key

  -- what a list that has taken its pieces makes of a value at a key of its range
  pub effects-taken : (lo : List ℕ) (hi : Option (List ℕ)) (old ms new : List (Msg U V)) (k : List ℕ) (v : Option V) → Takes means old (pieces lo hi ms) new → within lo hi k ≡ true → effects means new k v ≡ effects means ms k (effects means old k v)
  effects-taken lo hi old ms new k v t h = t.meaning k v ∙ effects-pieces means lo hi ms k (effects means old k v) h

  -- likewise for the slot that holds the key
  slot-taken : (lo : List ℕ) (hi : Option (List ℕ)) (old ms new : List (Msg U V)) (n n' : PNode U V) (k : List ℕ) → Takes means old (pieces lo hi ms) new → n' ≡ n → reaches lo k ≡ true → is_below k hi ≡ true
      → effects means new k (value means n' k) ≡ effects means ms k (effects means old k (value means n k))
  slot-taken lo hi old ms new n n' k t same low high =
      ap (λ (x : PNode U V). effects means new k (value means x k)) same ∙ effects-taken lo hi old ms new k (value means n k) t (ap (λ (x : Bool). x && is_below k hi) low ∙ high)

  pub value-taken : (hi : Option (List ℕ)) (ms : List (Msg U V)) (lo : List ℕ) (old : List (Msg U V)) (n : PNode U V) (ss new : PSlots U V) (k : List ℕ) → HaveTaken means (more lo old n ss) (batches_by_slot hi ms (more lo old n ss)) new → reaches lo k ≡ true → is_below k hi ≡ true → slots_value means new k ≡ effects means ms k (slots_value means (more lo old n ss) k)
  value-taken hi ms lo old n ss none k t low high = absurd t
  value-taken hi ms lo old n none (more lo' new' n' none) k t low high = slot-taken lo hi old ms new' n n' k t.1 t.2 low high
  value-taken hi ms lo old n none (more lo' new' n' (more lp' mp' p' ss')) k t low high = absurd t.3
  value-taken hi ms lo old n (more lp o p ss) (more lo' new' n' none) k t low high = absurd t.3
  value-taken hi ms lo old n (more lp o p ss) (more lo' new' n' (more lp' mp' p' ss')) k t low high =
      let begins : reaches lp' k ≡ reaches lp k = ap (λ (x : List ℕ). reaches x k) t.3.0 in
      ap (λ (b : Bool). cond b (slots_value means (more lp' mp' p' ss') k) (effects means new' k (value means n' k))) begins
      ∙ elim (reaches lp k) as (λ b. reaches lp k ≡ b → cond b (slots_value means (more lp' mp' p' ss') k) (effects means new' k (value means n' k)) ≡ effects means ms k (cond b (slots_value means (more lp o p ss) k) (effects means old k (value means n k)))) [
        | true ↦ λ e. value-taken hi ms lp o p ss (more lp' mp' p' ss') k t.3 e high
        | false ↦ λ e. slot-taken lo (Some lp) old ms new' n n' k t.1 t.2 low (before_from_not_reaches lp k e)
      ] refl

  -- an append lays its messages on the value at every key
  pub value-appended : (S : Shape) (h : ℕ) (ms : List (Msg U V)) (n new : PNode U V) → IsAppended means ms n new → IsLawfulRoot S n h → (k : List ℕ) → value means new k ≡ effects means ms k (value means n k)
  value-appended S h ms (leaf es) new t l k = absurd l
  value-appended S h ms (inner ss) (leaf es) t l k = absurd t
  value-appended S h ms (inner none) (inner new) t l k = absurd l.3
  value-appended S h ms (inner (more lo old n ss)) (inner new) t l k = value-taken None ms lo old n ss new k t (ap (λ (x : List ℕ). reaches x k) l.3 ∙ from_start k) refl

  -- a lawful root to which nothing was appended
  pub appended-nothing : (S : Shape) (h : ℕ) (n : PNode U V) → IsLawfulRoot S n h → IsAppended means [] n n
  appended-nothing S h (leaf es) l = absurd l
  appended-nothing S h (inner ss) l = taken-none means ss
