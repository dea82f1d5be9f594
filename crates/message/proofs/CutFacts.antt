-- Messages cut to a range mean inside it what the whole messages mean, and outside it nothing.
use Rattle.std.proofs.Common.{◌≡◌, ℕ, Bool, true, false, List, [], ◌∷◌, refl, ap, sym, ◌∙◌, Option, Some, None, cond}
use Rattle.std.specs.Prelude.{◌||◌}
use Rattle.std.specs.Option.{option_to_list}
use Rattle.pathkey.specs.Order.{same}
use Rattle.pathkey.specs.Keys.{is_below}
use Rattle.pathkey.specs.declared.range.KeyRange.{KeyRange}
use Rattle.message.specs.declared.msg.Msg.{Msg}
use Rattle.message.specs.declared.msg.Msg.TheVariants.{Put, Del, DelRange, Edit}
use Rattle.message.specs.Ranges.{within, later_key, earlier_end}
use Rattle.message.specs.Effects.{touches, any_touches, effect, effects}
use Rattle.message.specs.Cuts.{cut_to, pieces, IsCut}
use Rattle.message.proofs.KeyOrder.{within-cut, cut_within, empty_by, apart_by, within-same}
use Rattle.message.proofs.Lists.{effects-append}

-- a key inside a range is none outside it
not_same : (lo q k : List ℕ) (hi : Option (List ℕ)) → within lo hi k ≡ false → within lo hi q ≡ true → same q k ≡ false
not_same lo q k hi out in_range = elim (same q k) as (λ c. same q k ≡ c → same q k ≡ false) [
  | true ↦ λ e. (let f : within lo hi q ≡ within lo hi k = within-same lo q k hi e in cc)
  | false ↦ λ e. e
] refl

module _ {U V : Type 0} where
  -- a message that is kept, if at all, where it does not touch the key
  kept_or_none : (b : Bool) (m : Msg U V) (k : List ℕ) → (b ≡ true → touches m k ≡ false) → any_touches (option_to_list (cond b (Some m) None)) k ≡ false
  kept_or_none true m k f = ap (λ c. c || false) (f refl)
  kept_or_none false m k f = refl

  -- outside the range a piece touches no key
  pub cut_outside : (lo : List ℕ) (hi : Option (List ℕ)) (m : Msg U V) (k : List ℕ) → within lo hi k ≡ false → any_touches (option_to_list (cut_to lo hi m)) k ≡ false
  cut_outside lo hi (Put q v) k h = kept_or_none (within lo hi q) (Put q v) k (λ e. not_same lo q k hi h e)
  cut_outside lo hi (Del q) k h = kept_or_none (within lo hi q) (Del q) k (λ e. not_same lo q k hi h e)
  cut_outside lo hi (Edit q u) k h = kept_or_none (within lo hi q) (Edit q u) k (λ e. not_same lo q k hi h e)
  cut_outside lo hi (DelRange r) k h =
      let l = later_key lo r.lo in
      let e = earlier_end hi r.hi in
      kept_or_none (is_below l e) (DelRange (record { lo = l; hi = e })) k (λ _. cut_within lo r.lo hi r.hi k h)

module _ {U V : Type 0} (means : U → Option V → Option V) where
  -- a message that is left out only where it changes nothing
  chosen : (m : Msg U V) (b : Bool) (k : List ℕ) (o : Option V) → (b ≡ false → effect means m k o ≡ o) → effects means (option_to_list (cond b (Some m) None)) k o ≡ effect means m k o
  chosen m true k o h = refl
  chosen m false k o h = sym (h refl)

  -- inside the range a piece has the message's effect
  pub effects-cut : (lo : List ℕ) (hi : Option (List ℕ)) (m : Msg U V) (k : List ℕ) (o : Option V) → within lo hi k ≡ true → effects means (option_to_list (cut_to lo hi m)) k o ≡ effect means m k o
  effects-cut lo hi (Put q v) k o h = chosen (Put q v) (within lo hi q) k o (λ f. ap (λ c. cond c (Some v) o) (apart_by (same q k) lo q k hi refl f h))
  effects-cut lo hi (Del q) k o h = chosen (Del q) (within lo hi q) k o (λ f. ap (λ c. cond c None o) (apart_by (same q k) lo q k hi refl f h))
  effects-cut lo hi (Edit q u) k o h = chosen (Edit q u) (within lo hi q) k o (λ f. ap (λ c. cond c (means u o) o) (apart_by (same q k) lo q k hi refl f h))
  effects-cut lo hi (DelRange r) k o h =
      let l = later_key lo r.lo in
      let e = earlier_end hi r.hi in
      chosen (DelRange (record { lo = l; hi = e })) (is_below l e) k o (λ f. ap (λ c. cond c None o) (empty_by (within l e k) l k e refl f)) ∙ ap (λ c. cond c None o) (within-cut lo r.lo hi r.hi k h)

  -- inside the range the pieces of messages mean what the messages mean
  pub effects-pieces : (lo : List ℕ) (hi : Option (List ℕ)) (ms : List (Msg U V)) (k : List ℕ) (o : Option V) → within lo hi k ≡ true → effects means (pieces lo hi ms) k o ≡ effects means ms k o
  effects-pieces lo hi [] k o h = refl
  effects-pieces lo hi (m ∷ ms) k o h = effects-append means (option_to_list (cut_to lo hi m)) (pieces lo hi ms) k o ∙ effects-pieces lo hi ms k _ h ∙ ap (λ x. effects means ms k x) (effects-cut lo hi m k o h)

  -- a message cut to a range is its part there
  pub cut_is : (m : Msg U V) (range : KeyRange) → IsCut means m range (cut_to range.lo range.hi m)
  cut_is m range = record {
    inside = λ k old h. effects-cut range.lo range.hi m k old h;
    outside = λ k h. cut_outside range.lo range.hi m k h;
  }
