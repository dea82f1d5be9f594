-- Messages for one key.
use Rattle.std.proofs.Common.{◌≡◌, ℕ, List, [], ◌∷◌, get_or, refl, sym, ap, ◌∙◌, Option, Some, Bool, true, false, ◌||◌, arith}
use Rattle.std.specs.Prelude.{Contains}
use Rattle.std.specs.List.{All}
use Rattle.std.proofs.lemmas.List.Elements.{All-head, All-tail, Contains-append_left}
use Rattle.pathkey.specs.Order.{same}
use Rattle.pathkey.specs.Keys.{is_below}
use Rattle.message.specs.declared.msg.Msg.{Msg}
use Rattle.message.specs.declared.msg.Msg.TheVariants.{Put, Del, DelRange, Edit}
use Rattle.message.specs.Effects.{touches, point_key, range_count}
use Rattle.message.specs.Oldest.{first_point}
use Rattle.message.specs.PointKeys.{has_point, is_cleared}
use Rattle.message.specs.Ranges.{earlier_end}
use Rattle.message.specs.Stretches.{is_key, ahead_of, ends_of, all_ends, IsStretch}
use Rattle.message.proofs.PointKeys.{or_none}
use Rattle.message.proofs.SortedStretches.{key_stretch}

or_same : (b : Bool) → (b || b) ≡ b
or_same true = refl
or_same false = refl

module _ {U V : Type 0} where
  touches_key : (k q : List ℕ) (m : Msg U V) → point_key m ≡ Some k → touches m q ≡ same k q
  touches_key k q (Put p v) h = (let e : p ≡ k = cc in ap (λ x. same x q) e)
  touches_key k q (Del p) h = (let e : p ≡ k = cc in ap (λ x. same x q) e)
  touches_key k q (DelRange r) h = absurd (cc)
  touches_key k q (Edit p u) h = (let e : p ≡ k = cc in ap (λ x. same x q) e)

  key_is_end : (k : List ℕ) (m : Msg U V) → point_key m ≡ Some k → Contains (ends_of m) k
  key_is_end k (Put p v) h = (let e : p ≡ k = cc in (0, omega arith, e))
  key_is_end k (Del p) h = (let e : p ≡ k = cc in (0, omega arith, e))
  key_is_end k (DelRange r) h = absurd (cc)
  key_is_end k (Edit p u) h = (let e : p ≡ k = cc in (0, omega arith, e))

  -- each of the messages is for the key
  abbrev pub AreFor : List ℕ → List (Msg U V) → Type 0
  AreFor k ms = All (λ m. point_key m ≡ Some k) ms

  pub key_points : (k q : List ℕ) (ms : List (Msg U V)) → AreFor k ms → first_point ms ≡ Some k → has_point ms q ≡ same k q
  key_points k q [] a f = absurd (cc)
  key_points k q (m ∷ []) a f = or_none (is_key (point_key m) q) ∙ ap (λ o. is_key o q) f
  key_points k q (m ∷ (n ∷ ms)) a f =
      let tail : AreFor k (n ∷ ms) = All-tail (λ m. point_key m ≡ Some k) m (n ∷ ms) a in
      let next : has_point (n ∷ ms) q ≡ same k q = key_points k q (n ∷ ms) tail (All-head (λ m. point_key m ≡ Some k) n ms tail) in
      ap (λ o. is_key o q || has_point (n ∷ ms) q) f ∙ ap (λ b. same k q || b) next ∙ or_same (same k q)

  key_ends : (k : List ℕ) (ms : List (Msg U V)) → first_point ms ≡ Some k → Contains (all_ends ms) k
  key_ends k [] f = absurd (cc)
  key_ends k (m ∷ ms) f = Contains-append_left (ends_of m) (all_ends ms) k (key_is_end k m f)

  -- they act alike from another key on up to theirs
  pub key_alike : (k : List ℕ) (ms : List (Msg U V)) (from : List ℕ) (end : Option (List ℕ)) → AreFor k ms → first_point ms ≡ Some k → same k from ≡ false → is_below from end ≡ true → IsStretch ms from end (earlier_end end (ahead_of from (Some k)))
  key_alike k ms from end a f other low = key_stretch k ms from end (λ q out i d l. touches_key k q (get_or ms i d) (a i d l) ∙ out ∙ sym (touches_key k from (get_or ms i d) (a i d l) ∙ other)) (key_ends k ms f) other low

  -- where no message is a range-delete, none holds a key
  pub none_clears : (ms : List (Msg U V)) (q : List ℕ) → range_count ms ≡ 0 → is_cleared ms q ≡ false
  none_clears [] q h = refl
  none_clears (Put p v ∷ ms) q h = none_clears ms q h
  none_clears (Del p ∷ ms) q h = none_clears ms q h
  none_clears (DelRange r ∷ ms) q h = absurd (omega (arith, h))
  none_clears (Edit p u ∷ ms) q h = none_clears ms q h
