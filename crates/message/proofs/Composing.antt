-- Lists that take one after the other.
use Rattle.std.proofs.Common.{◌≡◌, ℕ, List, [], ◌∷◌, ◌++◌, refl, sym, ap, ◌∙◌, Option, false, arith, length-append}
use Rattle.std.proofs.lemmas.Bool.{or_parts, or_from}
use Rattle.message.specs.declared.msg.Msg.{Msg}
use Rattle.message.specs.Effects.{touches, any_touches, effects, Takes}
use Rattle.message.proofs.Lists.{effects-append}

module _ {U V : Type 0} where
  -- what two lists end to end do not touch, neither does the first
  pub untouched_first : (xs ys : List (Msg U V)) (k : List ℕ) → any_touches (xs ++ ys) k ≡ false → any_touches xs k ≡ false
  untouched_first [] ys k h = refl
  untouched_first (x ∷ xs) ys k h = (let p = or_parts (touches x k) (any_touches (xs ++ ys) k) h in or_from (touches x k) (any_touches xs k) p.0 (untouched_first xs ys k p.1))

  -- nor the second
  pub untouched_second : (xs ys : List (Msg U V)) (k : List ℕ) → any_touches (xs ++ ys) k ≡ false → any_touches ys k ≡ false
  untouched_second [] ys k h = h
  untouched_second (x ∷ xs) ys k h = untouched_second xs ys k (or_parts (touches x k) (any_touches (xs ++ ys) k) h).1

module _ {U V : Type 0} (means : U → Option V → Option V) where
  -- a list that takes messages, and then more, takes them all
  pub takes-then : (a x b y c : List (Msg U V)) → Takes means a x b → Takes means b y c → Takes means a (x ++ y) c
  takes-then a x b y c s t = record {
    meaning = λ k v. t.meaning k v ∙ ap (effects means y k) (s.meaning k v) ∙ sym (effects-append means x y k (effects means a k v));
    bound = omega (arith, s.bound, t.bound, length-append x y);
    touched = λ k h g. t.touched k (s.touched k h (untouched_first x y k g)) (untouched_second x y k g);
  }

  -- a list that takes nothing stays
  pub takes-none : (xs : List (Msg U V)) → Takes means xs [] xs
  takes-none xs = record { meaning = λ k v. refl; bound = omega arith; touched = λ k h g. h }

  -- where all takings of what is left end well, so do they after one message more
  pub takes-next : (m : Msg U V) (rest a b old all : List (Msg U V)) → Takes means a (m ∷ []) b → ((c : List (Msg U V)) → Takes means a (m ∷ rest) c → Takes means old all c) → (c : List (Msg U V)) → Takes means b rest c → Takes means old all c
  takes-next m rest a b old all s f c t = f c (takes-then a (m ∷ []) b rest c s t)

  -- likewise after several messages more
  pub takes-on : (xs rest a b old all : List (Msg U V)) → Takes means a xs b → ((c : List (Msg U V)) → Takes means a (xs ++ rest) c → Takes means old all c) → (c : List (Msg U V)) → Takes means b rest c → Takes means old all c
  takes-on xs rest a b old all s f c t = f c (takes-then a xs b rest c s t)

  -- what takes a list that means the same as messages takes those messages
  pub takes-instead : (a x y b : List (Msg U V)) → Takes means [] x y → Takes means a y b → Takes means a x b
  takes-instead a x y b s t = record {
    meaning = λ k v. t.meaning k v ∙ s.meaning k (effects means a k v);
    bound = omega (arith, s.bound, t.bound);
    touched = λ k h g. t.touched k h (s.touched k refl g);
  }
