-- Lists of messages end to end.
use Rattle.std.proofs.Common.{ℕ, ◌+◌, ◌<◌, ◌≡◌, refl, sym, ap, ◌∙◌, List, [], ◌∷◌, ◌++◌, length, take, get_or, false, ◌||◌, Option, Some, arith, subst, length-append, cond}
use Rattle.std.proofs.lemmas.Bool.{or_parts, or_from}
use Rattle.std.proofs.lemmas.List.{take_more}
use Rattle.std.specs.List.{list_any}
use Rattle.message.specs.declared.msg.Msg.{Msg}
use Rattle.message.specs.declared.msg.Msg.TheVariants.{Put as PutMsg, Del as DelMsg, DelRange, Edit as EditMsg}
use Rattle.message.specs.Cuts.{cut_to, LieIn}
use Rattle.message.specs.PointKeys.{clears, is_cleared}
use Rattle.message.specs.Effects.{touches, any_touches, made_of, effect, effects, range_count, Takes}

module _ {U V : Type 0} where
  -- what neither of two lists touches, both end to end do not touch
  pub any_touches-append : (xs ys : List (Msg U V)) (k : List ℕ) → any_touches xs k ≡ false → any_touches ys k ≡ false → any_touches (xs ++ ys) k ≡ false
  any_touches-append [] ys k h g = g
  any_touches-append (x ∷ xs) ys k h g = (let p = or_parts (touches x k) (any_touches xs k) h in or_from (touches x k) (any_touches (xs ++ ys) k) p.0 (any_touches-append xs ys k p.1 g))

  -- how many range-deletes there are in two lists end to end
  pub count_append : (xs ys : List (Msg U V)) → range_count (xs ++ ys) ≡ range_count xs + range_count ys
  count_append [] ys = omega (arith)
  count_append (PutMsg q v ∷ xs) ys = count_append xs ys
  count_append (DelMsg q ∷ xs) ys = count_append xs ys
  count_append (DelRange r ∷ xs) ys = omega (arith, count_append xs ys)
  count_append (EditMsg q u ∷ xs) ys = count_append xs ys

module _ {U V : Type 0} (means : U → Option V → Option V) where
  -- messages none of which touches a key leave its value as it is
  pub untouched : (ms : List (Msg U V)) (k : List ℕ) (o : Option V) → any_touches ms k ≡ false → effects means ms k o ≡ o
  untouched [] k o h = refl
  untouched (m ∷ ms) k o h = (let p = or_parts (touches m k) (any_touches ms k) h in ap (λ c. effects means ms k (cond c (made_of means m o) o)) p.0 ∙ untouched ms k o p.1)

  -- two lists end to end mean the first and then the second
  pub effects-append : (xs ys : List (Msg U V)) (k : List ℕ) (o : Option V) → effects means (xs ++ ys) k o ≡ effects means ys k (effects means xs k o)
  effects-append [] ys k o = refl
  effects-append (x ∷ xs) ys k o = effects-append xs ys k (effect means x k o)

  -- a list takes what is put behind it
  pub takes-append : (xs ys : List (Msg U V)) → Takes means xs ys (xs ++ ys)
  takes-append xs ys = record {
    meaning = λ k v. effects-append xs ys k v;
    bound = omega (arith, length-append xs ys);
    touched = λ k h g. any_touches-append xs ys k h g;
  }

  -- one message more of a list
  effects_more : (xs : List (Msg U V)) (i : ℕ) (d : Msg U V) (k : List ℕ) (o v : Option V) → i < length xs → v ≡ effect means (get_or xs i d) k (effects means (take i xs) k o) → v ≡ effects means (take (i + 1) xs) k o
  effects_more xs i d k o v h e = e ∙ sym (ap (λ t. effects means t k o) (take_more xs i d h) ∙ effects-append (take i xs) (get_or xs i d ∷ []) k o)

  -- one turn of a loop over the messages
  pub effects_turn : (xs : List (Msg U V)) (i : ℕ) (d : Msg U V) (k : List ℕ) (o w v : Option V) → i < length xs → d ≡ get_or xs i d → w ≡ effects means (take i xs) k o → v ≡ effect means d k w → v ≡ effects means (take (i + 1) xs) k o
  effects_turn xs i d k o w v h e f g = effects_more xs i d k o v h (g ∙ ap (λ x. effect means x k w) e ∙ ap (λ x. effect means (get_or xs i d) k x) f)

-- ---- tests of all messages of a list

module _ {U V : Type 0} where
  pub any_touched : (ms : List (Msg U V)) (k : List ℕ) → list_any (λ m. touches m k) ms ≡ any_touches ms k
  any_touched [] k = refl
  any_touched (m ∷ ms) k = ap (λ b. touches m k || b) (any_touched ms k)

  pub any_cleared : (ms : List (Msg U V)) (k : List ℕ) → list_any (λ m. clears m k) ms ≡ is_cleared ms k
  any_cleared [] k = refl
  any_cleared (m ∷ ms) k = ap (λ b. clears m k || b) (any_cleared ms k)

  lies_more : (lo : List ℕ) (hi : Option (List ℕ)) (xs : List (Msg U V)) (x : Msg U V) → LieIn lo hi xs → cut_to lo hi x ≡ Some x → LieIn lo hi (xs ++ x ∷ [])
  lies_more lo hi [] x h e = (e, tt)
  lies_more lo hi (y ∷ xs) x h e = (h.0, lies_more lo hi xs x h.1 e)

  -- one turn of a loop over the messages
  pub lies_turn : (lo : List ℕ) (hi : Option (List ℕ)) (xs : List (Msg U V)) (i : ℕ) (d : Msg U V) → i < length xs → d ≡ get_or xs i d → LieIn lo hi (take i xs) → cut_to lo hi d ≡ Some d → LieIn lo hi (take (i + 1) xs)
  lies_turn lo hi xs i d h e g c = subst (λ ys. LieIn lo hi ys) (sym (take_more xs i d h ∙ ap (λ y. take i xs ++ y ∷ []) (sym e))) (lies_more lo hi (take i xs) d g c)
