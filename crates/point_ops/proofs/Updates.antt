-- Updates of one key, one after the other.
use Rattle.std.proofs.Common.{◌≡◌, ℕ, zero, suc, ◌+◌, true, false, List, [], ◌∷◌, length, get_or, drop, ◌⊎◌, inl, inr, map, Option, Some, None, refl, ap, sym, subst, ◌∙◌, ◌-◌, ◌<◌, min, arith}
use Rattle.std.proofs.Math.ListN.{set}
use Rattle.std.proofs.lemmas.List.{drop-map, length-map}
use Rattle.std.proofs.lemmas.List.Folds.{fold-map}
use Rattle.std.specs.Global.{Vec}
use Rattle.std.specs.List.{slice_get}
use Rattle.std.specs.Prelude.{IfNone, IfSome, MatchOption}
use Rattle.message.specs.declared.msg.Msg.TheVariants as msg
use Rattle.point_ops.specs.declared.key_ops_repr.KeyOpsRepr.{KeyOpsRepr}
use Rattle.point_ops.specs.declared.key_ops_repr.KeyOpsRepr.TheVariants as waits
use Rattle.point_ops.specs.Changes.{KeyOp, Put, Del, Edit, changed, is_whole, run_effect, run_msgs}
use Rattle.point_ops.specs.KeyOps.{changes_in, edits_effect, IsAppended}

module _ {U V : Type 0} (means : U → Option V → Option V) where
  -- the last update is replaced by one that means it and then f
  pub edits-set_last : (f : Option V → Option V) (us : List U) (i : ℕ) (j d : U) (o : Option V) → i + 1 ≡ length us → ((w : Option V) → means j w ≡ f (means (get_or us i d) w)) → edits_effect means (set us i j) o ≡ f (edits_effect means us o)
  edits-set_last f [] i j d o e h = absurd (omega arith)
  edits-set_last f (u ∷ []) zero j d o e h = h o
  edits-set_last f (u ∷ []) (suc i) j d o e h = absurd (omega arith)
  edits-set_last f (u ∷ (v ∷ us)) zero j d o e h = absurd (omega arith)
  edits-set_last f (u ∷ (v ∷ us)) (suc i) j d o e h = edits-set_last f (v ∷ us) i j d (means u o) (omega arith) h

  -- updates are changes
  pub effect-edits : (us : List U) (o : Option V) → run_effect means (map Edit us) o ≡ edits_effect means us o
  effect-edits us o = fold-map (λ w c. changed means c w) Edit o us

-- operations of which the first does not ask what was there
pub whole_free : {U V : Type 0} (means : U → Option V → Option V) (cs : List (KeyOp U V)) (o p : Option V) → is_whole cs ≡ true → run_effect means cs o ≡ run_effect means cs p
whole_free means [] o p h = absurd (cc)
whole_free means (Put v ∷ cs) o p h = refl
whole_free means (Del ∷ cs) o p h = refl
whole_free means (Edit u ∷ cs) o p h = absurd (cc)

-- the only operation
pub only_is : {X : Type 0} (e : X) (xs : List X) → length xs ≡ 1 → Some e ≡ slice_get xs 0 → e ∷ [] ≡ xs
only_is e [] l h = absurd (omega (arith, l))
only_is e (x ∷ []) l h = (let is : e ≡ x = cc in ap (λ t. t ∷ []) is)
only_is e (x ∷ (y ∷ xs)) l h = absurd (omega (arith, l))

-- the list has one element
pub single : {X : Type 0} (xs : List X) → length xs ≡ 1 → (x : X) × (xs ≡ x ∷ [])
single [] l = absurd (omega (arith, l))
single (x ∷ []) l = (x, refl)
single (x ∷ (y ∷ xs)) l = absurd (omega (arith, l))

-- one update came, and the operations that came are no more
pub appended_run : {U V : Type 0} (means : U → Option V → Option V) (u : U) (newer cs ds : List (KeyOp U V)) (r : Option (ℕ × ℕ)) → Edit u ∷ [] ≡ newer → IfSome r (λ n. IsAppended means (Edit u ∷ []) cs ds n) → IfNone r (ds ≡ cs) → MatchOption r (ds ≡ cs) (IsAppended means newer cs ds)
appended_run means u newer cs ds None e s n = n
appended_run means u newer cs ds (Some k) e s n = subst (λ t. IsAppended means t cs ds k) e s

-- updates ask what was there
pub edits_whole : {U : Type 0} (V : Type 0) (us : List U) → is_whole {U = U} {V = V} (map Edit us) ≡ false
edits_whole V [] = refl
edits_whole V (u ∷ us) = refl

no_put : {U V : Type 0} (us : List U) (v : V) → map Edit us ≡ Put v ∷ [] → ⊥
no_put [] v e = cc
no_put (u ∷ us) v e = cc

-- what waits does not stand for itself, where it is an update or updates
pub asks_in : {U V : Type 0} (w : KeyOpsRepr U V) → ((u : U) × (w ≡ waits.Edit u)) ⊎ ((us : Vec U) × (w ≡ waits.Edits us)) → false ≡ is_whole (changes_in w)
asks_in w (inl p) = sym (ap (λ t. is_whole (changes_in t)) p.1)
asks_in {V = V} w (inr p) = sym (ap (λ t. is_whole (changes_in t)) p.1 ∙ edits_whole V p.0.items)

-- what waits is a put, where contracts see one
pub put_in : {U V : Type 0} (w : KeyOpsRepr U V) (v : V) → changes_in w ≡ Put v ∷ [] → w ≡ waits.Put v
put_in (waits.Put x) v e = ap (λ t. waits.Put t) (cc)
put_in waits.Del v e = absurd (cc)
put_in (waits.Edit u) v e = absurd (cc)
put_in (waits.Edits us) v e = absurd (no_put us.items v e)

-- and an update, or a list of updates
pub edit_in : {U V : Type 0} (w : KeyOpsRepr U V) (u : U) → changes_in w ≡ Edit u ∷ [] → ((x : U) → w ≡ waits.Edit x → ⊥) → ((us : Vec U) → w ≡ waits.Edits us → ⊥) → ⊥
edit_in (waits.Put x) u e f g = cc
edit_in waits.Del u e f g = cc
edit_in (waits.Edit x) u e f g = f x refl
edit_in (waits.Edits us) u e f g = g us refl

-- the first updates are gone
pub left_updates : {U : Type 0} (V : Type 0) (us vs : List U) (n m : ℕ) → m ≡ length us → vs ≡ drop (min n (m - 1)) us → n < length (map {B = KeyOp U V} Edit us) → map {B = KeyOp U V} Edit vs ≡ drop n (map Edit us)
left_updates {U = U} V us vs n m l e h =
    let some : min n (m - 1) ≡ n = omega (arith, h, l, length-map {B = KeyOp U V} us Edit) in
    ap (λ t. map Edit t) (e ∙ ap (λ i. drop i us) some) ∙ sym (drop-map Edit n us)

pub edits_msgs : {U : Type 0} (V : Type 0) (k : List ℕ) (n : ℕ) (us : List U) → run_msgs {U = U} {V = V} k (drop n (map Edit us)) ≡ map (msg.Edit k) (drop n us)
edits_msgs V k zero [] = refl
edits_msgs V k zero (u ∷ us) = ap (λ t. msg.Edit k u ∷ t) (edits_msgs V k zero us)
edits_msgs V k (suc n) [] = refl
edits_msgs V k (suc n) (u ∷ us) = edits_msgs V k n us

pub effect_left : {U V : Type 0} (means : U → Option V → Option V) (n : ℕ) (us : List U) (o : Option V) → run_effect means (drop n (map Edit us)) o ≡ edits_effect means (drop n us) o
effect_left means n us o = ap (λ t. run_effect means t o) (drop-map Edit n us) ∙ effect-edits means (drop n us) o
