-- What messages make of a leaf's entries, one after the other.
use Rattle.std.proofs.Common.{◌≡◌, ℕ, ◌+◌, ◌<◌, Bool, true, false, List, [], ◌∷◌, ◌++◌, length, take, get_or, refl, ap, sym, ◌∙◌, subst, Option, Some, None, cond, arith, length-append}
use Rattle.std.specs.Prelude.{◌||◌, ◌&&◌, Result, OnOk, OnErr}
use Rattle.std.proofs.lemmas.Bool.{or_parts}
use Rattle.std.proofs.lemmas.List.{take_more}
use Rattle.pathkey.specs.Order.{same}
use Rattle.pathkey.specs.Keys.{is_in}
use Rattle.pathkey.specs.declared.range.KeyRange.{KeyRange}
use Rattle.pathkey.proofs.OrderFacts.{same_true}
use Rattle.pathkey.proofs.KeyOrder.{from_start}
use Rattle.message.specs.declared.msg.Msg.{Msg}
use Rattle.message.specs.declared.msg.Msg.TheVariants.{Put, Del, DelRange, Edit}
use Rattle.message.specs.Ranges.{within}
use Rattle.message.specs.Effects.{touches, any_touches, made_of, effects}
use Rattle.message.proofs.Lists.{effects-append}
use Rattle.message.proofs.Results.{either_way}
use Rattle.node.specs.Lawful.{Rises, TouchOnly}
use Rattle.node.specs.Meaning.{lookup}
use Rattle.node.specs.Leaves.{IsChanged, Applied}

-- every key lies in the range without ends
all_inside : (k : List ℕ) → within [] None k ≡ true
all_inside k = ap (λ (b : Bool). b && true) (from_start k)

module _ {U V : Type 0} where
  -- the first of messages that touch only a range
  touch_only-front : (lo : List ℕ) (hi : Option (List ℕ)) (xs ys : List (Msg U V)) → TouchOnly lo hi (xs ++ ys) → TouchOnly lo hi xs
  touch_only-front lo hi [] ys t k out = refl
  touch_only-front lo hi (x ∷ xs) ys t k out =
      let p = or_parts (touches x k) (any_touches (xs ++ ys) k) (t k out) in
      ap (λ (b : Bool). b || any_touches xs k) p.0 ∙ touch_only-front lo hi xs ys (λ q o. (or_parts (touches x q) (any_touches (xs ++ ys) q) (t q o)).1) k out

  -- the others
  touch_only-back : (lo : List ℕ) (hi : Option (List ℕ)) (xs ys : List (Msg U V)) → TouchOnly lo hi (xs ++ ys) → TouchOnly lo hi ys
  touch_only-back lo hi [] ys t = t
  touch_only-back lo hi (x ∷ xs) ys t = touch_only-back lo hi xs ys (λ q o. (or_parts (touches x q) (any_touches (xs ++ ys) q) (t q o)).1)

module _ {U V : Type 0} (means : U → Option V → Option V) where
  -- one message, by what it makes of the values of the keys that it touches
  applied_one : (m : Msg U V) (v : Option V) (old new : List (List ℕ × V)) → ((k : List ℕ) → touches m k ≡ true → v ≡ made_of means m (lookup old k)) → IsChanged (touches m) v old new → Applied means (m ∷ []) old new
  applied_one m v old new made h = record {
    value = λ k. h.value k ∙ elim (touches m k) as (λ b. touches m k ≡ b → cond b v (lookup old k) ≡ cond b (made_of means m (lookup old k)) (lookup old k)) [ true ↦ λ t. made k t | false ↦ λ t. refl ] refl;
    rises = λ lo hi r only. h.rises lo hi r (λ k out. (or_parts (touches m k) false (only k out)).0);
    longer = h.longer;
  }

  -- each form of message
  pub applied_put : (m : Msg U V) (q : List ℕ) (v w : V) (old new : List (List ℕ × V)) → m ≡ Put q v → w ≡ v → IsChanged (same q) (Some w) old new → Applied means (m ∷ []) old new
  applied_put m q v w old new is copied h = subst (λ (n : Msg U V). Applied means (n ∷ []) old new) (sym is) (applied_one (Put q v) (Some w) old new (λ k t. ap (λ (x : V). Some x) copied) h)

  pub applied_del : (m : Msg U V) (q : List ℕ) (old new : List (List ℕ × V)) → m ≡ Del q → IsChanged (same q) None old new → Applied means (m ∷ []) old new
  applied_del m q old new is h = subst (λ (n : Msg U V). Applied means (n ∷ []) old new) (sym is) (applied_one (Del q) None old new (λ k t. refl) h)

  pub applied_del_range : (m : Msg U V) (range : KeyRange) (old new : List (List ℕ × V)) → m ≡ DelRange range → IsChanged (is_in range) None old new → Applied means (m ∷ []) old new
  applied_del_range m range old new is h = subst (λ (n : Msg U V). Applied means (n ∷ []) old new) (sym is) (applied_one (DelRange range) None old new (λ k t. refl) h)

  pub applied_edit : (m : Msg U V) (q : List ℕ) (u : U) (old new : List (List ℕ × V)) → m ≡ Edit q u → IsChanged (same q) (means u (lookup old q)) old new → Applied means (m ∷ []) old new
  applied_edit m q u old new is h = subst (λ (n : Msg U V). Applied means (n ∷ []) old new) (sym is) (applied_one (Edit q u) (means u (lookup old q)) old new (λ k t. ap (λ (x : List ℕ). means u (lookup old x)) (same_true q k t)) h)

  -- no message yet
  pub applied_nothing : (es : List (List ℕ × V)) → Applied means [] es es
  applied_nothing es = record { value = λ k. refl; rises = λ lo hi r only. r; longer = omega arith }

  -- messages behind others
  pub applied_then : (xs ys : List (Msg U V)) (old mid new : List (List ℕ × V)) → Applied means xs old mid → Applied means ys mid new → Applied means (xs ++ ys) old new
  applied_then xs ys old mid new a b = record {
    value = λ k. b.value k ∙ ap (λ (o : Option V). effects means ys k o) (a.value k) ∙ sym (effects-append means xs ys k (lookup old k));
    rises = λ lo hi r only. b.rises lo hi (a.rises lo hi r (touch_only-front lo hi xs ys only)) (touch_only-back lo hi xs ys only);
    longer = omega (arith, a.longer, b.longer, length-append xs ys);
  }

  -- one message more
  pub applied_more : (ms : List (Msg U V)) (i : ℕ) (m : Msg U V) (old mid new : List (List ℕ × V)) → i < length ms → m ≡ get_or ms i m → Applied means (take i ms) old mid → Applied means (m ∷ []) mid new → Applied means (take (i + 1) ms) old new
  applied_more ms i m old mid new h at a b =
      subst (λ (xs : List (Msg U V)). Applied means xs old new) (sym (take_more ms i m h ∙ ap (λ (x : Msg U V). take i ms ++ x ∷ []) (sym at))) (applied_then (take i ms) (m ∷ []) old mid new a b)

  -- what is left rises
  pub rising_applied : (ms : List (Msg U V)) (old new : List (List ℕ × V)) → Applied means ms old new → Rises [] None old → Rises [] None new
  rising_applied ms old new a r = a.rises [] None r (λ k out. absurd (let inside : within [] None k ≡ true = all_inside k in cc))

  -- the same whether the message was applied or not
  pub rising_after : {T X : Type 0} (r : Result T X) (m : Msg U V) (old new : List (List ℕ × V)) → OnOk r (Applied means (m ∷ []) old new) → OnErr r (new ≡ old) → Rises [] None old → Rises [] None new
  rising_after r m old new ok err rises = either_way r ok err (λ a. rising_applied (m ∷ []) old new a rises) (λ e. subst (λ (es : List (List ℕ × V)). Rises [] None es) (sym e) rises)
