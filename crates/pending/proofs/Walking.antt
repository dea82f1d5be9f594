-- A walk over the oldest messages.
use Rattle.std.proofs.Common.{◌≡◌, ℕ, zero, suc, List, [], ◌∷◌, ◌++◌, length, drop, refl, sym, ap, ◌∙◌, Option, Some, None}
use Rattle.std.specs.List.{slice_get}
use Rattle.std.specs.Option.{option_map, option_to_list}
use Rattle.std.specs.Prelude.{IfSome, IfNone}
use Rattle.std.proofs.lemmas.Option.{IfSome_then}
use Rattle.message.specs.declared.msg.Msg.{Msg}
use Rattle.point_ops.specs.Changes.{KeyOp, msg_at, run_msgs}
use Rattle.point_ops.specs.PointOps.{point_msgs}
use Rattle.pending.specs.OldestWalk.{first_len, IsWalk}

module _ {U V : Type 0} where
  -- ---- the first key

  pub first_length : (es : List (List ℕ × List (KeyOp U V))) (k : List ℕ) (cs : List (KeyOp U V)) → Some (k, cs) ≡ slice_get es 0 → length cs ≡ first_len es
  first_length [] k cs h = absurd (cc)
  first_length (e ∷ es) k cs h = (let is : (k, cs) ≡ e = cc in ap (λ (x : List ℕ × List (KeyOp U V)). length x.1) is)

  pub none_first : (es : List (List ℕ × List (KeyOp U V))) → None ≡ slice_get es 0 → first_len es ≡ 0
  none_first [] h = refl
  none_first (e ∷ es) h = absurd (cc)

  run_msg : (i : ℕ) (k : List ℕ) (cs : List (KeyOp U V)) (c : KeyOp U V) (ms : List (Msg U V)) → Some c ≡ slice_get cs i → slice_get (run_msgs k cs ++ ms) i ≡ Some (msg_at k c)
  run_msg i k [] c ms h = absurd (cc)
  run_msg zero k (d ∷ cs) c ms h = (let is : d ≡ c = cc in ap (λ x. Some (msg_at k x)) is)
  run_msg (suc i) k (d ∷ cs) c ms h = run_msg i k cs c ms h

  -- its operations are the oldest messages
  pub first_msg : (es : List (List ℕ × List (KeyOp U V))) (i : ℕ) (k : List ℕ) (cs : List (KeyOp U V)) (c : KeyOp U V) → Some (k, cs) ≡ slice_get es 0 → Some c ≡ slice_get cs i → slice_get (point_msgs es) i ≡ Some (msg_at k c)
  first_msg [] i k cs c h g = absurd (cc)
  first_msg (e ∷ es) i k cs c h g =
      let is : e ≡ (k, cs) = cc in
      ap (λ (x : List ℕ × List (KeyOp U V)). slice_get (run_msgs x.0 x.1 ++ point_msgs es) i) is ∙ run_msg i k cs c (point_msgs es) g

  -- ---- the later keys

  pub later_is : {X : Type 0} (f : X → List ℕ × List (KeyOp U V)) (es rest : List (List ℕ × List (KeyOp U V))) (o : Option X) → es ≡ option_to_list (option_map f o) ++ rest → IfNone o (es ≡ []) → rest ≡ drop 1 es
  later_is f es rest None p e = sym p ∙ e ∙ sym (ap (λ t. drop 1 t) e)
  later_is f es rest (Some x) p e = sym (ap (λ t. drop 1 t) p)

  -- ---- messages that are newer than those of the walk

  pub walk_then : (xs ys ms : List (Msg U V)) (o : Option (List (List ℕ × List (KeyOp U V)))) → xs ++ ys ≡ ms → IfSome o (λ w. point_msgs w ≡ xs) → IfSome o (λ w. IsWalk w ms)
  walk_then xs ys ms o whole h = IfSome_then o h (λ w e. record { later = ys; is = sym whole ∙ ap (λ t. t ++ ys) (sym e) })
