-- Lists that are cut at a pivot.
use Rattle.std.proofs.Common.{◌≡◌, ◌≤◌, ℕ, true, false, List, [], ◌∷◌, ◌++◌, length, refl, ap, sym, ◌∙◌, subst, Option, Some, None, cond, arith, append-nil, length-append}
use Rattle.std.specs.Prelude.{◌&&◌}
use Rattle.std.specs.Option.{option_to_list}
use Rattle.std.proofs.lemmas.Bool.{false_from_ne_true}
use Rattle.pathkey.specs.Keys.{is_below}
use Rattle.pathkey.proofs.KeyOrder.{from_start, reaches-from_not_before}
use Rattle.message.specs.declared.msg.Msg.{Msg}
use Rattle.message.specs.declared.msg.Msg.TheVariants.{Put, Del, DelRange, Edit}
use Rattle.message.specs.Cuts.{cut_range, cut_to, pieces, IsUpTo}
use Rattle.message.specs.Ranges.{within, reaches, before, later_key, earlier_end}
use Rattle.message.proofs.RangeEnds.{later_start}
use Rattle.message.proofs.KeyOrder.{begins_before_end, split_bool}
use Rattle.message.proofs.Parting.{pieces-append, second_false}

-- a key behind which an end stands
below_before : (lo k : List ℕ) (h : Option (List ℕ)) → is_below (later_key lo k) h ≡ true → is_below k h ≡ true
below_before lo k h b = split_bool (before lo k)
    (λ y. subst (λ c. is_below (cond c k lo) h ≡ true) y b)
    (λ n. begins_before_end k lo h (reaches-from_not_before lo k n) (subst (λ c. is_below (cond c k lo) h ≡ true) n b))

module _ {U V : Type 0} where
  -- ---- a part of a part

  one_twice : (lo hi q : List ℕ) (m : Msg U V) → pieces lo None (m ∷ []) ≡ option_to_list (cond (within lo None q) (Some m) None) ++ [] → pieces lo None (option_to_list (cond (within [] (Some hi) q) (Some m) None)) ≡ option_to_list (cond (within lo (Some hi) q) (Some m) None)
  one_twice lo hi q m e =
      ap (λ b. pieces lo None (option_to_list (cond (b && before q hi) (Some m) None))) (from_start q)
      ∙ split_bool (before q hi)
      (λ y.
      ap (λ b. pieces lo None (option_to_list (cond b (Some m) None))) y
      ∙ e
      ∙ append-nil (option_to_list (cond (within lo None q) (Some m) None))
      ∙ sym (ap (λ b. option_to_list (cond (reaches lo q && b) (Some m) None)) y))
      (λ n. ap (λ b. pieces lo None (option_to_list (cond b (Some m) None))) n ∙ sym (ap (λ b. option_to_list (cond b (Some m) None)) (second_false (reaches lo q) (before q hi) n)))

  part_twice : (lo hi : List ℕ) (m : Msg U V) → pieces lo None (option_to_list (cut_to [] (Some hi) m)) ≡ option_to_list (cut_to lo (Some hi) m)
  part_twice lo hi (Put q v) = one_twice lo hi q (Put q v) refl
  part_twice lo hi (Del q) = one_twice lo hi q (Del q) refl
  part_twice lo hi (Edit q u) = one_twice lo hi q (Edit q u) refl
  part_twice lo hi (DelRange r) =
      let end = earlier_end (Some hi) r.hi in
      let low = later_key lo r.lo in
      ap (λ k. pieces lo None (option_to_list (cut_range {U = U} {V = V} k end))) (later_start r.lo)
      ∙ split_bool (is_below r.lo end)
      (λ y.
      ap (λ b. pieces lo None (option_to_list (cond b (Some (DelRange (record { lo = r.lo; hi = end }))) None))) y
      ∙ append-nil (option_to_list (cut_range low end)))
      (λ n.
      ap (λ b. pieces lo None (option_to_list (cond b (Some (DelRange (record { lo = r.lo; hi = end }))) None))) n
      ∙ sym (ap (λ b. option_to_list (cond b (Some (DelRange (record { lo = low; hi = end }))) None)) (false_from_ne_true (is_below low end) (λ y. (let no : false ≡ true = sym n ∙ below_before lo r.lo end y in cc)))))

  -- what is cut at an end and then from a key on
  pub cut_twice : (lo : List ℕ) (hi : List ℕ) (ms : List (Msg U V)) → pieces lo None (pieces [] (Some hi) ms) ≡ pieces lo (Some hi) ms
  cut_twice lo hi [] = refl
  cut_twice lo hi (m ∷ ms) = pieces-append lo None (option_to_list (cut_to [] (Some hi) m)) (pieces [] (Some hi) ms) ∙ ap (λ t. t ++ pieces lo None (pieces [] (Some hi) ms)) (part_twice lo hi m) ∙ ap (λ t. option_to_list (cut_to lo (Some hi) m) ++ t) (cut_twice lo hi ms)

  pub cut_up_to : (lo : List ℕ) (hi : Option (List ℕ)) (all front back : List (Msg U V)) → IsUpTo hi all front → back ≡ pieces lo None front → back ≡ pieces lo hi all
  cut_up_to lo None all front back u e = e ∙ ap (λ t. pieces lo None t) u
  cut_up_to lo (Some hi) all front back u e = e ∙ ap (λ t. pieces lo None t) u ∙ cut_twice lo hi all

  -- ---- how many parts there are

  few_one : (o : Option (Msg U V)) → length (option_to_list o) ≤ 1
  few_one None = omega arith
  few_one (Some m) = omega arith

  pub pieces_few : (lo : List ℕ) (hi : Option (List ℕ)) (ms : List (Msg U V)) → length (pieces lo hi ms) ≤ length ms
  pieces_few lo hi [] = omega arith
  pieces_few lo hi (m ∷ ms) = omega (arith, few_one (cut_to lo hi m), length-append (option_to_list (cut_to lo hi m)) (pieces lo hi ms), pieces_few lo hi ms)

  -- ---- lists end to end

  pub both_parts : (lo : List ℕ) (hi : Option (List ℕ)) (xs ys bs cs whole : List (Msg U V)) → bs ≡ pieces lo hi xs → cs ≡ pieces lo hi ys → xs ++ ys ≡ whole → bs ++ cs ≡ pieces lo hi whole
  both_parts lo hi xs ys bs cs whole b c w = ap (λ t. t ++ cs) b ∙ ap (λ t. pieces lo hi xs ++ t) c ∙ sym (pieces-append lo hi xs ys) ∙ ap (λ t. pieces lo hi t) w
