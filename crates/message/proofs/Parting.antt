-- Messages that lie on one side of a pivot.
use Rattle.std.proofs.Common.{◌≡◌, ℕ, zero, suc, ◌≤◌, ◌<◌, ◌-◌, Bool, true, false, List, [], ◌∷◌, ◌++◌, length, drop, refl, ap, sym, ◌∙◌, Option, Some, None, arith, append_assoc}
use Rattle.std.specs.Prelude.{◌&&◌}
use Rattle.std.proofs.lemmas.List.{append-nil}
use Rattle.std.specs.Option.{option_to_list}
use Rattle.message.specs.declared.msg.Msg.{Msg}
use Rattle.message.specs.Cuts.{cut_to, pieces, LieIn, LieOut, IsParted}

pub second_false : (b c : Bool) → c ≡ false → (b && c) ≡ false
second_false true c h = h
second_false false c h = refl

module _ {U V : Type 0} where
  -- ---- pieces of a list that lies in the range, or out of it

  pub pieces-in : (lo : List ℕ) (hi : Option (List ℕ)) (ms : List (Msg U V)) → LieIn lo hi ms → pieces lo hi ms ≡ ms
  pieces-in lo hi [] h = refl
  pieces-in lo hi (m ∷ ms) h = ap (λ o. option_to_list o ++ pieces lo hi ms) h.0 ∙ ap (λ t. m ∷ t) (pieces-in lo hi ms h.1)

  pub pieces-out : (lo : List ℕ) (hi : Option (List ℕ)) (ms : List (Msg U V)) → LieOut lo hi ms → pieces lo hi ms ≡ []
  pieces-out lo hi [] h = refl
  pieces-out lo hi (m ∷ ms) h = ap (λ o. option_to_list o ++ pieces lo hi ms) h.0 ∙ pieces-out lo hi ms h.1

  pub pieces-append : (lo : List ℕ) (hi : Option (List ℕ)) (xs ys : List (Msg U V)) → pieces lo hi (xs ++ ys) ≡ pieces lo hi xs ++ pieces lo hi ys
  pieces-append lo hi [] ys = refl
  pieces-append lo hi (m ∷ xs) ys = ap (λ t. option_to_list (cut_to lo hi m) ++ t) (pieces-append lo hi xs ys) ∙ sym (append_assoc (option_to_list (cut_to lo hi m)) (pieces lo hi xs) (pieces lo hi ys))

  in_drop : (lo : List ℕ) (hi : Option (List ℕ)) (n : ℕ) (ms : List (Msg U V)) → LieIn lo hi ms → LieIn lo hi (drop n ms)
  in_drop lo hi zero ms h = h
  in_drop lo hi (suc n) [] h = tt
  in_drop lo hi (suc n) (m ∷ ms) h = in_drop lo hi n ms h.1

  out_drop : (lo : List ℕ) (hi : Option (List ℕ)) (n : ℕ) (ms : List (Msg U V)) → LieOut lo hi ms → LieOut lo hi (drop n ms)
  out_drop lo hi zero ms h = h
  out_drop lo hi (suc n) [] h = tt
  out_drop lo hi (suc n) (m ∷ ms) h = out_drop lo hi n ms h.1

  drop_both : (n : ℕ) (xs ys : List (Msg U V)) → drop n (xs ++ ys) ≡ drop n xs ++ drop (n - length xs) ys
  drop_both zero [] ys = refl
  drop_both zero (x ∷ xs) ys =
      let none : 0 - length (x ∷ xs) ≡ 0 = omega arith in
      ap (λ n. (x ∷ xs) ++ drop n ys) (sym none)
  drop_both (suc n) [] ys =
      let all : suc n - 0 ≡ suc n = omega arith in
      ap (λ m. drop m ys) (sym all)
  drop_both (suc n) (x ∷ xs) ys =
      let fewer : suc n - length (x ∷ xs) ≡ n - length xs = omega arith in
      drop_both n xs ys ∙ ap (λ m. drop n xs ++ drop m ys) (sym fewer)

  pub drop_least : (n k : ℕ) (xs : List (Msg U V)) → k ≤ n → (k < n → length xs ≤ k) → drop k xs ≡ drop n xs
  drop_least zero zero xs l h = refl
  drop_least zero (suc k) xs l h = absurd (omega arith)
  drop_least (suc n) zero [] l h = refl
  drop_least (suc n) zero (x ∷ xs) l h =
      let no : length (x ∷ xs) ≤ 0 = h (omega arith) in
      absurd (omega (arith, no))
  drop_least (suc n) (suc k) [] l h = refl
  drop_least (suc n) (suc k) (x ∷ xs) l h = drop_least n k xs (omega arith) (λ less. (let m : length (x ∷ xs) ≤ suc k = h (omega (arith, less)) in omega (arith, m)))

  -- ---- a parted list

  pub front_part : (lo pivot : List ℕ) (all front back : List (Msg U V)) → IsParted lo pivot all front back → front ≡ pieces lo (Some pivot) all
  front_part lo pivot all front back h =
      let hi = Some pivot in
      sym (ap (λ t. pieces lo hi t) h.parts
      ∙ pieces-append lo hi front back
      ∙ ap (λ t. pieces lo hi front ++ t) (pieces-out lo hi back h.back_out)
      ∙ append-nil (pieces lo hi front)
      ∙ pieces-in lo hi front h.front_in)

  pub back_part : (lo pivot : List ℕ) (all front back : List (Msg U V)) → IsParted lo pivot all front back → back ≡ pieces pivot None all
  back_part lo pivot all front back h =
      sym (ap (λ t. pieces pivot None t) h.parts
      ∙ pieces-append pivot None front back
      ∙ ap (λ t. t ++ pieces pivot None back) (pieces-out pivot None front h.front_out)
      ∙ pieces-in pivot None back h.back_in)

  -- ---- what is left of a parted list without its oldest messages

  pub front_left : (lo pivot : List ℕ) (all front back : List (Msg U V)) (n : ℕ) → IsParted lo pivot all front back → drop n front ≡ pieces lo (Some pivot) (drop n all)
  front_left lo pivot all front back n h =
      let hi = Some pivot in
      let rest = drop (n - length front) back in
      sym (ap (λ t. pieces lo hi (drop n t)) h.parts
      ∙ ap (λ t. pieces lo hi t) (drop_both n front back)
      ∙ pieces-append lo hi (drop n front) rest
      ∙ ap (λ t. pieces lo hi (drop n front) ++ t) (pieces-out lo hi rest (out_drop lo hi (n - length front) back h.back_out))
      ∙ append-nil (pieces lo hi (drop n front))
      ∙ pieces-in lo hi (drop n front) (in_drop lo hi n front h.front_in))

  pub back_left : (lo pivot : List ℕ) (all front back : List (Msg U V)) (n : ℕ) → IsParted lo pivot all front back → drop (n - length front) back ≡ pieces pivot None (drop n all)
  back_left lo pivot all front back n h =
      let rest = drop (n - length front) back in
      sym (ap (λ t. pieces pivot None (drop n t)) h.parts
      ∙ ap (λ t. pieces pivot None t) (drop_both n front back)
      ∙ pieces-append pivot None (drop n front) rest
      ∙ ap (λ t. t ++ pieces pivot None rest) (pieces-out pivot None (drop n front) (out_drop pivot None n front h.front_out))
      ∙ pieces-in pivot None rest (in_drop pivot None (n - length front) back h.back_in))

  pub in_both : (lo : List ℕ) (hi : Option (List ℕ)) (xs ys : List (Msg U V)) → LieIn lo hi xs → LieIn lo hi ys → LieIn lo hi (xs ++ ys)
  in_both lo hi [] ys a b = b
  in_both lo hi (x ∷ xs) ys a b = (a.0, in_both lo hi xs ys a.1 b)

module _ {U V : Type 0} where
  -- ---- both lists of one that lies in a range

  pub in_left : (lo : List ℕ) (hi : Option (List ℕ)) (xs ys : List (Msg U V)) → LieIn lo hi (xs ++ ys) → LieIn lo hi xs
  in_left lo hi [] ys h = tt
  in_left lo hi (x ∷ xs) ys h = (h.0, in_left lo hi xs ys h.1)

  pub in_right : (lo : List ℕ) (hi : Option (List ℕ)) (xs ys : List (Msg U V)) → LieIn lo hi (xs ++ ys) → LieIn lo hi ys
  in_right lo hi [] ys h = h
  in_right lo hi (x ∷ xs) ys h = in_right lo hi xs ys h.1
