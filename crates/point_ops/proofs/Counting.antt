-- One key after the other: how many messages, and which.
use Rattle.std.proofs.Common.{◌≡◌, ℕ, zero, suc, ◌+◌, ◌<◌, ◌≤◌, List, [], ◌∷◌, ◌++◌, length, take, drop, refl, ap, sym, ◌∙◌, subst, add-one, append_assoc, arith}
use Rattle.std.proofs.lemmas.List.Elements.{All-head, All-tail}
use Rattle.std.proofs.lemmas.List.Sums.{sum_by-cons, sum_by-take-drop}
use Rattle.message.specs.declared.msg.Msg.{Msg}
use Rattle.point_ops.specs.Changes.{KeyOp, run_msgs}
use Rattle.point_ops.specs.PointOps.{left, point_count, point_msgs, AreRuns, IsLeft}

-- so many of two lists that are alike so far
take_inner : {X : Type 0} (n : ℕ) (xs ys : List X) → take n (xs ++ ys) ≡ take n (take n xs ++ ys)
take_inner zero xs ys = refl
take_inner (suc n) [] ys = refl
take_inner (suc n) (x ∷ xs) ys = ap (λ t. x ∷ t) (take_inner n xs ys)

pub take_under : {X : Type 0} (n : ℕ) (xs ys zs : List X) → take n xs ≡ take n ys → take n (xs ++ zs) ≡ take n (ys ++ zs)
take_under n xs ys zs e = take_inner n xs zs ∙ ap (λ t. take n (t ++ zs)) e ∙ sym (take_inner n ys zs)

module _ {U V : Type 0} where
  pub none_consumed : (es : List (List ℕ × List (KeyOp U V))) → left 0 es ≡ es
  none_consumed [] = refl
  none_consumed (e ∷ es) = refl

  pub point_count-cons : (k : List ℕ) (cs : List (KeyOp U V)) (es : List (List ℕ × List (KeyOp U V))) → point_count ((k, cs) ∷ es) ≡ length cs + point_count es
  point_count-cons k cs es = sum_by-cons (λ (e : List ℕ × List (KeyOp U V)). length e.1) (k, cs) es

  -- the first of more entries
  pub runs_next : (k : List ℕ) (cs : List (KeyOp U V)) (es fs : List (List ℕ × List (KeyOp U V))) → fs ≡ (k, cs) ∷ es → AreRuns fs → AreRuns es
  runs_next k cs es fs e h = All-tail (λ (x : List ℕ × List (KeyOp U V)). 0 < length x.1) (k, cs) es (subst (λ t. AreRuns t) e h)

  pub some_left : (es : List (List ℕ × List (KeyOp U V))) → AreRuns es → IsLeft 0 es
  some_left [] h = refl
  some_left (e ∷ es) h = All-head (λ (x : List ℕ × List (KeyOp U V)). 0 < length x.1) e es h

  -- ---- the entry with this number

  pub record IsNext (es : List (List ℕ × List (KeyOp U V))) (n m : ℕ) (cs : List (KeyOp U V)) (later : List (List ℕ × List (KeyOp U V))) : Type 0 where
    pub within : m ≤ length es
    pub rest : later ≡ drop m es
    pub counted : point_count (take m es) ≡ point_count (take n es) + length cs

  next_is : (es : List (List ℕ × List (KeyOp U V))) (n : ℕ) (k : List ℕ) (cs : List (KeyOp U V)) (later : List (List ℕ × List (KeyOp U V))) → drop n es ≡ (k, cs) ∷ later → IsNext es n (suc n) cs later
  next_is [] zero k cs later e = absurd (cc)
  next_is [] (suc n) k cs later e = absurd (cc)
  next_is (x ∷ es) zero k cs later e =
      let first : x.1 ≡ cs = cc in
      record {
        within = omega arith;
        rest = cc;
        counted = omega (arith, point_count-cons x.0 x.1 [], ap (λ (t : List (KeyOp U V)). length t) first);
      }
  next_is (x ∷ es) (suc n) k cs later e =
      let h = next_is es n k cs later e in
      record {
        within = omega (arith, h.within);
        rest = h.rest;
        counted = omega (arith, h.counted, point_count-cons x.0 x.1 (take (suc n) es), point_count-cons x.0 x.1 (take n es));
      }

  pub next_entry : (es : List (List ℕ × List (KeyOp U V))) (n : ℕ) (k : List ℕ) (cs : List (KeyOp U V)) (walk later : List (List ℕ × List (KeyOp U V))) → walk ≡ drop n es → walk ≡ (k, cs) ∷ later → IsNext es n (n + 1) cs later
  next_entry es n k cs walk later w e = subst (λ m. IsNext es n m cs later) (sym (add-one n)) (next_is es n k cs later (sym w ∙ e))

  -- all keys are passed
  pub all_passed : (es : List (List ℕ × List (KeyOp U V))) (n l count : ℕ) → drop n es ≡ [] → point_count (take n es) + l ≡ count → count ≤ point_count es → IsLeft l (drop n es)
  all_passed es n l count e c few =
      subst (λ t. IsLeft l t) (sym e) (omega (arith, sum_by-take-drop (λ (x : List ℕ × List (KeyOp U V)). length x.1) es n, ap (λ (t : List (List ℕ × List (KeyOp U V))). point_count t) e, c, few))

  -- ---- copies

  pub copied : (n consumed : ℕ) (k : List ℕ) (cs : List (KeyOp U V)) (es fs : List (List ℕ × List (KeyOp U V))) (front new all : List (Msg U V)) → fs ≡ (k, cs) ∷ es → take n (front ++ point_msgs (left consumed fs)) ≡ all → take n new ≡ take n (front ++ run_msgs k (drop consumed cs)) → take n (new ++ point_msgs (left 0 es)) ≡ all
  copied n consumed k cs es fs front new all e h is =
      ap (λ (t : List (List ℕ × List (KeyOp U V))). take n (new ++ point_msgs t)) (none_consumed es)
      ∙ take_under n new (front ++ run_msgs k (drop consumed cs)) (point_msgs es) is
      ∙ ap (λ (t : List (Msg U V)). take n t) (append_assoc front (run_msgs k (drop consumed cs)) (point_msgs es))
      ∙ ap (λ (t : List (List ℕ × List (KeyOp U V))). take n (front ++ point_msgs (left consumed t))) (sym e)
      ∙ h
