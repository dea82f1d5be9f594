-- On which side of a pivot a message lies, and the two parts of a range-delete over it.
use Rattle.std.proofs.Common.{◌≡◌, ℕ, Bool, true, false, List, [], refl, ap, sym, ◌∙◌, subst, Option, Some, None, cond}
use Rattle.std.specs.Prelude.{is_some}
use Rattle.pathkey.specs.Keys.{is_below}
use Rattle.pathkey.specs.declared.range.KeyRange.{KeyRange}
use Rattle.pathkey.proofs.KeyOrder.{reaches-from_not_before, lt_le}
use Rattle.message.specs.declared.msg.Msg.{Msg}
use Rattle.message.specs.declared.msg.Msg.TheVariants.{Put, Del, DelRange, Edit}
use Rattle.message.specs.Cuts.{cut_range, cut_to}
use Rattle.message.specs.Ranges.{within, before, later_key, earlier_end}
use Rattle.message.proofs.RangeEnds.{later_start, later_same, later_pivot}
use Rattle.message.proofs.KeyOrder.{reaches-later, begins_before_end, split_bool}

-- ---- the earlier of a pivot and an end

-- an end that the pivot does not stand before
earlier_own : (p : List ℕ) (hi : Option (List ℕ)) → is_below p hi ≡ false → earlier_end (Some p) hi ≡ hi
earlier_own p None f = absurd (cc)
earlier_own p (Some h) f = ap (λ c. Some (cond c p h)) f

-- an end that it stands before
earlier_pivot : (p : List ℕ) (hi : Option (List ℕ)) → is_below p hi ≡ true → earlier_end (Some p) hi ≡ Some p
earlier_pivot p None l = refl
earlier_pivot p (Some h) l = ap (λ c. Some (cond c p h)) l

-- what stands below both stands below the pivot
below_pivot : (p lo : List ℕ) (hi : Option (List ℕ)) → is_below lo (earlier_end (Some p) hi) ≡ true → before lo p ≡ true
below_pivot p lo None b = b
below_pivot p lo (Some h) b = split_bool (before p h)
    (λ y. subst (λ c. before lo (cond c p h) ≡ true) y b)
    (λ n. lt_le lo h p (subst (λ c. before lo (cond c p h) ≡ true) n b) (reaches-from_not_before p h n))

-- ---- a message that has a part on one side only

pub none_is : {A : Type 0} (o : Option A) → is_some o ≡ false → o ≡ None
none_is None f = refl
none_is (Some a) f = absurd (cc)

is_chosen : {A : Type 0} (b : Bool) (a : A) → is_some (cond b (Some a) None) ≡ b
is_chosen true a = refl
is_chosen false a = refl

chosen : {A : Type 0} (b : Bool) (a : A) → is_some (cond b (Some a) None) ≡ true → cond b (Some a) None ≡ Some a
chosen true a s = refl
chosen false a s = absurd (cc)

module _ {U V : Type 0} where
  -- the same question at equal ends
  pub asked : (b : Bool) (lo k : List ℕ) (hi h : Option (List ℕ)) (m n : Msg U V) → b ≡ is_some (cut_to lo hi m) → lo ≡ k → hi ≡ h → m ≡ n → is_some (cut_to k h n) ≡ b
  asked b lo k hi h m n y l e s = sym (y ∙ ap (λ x. is_some (cut_to x hi m)) l ∙ ap (λ x. is_some (cut_to k x m)) e ∙ ap (λ x. is_some (cut_to k h x)) s)

module _ (U V : Type 0) (p : List ℕ) where
  begins : (lo : List ℕ) (hi : Option (List ℕ)) → cut_range {U = U} {V = V} (later_key [] lo) hi ≡ cut_range lo hi
  begins lo hi = ap (λ k. cut_range k hi) (later_start lo)

  is_cut : (lo : List ℕ) (hi : Option (List ℕ)) → is_some (cut_range {U = U} {V = V} lo hi) ≡ is_below lo hi
  is_cut lo hi = is_chosen (is_below lo hi) (DelRange (record { lo = lo; hi = hi }))

  -- a range-delete that has a part before the pivot begins before it
  is_front : (r : KeyRange) → is_some (cut_to {U = U} {V = V} [] (Some p) (DelRange r)) ≡ true → before r.lo p ≡ true
  is_front r b = below_pivot p r.lo r.hi (sym (is_cut r.lo (earlier_end (Some p) r.hi)) ∙ ap (λ o. is_some o) (sym (begins r.lo (earlier_end (Some p) r.hi))) ∙ b)

  -- one that has a part from the pivot on ends behind it
  ends_behind : (r : KeyRange) → is_some (cut_to {U = U} {V = V} p None (DelRange r)) ≡ true → is_below p r.hi ≡ true
  ends_behind r b = begins_before_end p (later_key p r.lo) r.hi (reaches-later p r.lo) (sym (is_cut (later_key p r.lo) r.hi) ∙ b)

module _ {U V : Type 0} (p : List ℕ) where
  pub only_before : (m : Msg U V) → is_some (cut_to [] (Some p) m) ≡ true → is_some (cut_to p None m) ≡ false → cut_to [] (Some p) m ≡ Some m
  only_before (Put q v) b n = chosen (within [] (Some p) q) (Put q v) b
  only_before (Del q) b n = chosen (within [] (Some p) q) (Del q) b
  only_before (Edit q u) b n = chosen (within [] (Some p) q) (Edit q u) b
  only_before (DelRange r) b n =
      let start : later_key p r.lo ≡ p = later_pivot p r.lo (is_front U V p r b) in
      let ended : is_below p r.hi ≡ false = ap (λ k. is_below k r.hi) (sym start) ∙ sym (is_cut U V p (later_key p r.lo) r.hi) ∙ n in
      let made : cut_to [] (Some p) (DelRange r) ≡ cut_range r.lo r.hi = begins U V p r.lo (earlier_end (Some p) r.hi) ∙ ap (λ h. cut_range r.lo h) (earlier_own p r.hi ended) in
      made ∙ chosen (is_below r.lo r.hi) (DelRange r) (ap (λ o. is_some o) (sym made) ∙ b)

  pub only_behind : (m : Msg U V) → is_some (cut_to [] (Some p) m) ≡ false → is_some (cut_to p None m) ≡ true → cut_to p None m ≡ Some m
  only_behind (Put q v) n b = chosen (within p None q) (Put q v) b
  only_behind (Del q) n b = chosen (within p None q) (Del q) b
  only_behind (Edit q u) n b = chosen (within p None q) (Edit q u) b
  only_behind (DelRange r) n b =
      let off : is_below r.lo (earlier_end (Some p) r.hi) ≡ false = sym (is_cut U V p r.lo (earlier_end (Some p) r.hi)) ∙ ap (λ o. is_some o) (sym (begins U V p r.lo (earlier_end (Some p) r.hi))) ∙ n in
      let end : earlier_end (Some p) r.hi ≡ Some p = earlier_pivot p r.hi (ends_behind U V p r b) in
      let start : later_key p r.lo ≡ r.lo = later_same p r.lo (reaches-from_not_before r.lo p (ap (λ h. is_below r.lo h) (sym end) ∙ off)) in
      let made : cut_to p None (DelRange r) ≡ cut_range r.lo r.hi = ap (λ k. cut_range k r.hi) start in
      made ∙ chosen (is_below r.lo r.hi) (DelRange r) (ap (λ o. is_some o) (sym made) ∙ b)

  -- ---- the parts of a range-delete over the pivot

  module _ (r : KeyRange) (f : is_some (cut_to {U = U} {V = V} [] (Some p) (DelRange r)) ≡ true) (b : is_some (cut_to {U = U} {V = V} p None (DelRange r)) ≡ true) where
    pub part_before : (a : KeyRange) → a.lo ≡ r.lo → a.hi ≡ Some p → Some (DelRange a) ≡ cut_to {U = U} {V = V} [] (Some p) (DelRange r)
    part_before a l h =
        let made : cut_to {U = U} {V = V} [] (Some p) (DelRange r) ≡ cut_range r.lo (Some p) = begins U V p r.lo (earlier_end (Some p) r.hi) ∙ ap (λ h. cut_range r.lo h) (earlier_pivot p r.hi (ends_behind U V p r b)) in
        let own : cut_range {U = U} {V = V} r.lo (Some p) ≡ Some (DelRange (record { lo = r.lo; hi = Some p })) = ap (λ c. cond c (Some (DelRange (record { lo = r.lo; hi = Some p }))) None) (is_front U V p r f) in
        ap (λ k. Some (DelRange (record { lo = k; hi = a.hi }))) l ∙ ap (λ e. Some (DelRange (record { lo = r.lo; hi = e }))) h ∙ sym (made ∙ own)

    pub part_behind : (a : KeyRange) → a.lo ≡ p → a.hi ≡ r.hi → Some (DelRange a) ≡ cut_to {U = U} {V = V} p None (DelRange r)
    part_behind a l h =
        let made : cut_to {U = U} {V = V} p None (DelRange r) ≡ cut_range p r.hi = ap (λ k. cut_range k r.hi) (later_pivot p r.lo (is_front U V p r f)) in
        let own : cut_range {U = U} {V = V} p r.hi ≡ Some (DelRange (record { lo = p; hi = r.hi })) = ap (λ c. cond c (Some (DelRange (record { lo = p; hi = r.hi }))) None) (ends_behind U V p r b) in
        ap (λ k. Some (DelRange (record { lo = k; hi = a.hi }))) l ∙ ap (λ e. Some (DelRange (record { lo = p; hi = e }))) h ∙ sym (made ∙ own)
