-- How large pieces are, and when the tree is walked for one.
use Rattle.std.proofs.Common.{◌≡◌, ℕ, ◌+◌, ◌-◌, ◌^◌, ◌≤◌, min, Bool, true, false, not, cond, List, [], ◌∷◌, ◌++◌, length, refl, ap, sym, ◌∙◌, Option, Some, None, arith}
use denote.Ref.{Bor}
use denote.Param.Members.{Mut}
use Rattle.std.specs.Fn.{Called, ComputesKey}
use Rattle.std.specs.Option.{option_to_list}
use Rattle.std.proofs.lemmas.Fn.{always_returns_same}
use Rattle.message.specs.Ranges.{before}
use Rattle.scan.specs.Pairs.{IsTaken}
use Rattle.scan.specs.Sizes.{IsPiece, is_walked, raised, size_past, wants_more}

module _ {V : Type 0} (test : List ℕ → Bool) where
  -- once a pair was passed, the next piece may have one pair, however many more are passed
  one_past : (ps : List (List ℕ × V)) → size_past test ps 1 ≡ 1
  one_past [] = refl
  one_past (p ∷ ps) = elim (test p.0) as (λ b. ◌≡◌ {A = ℕ} (cond b 1 1) 1) [ true ↦ refl | false ↦ refl ]

  pub size_passed : (p : List ℕ × V) (ps : List (List ℕ × V)) (n : ℕ) → test p.0 ≡ true → size_past test (p ∷ ps) n ≡ size_past test ps 1
  size_passed p ps n t = ap (λ (b : Bool). cond b 1 n) t ∙ sym (one_past ps)

  -- if there is none, it may have as many as before
  pub size_kept : (p : List ℕ × V) (ps : List (List ℕ × V)) (n : ℕ) → test p.0 ≡ false → size_past test (p ∷ ps) n ≡ n
  size_kept p ps n t = ap (λ (b : Bool). cond b 1 n) t

-- the clause of `take_unless`, if each call of the closure returns the test of a key
pub sized_by_test : {V F : Type 0} {g : Mut F (Bor (List ℕ) × Unit {0}) Bool} {f : F} (test : List ℕ → Bool) (old : List (List ℕ × V)) (n m : ℕ)
    → ((t : List ℕ → Bool) → ComputesKey g t f → m ≡ size_past t old n)
    → ((a : Bor (List ℕ) × Unit {0}) (r : Bool) (f' : F) → Called g f a r f' → (r ≡ test a.0.now) × (f' ≡ f)) → m ≡ size_past test old n
sized_by_test {g = g} {f = f} test old n m clause h = clause test (always_returns_same g (λ a r. r ≡ test a.0.now) f h)

module _ {V : Type 0} (lo : List ℕ) (old : List (List ℕ × V)) (all : Bool) where
  -- a pair is at hand
  pub not_walked : (p : List ℕ × V) (new : List (List ℕ × V)) → IsTaken (λ k. before k lo) old (Some p) new → is_walked lo all old ≡ false
  not_walked p new h = ap (wants_more all) h.0

  -- none is
  pub walked_unless : (new : List (List ℕ × V)) (now : Bool) → IsTaken (λ k. before k lo) old None new → now ≡ all → is_walked lo all old ≡ not now
  walked_unless new now h same = ap (wants_more all) (h.0 ∙ h.1 refl) ∙ ap not (sym same)

  -- none was taken yet, or all were given
  pub walked_at_none : old ≡ [] → all ≡ false → is_walked lo all old ≡ true
  walked_at_none none more = ap (is_walked lo all) none ∙ ap not more

-- if the tree is not walked, a count is unchanged
pub count_kept : (said : Bool) (m count now : ℕ) → now ≡ count → said ≡ false → now ≡ raised said m count
count_kept said m count now same never = same ∙ sym (ap (λ (b : Bool). raised b m count) never)

-- if it is, the count is raised
pub count_raised : (said : Bool) (m n count before now : ℕ) → now ≡ min (before + n) (2 ^ 64 - 1) → before ≡ count → n ≡ m → said ≡ true → now ≡ raised said m count
count_raised said m n count before now is same size walked =
    is ∙ ap (λ (x : ℕ). min (x + n) (2 ^ 64 - 1)) same ∙ ap (λ (x : ℕ). min (count + x) (2 ^ 64 - 1)) size ∙ sym (ap (λ (b : Bool). raised b m count) walked)

module _ {V : Type 0} where
  -- a scan for m pairs, whose first one was removed
  pub piece_of : (n m : ℕ) (r : Option (List ℕ × V)) (all : Bool) (piece ps : List (List ℕ × V)) → m ≡ n → length piece ≤ m → piece ≡ option_to_list r ++ ps → (all ≡ false → m ≤ length piece) → IsPiece n r all ps
  piece_of n m r all piece ps e few same full = (omega (arith, e, few, ap length same), λ t. omega (arith, e, few, ap length same, full t))
