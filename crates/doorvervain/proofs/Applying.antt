-- The reported outcome of applying a difference.
use Rattle.std.proofs.Common.{◌≡◌, ℕ, zero, suc, ◌+◌, List, length, Result, Ok, Err, IfOk, IfErr, OnOk, OnErr, refl, sym, ap, subst, subst₂, arith}
use Rattle.delta.specs.Applies.{IsOfOther, SpoilsImage}
use Rattle.delta.specs.Texts.{IsBadAt}
use Rattle.delta.specs.declared.fault.DeltaFault.{DeltaFault}
use Rattle.delta.specs.declared.fault.DeltaFault.TheVariants.{Memory, Bad, OtherTree, NoImage}
use Rattle.pathkey.specs.declared.errno.Errno.{Errno}
use Rattle.pathkey.specs.declared.errno.Errno.TheVariants.{EINVAL}
use Rattle.reference.specs.Tree.{Tree}
use Rattle.doorvervain.specs.Differences.{DeltaFaultReported, DeltaReported, NotApplied}

-- no text is bad at line 0
bad_reported : (text : List ℕ) (t : Tree) (n : ℕ) → IsBadAt n text → NotApplied text t EINVAL n
bad_reported text t zero bad = absurd (let number : zero ≡ length bad.front + 1 = bad.number in omega arith)
bad_reported text t (suc n) bad = bad

not_applied : (text : List ℕ) (t : Tree) (fault : DeltaFault) (e : Errno) (line : ℕ)
    → ((n : ℕ) → fault ≡ Bad n → IsBadAt n text) → (fault ≡ OtherTree → IsOfOther text t) → (fault ≡ NoImage → SpoilsImage text t) → DeltaFaultReported fault e line → NotApplied text t e line
not_applied text t Memory e line bad other spoils reported = subst₂ (NotApplied text t) (sym reported.0) (sym reported.1) tt
not_applied text t (Bad n) e line bad other spoils reported = subst₂ (NotApplied text t) (sym reported.0) (sym reported.1) (bad_reported text t n (bad n refl))
not_applied text t OtherTree e line bad other spoils reported = subst₂ (NotApplied text t) (sym reported.0) (sym reported.1) (other refl)
not_applied text t NoImage e line bad other spoils reported = subst₂ (NotApplied text t) (sym reported.0) (sym reported.1) (spoils refl)

module _ (outcome : Result (Unit {0}) DeltaFault) (reported : Result (Unit {0}) Errno) (line : ℕ) (answer : DeltaReported outcome reported line) where
  -- a success is reported
  pub reported_done : (P : Type 0) → OnOk outcome P → IfOk reported (λ _. P)
  reported_done P done = go outcome answer done
    where
      go : (o : Result (Unit {0}) DeltaFault) → DeltaReported o reported line → OnOk o P → IfOk reported (λ _. P)
      go (Ok x) h p = subst (λ (r : Result (Unit {0}) Errno). IfOk r (λ _. P)) (sym h.0) p
      go (Err f) (e, is, fault) p = subst (λ (r : Result (Unit {0}) Errno). IfOk r (λ _. P)) (sym is) tt

  -- with line 0
  pub reported_line : IfOk reported (λ _. line ≡ 0)
  reported_line = go outcome answer
    where
      go : (o : Result (Unit {0}) DeltaFault) → DeltaReported o reported line → IfOk reported (λ _. line ≡ 0)
      go (Ok x) h = subst (λ (r : Result (Unit {0}) Errno). IfOk r (λ _. line ≡ 0)) (sym h.0) h.1
      go (Err f) (e, is, fault) = subst (λ (r : Result (Unit {0}) Errno). IfOk r (λ _. line ≡ 0)) (sym is) tt

  -- what is known of a failure
  pub reported_kept : (P : Type 0) → OnErr outcome P → IfErr reported (λ _. P)
  reported_kept P kept = go outcome answer kept
    where
      go : (o : Result (Unit {0}) DeltaFault) → DeltaReported o reported line → OnErr o P → IfErr reported (λ _. P)
      go (Ok x) h p = subst (λ (r : Result (Unit {0}) Errno). IfErr r (λ _. P)) (sym h.0) tt
      go (Err f) (e, is, fault) p = subst (λ (r : Result (Unit {0}) Errno). IfErr r (λ _. P)) (sym is) p

  -- why it failed
  pub reported_refused : (text : List ℕ) (t : Tree) → ((n : ℕ) → outcome ≡ Err (Bad n) → IsBadAt n text) → (outcome ≡ Err OtherTree → IsOfOther text t) → (outcome ≡ Err NoImage → SpoilsImage text t)
      → IfErr reported (λ e. NotApplied text t e line)
  reported_refused text t bad other spoils = go outcome answer bad other spoils
    where
      go : (o : Result (Unit {0}) DeltaFault) → DeltaReported o reported line → ((n : ℕ) → o ≡ Err (Bad n) → IsBadAt n text) → (o ≡ Err OtherTree → IsOfOther text t) → (o ≡ Err NoImage → SpoilsImage text t)
          → IfErr reported (λ e. NotApplied text t e line)
      go (Ok x) h bad other spoils = subst (λ (r : Result (Unit {0}) Errno). IfErr r (λ e. NotApplied text t e line)) (sym h.0) tt
      go (Err f) (e, is, fault) bad other spoils =
          subst (λ (r : Result (Unit {0}) Errno). IfErr r (λ d. NotApplied text t d line)) (sym is)
          (not_applied text t f e line (λ n b. bad n (ap Err b)) (λ o. other (ap Err o)) (λ s. spoils (ap Err s)) fault)
