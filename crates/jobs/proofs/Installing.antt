-- What an install leaves, by its reply.
use Rattle.std.proofs.Common.{◌≡◌, ℕ, ◌≤◌, List, length, ap, sym, subst, arith}
use Rattle.jobs.specs.declared.mark.Mark.{Mark}
use Rattle.jobs.specs.declared.outcome.InstallOutcome.{InstallOutcome}
use Rattle.jobs.specs.declared.outcome.InstallOutcome.TheVariants.{Installed, Stale, NoMemory}
use Rattle.jobs.specs.Marks.{Each, without}
use Rattle.jobs.specs.Replies.{IfInstalled, UnlessInstalled}
use Rattle.jobs.proofs.MarkFacts.{each_without, fewer_without}

module _ {U V : Type 0} where
  -- what follows where it is done
  pub if_installed : (r : InstallOutcome U V) (A B : Type 0) → (A → B) → IfInstalled r A → IfInstalled r B
  if_installed Installed A B f h = f h
  if_installed Stale A B f h = tt
  if_installed (NoMemory d) A B f h = tt

  -- and where it is not
  pub unless_installed : (r : InstallOutcome U V) (A B : Type 0) → (A → B) → UnlessInstalled r A → UnlessInstalled r B
  unless_installed Installed A B f h = tt
  unless_installed Stale A B f h = f h
  unless_installed (NoMemory d) A B f h = f h

  module _ (t : ℕ) (old new : List Mark) (A B : Type 0) where
    -- the marks are no more
    pub fewer_installed : (r : InstallOutcome U V) → IfInstalled r ((new ≡ without t old) × A) → UnlessInstalled r ((new ≡ old) × B) → length new ≤ length old
    fewer_installed Installed h k = omega (arith, ap length h.0, fewer_without t old)
    fewer_installed Stale h k = omega (arith, ap length k.0)
    fewer_installed (NoMemory d) h k = omega (arith, ap length k.0)

    -- and what holds of each holds of those that are left
    pub each_installed : (P : Mark → Type 0) (r : InstallOutcome U V) → IfInstalled r ((new ≡ without t old) × A) → UnlessInstalled r ((new ≡ old) × B) → Each P old → Each P new
    each_installed P Installed h k e = subst (λ (z : List Mark). Each P z) (sym h.0) (each_without P t old e)
    each_installed P Stale h k e = subst (λ (z : List Mark). Each P z) (sym k.0) e
    each_installed P (NoMemory d) h k e = subst (λ (z : List Mark). Each P z) (sym k.0) e
