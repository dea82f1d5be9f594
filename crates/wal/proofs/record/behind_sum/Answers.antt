use Rattle.std.proofs.Common.{◌≡◌, List, ℕ, ◌++◌, eqb, subst, ◌∙◌}
use Rattle.std.specs.Prelude.{MatchOption}
use Rattle.std.proofs.lemmas.Slice.Eq.{strip_prefix_is}
use Rattle.std.proofs.lemmas.Bool.Decides.{Decides-eqb}
use Rattle.wal.proofs.record.behind_sum.Goals as goal

pub returns : goal.returns
returns c =
    subst (λ (sum : List ℕ). MatchOption c.strip_prefix.result ((rest : List ℕ) → c.args.bytes.now ≡ sum ++ rest → ⊥) (λ rest. c.args.bytes.now ≡ sum ++ rest.now)) (c.as_slice.ensures ∙ c.digest_of-sum.ensures)
    (strip_prefix_is {E = eqb} Decides-eqb _ _ _ c.strip_prefix.ensures.cases)
