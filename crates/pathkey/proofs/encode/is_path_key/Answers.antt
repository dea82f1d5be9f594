use Rattle.std.proofs.Common.{◌≡◌, ◌∷◌, ◌++◌, [], ℕ, length, arith, ap, ◌∙◌}
use Rattle.std.specs.Result.{is_ok}
use Rattle.pathkey.specs.Names.{text_len}
use Rattle.pathkey.proofs.TextFacts.{text_len_enc}
use Rattle.pathkey.proofs.PathFacts.{key_ends, tests_decide, front_fits}
use Rattle.pathkey.proofs.encode.is_path_key.Goals as goal
use Rattle.pathkey.proofs.encode.is_path_key.Goals.{then-last-ne0-via-then-last-ne0, then-last-ne0-via-else-last-ne0+then-key-gt-LONGEST_TEXT}

pub returns-then-last-ne0 : goal.returns-then-last-ne0
returns-then-last-ne0 c = λ p h e.
    elim c.then-last-ne0.branch [
      | then-last-ne0-via-then-last-ne0 w ↦ w.if-last-ne0.true (key_ends p _ _ (e ∙ c.in-Some.ensures.cases.0))
      | then-last-ne0-via-else-last-ne0+then-key-gt-LONGEST_TEXT w ↦
          let size : text_len p ≡ length c.args.key.now = text_len_enc p ∙ ap length e in
          omega (arith, h.fits)
    ]

pub returns : goal.returns
returns c =
    let ends : c.args.key.now ≡ c.in-Some.body.now ++ 0 ∷ [] =
    c.in-Some.ensures.cases.0 ∙ ap (λ (b : ℕ). c.in-Some.body.now ++ b ∷ []) c.if-last-ne0.false in
    tests_decide _ _ _ ends (front_fits _ _ _ c.type_inv.key c.in-Some.ensures.cases.0) (omega arith)
    (c.is_ok.ensures.value ∙ ap is_ok c.check_components.ensures)
