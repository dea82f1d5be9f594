use Rattle.std.proofs.Common.{◌≡◌, ◌∷◌, [], ◌++◌, ap, drop, sym, subst}
use Rattle.std.specs.Result.{OnOk}
use Rattle.images.specs.Taken.{Took}
use Rattle.std.proofs.lemmas.List.{take_rest}
use Rattle.std.proofs.lemmas.Result.{on_ok_weaker}
use Rattle.delta.specs.Applies.{DoesCommand}
use Rattle.delta.specs.Deltas.{Come, Go}
use Rattle.delta.specs.Patching.{IsSpoilt, MakesNoImage}
use Rattle.delta.specs.Texts.{command_of}
use Rattle.delta.specs.Walks.{lines_from}
use Rattle.delta.proofs.LoaderFacts.{does_pass}
use Rattle.delta.proofs.PatchFacts.{go_short}
use Rattle.delta.proofs.PatchingFacts.{does_come, short_now, spoilt_come}
use Rattle.delta.proofs.patch.do_command.Goals as goal

pub returns-in-Go-clause-ok : goal.returns-in-Go-clause-ok
returns-in-Go-clause-ok c = λ s t text m took.
    let is : command_of c.args.parsed c.args.line.now ≡ Go c.in-Go.count = ap (λ k. command_of k c.args.line.now) c.in-Go.is in
    subst
    (λ k. OnOk c.pass_lines.result (DoesCommand k (lines_from t c.args.walk.now) text (lines_from t c.pass_lines.new.walk) s c.args.loader.now))
    (sym is)
    (on_ok_weaker
    c.pass_lines.result
    (λ h. does_pass c.in-Go.count h.0 (lines_from t c.args.walk.now) (lines_from t c.pass_lines.new.walk) text s c.args.loader.now h.1 (h.2.over t m) took)
    c.pass_lines.ensures.ok)

pub returns-in-Go-clause-no_image : goal.returns-in-Go-clause-no_image
returns-in-Go-clause-no_image c = λ s t text ds m took e.
    let is : command_of c.args.parsed c.args.line.now ≡ Go c.in-Go.count = ap (λ k. command_of k c.args.line.now) c.in-Go.is in
    subst
    (λ k. MakesNoImage (k ∷ ds) (lines_from t c.args.walk.now) text)
    (sym is)
    (short_now (Go c.in-Go.count ∷ ds) (lines_from t c.args.walk.now) text (go_short c.in-Go.count (lines_from t c.args.walk.now) ds (c.pass_lines.ensures.no_image t m e)))

pub returns-in-Go-clause-same : goal.returns-in-Go-clause-same
returns-in-Go-clause-same c = on_ok_weaker c.pass_lines.result (λ h. h.2.same) c.pass_lines.ensures.ok

pub returns-in-Come-clause-ok : goal.returns-in-Come-clause-ok
returns-in-Come-clause-ok c = λ s t text m took.
    let line = c.args.line.now in
    let is : command_of c.args.parsed line ≡ Come (drop 2 line) = ap (λ k. command_of k line) c.in-Come.is in
    subst
    (λ k. OnOk c.add_line.result (DoesCommand k (lines_from t c.args.walk.now) text (lines_from t c.args.walk.now) s c.add_line.new.loader))
    (sym is)
    (on_ok_weaker
    c.add_line.result
    (λ h. (
      text ++ (drop 2 line ++ 10 ∷ []),
      does_come (drop 2 line) (lines_from t c.args.walk.now) text,
      subst (λ l. Took s (text ++ (l ++ 10 ∷ [])) c.add_line.new.loader) (take_rest line 2) h,
    ))
    (c.add_line.ensures.took s text took))

pub returns-in-Come-clause-no_image : goal.returns-in-Come-clause-no_image
returns-in-Come-clause-no_image c = λ s t text ds m took e.
    let line = c.args.line.now in
    let is : command_of c.args.parsed line ≡ Come (drop 2 line) = ap (λ k. command_of k line) c.in-Come.is in
    subst
    (λ k. MakesNoImage (k ∷ ds) (lines_from t c.args.walk.now) text)
    (sym is)
    (spoilt_come (drop 2 line) (lines_from t c.args.walk.now) text ds (subst (λ l. IsSpoilt (text ++ (l ++ 10 ∷ []))) (take_rest line 2) (c.add_line.ensures.spoilt s text took e)))
