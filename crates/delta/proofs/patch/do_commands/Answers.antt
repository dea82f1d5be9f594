use Rattle.std.proofs.Common.{[], ◌∙◌, refl, subst}
use Rattle.images.specs.Taken.{Took}
use Rattle.textio.specs.Lines.{lines_of}
use Rattle.delta.specs.Patching.{IsDoing}
use Rattle.delta.specs.Walks.{left, lines_from}
use Rattle.delta.proofs.BadFacts.{shorter}
use Rattle.delta.proofs.PatchingFacts.{doing_end, doing_left, doing_next, doing_spoilt, doing_start}
use Rattle.delta.proofs.WalkFacts.{mean_now, none_left, some_left}
use Rattle.delta.proofs.patch.do_commands.Goals as goal

pub commands-init : goal.commands-init
commands-init c = (refl, λ s t cs m tells took. ([], doing_start cs _ c.args.commands.now tells.commands tells.is, took))

pub commands-smaller : goal.commands-smaller
commands-smaller c = shorter c.commands.rest.now c.in-Some.line.now c.in-Some.behind.now c.in-Some.parsed c.in-Some.ensures

pub returns-in-Err-clause-no_image : goal.returns-in-Err-clause-no_image
returns-in-Err-clause-no_image c = λ s t cs m tells took e.
    let mean = mean_now c.args.walk.now c.commands.walk t c.commands.invariant.0 m in
    let (has, doing, takes) = c.commands.invariant.1 s t cs m tells took in
    doing_spoilt cs _ _ c.commands.rest.now c.in-Some.line.now c.in-Some.behind.now has c.in-Some.parsed doing c.in-Some.ensures (λ ds. c.do_command.ensures.no_image s t has ds mean takes (c.in-Err.is ∙ e))

pub commands-preserved : goal.commands-preserved
commands-preserved c = (
  (rw c.in_default-do_command.is at c.do_command.ensures.same) ∙ c.commands.invariant.0,
  λ s t cs m tells took.
      let mean = mean_now c.args.walk.now c.commands.walk t c.commands.invariant.0 m in
      let (has, doing, takes) = c.commands.invariant.1 s t cs m tells took in
      let (gets, does, taken) = rw c.in_default-do_command.is at c.do_command.ensures.ok s t has mean takes in
      (gets, doing_next cs _ _ _ c.commands.rest.now c.in-Some.line.now c.in-Some.behind.now has gets c.in-Some.parsed doing c.in-Some.ensures does, taken),
)

pub returns-then-not-is_at_end-clause-no_image : goal.returns-then-not-is_at_end-clause-no_image
returns-then-not-is_at_end-clause-no_image c = λ s t cs m tells took e.
    let (has, doing, takes) = c.commands.invariant.1 s t cs m tells took in
    let w = c.commands.walk in
    let some = some_left t w (c.is_at_end.ensures.line c.if-not-is_at_end.true) in
    doing_left cs _ (lines_of (left t w)) w.line.items c.commands.rest.now has (subst (λ x. IsDoing cs (lines_from t c.args.walk.now) c.commands.rest.now x has) some doing) c.in_default.ensures

pub returns-clause-ok : goal.returns-clause-ok
returns-clause-ok c = λ s t cs m tells took.
    let (has, doing, takes) = c.commands.invariant.1 s t cs m tells took in
    let w = c.commands.walk in
    let (lines, made, is) = doing_end cs _ _ c.commands.rest.now has doing c.in_default.ensures (none_left t w (c.is_at_end.ensures.end c.if-not-is_at_end.false)) in
    (lines, made, subst (λ x. Took s x c.commands.loader) is takes)
