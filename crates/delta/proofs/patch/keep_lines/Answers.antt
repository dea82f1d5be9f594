use Rattle.std.proofs.Common.{[], ◌∷◌, ◌++◌, ◌∙◌, ap, refl, sym, subst, arith, append-nil, length-append}
use Rattle.images.specs.Taken.{Took}
use Rattle.textio.specs.Lines.{lines_of}
use Rattle.delta.specs.Deltas.{Stay, text_of}
use Rattle.delta.specs.Walks.{left}
use Rattle.delta.proofs.LoaderFacts.{does_lines, kept_line}
use Rattle.delta.proofs.PatchFacts.{stay_short}
use Rattle.delta.proofs.PatchingFacts.{short_now, spoilt_stay}
use Rattle.delta.proofs.WalkFacts.{ended_short, some_left, walks_more, walks_none}
use Rattle.delta.proofs.patch.keep_lines.Goals as goal

pub loop-init : goal.loop-init
loop-init c = ([], refl, walks_none c.args.walk.now, λ s text took. subst (λ x. Took s x c.args.loader.now) (sym (append-nil text)) took)

pub returns-then-is_at_end-clause-no_image : goal.returns-then-is_at_end-clause-no_image
returns-then-is_at_end-clause-no_image c = λ s t text ds m took e.
    let (kept, size, walks, takes) = c.loop.invariant in
    let few = ended_short kept t c.args.walk.now c.loop.walk c.loop.counter c.args.count walks size (c.is_at_end.ensures.end c.if-is_at_end.true) m c.loop-test.true in
    short_now (Stay c.args.count ∷ ds) _ text (stay_short c.args.count _ ds few)

pub returns-in-Err-clause-no_image : goal.returns-in-Err-clause-no_image
returns-in-Err-clause-no_image c = λ s t text ds m took e.
    let (kept, size, walks, takes) = c.loop.invariant in
    let line = c.loop.walk.line.items in
    let more = lines_of (left t c.loop.walk) in
    let is = walks.over t m ∙ ap (λ x. kept ++ x) (some_left t c.loop.walk (c.is_at_end.ensures.line c.if-is_at_end.false)) in
    let bad = rw c.as_slice.ensures.value at c.add_line.ensures.spoilt s (text ++ text_of kept) (takes s text took) (c.in-Err.is ∙ e) in
    spoilt_stay c.args.count kept _ more line text ds (omega (arith, size, c.loop-test.true)) is bad

pub loop-preserved : goal.loop-preserved
loop-preserved c =
    let (kept, size, walks, takes) = c.loop.invariant in
    let line = c.loop.walk.line.items in (
      kept ++ line ∷ [],
      omega (arith, size, length-append kept (line ∷ [])),
      walks_more kept line c.args.walk.now c.loop.walk c.step.new.self walks (rw c.in_default-step.is at c.step.ensures),
      λ s text took.
          subst
          (λ x. Took s x c.add_line.new.loader)
          (kept_line text line kept)
          (rw c.as_slice.ensures.value at (rw c.in_default.is at c.add_line.ensures.took s (text ++ text_of kept) (takes s text took))),
    )

pub returns-clause-ok : goal.returns-clause-ok
returns-clause-ok c = λ s t text m took.
    let (kept, size, walks, takes) = c.loop.invariant in
    does_lines c.args.count kept _ _ text s c.loop.loader (omega (arith, size, c.loop.auto.counter-end, c.loop-test.false)) (walks.over t m) (takes s text took)

pub returns-clause-same : goal.returns-clause-same
returns-clause-same c =
    let (kept, size, walks, takes) = c.loop.invariant in
    walks.same
