use Rattle.std.proofs.Common.{◌≡◌, ◌+◌, ◌-◌, ◌++◌, ℕ, ap, arith, drop, get_or, length, ◌∙◌}
use Rattle.reference.specs.Indexes.{meta_of}
use Rattle.reference.specs.Reads.{sight}
use Rattle.edits.specs.Between.{edit_of, removal, removals}
use Rattle.delta.proofs.EditTexts.{removals_more, text_more}
use Rattle.delta.proofs.edits_between.put_removals.Goals as goal

pub loop-number-preserved : goal.loop-number-preserved
loop-number-preserved c = λ t u of_t of_u.
    let ps = c.args.paths.now in
    let n = c.loop-number.number in
    let k = length ps - (n + 1) in
    let p = c.index-paths-paths.result in
    let at : length ps - 1 - n ≡ k = omega arith in
    let next : k + 1 ≡ length ps - n = omega arith in
    text_more c.put_removal.new.out.items c.loop-number.out.items c.args.out.now.items (removals t u (drop (length ps - n) ps)) (edit_of p (removal (meta_of (sight t p)) (meta_of (sight u p)))) (removals t u (drop k ps))
    (c.in_ok-put_removal.ensures t u of_t of_u) (c.loop-number.invariant t u of_t of_u)
    (removals_more t u ps k p (omega arith) (c.index-paths-paths.is ∙ ap (λ (x : ℕ). get_or ps x p) at) ∙ ap (λ (x : ℕ). removals t u (drop x ps) ++ edit_of p (removal (meta_of (sight t p)) (meta_of (sight u p)))) next)
