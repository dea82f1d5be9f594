use Rattle.std.proofs.Common.{◌∙◌}
use Rattle.delta.proofs.LoaderFacts.{is_of_tree}
use Rattle.delta.proofs.patch.is_of.Goals as goal

pub returns : goal.returns
returns c = λ w means.
    let found = c.in_ok-found.ensures w.live (c.in_ok-frozen.ensures.means w means) in
    is_of_tree _ c.args.digest.now c.as_slice.result.now c.as_slice-2.result.now w.live (c.as_slice.ensures ∙ found) c.as_slice-2.ensures c.eq.ensures
