use Rattle.std.proofs.Common.{◌≡◌, length, ap, sym, ◌∙◌}
use Rattle.pathkey.specs.Enc.{enc}
use Rattle.pathkey.proofs.PathFacts.{subtree_whole, subtree_end}
use Rattle.pathkey.proofs.range.subtree.Goals as goal
use Rattle.pathkey.proofs.range.subtree.Goals.{in-None, in-Some+in_ok-joined-in-Some}

pub returns : goal.returns
returns c =
    let key : c.as_bytes.result.now ≡ enc c.args.path.now = c.as_bytes.ensures ∙ c.key.ensures.value in
    elim c.match-split_last.branch [
      | in-None w ↦ rw (c.in_ok-lo.ensures, w.hi-is) (subtree_whole _ (ap length (sym key) ∙ w.in-None.ensures.cases))
      | in-Some+in_ok-joined-in-Some w ↦
          rw (c.in_ok-lo.ensures, w.hi-is, w.in_ok-joined-in-Some.ensures) (subtree_end _ _ _ (sym key ∙ w.in-Some.ensures.cases.0))
    ]
