use Rattle.std.proofs.Common.{refl, ap, sym, subst, ◌∙◌, arith}
use Rattle.std.specs.Option.{option_to_list}
use Rattle.pathkey.specs.Names.{Path}
use Rattle.reference.specs.Tree.{entry_at}
use Rattle.images.specs.Image.{blocks_left}
use Rattle.volume.specs.Volumes.{MeanRooted}
use Rattle.volume.specs.Walks.{AreBlocksAt}
use Rattle.images.proofs.ImageBlocks.{blocks_passed}
use Rattle.images.proofs.Spots.{passes_block, passes_nothing, passes_then}
use Rattle.images.proofs.spot.PrintPosition.print_blocks.Goals as goal

pub lines-init : goal.lines-init
lines-init c = record { tree = refl; last = refl; passes = λ t mean at. passes_nothing t _ _ at }

pub lines-preserved : goal.lines-preserved
lines-preserved c = record {
  tree = c.in_ok-number.ensures.tree ∙ c.lines.invariant.tree;
  last = c.lines.invariant.last;
  passes = λ t mean at.
      let so_far = c.lines.invariant.passes t mean at in
      let are = c.in_ok-number.ensures.block t (subst (λ r. MeanRooted r t) (sym c.lines.invariant.tree) mean) in
      let here = subst (λ bs. AreBlocksAt (entry_at t c.lines.self.last) c.lines.self.from 1 bs) (ap option_to_list c.in-Some.is) are in
      passes_then _ _ _ _ _ _ _ so_far
      (passes_block t c.lines.self c.in-Some.number c.in-Some.block _ _ so_far.at here (rw c.as_slice.ensures.value at c.in-Ok.ensures.ok));
}

pub returns-in_default-clause-rest : goal.returns-in_default-clause-rest
returns-in_default-clause-rest c = λ t mean at ends short.
    let are = c.in_ok-number.ensures.block t (subst (λ r. MeanRooted r t) (sym c.lines.invariant.tree) mean) in
    blocks_passed (entry_at t c.lines.self.last) c.lines.self.from (subst (λ bs. AreBlocksAt (entry_at t c.lines.self.last) c.lines.self.from 1 bs) (ap option_to_list c.in_default.is) are)

pub returns-then-from-len-clause-rest : goal.returns-then-from-len-clause-rest
returns-then-from-len-clause-rest c = λ t mean at ends short.
    ap (λ (p : Path). blocks_left (entry_at t p) c.lines.self.from) c.lines.invariant.last
    ∙ ends c.lines.self.from (omega (arith, c.from.ensures)) (omega (arith, c.from.ensures, c.if-from-len.true))
