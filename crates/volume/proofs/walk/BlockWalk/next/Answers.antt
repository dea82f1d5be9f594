use Rattle.std.proofs.Common.{None, ◌∙◌, sym, subst}
use Rattle.std.proofs.lemmas.Result.{IfOk-weaker}
use Rattle.block_index.specs.Means.{blocks}
use Rattle.pathkey.specs.Keys.{block_key}
use Rattle.scan.specs.Pairs.{IsFirst}
use Rattle.volume.specs.Extents.{IsNextStored}
use Rattle.volume.specs.Volumes.{MeanRooted}
use Rattle.volume.specs.declared.fs_root.FsRoot.{FsRoot}
use Rattle.volume.proofs.BlockWalks.{block_given, first_at, number_given, stands_in}
use Rattle.volume.proofs.NextStored.{next_stored}
use Rattle.volume.proofs.walk.BlockWalk.next.Goals as goal

pub seek-requires : goal.seek-requires
seek-requires c =
    let w = c.self.inside in
    stands_in _ c.indexes.result.now (sym c.indexes.ensures) w.cursor.range w.cursor.first w.cursor.pieces.all w.cursor.pieces.pairs.items c.self.invariant.0

pub invariant_of-self : goal.invariant_of-self
invariant_of-self c =
    let w = c.seek.new.self in (
      stands_in c.indexes.result.now _ c.indexes.ensures w.range w.first w.pieces.all w.pieces.pairs.items c.in_err-seek.ensures.stands,
      c.in_err-seek.ensures.end ∙ c.self.invariant.1,
    )

pub invariant_of-self-2 : goal.invariant_of-self-2
invariant_of-self-2 c =
    let w = c.seek.new.self in (
      stands_in c.indexes.result.now _ c.indexes.ensures w.range w.first w.pieces.all w.pieces.pairs.items c.in_ok-seek.ensures.stands,
      c.in_ok-seek.ensures.end ∙ c.self.invariant.1,
    )

pub returns-clause-block : goal.returns-clause-block
returns-clause-block c =
    let w = c.self.inside in
    let p = c.args.path.now in
    let n = c.args.from in
    let i = w.frozen.now.indexes in
    let o = c.seek.new.self.first in
    let first : IsFirst (blocks i.block) (block_key p n) None o = first_at c.indexes.result.now i c.indexes.ensures c.in_ok-key.key (block_key p n) w.cursor.range.hi o c.in_ok-key.ensures c.self.invariant.1 c.in_ok-seek.ensures.first in
    IfOk-weaker c.own_block.result _ _ (λ x own t mean.
    let here = subst (λ r. MeanRooted r t) (sym c.self.view_is) mean in
    block_given t (blocks i.block) here.indexes.tree here.indexes.blocks p c.key-key.ensures.valid n c.ranges.from.fits o x first own) c.own_block.ensures

pub returns-clause-number : goal.returns-clause-number
returns-clause-number c =
    let w = c.self.inside in
    let p = c.args.path.now in
    let n = c.args.from in
    let i = w.frozen.now.indexes in
    let o = c.seek.new.self.first in
    let first : IsFirst (blocks i.block) (block_key p n) None o = first_at c.indexes.result.now i c.indexes.ensures c.in_ok-key.key (block_key p n) w.cursor.range.hi o c.in_ok-key.ensures c.self.invariant.1 c.in_ok-seek.ensures.first in
    IfOk-weaker c.own_block.result _ _ (λ x own.
    number_given c.assert_invariant.ensures.tree (blocks i.block) c.assert_invariant.ensures.means.indexes.blocks p c.key-key.ensures.valid n c.ranges.from.fits o x first own) c.own_block.ensures

pub returns-clause-stored : goal.returns-clause-stored
returns-clause-stored c =
    let w = c.self.inside in
    let p = c.args.path.now in
    let n = c.args.from in
    let i = w.frozen.now.indexes in
    let o = c.seek.new.self.first in
    let first : IsFirst (blocks i.block) (block_key p n) None o = first_at c.indexes.result.now i c.indexes.ensures c.in_ok-key.key (block_key p n) w.cursor.range.hi o c.in_ok-key.ensures c.self.invariant.1 c.in_ok-seek.ensures.first in
    let meant = c.assert_invariant.ensures in
    IfOk-weaker c.own_block.result _ _ (λ x own some. subst (λ (r : FsRoot). IsNextStored (blocks r.indexes.block) p n x) c.self.view_is
    (next_stored meant.tree (blocks i.block) meant.means.indexes.blocks p c.key-key.ensures.valid n c.ranges.from.fits o x first own)) c.own_block.ensures
