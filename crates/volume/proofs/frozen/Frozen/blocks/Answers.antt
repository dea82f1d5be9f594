use Rattle.std.proofs.lemmas.Result.{IfOk-weaker}
use Rattle.block_index.specs.Means.{blocks}
use Rattle.pathkey.specs.Keys.{blocks_from}
use Rattle.volume.proofs.Walks.{all_of_blocks, blocks_listed, found_in}
use Rattle.volume.proofs.frozen.Frozen.blocks.Goals as goal

pub returns-clause-blocks : goal.returns-clause-blocks
returns-clause-blocks c =
    let i = c.args.self.now.indexes in
    let p = c.args.path.now in
    let n = c.args.from in
    let limit = c.args.limit in
    let pairs = c.in_ok-pairs.pairs.items in
    let found = found_in c.indexes.result.now i c.in_ok-rest.rest (blocks_from p n) limit pairs c.indexes.ensures c.in_ok-rest.ensures c.in_ok-pairs.ensures in
    IfOk-weaker c.with_numbers.result _ _ (λ v reads t mean.
    let of_file = all_of_blocks t (blocks i.block) mean.indexes.blocks p c.key-key.ensures.valid n limit c.ranges.from.fits pairs found in
    blocks_listed t (blocks i.block) mean.indexes.tree mean.indexes.blocks p c.key-key.ensures.valid n limit c.ranges.from.fits pairs found v.items (reads.of_path p of_file)) c.with_numbers.ensures

pub returns-clause-few : goal.returns-clause-few
returns-clause-few c =
    let i = c.args.self.now.indexes in
    let p = c.args.path.now in
    let n = c.args.from in
    let limit = c.args.limit in
    let pairs = c.in_ok-pairs.pairs.items in
    let found = found_in c.indexes.result.now i c.in_ok-rest.rest (blocks_from p n) limit pairs c.indexes.ensures c.in_ok-rest.ensures c.in_ok-pairs.ensures in
    let of_file = all_of_blocks c.assert_invariant.ensures.tree (blocks i.block) c.assert_invariant.ensures.means.indexes.blocks p c.key-key.ensures.valid n limit c.ranges.from.fits pairs found in
    IfOk-weaker c.with_numbers.result _ _ (λ v reads. (reads.of_path p of_file).few) c.with_numbers.ensures
