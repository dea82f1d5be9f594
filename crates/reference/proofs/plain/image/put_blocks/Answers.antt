use Rattle.std.proofs.Common.{take, ap, ◌∙◌}
use Rattle.reference.proofs.Images.{block_lines_more}
use Rattle.reference.proofs.plain.image.put_blocks.Goals as goal

pub loop-index-preserved : goal.loop-index-preserved
loop-index-preserved c =
    block_lines_more c.args.out.now.items c.loop-index.out.items c.put_block.new.out.items c.args.bytes.now c.bytes_up_to-block.result.now c.loop-index.index
    (c.bytes_up_to-block.ensures ∙ ap (take 4096) c.bytes_from.ensures)
    c.loop-index.invariant
    c.in_ok-put_block.ensures
