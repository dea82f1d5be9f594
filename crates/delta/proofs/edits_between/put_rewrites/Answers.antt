use Rattle.std.proofs.Common.{◌+◌, arith, subst, sym, take}
use Rattle.std.proofs.lemmas.List.Elements.{Contains-get_or}
use Rattle.std.specs.List.{Contains}
use Rattle.reference.specs.Reads.{sight}
use Rattle.edits.specs.Between.{block_change, edit_of, rewrites}
use Rattle.delta.proofs.EditTexts.{rewrites_more, text_more}
use Rattle.delta.proofs.edits_between.put_rewrites.Goals as goal

pub put_rewrite-requires : goal.put_rewrite-requires
put_rewrite-requires c =
    let bs = c.args.blocks.now in
    let i = c.loop-block.block-index in
    let b = c.block-item.result in
    c.requires b (subst (λ x. Contains bs x) (sym c.block-item.is) (Contains-get_or bs i b (omega arith)))

pub loop-block-preserved : goal.loop-block-preserved
loop-block-preserved c = λ t u of_t of_u.
    let bs = c.args.blocks.now in
    let i = c.loop-block.block-index in
    let b = c.block-item.result in
    text_more c.put_rewrite.new.out.items c.loop-block.out.items c.args.out.now.items (rewrites t u (take i bs)) (edit_of b.0 (block_change (sight t b.0) (sight u b.0) b.1)) (rewrites t u (take (i + 1) bs))
    (c.in_ok-put_rewrite.ensures t u of_t of_u) (c.loop-block.invariant t u of_t of_u) (rewrites_more t u bs i b (omega arith) c.block-item.is)
