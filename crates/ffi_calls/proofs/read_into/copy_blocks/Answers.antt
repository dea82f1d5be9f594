use Rattle.std.proofs.Common.{◌≡◌, ◌+◌, ◌-◌, ◌*◌, ◌/◌, ◌<◌, ◌≤◌, None, length, min, slice_index_or, refl, ap, ◌∙◌, arith}
use Rattle.std.proofs.lemmas.List.{get_or_default}
use Rattle.reference.specs.Indexes.{held}
use Rattle.ffi_calls.proofs.Fronts.{fill_goes_on, fill_ends, rest_stays}
use Rattle.ffi_calls.proofs.read_into.copy_blocks.Goals as goal

pub each-preserved : goal.each-preserved
each-preserved c =
    let w : c.each.number < length c.args.blocks.now = c.each-test.true in
    let many : c.args.offset / 4096 + length c.args.blocks.now ≡ (c.args.end - 1) / 4096 + 1 = c.requires.many in
    let some : c.args.offset < c.args.end = c.requires.some in
    let room : c.args.end - c.args.offset ≤ length c.args.out.now = c.requires.room in
    let from : c.saturating_sub-from.result ≡ c.args.offset - (c.args.offset / 4096 + c.each.number) * 4096 = c.saturating_sub-from.ensures in
    let to : c.min-to.result ≡ min (c.args.end - (c.args.offset / 4096 + c.each.number) * 4096) 4096 = c.min-to.ensures in
    let old : length c.each.out ≡ length c.args.out.now = c.each.invariant.long in
    record {
      long = c.lay_block.ensures.long ∙ c.each.invariant.long;
      read = λ b hold.
          fill_goes_on b c.args.offset c.args.end (c.args.offset / 4096) c.each.number c.saturating_sub-from.result c.min-to.result ((c.args.offset / 4096 + c.each.number) * 4096 + c.saturating_sub-from.result - c.args.offset)
          (slice_index_or c.args.blocks.now c.each.number None) c.bytes_of.result.now c.each.out c.lay_block.new.out (c.bytes_of.ensures ∙ ap held (c.index-blocks-number.is ∙ get_or_default c.args.blocks.now c.each.number c.index-blocks-number.result None w)) (λ j lj. hold c.each.number j w lj)
          (omega arith) (omega arith) some from to refl (omega arith) c.lay_block.ensures.long c.lay_block.ensures.before c.lay_block.ensures.added (c.each.invariant.read b hold);
      rest = rest_stays ((c.args.offset / 4096 + c.each.number) * 4096 + c.saturating_sub-from.result - c.args.offset + (c.min-to.result - c.saturating_sub-from.result)) (c.args.end - c.args.offset) c.each.out c.lay_block.new.out (omega arith) c.lay_block.ensures.rest ∙ c.each.invariant.rest;
    }

pub returns-clause-bytes : goal.returns-clause-bytes
returns-clause-bytes c = λ b n hold is.
    let w : length c.args.blocks.now ≤ c.each.number = c.each-test.false in
    let many : c.args.offset / 4096 + length c.args.blocks.now ≡ (c.args.end - 1) / 4096 + 1 = c.requires.many in
    let some : c.args.offset < c.args.end = c.requires.some in
    fill_ends b c.args.offset n c.args.end (c.args.offset / 4096 + c.each.number) c.each.out is some (omega arith) (c.each.invariant.read b hold)
