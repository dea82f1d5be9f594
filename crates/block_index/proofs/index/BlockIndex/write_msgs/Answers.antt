use Rattle.std.proofs.Common.{◌≡◌, ℕ, ◌+◌, ◌/◌, List, ◌∷◌, ◌++◌, [], length, ap, sym, ◌∙◌, subst, arith}
use Rattle.std.proofs.Math.Nat.{mul-div-le}
use Rattle.message.specs.declared.msg.Msg.{Msg}
use Rattle.reference.specs.Indexes.{patched}
use Rattle.block_index.specs.declared.update.BlockUpdate.{BlockUpdate}
use Rattle.block_index.specs.Changed.{Messages, Changes}
use Rattle.block_index.proofs.Writing.{up_to, write_starts, write_goes_on, write_ends, no_patches, one_patch_more, all_patches}
use Rattle.block_index.proofs.index.BlockIndex.write_msgs.Goals as goal

pub each-init : goal.each-init
each-init c = record {
  list = no_patches c.args.path.now c.args.off c.args.bytes.now (c.args.off / 4096) c.in_ok-msgs.msgs.items c.in_ok-msgs.ensures.items;
  meaning = subst (λ (ms : Messages). Changes (up_to (c.args.off / 4096) (patched c.args.off c.args.bytes.now)) c.args.path.now ms) (sym c.in_ok-msgs.ensures.items)
      (write_starts c.args.path.now c.args.off c.args.bytes.now (c.args.off / 4096) (mul-div-le c.args.off 4096));
}

pub each-preserved : goal.each-preserved
each-preserved c =
    let l : c.len.result ≡ length c.args.bytes.now = c.len.ensures.value in
    record {
      list = one_patch_more c.args.path.now c.args.off c.args.bytes.now (c.args.off / 4096) c.each.index c.in_ok-patch_block.field-0 c.each.msgs.items c.push.new.self.items
          c.each.auto.index c.in_ok-patch_block.ensures c.in_ok-push.ensures.items c.each.invariant.list;
      meaning = subst (λ (ms : Messages). Changes (up_to (c.each.index + 1) (patched c.args.off c.args.bytes.now)) c.args.path.now ms)
          (sym (c.in_ok-push.ensures.items ∙ ap (λ (m : Msg BlockUpdate (List ℕ)). c.each.msgs.items ++ m ∷ []) c.in_ok-patch_block.ensures))
          (write_goes_on c.args.path.now c.args.off c.args.bytes.now c.each.index c.each.msgs.items c.key-key.ensures.valid
          (omega (arith, c.each-test.true, c.requires.short)) (omega (arith, c.each.auto.index)) (omega (arith, c.each-test.true, c.requires.some)) c.each.invariant.meaning);
    }

pub returns : goal.returns
returns c =
    let l : c.len.result ≡ length c.args.bytes.now = c.len.ensures.value in
    record {
      messages = all_patches c.args.path.now c.args.off c.args.bytes.now c.each.index c.each.msgs.items (omega arith) c.each.invariant.list;
      meaning = write_ends c.args.path.now c.args.off c.args.bytes.now c.each.index c.each.msgs.items (omega (arith, c.each-test.false, c.requires.some)) c.each.invariant.meaning;
    }
