use Rattle.std.proofs.Common.{arith, ◌≡◌, List, ℕ, ◌+◌, length, subst, sym, ap, ◌∙◌}
use Rattle.std.specs.Prelude.{nat_le}
use Rattle.block_index.specs.Changed.{Changes}
use Rattle.block_index.specs.declared.update.BlockUpdate.{BlockUpdate}
use Rattle.message.specs.declared.msg.Msg.{Msg}
use Rattle.meta_index.specs.declared.update.MetaUpdate.{MetaUpdate}
use Rattle.pathkey.specs.Keys.{Key, enc}
use Rattle.reference.specs.Calls.{greatest_file}
use Rattle.reference.specs.Indexes.{patched}
use Rattle.reference.specs.Shape.{AreBytes}
use Rattle.reference.specs.declared.reply.Meta.{Meta}
use Rattle.reference.specs.declared.reply.Reply.TheVariants.{Count}
use Rattle.call_compiler.specs.Compiled.{messages, growth, has_grown}
use Rattle.call_compiler.proofs.Compiling.{halves}
use Rattle.call_compiler.proofs.OnFiles.{empty_is, write_is_refused, write_is_empty, write_is_too_large, write_is_done}
use Rattle.call_compiler.proofs.write.write.Goals as goal

pub returns-in-Err : goal.returns-in-Err
returns-in-Err c = write_is_refused c.args.indexes.now c.args.path.now c.args.offset c.args.bytes.now c.args.at c.refused.result.0 (messages c.refused.result.1)
    c.in_ok-file.field-0 c.in_ok-file.ensures.reported c.in-Err.fault c.in-Err.is c.refused.ensures.reply c.refused.ensures.messages

pub returns-then-is_empty : goal.returns-then-is_empty
returns-then-is_empty c = write_is_empty c.args.indexes.now c.args.path.now c.args.offset c.args.bytes.now c.args.at c.without_messages.result.0 (messages c.without_messages.result.1)
    c.in_ok-file.field-0 c.in_ok-file.ensures.reported c.in-Ok.file c.in-Ok.is
    (empty_is c.args.bytes.now c.is_empty.result c.is_empty.ensures ∙ c.if-is_empty.true) c.without_messages.ensures.reply c.without_messages.ensures.messages

pub returns-then-not-fits_file : goal.returns-then-not-fits_file
returns-then-not-fits_file c = write_is_too_large c.args.indexes.now c.args.path.now c.args.offset c.args.bytes.now c.args.at c.refused-then-not-fits_file.result.0 (messages c.refused-then-not-fits_file.result.1)
    c.in_ok-file.field-0 c.in_ok-file.ensures.reported c.in-Ok.file c.in-Ok.is
    (empty_is c.args.bytes.now c.is_empty.result c.is_empty.ensures ∙ c.if-is_empty.false)
    (ap (λ (n : ℕ). nat_le (c.args.offset + n) greatest_file) (sym c.len.ensures.value) ∙ sym c.fits_file.ensures ∙ c.if-not-fits_file.true) c.refused-then-not-fits_file.ensures.reply c.refused-then-not-fits_file.ensures.messages

pub returns : goal.returns
returns c =
    let same : c.as_slice.result.now ≡ c.args.bytes.now = c.as_slice.ensures in
    let len : c.count-len.result ≡ length c.args.bytes.now = c.count-len.ensures.value ∙ ap length same in
    let grows : ℕ → List (Msg MetaUpdate Meta) = λ end. growth (enc c.args.path.now) end c.args.at (has_grown end c.args.at c.in-Ok.file.len c.in-Ok.file.modified) in
    write_is_done c.args.indexes.now c.args.path.now c.args.offset c.args.bytes.now c.args.at (Count c.count-len.result) (record { meta = c.in_ok-meta.meta.items; block = c.in_ok-block.block.items })
    c.in_ok-file.field-0 c.in_ok-file.ensures.reported c.in-Ok.file c.in-Ok.is
    (omega (arith, c.ranges.at.fits)) c.key-key.ensures.valid (subst (λ (w : List ℕ). AreBytes w) same c.count-len.ensures.bytes) (empty_is c.args.bytes.now c.is_empty.result c.is_empty.ensures ∙ c.if-is_empty.false)
    (ap (λ (n : ℕ). nat_le (c.args.offset + n) greatest_file) (sym c.len.ensures.value) ∙ sym c.fits_file.ensures ∙ c.if-not-fits_file.false)
    c.in_ok-file.ensures.grown
    (subst (λ (ms : List (Msg BlockUpdate (List ℕ))). Changes (patched c.args.offset c.args.bytes.now) c.args.path.now ms) c.in_ok-block.ensures.messages c.in_ok-block.ensures.meaning)
    (ap Count len)
    (halves _ _ _ _
    (c.in_ok-meta.ensures
    ∙ ap (λ (k : Key). growth k (c.args.offset + c.count-len.result) c.args.at (has_grown (c.args.offset + c.count-len.result) c.args.at c.in-Ok.file.len c.in-Ok.file.modified)) c.key-key.ensures.value
    ∙ ap (λ (n : ℕ). grows (c.args.offset + n)) len)
    c.in_ok-block.ensures.messages)
