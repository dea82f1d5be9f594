use Rattle.std.proofs.Common.{◌∙◌, rules}
use Rattle.std.proofs.lemmas.Bool.{iff_false}
use Rattle.edits.proofs.Performing.{block_rewritten, file_from, no_file, no_file_from, no_room, other_digest}
use Rattle.edits.proofs.perform.rewrite.Goals as goal

pub returns-in_default : goal.returns-in_default
returns-in_default c = no_file c.args.path.now c.args.number c.args.old c.args.new.now c.args.volume.now (no_file_from c.args.volume.now c.args.path.now c.in_ok-len.field-0 c.in_ok-len.ensures c.in_default.is)

pub returns-then-new-size : goal.returns-then-new-size
returns-then-new-size c =
    let has = file_from c.args.volume.now c.args.path.now c.in_ok-len.field-0 c.in-Some.len c.in-Some.modified c.in_ok-len.ensures c.in-Some.is in
    no_room c.args.path.now c.args.number c.args.old c.args.new.now c.args.volume.now c.in-Some.len c.in-Some.modified has c.in-Some-block_span.size c.in-Some-block_span.ensures.2 c.if-new-size.true

pub returns-then-not-branch : goal.returns-then-not-branch
returns-then-not-branch c =
    let has = file_from c.args.volume.now c.args.path.now c.in_ok-len.field-0 c.in-Some.len c.in-Some.modified c.in_ok-len.ensures c.in-Some.is in
    other_digest c.args.path.now c.args.number c.args.old c.args.new.now c.args.volume.now c.in-Some.len c.in-Some.modified has c.in-Some-block_span.start c.in-Some-block_span.ensures.1
    (λ w m b date seen. iff_false (c.in_ok-block_has_digest.ensures w m b date seen) (search rules))

pub returns : goal.returns
returns c =
    let has = file_from c.args.volume.now c.args.path.now c.in_ok-len.field-0 c.in-Some.len c.in-Some.modified c.in_ok-len.ensures c.in-Some.is in
    block_rewritten c.args.path.now c.args.number c.args.old c.args.new.now c.args.volume.now c.in-Some.len c.in-Some.modified has c.in-Some-block_span.start c.in-Some-block_span.size c.as_slice.result.now c.write.result c.was_done.result c.write.new.self
    c.in-Some-block_span.ensures.1 c.in-Some-block_span.ensures.0 c.in-Some-block_span.ensures.2 c.if-new-size.false
    (λ w m b date seen. (c.in_ok-block_has_digest.ensures w m b date seen).0 (search rules))
    (c.as_slice.ensures.value ∙ c.in_ok-block.ensures) c.write.ensures c.was_done.ensures
