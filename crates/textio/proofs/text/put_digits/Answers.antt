use Rattle.std.proofs.Common.{ap, sym, ◌∙◌, subst, ◌++◌}
use Rattle.std.specs.List.{flat_map}
use Rattle.std.specs.Io.KnownBytes.{Appends}
use Rattle.std.proofs.KnownBytes.{Appends-trans}
use Rattle.std.proofs.lemmas.Grind.{flat_map-append}
use Rattle.reference.specs.Image.{two_digits}
use Rattle.textio.specs.Parts.{AppendsPart}
use Rattle.textio.proofs.Known.{on_err, part_after, part_before}
use Rattle.textio.proofs.Texts.{cut_more, text_of_pieces}
use Rattle.textio.proofs.text.put_digits.Goals as goal

pub returns-in_err-put_piece-clause-err : goal.returns-in_err-put_piece-clause-err
returns-in_err-put_piece-clause-err g c =
    let (done, split, appended) = c.loop.invariant in
    let piece = c.split_at.result.0.now in
    let behind = c.split_at.result.1.now in
    let cut = cut_more c.args.bytes.now done c.loop.rest.now piece behind c.min.result split c.split_at.ensures.front c.split_at.ensures.back in
    on_err _ _ (subst (AppendsPart _ _) (text_of_pieces (two_digits 87) c.args.bytes.now done piece behind cut) (part_before _ _ _ _ (part_after _ _ _ _ _ appended c.in_err-put_piece.ensures.err)))

pub loop-preserved : goal.loop-preserved
loop-preserved g c =
    let (done, split, appended) = c.loop.invariant in
    let piece = c.split_at.result.0.now in
    let behind = c.split_at.result.1.now in
    let cut = cut_more c.args.bytes.now done c.loop.rest.now piece behind c.min.result split c.split_at.ensures.front c.split_at.ensures.back in
    (done ++ piece, cut, subst (Appends _ _) (sym (flat_map-append (two_digits 87) done piece)) (Appends-trans _ _ _ _ _ appended c.in_ok-put_piece.ensures.ok))

pub returns-clause-err : goal.returns-clause-err
returns-clause-err g c =
    let (done, split, appended) = c.loop.invariant in
    (flat_map (two_digits 87) done, flat_map (two_digits 87) c.loop.rest.now, ap (flat_map (two_digits 87)) split ∙ flat_map-append (two_digits 87) done c.loop.rest.now, appended)
