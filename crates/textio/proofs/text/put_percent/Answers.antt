use Rattle.std.proofs.Common.{[], ◌∷◌, ◌++◌, ap, sym, ◌∙◌, subst, append_assoc, append-nil}
use Rattle.std.specs.List.{All, flat_map}
use Rattle.std.specs.Io.KnownBytes.{Appends}
use Rattle.std.proofs.KnownBytes.{Appends-trans}
use Rattle.std.proofs.lemmas.List.{nil_from_length}
use Rattle.std.proofs.lemmas.Grind.{flat_map-append}
use Rattle.reference.specs.Image.{percent}
use Rattle.textio.specs.Parts.{AppendsPart}
use Rattle.textio.specs.Texts.{IsPlain}
use Rattle.textio.proofs.Known.{on_err, part_after, part_before}
use Rattle.textio.proofs.Texts.{cut_more, plain_more, plain_text, text_of_pieces}
use Rattle.textio.proofs.text.put_percent.Goals as goal

pub returns-in_err-put-clause-err : goal.returns-in_err-put-clause-err
returns-in_err-put-clause-err g c =
    let (done, split, appended) = c.loop.invariant in
    let piece = c.split_at.result.0.now in
    let behind = c.split_at.result.1.now in
    let cut = cut_more c.args.name.now done c.loop.rest.now piece behind c.plain_len.result split c.split_at.ensures.front c.split_at.ensures.back in
    let same = plain_text piece (subst (All IsPlain) (sym c.split_at.ensures.front) c.plain_len.ensures.plain) in
    let part = subst (AppendsPart _ _) (sym same) c.in_err-put.ensures.err in
    on_err _ _ (subst (AppendsPart _ _) (text_of_pieces percent c.args.name.now done piece behind cut) (part_before _ _ _ _ (part_after _ _ _ _ _ appended part)))

pub returns-in_default-clause-ok : goal.returns-in_default-clause-ok
returns-in_default-clause-ok g c =
    let (done, split, appended) = c.loop.invariant in
    let piece = c.split_at.result.0.now in
    let behind = c.split_at.result.1.now in
    let cut = cut_more c.args.name.now done c.loop.rest.now piece behind c.plain_len.result split c.split_at.ensures.front c.split_at.ensures.back in
    let grown = plain_more _ _ _ done piece c.loop.rest.now c.plain_len.result appended c.split_at.ensures.front c.plain_len.ensures.plain c.in_ok-put.ensures.ok in
    let whole = cut ∙ ap (λ l. (done ++ piece) ++ l) (nil_from_length behind c.in_default.ensures.cases) ∙ append-nil (done ++ piece) in
    subst (Appends _ _) (sym (ap (flat_map percent) whole)) grown

pub returns-in_err-put_percent_byte-clause-err : goal.returns-in_err-put_percent_byte-clause-err
returns-in_err-put_percent_byte-clause-err g c =
    let (done, split, appended) = c.loop.invariant in
    let piece = c.split_at.result.0.now in
    let behind = c.split_at.result.1.now in
    let byte = c.in-Some.byte.now in
    let after = c.in-Some.after.now in
    let cut = cut_more c.args.name.now done c.loop.rest.now piece behind c.plain_len.result split c.split_at.ensures.front c.split_at.ensures.back in
    let grown = plain_more _ _ _ done piece c.loop.rest.now c.plain_len.result appended c.split_at.ensures.front c.plain_len.ensures.plain c.in_ok-put.ensures.ok in
    let whole = cut ∙ ap (λ l. (done ++ piece) ++ l) c.in-Some.ensures.cases.0 in
    let text = sym (ap (flat_map percent) whole ∙ flat_map-append percent (done ++ piece) (byte ∷ after)) in
    on_err _ _ (subst (AppendsPart _ _) text (part_after _ _ _ _ _ grown (part_before _ _ (percent byte) (flat_map percent after) c.in_err-put_percent_byte.ensures.err)))

pub loop-preserved : goal.loop-preserved
loop-preserved g c =
    let (done, split, appended) = c.loop.invariant in
    let piece = c.split_at.result.0.now in
    let behind = c.split_at.result.1.now in
    let byte = c.in-Some.byte.now in
    let after = c.in-Some.after.now in
    let cut = cut_more c.args.name.now done c.loop.rest.now piece behind c.plain_len.result split c.split_at.ensures.front c.split_at.ensures.back in
    let grown = plain_more _ _ _ done piece c.loop.rest.now c.plain_len.result appended c.split_at.ensures.front c.plain_len.ensures.plain c.in_ok-put.ensures.ok in
    let whole = cut ∙ ap (λ l. (done ++ piece) ++ l) c.in-Some.ensures.cases.0 in
    let text = sym (flat_map-append percent (done ++ piece) (byte ∷ []) ∙ ap (λ t. flat_map percent (done ++ piece) ++ t) (append-nil (percent byte))) in (
      (done ++ piece) ++ byte ∷ [],
      whole ∙ sym (append_assoc (done ++ piece) (byte ∷ []) after),
      subst (Appends _ _) text (Appends-trans _ _ _ _ _ grown c.in_ok-put_percent_byte.ensures.ok),
    )

pub returns-clause-err : goal.returns-clause-err
returns-clause-err g c =
    let (done, split, appended) = c.loop.invariant in
    (flat_map percent done, flat_map percent c.loop.rest.now, ap (flat_map percent) split ∙ flat_map-append percent done c.loop.rest.now, appended)
