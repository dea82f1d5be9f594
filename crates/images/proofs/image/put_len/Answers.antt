use Rattle.std.proofs.Common.{◌∷◌, ◌++◌, [], codes, decimal}
use Rattle.std.proofs.KnownBytes.{Appends-trans}
use Rattle.reference.specs.Image.{moment_text}
use Rattle.images.specs.Image.{version_of}
use Rattle.textio.proofs.Known.{on_err, part_after, part_before}
use Rattle.images.proofs.image.put_len.Goals as goal

pub returns-in_err-put-clause-err : goal.returns-in_err-put-clause-err
returns-in_err-put-clause-err g c =
    on_err _ _ (part_before _ _ (codes " ") (decimal c.args.len ++ (moment_text (version_of c.args.version) c.args.modified ++ 10 ∷ [])) c.in_err-put.ensures.err)

pub returns-in_err-put_number-clause-err : goal.returns-in_err-put_number-clause-err
returns-in_err-put_number-clause-err g c =
    on_err _ _ (part_after _ _ _ (codes " ") _ c.in_ok-put.ensures.ok
    (part_before _ _ (decimal c.args.len) (moment_text (version_of c.args.version) c.args.modified ++ 10 ∷ []) c.in_err-put_number.ensures.err))

pub returns-in_err-put_end-clause-err : goal.returns-in_err-put_end-clause-err
returns-in_err-put_end-clause-err g c =
    on_err _ _ (part_after _ _ _ (codes " ") _ c.in_ok-put.ensures.ok
    (part_after _ _ _ (decimal c.args.len) (moment_text (version_of c.args.version) c.args.modified ++ 10 ∷ []) c.in_ok-put_number.ensures.ok c.in_err-put_end.ensures.err))

pub returns-clause-ok : goal.returns-clause-ok
returns-clause-ok g c =
    Appends-trans _ _ _ (codes " ") _ c.in_ok-put.ensures.ok
    (Appends-trans _ _ _ (decimal c.args.len) (moment_text (version_of c.args.version) c.args.modified ++ 10 ∷ []) c.in_ok-put_number.ensures.ok c.in_ok-put_end.ensures.ok)
