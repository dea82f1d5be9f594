use Rattle.std.proofs.Common.{◌∷◌, ◌++◌, [], codes, subst, ◌∙◌}
use Rattle.std.specs.Io.KnownBytes.{Appends}
use Rattle.textio.specs.Parts.{AppendsPart}
use Rattle.textio.proofs.Known.{on_err, part_after, part_before}
use Rattle.hex.specs.Hex.{encode_lower}
use Rattle.delta.proofs.header.put_heading.Goals as goal

pub returns-in_err-put-clause-err : goal.returns-in_err-put-clause-err
returns-in_err-put-clause-err g c = on_err _ _ (part_before _ _ (codes "delta 1 ") (encode_lower c.args.digest.now ++ 10 ∷ []) c.in_err-put.ensures.err)

pub returns-in_err-put-2-clause-err : goal.returns-in_err-put-2-clause-err
returns-in_err-put-2-clause-err g c =
    let part = subst (AppendsPart _ _) (c.as_slice.ensures ∙ c.digits_of.ensures) c.in_err-put-2.ensures.err in
    on_err _ _ (part_after _ _ _ (codes "delta 1 ") (encode_lower c.args.digest.now ++ 10 ∷ []) c.in_ok-put.ensures.ok (part_before _ _ (encode_lower c.args.digest.now) (10 ∷ []) part))

pub returns-in_err-put-3-clause-err : goal.returns-in_err-put-3-clause-err
returns-in_err-put-3-clause-err g c =
    let digits = subst (Appends _ _) (c.as_slice.ensures ∙ c.digits_of.ensures) c.in_ok-put-2.ensures.ok in
    on_err _ _ (part_after _ _ _ (codes "delta 1 ") (encode_lower c.args.digest.now ++ 10 ∷ []) c.in_ok-put.ensures.ok (part_after _ _ _ (encode_lower c.args.digest.now) (10 ∷ []) digits c.in_err-put-3.ensures.err))
