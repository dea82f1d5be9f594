use Rattle.std.proofs.Common.{◌++◌, ℕ, List, codes, decimal, take, sym, subst}
use Rattle.textio.specs.Parts.{AppendsPart}
use Rattle.textio.specs.Texts.{hex_text}
use Rattle.textio.proofs.Known.{on_err, part_after, part_before}
use Rattle.images.proofs.ImageBlocks.{line_of_kept}
use Rattle.images.proofs.image.put_block.Goals as goal

pub returns-in_err-put-clause-err : goal.returns-in_err-put-clause-err
returns-in_err-put-clause-err g c =
    let kept : List ℕ = take c.trimmed_len.result c.args.block.now in
    on_err _ _ (subst (AppendsPart _ _) (sym (line_of_kept c.args.number c.args.block.now kept c.trimmed_len.ensures.kept c.if-is_empty.ensures))
    (part_before _ _ (codes "b ") (decimal c.args.number ++ (codes " " ++ (hex_text kept ++ codes "\n"))) c.in_err-put.ensures.err))

pub returns-in_err-put_number-clause-err : goal.returns-in_err-put_number-clause-err
returns-in_err-put_number-clause-err g c =
    let kept : List ℕ = take c.trimmed_len.result c.args.block.now in
    on_err _ _ (subst (AppendsPart _ _) (sym (line_of_kept c.args.number c.args.block.now kept c.trimmed_len.ensures.kept c.if-is_empty.ensures))
    (part_after _ _ _ (codes "b ") _ c.in_ok-put.ensures.ok
    (part_before _ _ (decimal c.args.number) (codes " " ++ (hex_text kept ++ codes "\n")) (rw c.from.ensures at c.in_err-put_number.ensures.err))))

pub returns-in_err-put-2-clause-err : goal.returns-in_err-put-2-clause-err
returns-in_err-put-2-clause-err g c =
    let kept : List ℕ = take c.trimmed_len.result c.args.block.now in
    on_err _ _ (subst (AppendsPart _ _) (sym (line_of_kept c.args.number c.args.block.now kept c.trimmed_len.ensures.kept c.if-is_empty.ensures))
    (part_after _ _ _ (codes "b ") _ c.in_ok-put.ensures.ok
    (part_after _ _ _ (decimal c.args.number) _ (rw c.from.ensures at c.in_ok-put_number.ensures.ok)
    (part_before _ _ (codes " ") (hex_text kept ++ codes "\n") c.in_err-put-2.ensures.err))))

pub returns-in_err-put_hex-clause-err : goal.returns-in_err-put_hex-clause-err
returns-in_err-put_hex-clause-err g c =
    let kept : List ℕ = take c.trimmed_len.result c.args.block.now in
    on_err _ _ (subst (AppendsPart _ _) (sym (line_of_kept c.args.number c.args.block.now kept c.trimmed_len.ensures.kept c.if-is_empty.ensures))
    (part_after _ _ _ (codes "b ") _ c.in_ok-put.ensures.ok
    (part_after _ _ _ (decimal c.args.number) _ (rw c.from.ensures at c.in_ok-put_number.ensures.ok)
    (part_after _ _ _ (codes " ") _ c.in_ok-put-2.ensures.ok
    (part_before _ _ (hex_text kept) (codes "\n") c.in_err-put_hex.ensures.err)))))

pub returns-in_err-put-3-clause-err : goal.returns-in_err-put-3-clause-err
returns-in_err-put-3-clause-err g c =
    let kept : List ℕ = take c.trimmed_len.result c.args.block.now in
    on_err _ _ (subst (AppendsPart _ _) (sym (line_of_kept c.args.number c.args.block.now kept c.trimmed_len.ensures.kept c.if-is_empty.ensures))
    (part_after _ _ _ (codes "b ") _ c.in_ok-put.ensures.ok
    (part_after _ _ _ (decimal c.args.number) _ (rw c.from.ensures at c.in_ok-put_number.ensures.ok)
    (part_after _ _ _ (codes " ") _ c.in_ok-put-2.ensures.ok
    (part_after _ _ _ (hex_text kept) (codes "\n") c.in_ok-put_hex.ensures.ok c.in_err-put-3.ensures.err)))))
