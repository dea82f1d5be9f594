use Rattle.std.proofs.Common.{◌∷◌, ◌++◌, [], subst}
use Rattle.std.specs.Io.KnownBytes.{Appends}
use Rattle.std.proofs.KnownBytes.{Appends-trans}
use Rattle.reference.specs.Image.{directory_letter, moment_text, path_text}
use Rattle.images.specs.Image.{version_of}
use Rattle.textio.specs.Parts.{AppendsPart}
use Rattle.textio.proofs.Known.{on_err, part_after, part_before}
use Rattle.images.proofs.image.put_directory.Goals as goal

pub returns-in_err-put-clause-err : goal.returns-in_err-put-clause-err
returns-in_err-put-clause-err g c =
    let v = version_of c.args.version in
    let part = subst (AppendsPart _ _) c.directory_word.ensures c.in_err-put.ensures.err in
    on_err _ _ (part_before _ _ (directory_letter v ∷ 32 ∷ []) (path_text c.args.path.now ++ (moment_text v c.args.modified ++ 10 ∷ [])) part)

pub returns-in_err-put_path-clause-err : goal.returns-in_err-put_path-clause-err
returns-in_err-put_path-clause-err g c =
    let v = version_of c.args.version in
    let word = subst (Appends _ _) c.directory_word.ensures c.in_ok-put.ensures.ok in
    on_err _ _ (part_after _ _ _ (directory_letter v ∷ 32 ∷ []) _ word
    (part_before _ _ (path_text c.args.path.now) (moment_text v c.args.modified ++ 10 ∷ []) c.in_err-put_path.ensures.err))

pub returns-in_err-put_end-clause-err : goal.returns-in_err-put_end-clause-err
returns-in_err-put_end-clause-err g c =
    let v = version_of c.args.version in
    let word = subst (Appends _ _) c.directory_word.ensures c.in_ok-put.ensures.ok in
    on_err _ _ (part_after _ _ _ (directory_letter v ∷ 32 ∷ []) _ word
    (part_after _ _ _ (path_text c.args.path.now) (moment_text v c.args.modified ++ 10 ∷ []) c.in_ok-put_path.ensures.ok c.in_err-put_end.ensures.err))

pub returns-clause-ok : goal.returns-clause-ok
returns-clause-ok g c =
    let v = version_of c.args.version in
    let word = subst (Appends _ _) c.directory_word.ensures c.in_ok-put.ensures.ok in
    Appends-trans _ _ _ (directory_letter v ∷ 32 ∷ []) _ word
    (Appends-trans _ _ _ (path_text c.args.path.now) (moment_text v c.args.modified ++ 10 ∷ []) c.in_ok-put_path.ensures.ok c.in_ok-put_end.ensures.ok)
