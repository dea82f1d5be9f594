use Rattle.std.proofs.Common.{◌≡◌, Result, Err, IfErr, sym, subst₂}
use Rattle.images.specs.Taken.{answer_of}
use Rattle.images.specs.declared.loader.ImageLoader.{ImageLoader}
use Rattle.pathkey.specs.declared.errno.Errno.{Errno}
use Rattle.doorvervain.specs.Handed.{AnswerReported}
use Rattle.doorvervain.proofs.pieces.doorvervain_raw_load_finish.Goals as goal

pub returns-clause-refused : goal.returns-clause-refused
returns-clause-refused c =
    let same : c.into_inner-loader.result ≡ c.args.loading.loading = cc in
    subst₂ (λ (l : ImageLoader) (r : Result (Unit {0}) Errno). IfErr (answer_of l.intake) (λ f. AnswerReported {X = Unit {0}} (Err f) r c.end.new.line)) same (sym c.number.ensures.reported) c.end.ensures.refused
