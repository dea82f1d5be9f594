use Rattle.std.proofs.Common.{◌≡◌, List, [], ℕ, ◌++◌, length, ap, ◌∙◌, append-nil}
use Rattle.wal.specs.Records.{digest, front}
use Rattle.wal.specs.Encode.{encoded}
use Rattle.wal.proofs.encode.encode_frame.Goals as goal

pub returns-clause-bytes : goal.returns-clause-bytes
returns-clause-bytes c =
    let all : c.as_slice.result.now ++ [] ≡ front c.args.salt.now c.args.number (length c.args.body.now) ++ digest c.args.salt.now c.args.number c.args.body.now = append-nil c.as_slice.result.now ∙ c.as_slice.ensures.value ∙ c.in_ok-ends.ensures in
    (c.encode_two.ensures.count ∙ ap length all, c.encode_two.ensures.buffer ∙ ap (λ (x : List ℕ). encoded x c.args.out.now) all)
