use Rattle.std.proofs.Common.{◌≡◌, List, ℕ, ◌++◌, length, ap, ◌∙◌}
use Rattle.wal.specs.Entries.{entry, entry_front}
use Rattle.wal.specs.Encode.{encoded}
use Rattle.wal.proofs.encode.encode.Goals as goal

pub returns-clause-bytes : goal.returns-clause-bytes
unfolding entry
returns-clause-bytes c =
    let both : c.as_slice.result.now ++ c.args.second.now ≡ entry_front c.args.head c.args.first.now (length c.args.second.now) ++ c.args.second.now = ap (λ (x : List ℕ). x ++ c.args.second.now) (c.as_slice.ensures.value ∙ c.in_ok-front.ensures) in
    (c.encode_two.ensures.count ∙ ap length both, c.encode_two.ensures.buffer ∙ ap (λ (x : List ℕ). encoded x c.args.out.now) both)
