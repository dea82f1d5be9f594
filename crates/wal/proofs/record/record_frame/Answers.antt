use Rattle.std.proofs.Common.{◌≡◌, List, [], ℕ, ◌++◌, length, ap, ◌∙◌, rules}
use Rattle.sha2.specs.Sha256.{sha256}
use Rattle.wal.specs.Records.{digest, front}
use Rattle.wal.proofs.record.record_frame.Goals as goal

ends_are : (salt first front_is body sum all : List ℕ) → first ≡ front_is → sum ≡ sha256 (salt ++ first ++ body) → all ≡ first ++ sum → all ≡ front_is ++ sha256 (salt ++ front_is ++ body)
ends_are salt first front_is body sum all e s a = a ∙ ap (λ (x : List ℕ). first ++ x) s ∙ ap (λ (x : List ℕ). x ++ sha256 (salt ++ x ++ body)) e

pub returns : goal.returns
unfolding digest
returns c =
    let before : c.push_header.new.out.items ≡ front c.args.salt.now c.args.number (length c.args.body.now) = c.in_ok-push_header.ensures ∙ ap (λ (x : List ℕ). x ++ front c.args.salt.now c.args.number (length c.args.body.now)) (let none : c.in_ok-ends.ends.items ≡ [] = search rules in none) in
    ends_are c.args.salt.now c.push_header.new.out.items (front c.args.salt.now c.args.number (length c.args.body.now)) c.args.body.now c.digest_of-sum.result c.extend_from_slice.new.self.items before
    (c.digest_of-sum.ensures ∙ ap (λ (x : List ℕ). sha256 (c.args.salt.now ++ x ++ c.args.body.now)) c.as_slice.ensures.value) (search rules)
