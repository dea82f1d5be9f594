use Rattle.std.proofs.Common.{◌≡◌, ◌∙◌, ℕ, List, drop, subst, take}
use Rattle.std.specs.Prelude.{◌↔◌, IsTrue}
use Rattle.edits.specs.Edits.{block_digest}
use Rattle.edits.proofs.Looking.{read_from}
use Rattle.edits.proofs.perform.block_has_digest.Goals as goal

pub returns-in-Ok : goal.returns-in-Ok
returns-in-Ok c = λ w m b date seen.
    let read : c.as_slice.result.now ≡ take 4096 (drop c.args.start b) = c.as_slice.ensures.value ∙ read_from c.args.volume.now c.args.path.now c.args.start 0 c.in-Ok.block.items (c.in-Ok.ensures 0) w m b date seen in
    subst (λ (x : List ℕ). IsTrue c.has_digest.result ↔ (block_digest x ≡ c.args.digest)) read c.has_digest.ensures
