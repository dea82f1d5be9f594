use Rattle.std.proofs.Common.{◌≡◌, ◌*◌, ℕ, List, Some, arith, drop, sym, ap, take, ◌∙◌}
use Rattle.reference.specs.Calls.{bytes_of}
use Rattle.reference.specs.Tree.{entry_at}
use Rattle.edits.specs.Edits.{block_digest}
use Rattle.edits.specs.declared.edit.Change.TheVariants.{Block}
use Rattle.delta.proofs.PartFacts.{block_rewritten}
use Rattle.delta.proofs.edits_between.block_change.Goals as goal

pub returns : goal.returns
returns c = λ t u of_t of_u.
    ap (λ (i : ℕ). Some (Block i c.block_digest-digest.result c.in_ok-bytes.bytes)) c.from.ensures
    ∙ block_rewritten t u c.args.path.now c.in-Some-File.len c.in-Some-File.field-0-1 c.args.number c.min-count.result c.in_ok-was.was'.items c.in_ok-is.is'.items c.block_digest-digest.result c.in_ok-bytes.bytes
    (sym (c.in_ok-len.ensures u of_u) ∙ c.in-Some-File.is ∙ ap Some c.in-Some-File.field-0-is) (omega arith) (omega arith) (c.in_ok-was.ensures t of_t ∙ at c.args.number c.min-count.result (bytes_of (entry_at t c.args.path.now)) c.from-from.ensures) (c.in_ok-is.ensures u of_u ∙ at c.args.number c.min-count.result (bytes_of (entry_at u c.args.path.now)) c.from-from.ensures) (c.block_digest-digest.ensures ∙ ap block_digest c.as_slice.ensures.value) c.in_ok-bytes.ensures
  where
    at : {from : ℕ} (number count : ℕ) (b : List ℕ) → from ≡ number → take count (drop (4096 * from) b) ≡ take count (drop (4096 * number) b)
    at number count b e = ap (λ (x : ℕ). take count (drop (4096 * x) b)) e
