use Rattle.std.proofs.Common.{List, ℕ, ap, ◌∙◌, length, ◌++◌, min}
use Rattle.std.proofs.lemmas.List.{take_rest}
use Rattle.block_index.proofs.Overlays.{joined_made}
use Rattle.block_index.proofs.patch.join_bytes.Goals as goal

pub returns : goal.returns
returns c = joined_made c.args.a c.args.v.now c.args.c c.args.w.now c.saturating_sub-before.result c.min-kept.result
    c.in_ok-bytes.bytes.items c.extend_from_slice.new.self.items c.extend_from_slice-2.new.self.items c.extend_from_slice-3.new.self.items
    c.saturating_sub-before.ensures (c.min-kept.ensures ∙ ap (λ (n : ℕ). min (length c.args.v.now) n) c.saturating_sub.ensures) c.in_ok-bytes.ensures.items c.in_ok-extend_from_slice.ensures.items c.in_ok-extend_from_slice-2.ensures.items
    (c.in_ok-extend_from_slice-3.ensures.items ∙ ap (λ (z : List ℕ). c.extend_from_slice-2.new.self.items ++ z) (take_rest c.args.v.now c.min-kept.result))
