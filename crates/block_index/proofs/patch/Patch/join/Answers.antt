use Rattle.std.proofs.Common.{◌≡◌, Some, List, ℕ, ap, ◌∙◌, arith, length, sym, ◌+◌, ◌≤◌}
use Rattle.reference.specs.Indexes.{held, overlaid}
use Rattle.block_index.specs.Patches.{Overlay}
use Rattle.block_index.proofs.Overlays.{over_covers, over_twice_of, touching_meets}
use Rattle.block_index.proofs.patch.Patch.join.Goals as goal

pub returns-then-a-v : goal.returns-then-a-v
returns-then-a-v c = λ old.
    let a : c.off-a.result ≡ c.args.self.now.off = c.off-a.ensures.value in
    let e : c.off-c.result ≡ c.args.later.now.off = c.off-c.ensures.value in
    let v : length c.bytes-v.result.now ≡ length c.args.self.now.bytes = ap (λ (b : List ℕ). length b) c.bytes-v.ensures in
    let w : length c.bytes-w.result.now ≡ length c.args.later.now.bytes = ap (λ (b : List ℕ). length b) c.bytes-w.ensures in
    ap (λ (p : Overlay). overlaid p.off p.bytes old) c.in_ok-copy.ensures
    ∙ ap (λ (b : List ℕ). Some b) (over_covers (held old) c.args.self.now.off c.args.self.now.bytes c.args.later.now.off c.args.later.now.bytes (omega (arith, c.if-c-a.true)) (omega (arith, c.if-a-v.true)))

pub returns : goal.returns
returns c = λ old. let meets : (c.off-c.result ≤ c.off-a.result + length c.bytes-v.result.now) × (c.off-a.result ≤ c.off-c.result + length c.bytes-w.result.now) = touching_meets c.off-a.result c.bytes-v.result.now c.off-c.result c.bytes-w.result.now (sym c.touches.ensures ∙ c.if-not-touches.false) in ap (λ (b : List ℕ). Some b) (over_twice_of (held old) c.args.self.now.off c.args.self.now.bytes c.args.later.now.off c.args.later.now.bytes c.new.result.off c.new.result.bytes
    c.off-a.result c.bytes-v.result.now c.off-c.result c.bytes-w.result.now c.off-a.ensures.value c.bytes-v.ensures c.off-c.ensures.value c.bytes-w.ensures
    (c.new.ensures.off ∙ c.min.ensures) (c.new.ensures.bytes ∙ c.in_ok-shared.ensures.ok ∙ c.in_ok-bytes.ensures) meets.0 meets.1)
