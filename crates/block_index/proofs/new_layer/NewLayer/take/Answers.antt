use Rattle.std.proofs.Common.{◌≡◌, ◌+◌, ◌≤◌, arith, false, List, ℕ, Some, length, min, sym, ap, ◌∙◌, subst}
use Rattle.reference.specs.Tree.{over}
use Rattle.reference.specs.Indexes.{held, overlaid}
use Rattle.block_index.specs.Patches.{Overlay, is_touching, joined}
use Rattle.block_index.proofs.Overlays.{over_covers, over_twice, touching_meets, touching_not}
use Rattle.block_index.proofs.Layering.{over_swap}
use Rattle.block_index.proofs.new_layer.NewLayer.take.Goals as goal

pub returns-then-not-touches-clause-apart : goal.returns-then-not-touches-clause-apart
returns-then-not-touches-clause-apart c = λ _ old.
    let apart : is_touching c.args.off c.args.run.now c.self.inside.off c.as_slice.result.now ≡ false = sym c.touches.ensures ∙ c.if-not-touches.true in
    subst (λ (p : Overlay). overlaid c.args.off c.args.run.now (overlaid p.off p.bytes old) ≡ overlaid p.off p.bytes (overlaid c.args.off c.args.run.now old)) c.self.view_is
    (subst (λ (b : List ℕ). overlaid c.args.off c.args.run.now (overlaid c.self.inside.off b old) ≡ overlaid c.self.inside.off b (overlaid c.args.off c.args.run.now old)) c.as_slice.ensures.value
    (sym (ap (λ (b : List ℕ). Some b) (over_swap (held old) c.args.off c.args.run.now c.self.inside.off c.as_slice.result.now (touching_not c.args.off c.args.run.now c.self.inside.off c.as_slice.result.now apart)))))

pub returns-then-off-run-clause-taken : goal.returns-then-off-run-clause-taken
returns-then-off-run-clause-taken c = λ _ old.
    let long : c.len.result ≡ length c.self.inside.bytes.items = c.len.ensures ∙ c.self.inside.bytes.ok.0 in
    subst (λ (p : Overlay). overlaid p.off p.bytes old ≡ overlaid p.off p.bytes (overlaid c.args.off c.args.run.now old)) c.self.view_is
    (ap (λ (b : List ℕ). Some b) (over_covers (held old) c.args.off c.args.run.now c.self.inside.off c.self.inside.bytes.items (omega (arith, c.if-self-off.true)) (omega (arith, c.if-off-run.true))))

pub returns-clause-taken : goal.returns-clause-taken
returns-clause-taken c = λ _ old.
    let meets : (c.self.inside.off ≤ c.args.off + length c.args.run.now) × (c.args.off ≤ c.self.inside.off + length c.as_slice.result.now) = touching_meets c.args.off c.args.run.now c.self.inside.off c.as_slice.result.now (sym c.touches.ensures ∙ c.if-not-touches.false) in
    let bytes : c.in_ok-self-inside.field-0.items ≡ joined c.args.off c.args.run.now c.self.inside.off c.as_slice.result.now = c.in_ok-self-inside.ensures ∙ ap (joined c.args.off c.args.run.now c.self.inside.off) (c.as_slice-2.ensures.value ∙ sym c.as_slice.ensures.value) in
    subst (λ (p : Overlay). overlaid c.min-self-inside.result c.in_ok-self-inside.field-0.items old ≡ overlaid p.off p.bytes (overlaid c.args.off c.args.run.now old)) c.self.view_is
    (subst (λ (b : List ℕ). overlaid c.min-self-inside.result c.in_ok-self-inside.field-0.items old ≡ overlaid c.self.inside.off b (overlaid c.args.off c.args.run.now old)) c.as_slice.ensures.value
    (ap (λ (b : List ℕ). Some b)
    (ap (λ (n : ℕ). over (held old) n c.in_ok-self-inside.field-0.items) c.min-self-inside.ensures
    ∙ ap (over (held old) (min c.args.off c.self.inside.off)) bytes
    ∙ over_twice (held old) c.args.off c.args.run.now c.self.inside.off c.as_slice.result.now meets.0 meets.1)))
