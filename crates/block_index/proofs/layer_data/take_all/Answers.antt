use Rattle.std.proofs.Common.{◌≡◌, ◌+◌, ◌∷◌, List, ℕ, Option, length, map, take, drop, ap, sym, subst, ◌<◌, ◌∙◌, arith}
use Rattle.reference.specs.Indexes.{overlaid}
use Rattle.block_index.specs.Layers.{with_layers, layer_in}
use Rattle.block_index.specs.Patches.{Overlay}
use Rattle.block_index.specs.declared.layer_data.Extent.{Extent}
use Rattle.block_index.proofs.Layering.{inside_taken, applied_past, others_taken}
use Rattle.block_index.proofs.layer_data.take_all.Goals as goal

pub each-preserved-then-branch : goal.each-preserved-then-branch
each-preserved-then-branch c =
    let es : List Extent = c.each.extents.items in
    let ps : List Overlay = map (layer_in c.args.bytes.now) es in
    let at : ℕ = c.each.at in
    let fs : List Extent = c.remove.new.self.items in
    let len : c.len.result ≡ length es = c.len.ensures ∙ c.each.extents.ok.0 in
    let there : at < length es = omega (arith, c.each-test.true) in
    let short : length fs + 1 ≡ length es = omega (arith, c.remove.ensures.len, c.remove.new.self.ok.0, c.each.extents.ok.0) in
    let others : (take at (map (layer_in c.args.bytes.now) fs) ≡ take at ps) × (drop at (map (layer_in c.args.bytes.now) fs) ≡ drop (at + 1) ps) = others_taken (layer_in c.args.bytes.now) es fs at there c.remove.ensures.by_index.2 in
    let p : Overlay = record { off = c.layer_at-first.result.0; bytes = c.layer_at-first.result.1.now } in
    let first : drop at ps ≡ p ∷ drop (at + 1) ps = subst (λ (ds : List Extent). drop at (map (layer_in c.args.bytes.now) ds) ≡ p ∷ drop (at + 1) (map (layer_in c.args.bytes.now) ds)) c.as_slice.ensures.value c.layer_at-first.ensures.at in
    record {
      within = omega (arith, there, short);
      inside = inside_taken c.args.bytes.now es fs at c.each.invariant.inside c.remove.ensures.by_index.2;
      all = λ old.
          ap (λ (qs : List Overlay). with_layers qs (overlaid c.take.new.self.off c.take.new.self.bytes (with_layers (drop at (map (layer_in c.args.bytes.now) fs)) old))) others.0
          ∙ ap (λ (qs : List Overlay). with_layers (take at ps) (overlaid c.take.new.self.off c.take.new.self.bytes (with_layers qs old))) others.1
          ∙ ap (with_layers (take at ps)) (c.in_ok-take.ensures.taken c.if-branch.true (with_layers (drop (at + 1) ps) old))
          ∙ sym (ap (λ (qs : List Overlay). with_layers (take at ps) (overlaid c.each.top.off c.each.top.bytes (with_layers qs old))) first)
          ∙ c.each.invariant.all old;
    }

pub each-preserved : goal.each-preserved
each-preserved c =
    let es : List Extent = c.each.extents.items in
    let ps : List Overlay = map (layer_in c.args.bytes.now) es in
    let at : ℕ = c.each.at in
    let len : c.len.result ≡ length es = c.len.ensures ∙ c.each.extents.ok.0 in
    let there : at < length es = omega (arith, c.each-test.true) in
    let p : Overlay = record { off = c.layer_at-first.result.0; bytes = c.layer_at-first.result.1.now } in
    let first : drop at ps ≡ p ∷ drop (at + 1) ps = subst (λ (ds : List Extent). drop at (map (layer_in c.args.bytes.now) ds) ≡ p ∷ drop (at + 1) (map (layer_in c.args.bytes.now) ds)) c.as_slice.ensures.value c.layer_at-first.ensures.at in
    record {
      within = omega (arith, there);
      inside = c.each.invariant.inside;
      all = λ old.
          applied_past ps at p (λ (o : Option (List ℕ)). overlaid c.take.new.self.off c.take.new.self.bytes (with_layers (drop (at + 1) ps) o)) old first
          ∙ ap (with_layers (take at ps)) (c.in_ok-take.ensures.apart c.if-branch.false (with_layers (drop (at + 1) ps) old))
          ∙ sym (ap (λ (qs : List Overlay). with_layers (take at ps) (overlaid c.each.top.off c.each.top.bytes (with_layers qs old))) first)
          ∙ c.each.invariant.all old;
    }
