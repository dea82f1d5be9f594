use Rattle.std.proofs.Common.{◌≡◌, ◌+◌, ◌++◌, [], ◌∷◌, List, ℕ, length, sym, ap, ◌∙◌, subst, refl, arith, length-append}
use Rattle.block_index.specs.Layers.{AreInside, Layered}
use Rattle.block_index.specs.Patches.{Overlay}
use Rattle.block_index.specs.declared.layer_data.Extent.{Extent}
use Rattle.block_index.proofs.Layering.{inside_grow, pushed_inside, pushed_layers}
use Rattle.block_index.proofs.layer_data.LayerData.push.Goals as goal

pub invariant_of-self-in_err-push : goal.invariant_of-self-in_err-push
invariant_of-self-in_err-push c =
    let s : c.len-start.result ≡ length c.self.inside.bytes.items = c.len-start.ensures ∙ c.self.inside.bytes.ok.0 in
    let l : length c.extend_from_slice.new.self.items ≡ length (c.self.inside.bytes.items ++ c.args.run.now) = ap (λ (b : List ℕ). length b) c.in_ok-extend_from_slice.ensures.items in
    let m : length (c.self.inside.bytes.items ++ c.args.run.now) ≡ length c.self.inside.bytes.items + length c.args.run.now = length-append c.self.inside.bytes.items c.args.run.now in (
      subst (λ (b : List ℕ). AreInside b c.push.new.self.items) (sym c.in_ok-extend_from_slice.ensures.items)
          (subst (λ (es : List Extent). AreInside (c.self.inside.bytes.items ++ c.args.run.now) es) (sym c.in_err-push.ensures.items) (inside_grow c.self.inside.bytes.items c.args.run.now c.self.inside.extents.items c.self.invariant.0)),
      omega (arith, c.if-start-run-gt4096.false),
    )

pub invariant_of-self-2 : goal.invariant_of-self-2
invariant_of-self-2 c =
    let s : c.len-start.result ≡ length c.self.inside.bytes.items = c.len-start.ensures ∙ c.self.inside.bytes.ok.0 in
    pushed_inside c.self.inside.bytes.items c.self.inside.extents.items c.args.run.now c.args.off c.len-start.result (length c.args.run.now) c.extend_from_slice.new.self.items c.push.new.self.items
    c.self.invariant.0 (omega (arith, c.if-start-run-gt4096.false)) c.requires s refl c.in_ok-extend_from_slice.ensures.items c.in_ok-push.ensures.items

pub returns : goal.returns
returns c =
    let s : c.len-start.result ≡ length c.self.inside.bytes.items = c.len-start.ensures ∙ c.self.inside.bytes.ok.0 in
    ap (λ (ps : List Overlay). record { cut = c.self.inside.cut; layers = ps }) (pushed_layers c.self.inside.bytes.items c.self.inside.extents.items c.args.run.now c.args.off c.len-start.result (length c.args.run.now) c.extend_from_slice.new.self.items c.push.new.self.items
    c.self.invariant.0 s refl c.in_ok-extend_from_slice.ensures.items c.in_ok-push.ensures.items)
    ∙ ap (λ (l : Layered). record { cut = l.cut; layers = l.layers ++ record { off = c.args.off; bytes = c.args.run.now } ∷ [] }) c.self.view_is
