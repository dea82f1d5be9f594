use Rattle.std.proofs.Common.{◌≡◌, ◌++◌, ◌∷◌, [], List, ℕ, length, map, ap, subst, ◌∙◌, arith, refl}
use Rattle.reference.specs.Indexes.{overlaid}
use Rattle.block_index.specs.Layers.{AreInside, Layered, with_layers, layer_in}
use Rattle.block_index.specs.Patches.{Overlay}
use Rattle.block_index.specs.declared.layer_data.Extent.{Extent}
use Rattle.block_index.proofs.Layering.{with_layers-append, pushed_inside, pushed_layers}
use Rattle.block_index.proofs.layer_data.LayerData.absorb_touching.Goals as goal

-- the bytes of all layers, and how many they are
bytes_are : (c : goal.After-drop-top-inside-2) → c.as_slice-bytes.result.now ≡ c.self.inside.bytes.items
bytes_are c = c.as_slice-bytes.ensures.value

inside_is : (c : goal.After-drop-top-inside-2) → AreInside c.self.inside.bytes.items c.take_all.new.extents.items
inside_is c = subst (λ (b : List ℕ). AreInside b c.take_all.new.extents.items) (bytes_are c) c.in_ok-take_all.ensures.inside

pub invariant_of-self-2 : goal.invariant_of-self-2
invariant_of-self-2 c =
    let bs : List ℕ = c.self.inside.bytes.items in
    let n : length c.as_slice-bytes.result.now ≡ length bs = ap (λ (b : List ℕ). length b) (bytes_are c) in
    let m : length c.bytes-run.result.now ≡ length c.take_all.new.top.bytes = ap (λ (b : List ℕ). length b) c.bytes-run.ensures in
    pushed_inside bs c.take_all.new.extents.items c.bytes-run.result.now c.off.result (length c.as_slice-bytes.result.now) (length c.bytes-run.result.now) _ _
    (inside_is c) (omega (arith, c.if-start-run-gt4096.false)) (omega (arith, c.off.ensures.fits, m)) n refl c.in_ok-extend_from_slice-2.ensures.items c.in_ok-push.ensures.items

pub returns-clause-ok : goal.returns-clause-ok
returns-clause-ok c =
    let bs : List ℕ = c.self.inside.bytes.items in
    let kept : List Extent = c.take_all.new.extents.items in
    let n : length c.as_slice-bytes.result.now ≡ length bs = ap (λ (b : List ℕ). length b) (bytes_are c) in
    let q : Overlay = record { off = c.off.result; bytes = c.bytes-run.result.now } in
    let below : List Overlay = map (layer_in bs) kept in
    let own : c.extend_from_slice.new.self.items ≡ c.self.inside.extents.items = c.in_ok-extend_from_slice.ensures.items ∙ ap (λ (es : List Extent). es ++ c.as_slice.result.now) c.in_ok-extents.ensures.items ∙ c.as_slice.ensures.value in (
      ap (λ (l : Layered). l.cut) c.self.view_is,
      λ block.
          ap (λ (ps : List Overlay). with_layers ps block) (pushed_layers bs kept c.bytes-run.result.now c.off.result (length c.as_slice-bytes.result.now) (length c.bytes-run.result.now) _ _ (inside_is c) n refl c.in_ok-extend_from_slice-2.ensures.items c.in_ok-push.ensures.items)
          ∙ with_layers-append below (q ∷ []) block
          ∙ ap (λ (n : ℕ). with_layers below (overlaid n c.bytes-run.result.now block)) c.off.ensures.value
          ∙ ap (λ (b : List ℕ). with_layers below (overlaid c.take_all.new.top.off b block)) c.bytes-run.ensures
          ∙ subst (λ (b : List ℕ). with_layers (map (layer_in b) kept) (overlaid c.take_all.new.top.off c.take_all.new.top.bytes block) ≡ overlaid c.in_ok-top.top.off c.in_ok-top.top.bytes (with_layers (map (layer_in b) c.extend_from_slice.new.self.items) block)) (bytes_are c) (c.in_ok-take_all.ensures.all block)
          ∙ ap (λ (t : Overlay). overlaid t.off t.bytes (with_layers (map (layer_in bs) c.extend_from_slice.new.self.items) block)) c.in_ok-top.ensures
          ∙ ap (λ (es : List Extent). overlaid c.args.off c.args.new.now (with_layers (map (layer_in bs) es) block)) own
          ∙ ap (λ (l : Layered). overlaid c.args.off c.args.new.now (with_layers l.layers block)) c.self.view_is,
    )
