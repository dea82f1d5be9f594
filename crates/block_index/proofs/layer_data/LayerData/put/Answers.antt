use Rattle.std.proofs.Common.{◌≡◌, ◌∷◌, List, length, ap, ◌∙◌, arith, refl}
use Rattle.std.specs.List.{insert}
use Rattle.reference.specs.Indexes.{overlaid}
use Rattle.block_index.specs.Layers.{Layered, with_layers}
use Rattle.block_index.specs.Patches.{Overlay}
use Rattle.block_index.specs.declared.layer_data.Extent.{Extent}
use Rattle.block_index.proofs.Layering.{topped_inside, topped_layers}
use Rattle.block_index.proofs.layer_data.LayerData.put.Goals as goal

-- the extents, with the new one before them
extents_are : (c : goal.In-Ok) → c.insert.new.self.items ≡ record { off = c.args.off; start = c.len-start.result; len = length c.args.new.now } ∷ c.self.inside.extents.items
extents_are c = c.in-Ok.ensures.items ∙ ap (λ (es : List Extent). insert es 0 (record { off = c.args.off; start = c.len-start.result; len = length c.args.new.now })) c.in_ok-reserve.ensures.items

pub invariant_of-self-2 : goal.invariant_of-self-2
invariant_of-self-2 c =
    let s : c.len-start.result ≡ length c.self.inside.bytes.items = c.len-start.ensures ∙ c.self.inside.bytes.ok.0 in
    topped_inside c.self.inside.bytes.items c.self.inside.extents.items c.args.new.now c.args.off c.len-start.result (length c.args.new.now) _ _
    c.self.invariant.0 (omega (arith, c.if-start-new-gt4096.false)) c.requires s refl c.in_ok-extend_from_slice.ensures.items (extents_are c)

pub returns-clause-ok : goal.returns-clause-ok
returns-clause-ok c =
    let s : c.len-start.result ≡ length c.self.inside.bytes.items = c.len-start.ensures ∙ c.self.inside.bytes.ok.0 in (
      ap (λ (l : Layered). l.cut) c.self.view_is,
      λ block.
          ap (λ (ps : List Overlay). with_layers ps block) (topped_layers c.self.inside.bytes.items c.self.inside.extents.items c.args.new.now c.args.off c.len-start.result (length c.args.new.now) _ _ c.self.invariant.0 s refl c.in_ok-extend_from_slice.ensures.items (extents_are c))
          ∙ ap (λ (l : Layered). overlaid c.args.off c.args.new.now (with_layers l.layers block)) c.self.view_is,
    )
