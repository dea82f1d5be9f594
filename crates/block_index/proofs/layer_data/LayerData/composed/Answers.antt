use Rattle.std.proofs.Common.{◌≡◌, List, ℕ, Option, map, sym, ap, ◌∙◌}
use Rattle.std.proofs.lemmas.Result.{IfOk-weaker}
use Rattle.block_index.specs.Layers.{Layered, clipped, cut_by, layer_in, layered}
use Rattle.block_index.specs.Patches.{Overlay}
use Rattle.block_index.specs.declared.layer_data.Extent.{Extent}
use Rattle.block_index.proofs.Layering.{clipped_inside, applied_follows}
use Rattle.block_index.proofs.layer_data.LayerData.composed.Goals.{in-Some+in_ok-first-in-Some, in-None+in_ok-first-in-None}
use Rattle.block_index.proofs.layer_data.LayerData.composed.Goals as goal

pub returns : goal.returns
returns c =
    let ps : List Overlay = map (clipped 4096) (map (layer_in c.as_slice-2.result.now) c.as_slice.result.now) in
    let layers : ps ≡ c.args.later.now.layers =
    ap (λ (b : List ℕ). map (clipped 4096) (map (layer_in b) c.as_slice.result.now)) c.as_slice-2.ensures.value ∙ ap (λ (es : List Extent). map (clipped 4096) (map (layer_in c.later.inside.bytes.items) es)) c.as_slice.ensures.value
    ∙ clipped_inside c.later.inside.bytes.items c.later.inside.extents.items c.later.invariant.0 ∙ ap (λ (l : Layered). l.layers) c.later.view_is in
    let below : (old : Option (List ℕ)) → layered c.match-later.first old ≡ cut_by c.args.later.now.cut (layered c.args.self.now old) = elim c.match-later.branch [
      | in-Some+in_ok-first-in-Some w ↦ λ old. ap (λ (l : Layered). layered l old) w.first-is ∙ w.in_ok-first-in-Some.ensures old
          ∙ ap (λ (cut : Option ℕ). cut_by cut (layered c.args.self.now old)) (sym w.in-Some.is ∙ ap (λ (l : Layered). l.cut) c.later.view_is)
      | in-None+in_ok-first-in-None w ↦ λ old. ap (λ (l : Layered). layered l old) (w.first-is ∙ w.in_ok-first-in-None.ensures)
          ∙ ap (λ (cut : Option ℕ). cut_by cut (layered c.args.self.now old)) (sym w.in-None.is ∙ ap (λ (l : Layered). l.cut) c.later.view_is)
    ] in
    IfOk-weaker c.concat_layers.result _ _ (λ l h. applied_follows c.args.self.now c.args.later.now l c.match-later.first ps layers below h) c.concat_layers.ensures
