use Rattle.std.proofs.Common.{◌≡◌, List, ℕ, Option, map, sym, ap, ◌∙◌}
use Rattle.std.proofs.lemmas.Result.{IfOk-weaker}
use Rattle.reference.specs.Indexes.{shortened}
use Rattle.block_index.specs.Layers.{Layered, cut_by, layer_in}
use Rattle.block_index.specs.Patches.{Overlay}
use Rattle.block_index.specs.declared.layer_data.Extent.{Extent}
use Rattle.block_index.proofs.Layering.{cut_follows, shortened_twice}
use Rattle.block_index.proofs.layer_data.LayerData.cut_to.Goals.{in-Some, in-None}
use Rattle.block_index.proofs.layer_data.LayerData.cut_to.Goals as goal

pub returns : goal.returns
returns c =
    let ps : List Overlay = map (layer_in c.as_slice-2.result.now) c.as_slice.result.now in
    let layers : ps ≡ c.args.self.now.layers =
    ap (λ (b : List ℕ). map (layer_in b) c.as_slice.result.now) c.as_slice-2.ensures.value ∙ ap (λ (es : List Extent). map (layer_in c.self.inside.bytes.items) es) c.as_slice.ensures.value ∙ ap (λ (l : Layered). l.layers) c.self.view_is in
    let cuts : (old : Option (List ℕ)) → shortened c.match-self.cut old ≡ shortened c.args.n (cut_by c.args.self.now.cut old) = elim c.match-self.branch [
      | in-Some w ↦ λ old. ap (λ (k : ℕ). shortened k old) (w.cut-is ∙ w.min-cut.ensures) ∙ sym (shortened_twice w.in-Some.m c.args.n old)
          ∙ ap (λ (cut : Option ℕ). shortened c.args.n (cut_by cut old)) (sym w.in-Some.is ∙ ap (λ (l : Layered). l.cut) c.self.view_is)
      | in-None w ↦ λ old. ap (λ (k : ℕ). shortened k old) w.cut-is
          ∙ ap (λ (cut : Option ℕ). shortened c.args.n (cut_by cut old)) (sym w.in-None.is ∙ ap (λ (l : Layered). l.cut) c.self.view_is)
    ] in
    IfOk-weaker c.concat_layers.result _ _ (λ l h. cut_follows c.args.self.now l c.new-first.result c.args.n c.match-self.cut ps layers c.new-first.ensures cuts h) c.concat_layers.ensures
