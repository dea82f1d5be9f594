use Rattle.std.proofs.Common.{◌≡◌, List, ℕ, Option, Some, None, map, sym, ap, subst, Bor, true, false, ◌∙◌}
use Rattle.std.specs.Option.{option_map}
use Rattle.std.specs.Bool.{◌==◌}
use Rattle.std.specs.Vec.{vec_len}
use Rattle.std.specs.Global.{Vec}
use Rattle.reference.specs.Indexes.{held}
use Rattle.block_index.specs.Layers.{Layered, cut_by, with_layers, layer_in, layered}
use Rattle.block_index.specs.Patches.{Overlay}
use Rattle.block_index.specs.declared.layer_data.Extent.{Extent}
use Rattle.block_index.proofs.Layering.{held_none, applied_made, applied_some}
use Rattle.block_index.proofs.layer_data.LayerData.over.Goals.{in-Some+in_ok-own-in-Some, in-None-2}
use Rattle.block_index.proofs.layer_data.LayerData.over.Goals as goal

pub returns-clause-value : goal.returns-clause-value
returns-clause-value c =
    let es : List Extent = c.as_slice.result.now in
    let bs : List ℕ = c.as_slice-2.result.now in
    let ps : List Overlay = map (layer_in bs) es in
    let layers : ps ≡ c.args.self.now.layers =
    ap (λ (b : List ℕ). map (layer_in b) c.as_slice.result.now) c.as_slice-2.ensures.value ∙ ap (λ (e : List Extent). map (layer_in c.self.inside.bytes.items) e) c.as_slice.ensures.value ∙ ap (λ (l : Layered). l.layers) c.self.view_is in
    let cut : c.self.inside.cut ≡ c.args.self.now.cut = ap (λ (l : Layered). l.cut) c.self.view_is in
    let told : (o : Option (List ℕ)) → o ≡ option_map (λ (b : Bor (List ℕ)). b.now) c.args.old → with_layers ps (cut_by c.self.inside.cut o) ≡ layered c.args.self.now (option_map (λ (b : Bor (List ℕ)). b.now) c.args.old) = λ o e.
    ap (λ (qs : List Overlay). with_layers qs (cut_by c.self.inside.cut o)) layers ∙ ap (λ (k : Option ℕ). with_layers c.args.self.now.layers (cut_by k o)) cut ∙ ap (layered c.args.self.now) e in
    elim c.match-old.branch [
      | in-Some+in_ok-own-in-Some w ↦
          let o : Option (List ℕ) = Some w.in-Some.bytes.now in
          ap (λ (b : List ℕ). Some b) (c.in_ok-all.ensures.value (cut_by c.self.inside.cut o) (ap held (sym w.in_ok-own-in-Some.ensures) ∙ ap (λ (v : Vec ℕ). v.items) (sym w.own-is)))
          ∙ subst (λ (q : Option (List ℕ)). Some (held (with_layers ps q)) ≡ with_layers ps q) w.in_ok-own-in-Some.ensures (applied_some ps w.in_ok-own-in-Some.own.items)
          ∙ told o (ap (option_map (λ (b : Bor (List ℕ)). b.now)) (sym w.in-Some.is))
      | in-None-2 w ↦
          ap (λ (b : List ℕ). Some b) (c.in_ok-all.ensures.value (cut_by c.self.inside.cut None) (held_none c.self.inside.cut ∙ sym (ap (λ (v : Vec ℕ). v.items) w.own-is ∙ w.new-own.ensures.items)))
          ∙ applied_made bs es (cut_by c.self.inside.cut None) (λ z.
          let l : vec_len c.self.inside.extents ≡ 0 = sym c.as_slice.ensures.len ∙ z in
          let e : true ≡ false = sym (w.is_empty.ensures ∙ ap (λ (n : ℕ). n == 0) l) ∙ w.if-is_empty.false in
          cc)
          ∙ told None (ap (option_map (λ (b : Bor (List ℕ)). b.now)) (sym w.in-None-2.is))
    ]
