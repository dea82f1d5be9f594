use Rattle.std.proofs.Common.{◌≡◌, ◌≤◌, ◌++◌, [], ◌∷◌, List, ℕ, Bool, if◌then◌else◌, map, length, sym, ap, ◌∙◌, arith}
use Rattle.std.proofs.lemmas.List.{at_drop_all, length-map}
use Rattle.reference.specs.Indexes.{overlaid}
use Rattle.block_index.specs.Layers.{Layered, with_layers, layer_in}
use Rattle.block_index.specs.Patches.{Overlay}
use Rattle.block_index.proofs.Layering.{with_layers-append}
use Rattle.block_index.proofs.layer_data.joined.Goals as goal

pub returns : goal.returns
returns c =
    let q : Overlay = record { off = c.off.result; bytes = c.bytes.result.now } in
    let all : Layered = record { cut = c.each.kept.cut; layers = c.each.kept.layers ++ q ∷ [] } in
    let ps : List Overlay = map (layer_in c.args.bytes.now) c.args.extents.now in
    let is : c.push.new.self ≡ all = c.in_ok-push.ensures ∙ ap (λ (b : Bool). if b then all else c.each.kept) c.if-not-branch-2.false in
    let m : length ps ≡ length c.args.extents.now = length-map c.args.extents.now (layer_in c.args.bytes.now) in
    let end : length ps ≤ c.each.at = omega (arith, c.each-test.false) in (
      ap (λ (l : Layered). l.cut) is ∙ c.each.invariant.cut,
      λ old.
          ap (λ (l : Layered). with_layers l.layers old) is
          ∙ with_layers-append c.each.kept.layers (q ∷ []) old
          ∙ ap (λ (n : ℕ). with_layers c.each.kept.layers (overlaid n c.bytes.result.now old)) c.off.ensures.value
          ∙ ap (λ (b : List ℕ). with_layers c.each.kept.layers (overlaid c.each.top.off b old)) c.bytes.ensures
          ∙ sym (at_drop_all (λ (qs : List Overlay). with_layers c.each.kept.layers (overlaid c.each.top.off c.each.top.bytes (with_layers qs old))) ps c.each.at end)
          ∙ c.each.invariant.all old,
    )
