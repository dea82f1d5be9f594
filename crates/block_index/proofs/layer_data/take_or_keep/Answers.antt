use Rattle.std.proofs.Common.{◌++◌, [], ◌∷◌, Bool, if◌then◌else◌, ap, ◌∙◌}
use Rattle.std.proofs.lemmas.Result.{IfOk-weaker}
use Rattle.reference.specs.Indexes.{overlaid}
use Rattle.block_index.specs.Layers.{Layered, with_layers}
use Rattle.block_index.specs.Patches.{Overlay}
use Rattle.block_index.proofs.Layering.{with_layers-append}
use Rattle.block_index.proofs.layer_data.take_or_keep.Goals as goal

pub returns-clause-all : goal.returns-clause-all
returns-clause-all c =
    let q : Overlay = record { off = c.args.off; bytes = c.args.run.now } in
    let below : Layered = record { cut = c.args.kept.now.cut; layers = c.args.kept.now.layers ++ q ∷ [] } in
    IfOk-weaker c.push.result _ _ (λ fits h t o.
    ap (λ (l : Layered). with_layers l.layers (overlaid c.take.new.self.off c.take.new.self.bytes o)) (h ∙ ap (λ (b : Bool). if b then below else c.args.kept.now) t)
    ∙ with_layers-append c.args.kept.now.layers (q ∷ []) (overlaid c.take.new.self.off c.take.new.self.bytes o)
    ∙ ap (with_layers c.args.kept.now.layers) (c.in_ok-take.ensures.apart c.if-branch.false o)) c.push.ensures
