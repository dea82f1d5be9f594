use Rattle.std.proofs.Common.{◌≡◌, ◌+◌, ◌≤◌, ◌∷◌, List, ℕ, length, map, take, drop, get_or, min, sym, ap, ◌∙◌, arith, length-take}
use Rattle.block_index.specs.Layers.{layer_in}
use Rattle.block_index.specs.declared.layer_data.Extent.{Extent}
use Rattle.block_index.proofs.Layering.{inside_at, layer_there}
use Rattle.block_index.proofs.layer_data.layer_at.Goals as goal

pub run_of-requires : goal.run_of-requires
run_of-requires c = (inside_at c.args.bytes.now c.args.extents.now c.args.i _ c.requires.inside c.requires.there).0

pub returns-clause-at : goal.returns-clause-at
returns-clause-at c = layer_there c.args.bytes.now c.args.extents.now c.args.i (record { off = 0; start = 0; len = 0 }) c.requires.there
    ∙ ap (λ (b : List ℕ). record { off = (get_or c.args.extents.now c.args.i (record { off = 0; start = 0; len = 0 })).off; bytes = b } ∷ drop (c.args.i + 1) (map (layer_in c.args.bytes.now) c.args.extents.now)) (sym c.run_of.ensures)

pub returns-clause-fits : goal.returns-clause-fits
returns-clause-fits c =
    let e : Extent = get_or c.args.extents.now c.args.i (record { off = 0; start = 0; len = 0 }) in
    let l : length c.run_of.result.now ≡ length (take e.len (drop e.start c.args.bytes.now)) = ap (λ (b : List ℕ). length b) c.run_of.ensures in
    let m : length (take e.len (drop e.start c.args.bytes.now)) ≡ min e.len (length (drop e.start c.args.bytes.now)) = length-take e.len (drop e.start c.args.bytes.now) in
    let f : e.off + e.len ≤ 4096 = (inside_at c.args.bytes.now c.args.extents.now c.args.i (record { off = 0; start = 0; len = 0 }) c.requires.inside c.requires.there).1 in
    omega arith
