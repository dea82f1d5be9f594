-- Layers: a cut of a block, if there is one, and then bytes that overwrite those of the block at several offsets.
use Rattle.std.specs.Prelude.{◌≡◌, ℕ, ◌+◌, ◌-◌, ◌≤◌, ⊤, List, [], ◌∷◌, length, take, drop, min, Option, None, Some}
use Rattle.block_index.specs.Patches.{Overlay}
use Rattle.block_index.specs.declared.layer_data.Extent.{Extent}
use Rattle.reference.specs.Indexes.{overlaid, shortened}

-- the first layer is the newest
pub record Layered : Type 0 where
  pub cut : Option ℕ
  pub layers : List Overlay

-- the effect of layers on a block, or on its absence: the newest overwrites all others
abbrev pub with_layers : List Overlay → Option (List ℕ) → Option (List ℕ)
with_layers [] old = old
with_layers (p ∷ ps) old = overlaid p.off p.bytes (with_layers ps old)

-- a block after a cut, if there is one
abbrev pub cut_by : Option ℕ → Option (List ℕ) → Option (List ℕ)
cut_by None old = old
cut_by (Some n) old = shortened n old

-- what both make of a block
abbrev pub layered : Layered → Option (List ℕ) → Option (List ℕ)
layered l old = with_layers l.layers (cut_by l.cut old)

-- one of two updates after the other: what the later makes of what the earlier made
abbrev pub Follows : (Option (List ℕ) → Option (List ℕ)) → Layered → Layered → Type 0
Follows later l new = (old : Option (List ℕ)) → layered new old ≡ later (layered l old)

-- the same cut and layers, and bytes that overwrite the block after them
abbrev pub IsApplied : ℕ → List ℕ → Layered → Layered → Type 0
IsApplied off new before after = (after.cut ≡ before.cut) × ((block : Option (List ℕ)) → with_layers after.layers block ≡ overlaid off new (with_layers before.layers block))

-- ---- where their bytes are

-- the layer of an extent, among the bytes of all
abbrev pub layer_in : List ℕ → Extent → Overlay
layer_in bytes e = record { off = e.off; bytes = take e.len (drop e.start bytes) }

-- all bytes exist, and are in the block
abbrev pub AreInside : List ℕ → List Extent → Type 0
AreInside bytes [] = ⊤
AreInside bytes (e ∷ es) = (e.start + e.len ≤ length bytes) × (e.off + e.len ≤ 4096) × AreInside bytes es

-- what is left of a layer before a byte of the block
abbrev pub clipped : ℕ → Overlay → Overlay
clipped end p = record { off = min p.off end; bytes = take (end - p.off) p.bytes }
