-- What the metadata at a path say about the entry there, or those of its ancestors if it has none.
use Rattle.std.proofs.Common.{◌≡◌, ℕ, ◌+◌, ◌<◌, [], ◌∷◌, ◌++◌, length, refl, sym, ap, ◌∙◌, arith, Option, Some, None}
use Rattle.std.specs.Prelude.{MatchOption}
use Rattle.pathkey.specs.Names.{Name, Path, IsPath, parent, parent_path}
use Rattle.pathkey.specs.Enc.{enc}
use Rattle.reference.specs.Tree.{Tree, Dir, File, entry_at, named, found, onward}
use Rattle.reference.specs.Tree.{At, Found, Missing, Blocked}
use Rattle.reference.specs.Shape.{IsDirectory}
use Rattle.reference.specs.Reads.{Directory, Bytes, seen, look, Sight, Seen, sighted, sight}
use Rattle.reference.specs.Indexes.{meta_of}
use Rattle.reference.specs.declared.reply.Meta.{Meta}
use Rattle.reference.proofs.Edits.{unseen}
use Rattle.reference.proofs.EntryPaths.{along, last_name}
use Rattle.meta_index.specs.declared.at.At as meta
use Rattle.meta_index.specs.declared.index.MetaIndex.{MetaIndex}
use Rattle.meta_index.specs.Means.{metadata, IsMeantBy, lookup_answer, beyond, Decides}

-- ---- one path

reported_sighted : (here : At) (v : Meta) → meta_of (sighted here) ≡ Some v → meta.TheVariants.Found v ≡ lookup_answer here
reported_sighted (Found (Dir date es)) v e = cc
reported_sighted (Found (File date b)) v e = cc
reported_sighted Missing v e = absurd (cc)
reported_sighted Blocked v e = absurd (cc)

without_meta : (s : Option Sight) → meta_of s ≡ None → s ≡ None
without_meta None e = refl
without_meta (Some (Seen Directory date)) e = absurd (cc)
without_meta (Some (Seen (Bytes b) date)) e = absurd (cc)

-- the metadata at a path's key are those of the entry there
pub found_reported : (t : Tree) (m : MetaIndex) (p : Path) (v : Meta) → IsPath p → Some v ≡ metadata m (enc p) → IsMeantBy t m → meta.TheVariants.Found v ≡ lookup_answer (entry_at t p)
found_reported t m p v is_path e means = reported_sighted (entry_at t p) v (sym (means.meta.paths p is_path) ∙ sym e)

-- and if there are none, there is no entry
pub none_seen : (t : Tree) (m : MetaIndex) (p : Path) → IsPath p → None ≡ metadata m (enc p) → IsMeantBy t m → look t p ≡ None
none_seen t m p is_path e means = unseen t p (without_meta (sight t p) (sym (means.meta.paths p is_path) ∙ sym e))

-- ---- the paths above

-- what is left to climb
abbrev pub height : Option Path → ℕ
height None = 0
height (Some p) = length p + 1

parent_shorter : (n : Name) (p : Path) → length (parent (n ∷ p)) < length (n ∷ p)
parent_shorter n [] = omega arith
parent_shorter n (m ∷ p) = omega (arith, parent_shorter m p)

height_of_parent : (p : Path) → height (parent_path p) < height (Some p)
height_of_parent [] = omega arith
height_of_parent (n ∷ p) = omega (arith, parent_shorter n p)

-- the parent is nearer to the root
pub height_falls : (a b : Option Path) (p : Path) → a ≡ parent_path p → b ≡ Some p → height a < height b
height_falls a b p e f = omega (arith, ap height e, ap height f, height_of_parent p)

lacking : (here : At) (n : Name) → seen (onward here n) ≡ None → onward here n ≡ beyond here
lacking (Found (Dir date es)) n e = absent (named n es) e
  where
    absent : (o : Option Tree) → seen (found o) ≡ None → found o ≡ Missing
    absent None f = refl
    absent (Some (Dir stamp fs)) f = absurd (cc)
    absent (Some (File date b)) f = absurd (cc)
lacking (Found (File date b)) n e = refl
lacking Missing n e = refl
lacking Blocked n e = refl

beyond_twice : (here : At) → beyond (beyond here) ≡ beyond here
beyond_twice (Found (Dir date es)) = refl
beyond_twice (Found (File date b)) = refl
beyond_twice Missing = refl
beyond_twice Blocked = refl

root_seen : (t : Tree) → IsDirectory t → look t [] ≡ None → ⊥
root_seen (Dir date es) d e = cc
root_seen (File date b) d e = d

-- the parent decides
pub parent_decides : (m : MetaIndex) (p : Path) → Decides m p (parent_path p)
parent_decides m [] t means none = root_seen t means.tree.root none
parent_decides m (n ∷ p) t means none =
    let last : (k : Name) × (n ∷ p ≡ parent (n ∷ p) ++ k ∷ []) = last_name (n ∷ p) (λ e. cc) in
    let walk : entry_at t (n ∷ p) ≡ onward (entry_at t (parent (n ∷ p))) last.0 = ap (entry_at t) last.1 ∙ along t (parent (n ∷ p)) (last.0 ∷ []) in
    walk ∙ lacking (entry_at t (parent (n ∷ p))) last.0 (sym (ap seen walk) ∙ none)

-- if there is no entry at the path that decides, its parent decides
pub parent_decides_for : (m : MetaIndex) (p q : Path) → IsPath q → None ≡ metadata m (enc q) → Decides m p (Some q) → Decides m p (parent_path q)
parent_decides_for m p q is_path e decides t means none =
    above q (decides t means none) (parent_decides m q t means (none_seen t m q is_path e means))
  where
    above : (q : Path) → entry_at t p ≡ beyond (entry_at t q) → MatchOption (parent_path q) ⊥ (λ r. entry_at t q ≡ beyond (entry_at t r)) → MatchOption (parent_path q) ⊥ (λ r. entry_at t p ≡ beyond (entry_at t r))
    above [] f g = g
    above (k ∷ q) f g = f ∙ ap beyond g ∙ beyond_twice (entry_at t (parent (k ∷ q)))

-- the entry at the path that decides determines why there is nothing below it
pub decided : (m : MetaIndex) (p q : Path) (v : Meta) (at : meta.At) → IsPath q → Some v ≡ metadata m (enc q) → Decides m p (Some q) → ((here : At) → meta.TheVariants.Found v ≡ lookup_answer here → at ≡ lookup_answer (beyond here))
    → (t : Tree) → IsMeantBy t m → look t p ≡ None → at ≡ lookup_answer (entry_at t p)
decided m p q v at is_path e decides tells t means none = tells (entry_at t q) (found_reported t m q v is_path e means) ∙ ap lookup_answer (sym (decides t means none))
