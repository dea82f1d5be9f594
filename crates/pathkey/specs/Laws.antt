-- Laws of paths, texts and keys.
use Rattle.std.specs.Prelude.{◌≡◌, ◌≢◌, ◌↔◌, ℕ, ◌≤◌, ◌<◌, ◌^◌, List, ◌++◌, Ok, IsTrue, false, All}
use Rattle.pathkey.specs.Names.{Path, EachName, IsPath, is_under}
use Rattle.pathkey.specs.Texts.{text_of, parsed}
use Rattle.pathkey.specs.Keys.{enc, block_key, subtree, blocks_from, is_in}

-- the text of a path parses to that path
abbrev pub ReadBackLaw : Type 0
ReadBackLaw = (p : Path) → IsPath p → parsed (text_of p) ≡ Ok p

-- a text is accepted only if it is the text of a path, which is the one returned
abbrev pub OnlyTextsLaw : Type 0
OnlyTextsLaw = (text : List ℕ) (p : Path) → All (λ b. b < 256) text → parsed text ≡ Ok p → IsPath p × (text ≡ text_of p)

-- q is at or below p where its names begin with those of p
abbrev pub UnderLaw : Type 0
UnderLaw = (p q : Path) → IsTrue (is_under p q) ↔ ((r : Path) × (q ≡ p ++ r))

-- paths with equal keys are equal
abbrev pub EncLaw : Type 0
EncLaw = (p q : Path) → EachName p → EachName q → enc p ≡ enc q → p ≡ q

-- the subtree of p contains the keys of the paths at or below p, and no other path's
abbrev pub SubtreeLaw : Type 0
SubtreeLaw = (p q : Path) → EachName p → EachName q → IsTrue (is_in (subtree p) (enc q)) ↔ ((r : Path) × (q ≡ p ++ r))

-- and the blocks of those paths, and no other's
abbrev pub BlockSubtreeLaw : Type 0
BlockSubtreeLaw = (p q : Path) (i : ℕ) → EachName p → EachName q → IsTrue (is_in (subtree p) (block_key q i)) ↔ ((r : Path) × (q ≡ p ++ r))

-- no block's key is a path's
abbrev pub BlockKeyLaw : Type 0
BlockKeyLaw = (p q : Path) (i : ℕ) → EachName p → EachName q → enc p ≢ block_key q i

-- blocks with equal keys are the same block of the same path
abbrev pub BlocksDifferLaw : Type 0
BlocksDifferLaw = (p q : Path) (i j : ℕ) → EachName p → EachName q → i < 2 ^ 32 → j < 2 ^ 32 → block_key p i ≡ block_key q j → (p ≡ q) × (i ≡ j)

-- the range of blocks from a on contains those of p from a on, and no other block
abbrev pub BlocksFromLaw : Type 0
BlocksFromLaw = (p q : Path) (a i : ℕ) → EachName p → EachName q → a < 2 ^ 32 → i < 2 ^ 32 → IsTrue (is_in (blocks_from p a) (block_key q i)) ↔ ((q ≡ p) × (a ≤ i))

-- and no path's key
abbrev pub NoPathAmongBlocksLaw : Type 0
NoPathAmongBlocksLaw = (p q : Path) (a : ℕ) → EachName p → EachName q → is_in (blocks_from p a) (enc q) ≡ false
