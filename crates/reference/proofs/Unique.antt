-- Two indexes mean at most one tree.
use Rattle.std.proofs.Common.{◌≡◌, ℕ, ◌+◌, ◌*◌, ◌/◌, ◌%◌, ◌^◌, ◌<◌, ◌≤◌, List, length, get_or, sym, ap, refl, ◌∙◌, arith, Option, Some, None}
use Rattle.std.proofs.lemmas.Grind.{same_number_lists}
use Rattle.reference.specs.Tree.{Path, Tree}
use Rattle.pathkey.specs.Names.{IsPath}
use Rattle.pathkey.specs.Keys.{block_key}
use Rattle.reference.specs.Reads.{Directory, Bytes, look, Sight, Seen, look_of, sight}
use Rattle.reference.specs.Shape.{IsContent}
use Rattle.reference.specs.Indexes.{Metadata, Blocks, meta_of, Hold, IndexesMean}
use Rattle.reference.proofs.Edits.{look_from}
use Rattle.reference.proofs.TreeEdits.{MayBeSeen, looks_may}
use Rattle.reference.proofs.Sight.{one_tree}

-- blocks hold at most one list of bytes of a length
same_bytes : (f : ℕ → Option (List ℕ)) (b c : List ℕ) → Hold f b → Hold f c → length b ≡ length c → length b ≤ 2 ^ 40 → b ≡ c
same_bytes f b c h g l small = same_number_lists b c l (λ k lt.
    let i : k / 4096 < 268435456 = omega arith in
    let j : k % 4096 < 4096 = omega arith in
    let e : 4096 * (k / 4096) + k % 4096 ≡ k = omega arith in
    ap (λ (x : ℕ). get_or b x 0) (sym e) ∙ sym (h.byte (k / 4096) (k % 4096) i j) ∙ g.byte (k / 4096) (k % 4096) i j ∙ ap (λ (x : ℕ). get_or c x 0) e)

-- what has the same metadata, and as a file the same bytes, is the same
pub agree : (s k : Option Sight) → meta_of s ≡ meta_of k → ((b c : List ℕ) (date stamp : ℕ) → s ≡ Some (Seen (Bytes b) date) → k ≡ Some (Seen (Bytes c) stamp) → length b ≡ length c → b ≡ c) → s ≡ k
agree None None h f = refl
agree None (Some (Seen Directory stamp)) h f = absurd (cc)
agree None (Some (Seen (Bytes c) stamp)) h f = absurd (cc)
agree (Some (Seen Directory date)) None h f = absurd (cc)
agree (Some (Seen Directory date)) (Some (Seen Directory stamp)) h f = let when : date ≡ stamp = cc in ap (λ (x : ℕ). Some (Seen Directory x)) when
agree (Some (Seen Directory date)) (Some (Seen (Bytes c) stamp)) h f = absurd (cc)
agree (Some (Seen (Bytes b) date)) None h f = absurd (cc)
agree (Some (Seen (Bytes b) date)) (Some (Seen Directory stamp)) h f = absurd (cc)
agree (Some (Seen (Bytes b) date)) (Some (Seen (Bytes c) stamp)) h f =
    let l : length b ≡ length c = cc in
    let when : date ≡ stamp = cc in
    let same : b ≡ c = f b c date stamp refl refl l in
    cc (same, when)

-- two trees of the same indexes look alike at each path, moments too, and so are one
pub one_meaning : (t u : Tree) (m : Metadata) (d : Blocks) → IndexesMean t m d → IndexesMean u m d → t ≡ u
one_meaning t u m d of_t of_u = one_tree t u of_t.tree.rising of_u.tree.rising (λ p. cases p (sight t p) (sight u p) refl refl)
  where
    small : (p : Path) (b : List ℕ) → look t p ≡ Some (Bytes b) → length b ≤ 2 ^ 40
    small p b x = let may : MayBeSeen p (Bytes b) = looks_may t p (Bytes b) of_t.tree x in let is : IsContent b = may.content b refl in is.few

    at_path : (p : Path) → IsPath p → sight t p ≡ sight u p
    at_path p v = agree (sight t p) (sight u p) (sym (of_t.meta.paths p v) ∙ of_u.meta.paths p v)
        (λ b c date stamp x y l.
        let left : look t p ≡ Some (Bytes b) = look_from t p (Seen (Bytes b) date) x in
        let right : look u p ≡ Some (Bytes c) = look_from u p (Seen (Bytes c) stamp) y in
        same_bytes (λ i. d (block_key p i)) b c (of_t.blocks.blocks p b v left) (of_u.blocks.blocks p c v right) l (small p b left))

    cases : (p : Path) (a b : Option Sight) → sight t p ≡ a → sight u p ≡ b → sight t p ≡ sight u p
    cases p None None x y = x ∙ sym y
    cases p None (Some s) x y = let may : MayBeSeen p (look_of s) = looks_may u p (look_of s) of_u.tree (look_from u p s y) in at_path p may.path
    cases p (Some s) b x y = let may : MayBeSeen p (look_of s) = looks_may t p (look_of s) of_t.tree (look_from t p s x) in at_path p may.path
