-- The lines of an image, one after another.
use Rattle.std.proofs.Common.{◌≡◌, ℕ, ◌+◌, ◌*◌, List, [], ◌∷◌, ◌++◌, take, drop, sym, ap, ◌∙◌, subst, add-one, append_assoc}
use Rattle.std.proofs.lemmas.List.{append-nil}
use Rattle.std.specs.Prelude.{flat_map}
use Rattle.reference.specs.Tree.{Name, Path, Tree, Entries, entry}
use Rattle.reference.specs.Image.{percent, path_text, trimmed, block_line, block_lines, Version, lines, lines_of}

-- one block more
pub block_lines_more : (out mid new b block : List ℕ) (i : ℕ) → block ≡ take 4096 (drop (4096 * i) b) → mid ≡ out ++ block_lines b i → new ≡ mid ++ block_line i (trimmed block) → new ≡ out ++ block_lines b (i + 1)
block_lines_more out mid new b block i e f g =
    let written : new ≡ (out ++ block_lines b i) ++ block_line i (trimmed (take 4096 (drop (4096 * i) b))) =
    g ∙ ap (λ (m : List ℕ). m ++ block_line i (trimmed block)) f ∙ ap (λ (k : List ℕ). (out ++ block_lines b i) ++ block_line i (trimmed k)) e
    in
    subst (λ (k : ℕ). new ≡ out ++ block_lines b k) (sym (add-one i)) (written ∙ append_assoc out (block_lines b i) (block_line i (trimmed (take 4096 (drop (4096 * i) b)))))

-- the text of a path one name longer
pub path_text_below : (p : Path) (n : Name) → path_text (p ++ n ∷ []) ≡ path_text p ++ 47 ∷ flat_map percent n
path_text_below [] n = ap (λ (t : List ℕ). 47 ∷ t) (append-nil (flat_map percent n))
path_text_below (m ∷ p) n =
    ap (λ (t : List ℕ). 47 ∷ flat_map percent m ++ t) (path_text_below p n) ∙ sym (append_assoc (47 ∷ flat_map percent m) (path_text p) (47 ∷ flat_map percent n))

-- the lines of an entry, and then those of the entries after it
pub lines_of_more : (v : Version) (out mid : List ℕ) (p : Path) (n : Name) (x : Tree) (rest : Entries) → mid ≡ out ++ lines v (p ++ n ∷ []) x → mid ++ lines_of v p rest ≡ out ++ lines_of v p (entry n x rest)
lines_of_more v out mid p n x rest h =
    ap (λ (m : List ℕ). m ++ lines_of v p rest) h ∙ append_assoc out (lines v (p ++ n ∷ []) x) (lines_of v p rest)
