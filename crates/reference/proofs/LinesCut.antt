-- The first lines of a text, and the first line that makes it no image.
use Rattle.std.proofs.Common.{◌≡◌, inl, inr, ⊎_elim, ℕ, suc, ◌+◌, ◌-◌, ◌<◌, ◌≤◌, [], ◌∷◌, ◌++◌, length, true, false, cond, ◌==◌, refl, sym, ap, subst, ◌∙◌, arith, append_assoc, append-nil}
use Rattle.std.proofs.lemmas.Bool.{cases_lt, eqb-true}
use Rattle.reference.specs.Image.{Text, Version, root_line}
use Rattle.reference.specs.ImageLines.{Lines, spelled, image_of_lines, IsReported, AreLines, IsImage, IsSomeImage, first_lines, IsBadAt, BeginningLaw}
use Rattle.reference.proofs.LinesRead.{NoFeed, line_from_follows, spelled_no_feed, root_free, unended, nothing_is_none}

-- ---- the first lines

pub first_lines-feed : (n : ℕ) (line rest : Text) → NoFeed line → first_lines (suc n) (line ++ 10 ∷ rest) ≡ line ++ 10 ∷ first_lines n rest
first_lines-feed n [] rest v = refl
first_lines-feed n (x ∷ line) rest v = elim (x == 10) as (λ b. (x == 10) ≡ b → x ∷ cond b (first_lines n (line ++ 10 ∷ rest)) (first_lines (suc n) (line ++ 10 ∷ rest)) ≡ x ∷ (line ++ 10 ∷ first_lines n rest)) [
  | true ↦ λ e. absurd (v.0 (eqb-true x 10 e))
  | false ↦ λ e. ap (λ (t : Text). x ∷ t) (first_lines-feed n line rest v.1)
] refl

pub first_lines-end : (n : ℕ) (line : Text) → NoFeed line → first_lines (suc n) line ≡ line
first_lines-end n [] v = refl
first_lines-end n (x ∷ line) v = elim (x == 10) as (λ b. (x == 10) ≡ b → x ∷ cond b (first_lines n line) (first_lines (suc n) line) ≡ x ∷ line) [
  | true ↦ λ e. absurd (v.0 (eqb-true x 10 e))
  | false ↦ λ e. ap (λ (t : Text). x ∷ t) (first_lines-end n line v.1)
] refl

-- behind the lines of an image the others follow
pub first_lines-image : (v : Version) (root : ℕ) (ls : Lines) (n k : ℕ) (rest : Text) → IsReported v root → AreLines v ls → k ≡ length ls + suc n → first_lines k (image_of_lines v root ls ++ rest) ≡ image_of_lines v root ls ++ first_lines n rest
first_lines-image v root [] n k rest early h e =
    let line : Text = root_line v root in
    ap (λ (j : ℕ). first_lines j ((line ++ 10 ∷ []) ++ rest)) (let f : k ≡ suc n = omega arith in f)
    ∙ ap (first_lines (suc n)) (append_assoc line (10 ∷ []) rest)
    ∙ first_lines-feed n line rest (root_free v root early)
    ∙ sym (append_assoc line (10 ∷ []) (first_lines n rest))
first_lines-image v root (l ∷ ls) n k rest early h e =
    let before : Text = image_of_lines v root ls in
    ap (first_lines k) (append_assoc before (spelled v l ++ 10 ∷ []) rest ∙ ap (λ (t : Text). before ++ t) (append_assoc (spelled v l) (10 ∷ []) rest))
    ∙ first_lines-image v root ls (suc n) k (spelled v l ++ 10 ∷ rest) early h.1 (let f : k ≡ length ls + suc (suc n) = omega arith in f)
    ∙ ap (λ (t : Text). before ++ t) (first_lines-feed n (spelled v l) rest (spelled_no_feed v l (line_from_follows v l ls h.1 h.0)) ∙ sym (append_assoc (spelled v l) (10 ∷ []) (first_lines n rest)))
    ∙ sym (append_assoc before (spelled v l ++ 10 ∷ []) (first_lines n rest))

-- ---- where a text is no image

image_before : (v : Version) (root : ℕ) (ls : Lines) (n : ℕ) (rest : Text) → IsReported v root → AreLines v ls → n ≡ length ls + 1 → IsImage v (first_lines n (image_of_lines v root ls ++ rest))
image_before v root ls n rest early h e = record {
  root = root;
  reported = early;
  lines = ls;
  are = h;
  is = first_lines-image v root ls 0 n rest early h (let f : n ≡ length ls + suc 0 = omega arith in f) ∙ append-nil (image_of_lines v root ls);
}

beginning : (v : Version) (root : ℕ) (ls : Lines) (n : ℕ) (rest : Text) → IsReported v root → AreLines v ls → 0 < n → n ≤ length ls + 1 → IsImage v (first_lines n (image_of_lines v root ls ++ rest))
beginning v root [] n rest early h some most = image_before v root [] n rest early h (omega arith)
beginning v root (l ∷ ls) n rest early h some most = ⊎_elim
    (λ (f : n < length ls + 2). subst (λ (t : Text). IsImage v (first_lines n t)) (sym (append_assoc (image_of_lines v root ls) (spelled v l ++ 10 ∷ []) rest)) (beginning v root ls n ((spelled v l ++ 10 ∷ []) ++ rest) early h.1 some (omega arith)))
    (λ (f : length ls + 2 ≤ n). image_before v root (l ∷ ls) n rest early h (omega arith))
    (cases_lt n (length ls + 2))

pub beginning_law : BeginningLaw
beginning_law v root ls n early h some most = subst (λ (t : Text). IsImage v (first_lines n t)) (append-nil (image_of_lines v root ls)) (beginning v root ls n [] early h some most)

-- a line that may not follow
pub bad_line : (v : Version) (root : ℕ) (ls : Lines) (n : ℕ) (line rest : Text) → IsReported v root → AreLines v ls → NoFeed line → n ≡ length ls + 2 → (IsSomeImage (image_of_lines v root ls ++ (line ++ 10 ∷ [])) → ⊥) → IsBadAt n (image_of_lines v root ls ++ (line ++ 10 ∷ rest))
bad_line v root ls n line rest early h free e bad =
    let before : Text = image_of_lines v root ls in
    let cut : first_lines n (before ++ (line ++ 10 ∷ rest)) ≡ before ++ (line ++ 10 ∷ []) =
    first_lines-image v root ls 1 n (line ++ 10 ∷ rest) early h (let f : n ≡ length ls + suc 1 = omega arith in f) ∙ ap (λ (t : Text). before ++ t) (first_lines-feed 0 line rest free)
    in
    (inr (v, image_before v root ls (n - 1) (line ++ 10 ∷ rest) early h (omega arith)), λ is. bad (subst IsSomeImage cut is))

-- a first line that is not the root's
pub bad_first_line : (line rest : Text) → NoFeed line → (IsSomeImage (line ++ 10 ∷ []) → ⊥) → IsBadAt 1 (line ++ 10 ∷ rest)
bad_first_line line rest v bad = (inl refl, λ is. bad (subst IsSomeImage (first_lines-feed 0 line rest v) is))

-- a last line without its line feed
pub bad_end : (v : Version) (root : ℕ) (ls : Lines) (n : ℕ) (x : ℕ) (line : Text) → IsReported v root → AreLines v ls → NoFeed (x ∷ line) → n ≡ length ls + 2 → IsBadAt n (image_of_lines v root ls ++ x ∷ line)
bad_end v root ls n x line early h free e =
    let before : Text = image_of_lines v root ls in
    let cut : first_lines n (before ++ x ∷ line) ≡ before ++ x ∷ line =
    first_lines-image v root ls 1 n (x ∷ line) early h (let f : n ≡ length ls + suc 1 = omega arith in f) ∙ ap (λ (t : Text). before ++ t) (first_lines-end 0 (x ∷ line) free)
    in
    (inr (v, image_before v root ls (n - 1) (x ∷ line) early h (omega arith)), λ is. unended before x line free (subst IsSomeImage cut is))

-- a first line without its line feed, or none
pub bad_first_end : (line : Text) → NoFeed line → IsBadAt 1 line
bad_first_end [] v = (inl refl, nothing_is_none)
bad_first_end (x ∷ line) v = (inl refl, λ is. unended [] x line v (subst IsSomeImage (first_lines-end 0 (x ∷ line) v) is))
