-- Lines of a text.
use Rattle.std.proofs.Common.{◌≡◌, ◌≢◌, ◌⊎◌, inl, inr, ℕ, ◌==◌, List, [], ◌∷◌, ◌++◌, refl, sym, ap, ◌∙◌, append_assoc, Bool, true, false}
use Rattle.std.specs.List.{All}
use Rattle.std.proofs.lemmas.Bool.{eqb-true, eqb-false}
use Rattle.std.proofs.lemmas.List.Elements.{All-nil, All-cons, All-head, All-tail}
use Rattle.textio.specs.Lines.{IsLine, Line, text_of}

-- a text is cut at its first line feed in one way
pub same_line : (l m x y : List ℕ) → IsLine l → IsLine m → l ++ 10 ∷ x ≡ m ++ 10 ∷ y → (l ≡ m) × (x ≡ y)
same_line [] [] x y a b e = (refl, cc)
same_line [] (c ∷ m) x y a b e = absurd (All-head (λ b. b ≢ 10) c m b (let h : c ≡ 10 = cc in h))
same_line (c ∷ l) [] x y a b e = absurd (All-head (λ b. b ≢ 10) c l a (let h : c ≡ 10 = cc in h))
same_line (c ∷ l) (d ∷ m) x y a b e =
    let rest : l ++ 10 ∷ x ≡ m ++ 10 ∷ y = cc in
    let head : c ≡ d = cc in
    let more = same_line l m x y (All-tail (λ b. b ≢ 10) c l a) (All-tail (λ b. b ≢ 10) d m b) rest in
    (let front : l ≡ m = more.0 in cc, more.1)

-- a byte before a line, or before a text with a line in it
pub first_line : (text : List ℕ) → ((line after : List ℕ) × IsLine line × (text ≡ line ++ 10 ∷ after)) ⊎ IsLine text
first_line [] = inr (All-nil (λ b. b ≢ 10))
first_line (b ∷ text) = go (b == 10) refl (first_line text)
  where
    go : (t : Bool) → (b == 10) ≡ t → ((line after : List ℕ) × IsLine line × (text ≡ line ++ 10 ∷ after)) ⊎ IsLine text
        → ((line after : List ℕ) × IsLine line × (b ∷ text ≡ line ++ 10 ∷ after)) ⊎ IsLine (b ∷ text)
    go true e h = inl ([], text, All-nil (λ b. b ≢ 10), ap (λ c. c ∷ text) (eqb-true b 10 e))
    go false e (inl (line, after, whole, cut)) = inl (b ∷ line, after, All-cons (λ b. b ≢ 10) b line (eqb-false b 10 e) whole, ap (λ t. b ∷ t) cut)
    go false e (inr whole) = inr (All-cons (λ b. b ≢ 10) b text (eqb-false b 10 e) whole)

pub text_append : (ls ms : List Line) → text_of (ls ++ ms) ≡ text_of ls ++ text_of ms
text_append [] ms = refl
text_append (l ∷ ls) ms = ap (λ t. l ++ 10 ∷ t) (text_append ls ms) ∙ sym (append_assoc l (10 ∷ text_of ls) (text_of ms))
