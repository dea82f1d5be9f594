-- The parts that are appended form a line.
use Rattle.std.proofs.Common.{◌≡◌, [], ◌∷◌, ◌++◌, ap, ◌∙◌, append_assoc}
use Rattle.reference.specs.Image.{Text}

-- a word, three more words, and a line feed
pub seven_parts : (a b c d e f g h : Text) (w x y z : Text) → b ≡ a ++ w → c ≡ b ++ x → d ≡ c ++ 32 ∷ [] → e ≡ d ++ y → f ≡ e ++ 32 ∷ [] → g ≡ f ++ z → h ≡ g ++ 10 ∷ []
    → h ≡ a ++ ((w ++ (x ++ 32 ∷ (y ++ 32 ∷ z))) ++ 10 ∷ [])
seven_parts a b c d e f g h w x y z one two three four five six seven =
    let all : h ≡ ((((((a ++ w) ++ x) ++ 32 ∷ []) ++ y) ++ 32 ∷ []) ++ z) ++ 10 ∷ [] =
    seven
    ∙ ap (λ (t : Text). t ++ 10 ∷ []) (six
    ∙ ap (λ (t : Text). t ++ z) (five
    ∙ ap (λ (t : Text). t ++ 32 ∷ []) (four
    ∙ ap (λ (t : Text). t ++ y) (three
    ∙ ap (λ (t : Text). t ++ 32 ∷ []) (two
    ∙ ap (λ (t : Text). t ++ x) one))))) in
    all ∙ regrouped a w x y z
  where
    regrouped : (a w x y z : Text) → ((((((a ++ w) ++ x) ++ 32 ∷ []) ++ y) ++ 32 ∷ []) ++ z) ++ 10 ∷ [] ≡ a ++ ((w ++ (x ++ 32 ∷ (y ++ 32 ∷ z))) ++ 10 ∷ [])
    regrouped a w x y z = simp append_assoc
