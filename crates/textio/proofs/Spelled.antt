-- Texts of values that have a line each, with a last line behind them.
use Rattle.std.proofs.Common.{◌≡◌, ◌≢◌, ℕ, List, [], ◌∷◌, ◌++◌, map, refl, sym, ◌∙◌, append_assoc}
use Rattle.std.specs.List.{All}
use Rattle.std.proofs.lemmas.List.Elements.{All-head, All-tail}
use Rattle.textio.specs.Lines.{IsLine, Line, text_of}
use Rattle.textio.proofs.LineFacts.{same_line}

module _ (X : Type 0) (Is : X → Type 0) (spelled : X → Line) (last : Line) (whole : (x : X) → Is x → IsLine (spelled x)) (end : IsLine last) (other : (x : X) → last ≢ spelled x) where
  -- if some lines begin such a text, then lines of values and the last one follow
  pub behind_values : (xs ys : List X) (rest : List ℕ) → All Is xs → All Is ys → text_of (map spelled ys ++ last ∷ []) ≡ text_of (map spelled xs) ++ rest → (zs : List X) × All Is zs × (rest ≡ text_of (map spelled zs ++ last ∷ []))
  behind_values [] ys rest a b e = (ys, b, sym e)
  behind_values (x ∷ xs) [] rest a b e =
      let cut : last ++ 10 ∷ [] ≡ spelled x ++ 10 ∷ (text_of (map spelled xs) ++ rest) = e ∙ append_assoc (spelled x) (10 ∷ text_of (map spelled xs)) rest in
      absurd (other x (same_line last (spelled x) [] (text_of (map spelled xs) ++ rest) end (whole x (All-head Is x xs a)) cut).0)
  behind_values (x ∷ xs) (y ∷ ys) rest a b e =
      let cut : spelled y ++ 10 ∷ text_of (map spelled ys ++ last ∷ []) ≡ spelled x ++ 10 ∷ (text_of (map spelled xs) ++ rest) = e ∙ append_assoc (spelled x) (10 ∷ text_of (map spelled xs)) rest in
      let both = same_line (spelled y) (spelled x) (text_of (map spelled ys ++ last ∷ [])) (text_of (map spelled xs) ++ rest) (whole y (All-head Is y ys b)) (whole x (All-head Is x xs a)) cut in
      behind_values xs ys rest (All-tail Is x xs a) (All-tail Is y ys b) both.1

  -- if each value is known from its line, then values are known from such a text
  pub same_values : ((x y : X) → Is x → Is y → spelled x ≡ spelled y → x ≡ y) → (xs ys : List X) → All Is xs → All Is ys → text_of (map spelled xs ++ last ∷ []) ≡ text_of (map spelled ys ++ last ∷ []) → xs ≡ ys
  same_values one [] [] a b e = refl
  same_values one [] (y ∷ ys) a b e = absurd (other y (same_line last (spelled y) [] (text_of (map spelled ys ++ last ∷ [])) end (whole y (All-head Is y ys b)) e).0)
  same_values one (x ∷ xs) [] a b e = absurd (other x (same_line last (spelled x) [] (text_of (map spelled xs ++ last ∷ [])) end (whole x (All-head Is x xs a)) (sym e)).0)
  same_values one (x ∷ xs) (y ∷ ys) a b e =
      let is_x = All-head Is x xs a in
      let is_y = All-head Is y ys b in
      let both = same_line (spelled x) (spelled y) (text_of (map spelled xs ++ last ∷ [])) (text_of (map spelled ys ++ last ∷ [])) (whole x is_x) (whole y is_y) e in
      let first : x ≡ y = one x y is_x is_y both.0 in
      let more : xs ≡ ys = same_values one xs ys (All-tail Is x xs a) (All-tail Is y ys b) both.1 in
      cc
