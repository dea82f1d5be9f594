-- The lines of a text, and the words of a line.
use Rattle.std.specs.Prelude.{◌≡◌, ◌≢◌, ◌⊎◌, ℕ, ◌+◌, List, [], ◌∷◌, ◌++◌, ◌==◌, length, All, if◌then◌else◌, Option, Some, None, option_map}
use Rattle.pathkey.specs.Texts.{pieces}

-- the lines of a text, each without its line feed (10); the last one may lack it, if it is not empty
abbrev pub lines_of : List ℕ → List (List ℕ)
lines_of text = pieces 10 text

-- the words of a line, which is cut at each single space (32); a word may be empty
abbrev pub words_of : List ℕ → List (List ℕ)
words_of line = pieces 32 (line ++ 32 ∷ [])

-- the word before and after its first `@` (64), if it has one
abbrev pub at_sign : List ℕ → Option (List ℕ × List ℕ)
at_sign [] = None
at_sign (b ∷ word) = if b == 64 then Some ([], word) else option_map (λ cut. (b ∷ cut.0, cut.1)) (at_sign word)

-- a byte in front, if something follows it
abbrev pub kept_before : ℕ → List ℕ → List ℕ
kept_before x [] = []
kept_before x (y ∷ ys) = x ∷ (y ∷ ys)

-- the whole lines of a text: all of it up to its last line feed
abbrev pub whole : List ℕ → List ℕ
whole [] = []
whole (x ∷ xs) = if x == 10 then x ∷ whole xs else kept_before x (whole xs)

-- a line, without its line feed
abbrev pub Line : Type 0
Line = List ℕ

abbrev pub IsLine : Line → Type 0
IsLine l = All (λ b. b ≢ 10) l

-- lines as a text
abbrev pub text_of : List Line → List ℕ
text_of [] = []
text_of (l ∷ ls) = l ++ 10 ∷ text_of ls

-- ---- texts that are not of a form

module _ (IsSome : List ℕ → Type 0) where
  -- after these lines of the text there is one with which no text of the form continues; or there is no line, and the text is not of
  -- the form
  abbrev pub IsBadBehind : List Line → List ℕ → Type 0
  IsBadBehind front rest =
      ((line after : List ℕ) × IsLine line × (rest ≡ line ++ 10 ∷ after) × ((more : List ℕ) → IsSome (text_of front ++ (line ++ 10 ∷ more)) → ⊥))
      ⊎ (IsLine rest × (IsSome (text_of front ++ rest) → ⊥))

  -- the line n is the first bad one of the text: with those before it a text of the form may begin, and with it none does
  pub record IsFirstBad (n : ℕ) (text : List ℕ) : Type 0 where
    pub front : List Line
    pub rest : List ℕ
    pub whole : All IsLine front
    pub cut : text ≡ text_of front ++ rest
    pub number : n ≡ length front + 1
    pub begins : (more : List ℕ) × IsSome (text_of front ++ more)
    pub bad : IsBadBehind front rest
