-- Which keys are those of paths.
use Rattle.std.specs.Prelude.{◌≡◌, ◌≢◌, ◌⊎◌, ℕ, List, ◌∷◌, ◌++◌, Option, Some, None, All}
use Rattle.pathkey.specs.Names.{Path, IsPath, EachName}
use Rattle.pathkey.specs.Texts.{names_of}
use Rattle.pathkey.specs.Enc.{enc}

-- the bytes are the key of the path that they encode
pub record IsPathKey (key : List ℕ) : Type 0 where
  pub is_path : IsPath (names_of key)
  pub spelled : enc (names_of key) ≡ key

-- the bytes encode file names, each ended by a byte 0
pub record SpellsNames (key : List ℕ) : Type 0 where
  pub names : EachName (names_of key)
  pub spelled : enc (names_of key) ≡ key

-- the path with this key; none only if there is none
abbrev pub IsPathOf : List ℕ → Option Path → Type 0
IsPathOf key None = (p : Path) → IsPath p → enc p ≢ key
IsPathOf key (Some p) = IsPath p × (enc p ≡ key)

-- the bytes after the last separator; all of them if there is no separator
abbrev pub IsAfterLast : ℕ → List ℕ → List ℕ → Type 0
IsAfterLast separator bytes last = All (λ b. b ≢ separator) last × ((last ≡ bytes) ⊎ ((front : List ℕ) × (bytes ≡ front ++ separator ∷ last)))
