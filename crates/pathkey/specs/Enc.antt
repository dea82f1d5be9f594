-- The key of a path.
use Rattle.std.specs.Prelude.{ℕ, List, [], ◌∷◌, ◌++◌}
use Rattle.pathkey.specs.Names.{Path}

-- each name followed by a byte 0; the root is the empty key
abbrev pub enc : Path → List ℕ
enc [] = []
enc (n ∷ p) = n ++ 0 ∷ enc p
