-- What is known of a drawing.
use Rattle.std.specs.Prelude.{◌≡◌, ℕ, List, ◌++◌, length, take, codes}

-- what a drawing begins with
abbrev pub head : List ℕ
head = codes "digraph trees {\nnode [shape=record, style=filled, fillcolor=white];\n"

-- what it ends with
abbrev pub foot : List ℕ
foot = codes "}\n"

-- a drawing that is not at its end
abbrev pub IsBegun : List ℕ → Type 0
IsBegun text = take (length head) text ≡ head

-- a drawing from its first line to its last
abbrev pub IsDrawing : List ℕ → Type 0
IsDrawing text = (more : List ℕ) × (text ≡ head ++ (more ++ foot))
