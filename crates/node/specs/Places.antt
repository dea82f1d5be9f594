-- The way to a node.
use Rattle.std.specs.Prelude.{ℕ, List, take}
use Rattle.node.specs.declared.place.Place.{Place}

-- the numbers of the slots from the root down
abbrev pub way : Place → List ℕ
way p = take p.len p.numbers
