-- How a log stores keys, and what was added to it since it was at a position.
use Rattle.std.specs.Prelude.{◌≡◌, ℕ, ◌≤◌, ◌-◌, List, [], ◌∷◌, length, take, drop, min}
use Rattle.pathkey.specs.Keys.{Key}
use Rattle.change_log.specs.Touched.{Touched}
use Rattle.change_log.specs.declared.key_log.LogPosition.{LogPosition}
use Rattle.change_log.specs.declared.touched_keys.TouchedKeys.{TouchedKeys}

-- the keys in the bytes: each begins where the one before ends, the first at `from`
abbrev pub keys_of : ℕ → List ℕ → List ℕ → List Key
keys_of from bytes [] = []
keys_of from bytes (e ∷ es) = take (e - from) (drop from bytes) ∷ keys_of e bytes es

-- the ends of keys do not fall, and the last is that of the bytes
abbrev pub AreEnds : ℕ → ℕ → List ℕ → Type 0
AreEnds from n [] = from ≡ n
AreEnds from n (e ∷ es) = (from ≤ e) × AreEnds e n es

-- the position at the end
abbrev pub end_of : Touched → LogPosition
end_of t = record { keys = length t.keys; ranges = length t.ranges }

-- the log was at this position
abbrev pub IsPast : Touched → LogPosition → Type 0
IsPast t p = (p.keys ≤ length t.keys) × (p.ranges ≤ length t.ranges)

-- the earlier of two positions
abbrev pub earlier : LogPosition → LogPosition → LogPosition
earlier p q = record { keys = min p.keys q.keys; ranges = min p.ranges q.ranges }

-- what was added since
abbrev pub since : LogPosition → Touched → Touched
since p t = record { keys = drop p.keys t.keys; ranges = drop p.ranges t.ranges }

-- the keys and ranges of an answer
abbrev pub touched_of : TouchedKeys → Touched
touched_of t = record { keys = t.keys.items; ranges = t.ranges.items }
