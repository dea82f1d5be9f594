-- Laws of record directories and of the paths of records.
use Rattle.std.specs.Prelude.{◌≡◌, ◌≢◌, ◌↔◌, [], ◌∷◌, ◌++◌, map, true, false}
use Rattle.pathkey.specs.Names.{Path, IsPath}
use Rattle.attributes.specs.Places.{reserved, is_reserved, escaped, record_dir, record_path, fits}

-- paths with the same record directory are equal, and so are paths with the same record
abbrev pub OneMirrorLaw : Type 0
OneMirrorLaw = (p q : Path) → record_dir p ≡ record_dir q → p ≡ q

abbrev pub OneRecordLaw : Type 0
OneRecordLaw = (p q : Path) → record_path p ≡ record_path q → p ≡ q

-- a path is reserved if its first name is the reserved one
abbrev pub ReservedLaw : Type 0
ReservedLaw = (p : Path) → is_reserved p ≡ true ↔ ((q : Path) × (p ≡ reserved ∷ q))

-- record directories and paths of records are reserved, so none is a path of a user
abbrev pub ApartLaw : Type 0
ApartLaw = (p q : Path) → is_reserved q ≡ false → (record_dir p ≢ q) × (record_path p ≢ q)

-- no record directory is the path of a record or below one
abbrev pub NoMirrorBelowLaw : Type 0
NoMirrorBelowLaw = (p q r : Path) → record_dir q ≢ record_path p ++ r

-- the record directory of a path below p is below that of p, and so is its record
abbrev pub BelowLaw : Type 0
BelowLaw = (p q : Path) → (record_dir (p ++ q) ≡ record_dir p ++ map escaped q) × (record_path (p ++ q) ≡ record_dir p ++ (map escaped q ++ (1 ∷ []) ∷ []))

-- if it is not too long, the record directory of a path is a path, and so is the path of its record
abbrev pub FitsLaw : Type 0
FitsLaw = (p : Path) → IsPath p → ((fits (record_dir p) ≡ true) ↔ IsPath (record_dir p)) × ((fits (record_path p) ≡ true) ↔ IsPath (record_path p))
