-- Which attributes are valid, that is, have a record.
use Rattle.std.specs.Prelude.{◌≡◌, ◌<◌, ◌^◌, ℕ, List, [], ◌∷◌, length, Bool, true, not, ◌&&◌, ◌==◌, nat_le, Option, Some, None, IfSome}
use Rattle.std.specs.List.{list_all, AllByRecursion}
use Rattle.std.specs.Ordering.{is_lt}
use Rattle.pathkey.specs.Heads.{AreBytes}
use Rattle.pathkey.specs.Order.{by_bytes}
use Rattle.attributes.specs.declared.record.Kind.{Kind}
use Rattle.attributes.specs.declared.record.Kind.TheVariants.{CharacterDevice, BlockDevice, NameOf}
use Rattle.attributes.specs.declared.record.MtimeOverride.{MtimeOverride}
use Rattle.attributes.specs.declared.record.BasicAttributes.{BasicAttributes}
use Rattle.attributes.specs.declared.record.ExtendedAttribute.{ExtendedAttribute}
use Rattle.attributes.specs.declared.record.Attributes.{Attributes}

-- ---- valid attributes

-- a name of at most 255 bytes, none of them 0, and a value of at most 65,536
abbrev pub may_stand : ExtendedAttribute → Bool
may_stand one = nat_le (length one.name) 255 && list_all (λ b. not (b == 0)) one.name && nat_le (length one.value) 65536

-- each is within the limits, and the names are in rising order, the first after `last`
abbrev pub assert_invariant : List ℕ → List ExtendedAttribute → Bool
assert_invariant last [] = true
assert_invariant last (one ∷ rest) = is_lt (by_bytes last one.name) && may_stand one && assert_invariant one.name rest

-- the mode has twelve bits, and the extended attributes are valid; the empty name is before every name
abbrev pub is_valid : Attributes → Bool
is_valid a = nat_le a.basic.mode 4095 && assert_invariant [] a.extended

-- ---- the ranges of numbers and bytes, which each value of the program keeps

-- the number that a kind has
abbrev pub number_of : Kind → Option ℕ
number_of (CharacterDevice n) = Some n
number_of (BlockDevice n) = Some n
number_of (NameOf n) = Some n
number_of _ = None

abbrev pub IsTime : MtimeOverride → Type 0
IsTime t = (t.modified < 2 ^ 64) × (t.until < 2 ^ 64)

pub record IsBasic (b : BasicAttributes) : Type 0 where
  pub number : IfSome (number_of b.kind) (λ n. n < 2 ^ 64)
  pub mode : b.mode < 4096
  pub user : b.user < 2 ^ 32
  pub group : b.group < 2 ^ 32
  pub names : b.names < 2 ^ 64
  pub modified : IfSome b.modified IsTime

-- name and value are bytes
abbrev pub AreBytesOf : ExtendedAttribute → Type 0
AreBytesOf one = AreBytes one.name × AreBytes one.value

pub record IsAttributes (a : Attributes) : Type 0 where
  pub valid : is_valid a ≡ true
  pub basic : IsBasic a.basic
  pub bytes : AllByRecursion AreBytesOf a.extended
