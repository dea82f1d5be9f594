-- The messages of a walk and a leaf's entries in one pass over both.
use Rattle.std.specs.Prelude.{◌≡◌, ℕ, ◌≤◌, true, List, [], ◌∷◌, ◌++◌, length, take, Option, Some, None, Result}
use Rattle.std.specs.declared.cmp.Ordering.{Ordering}
use Rattle.std.specs.declared.cmp.Ordering.TheVariants.{Less, Equal, Greater}
use Rattle.pathkey.specs.Keys.{is_below}
use Rattle.pathkey.specs.Order.{same}
use Rattle.message.specs.declared.msg.Msg.{Msg}
use Rattle.message.specs.Effects.{point_key}
use Rattle.node.specs.Lawful.{first_key, Rises}
use Rattle.node.specs.Leaves.{Applied, IsChanged, IsPlace}

module _ {V : Type 0} where
  -- the last entry has the key
  pub record EndsAt (k : List ℕ) (es : List (List ℕ × V)) : Type 0 where
    pub front : List (List ℕ × V)
    pub value : V
    pub is : es ≡ front ++ (k, value) ∷ []

  -- how far a pass has come, by how the last entry that it looked at compares with the key: the entries that are done are before the
  -- key, or the last has it, or those that are left are after it
  abbrev pub HasCome : List ℕ → List (List ℕ × V) → List (List ℕ × V) → Ordering → Type 0
  HasCome k done left Less = Rises [] (Some k) done
  HasCome k done left Equal = EndsAt k done
  HasCome k done left Greater = Rises [] (Some k) done × (is_below k (first_key None left) ≡ true)

  -- the key has this value now, or none, and this place
  pub record IsSetAt (k : List ℕ) (v : Option V) (p : Result ℕ ℕ) (old new : List (List ℕ × V)) : Type 0 where
    pub changed : IsChanged (same k) v old new
    pub place : IsPlace new k p

module _ {U V : Type 0} (means : U → Option V → Option V) where
  -- the message is in the entries, and its key has this place
  pub record IsAppliedAt (m : Msg U V) (p : Result ℕ ℕ) (old new : List (List ℕ × V)) : Type 0 where
    pub applied : Applied means (m ∷ []) old new
    pub place : (k : List ℕ) → point_key m ≡ Some k → IsPlace new k p

  -- the first n messages are in the entries, which stay within the limit
  pub record IsFilled (most : ℕ) (ms : List (Msg U V)) (n : ℕ) (old new : List (List ℕ × V)) : Type 0 where
    pub within : n ≤ length ms
    pub applied : Applied means (take n ms) old new
    pub few : length old ≤ most → length new ≤ most
    pub none : n ≡ 0 → new ≡ old
