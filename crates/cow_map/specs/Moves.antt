-- The first entry of a list, which is moved to another map, or shared with it.
use Rattle.std.specs.Prelude.{◌≡◌, ℕ, List, ◌∷◌, Option}
use Rattle.std.specs.BTreeMap.{insert_entry}
use Rattle.pathkey.specs.Order.{by_bytes}
use Rattle.cow_map.specs.Changes.{IsChangedOrPut}
use Rattle.cow_map.specs.Places.{at_key}

-- the first entry of a list, before `rest`, was put at its place in another, where `was` is the previous value at its key
pub record IsFirstMoved {X : Type 0} (was : Option X) (from old rest new : List (List ℕ × X)) : Type 0 where
  pub key : List ℕ
  pub value : X
  pub parts : from ≡ (key, value) ∷ rest
  pub is : new ≡ insert_entry by_bytes old key value
  pub found : was ≡ at_key key old

-- the first entry of a list, before `rest`, was put in another, which had none at its key; or the value there was changed as
-- `does` says, with this answer
pub record IsFirstJoined {X A : Type 0} (does : X → X → A → Type 0) (answer : Option A) (from old rest new : List (List ℕ × X)) : Type 0 where
  pub key : List ℕ
  pub value : X
  pub parts : from ≡ (key, value) ∷ rest
  pub is : IsChangedOrPut does key value old new answer
