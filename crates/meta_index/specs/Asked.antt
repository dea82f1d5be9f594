-- How many walks of the tree and pairs a listing needs for its entries.
use Rattle.std.specs.Prelude.{◌≡◌, ℕ, ◌+◌, ◌-◌, ◌*◌, ◌^◌, ◌<◌, ◌≤◌, min, max, Bool, false, Option, MatchOption}

-- for g entries there were so many walks, which requested so many pairs: at most one walk for each entry and one more, at most two
-- pairs for each and 32 more, at least one pair for each up to 64 bits, and no walk for more than 256
pub record IsSpent (g walks asked : ℕ) : Type 0 where
  pub some : 0 < walks
  pub few : walks ≤ g + 1
  pub spent : asked ≤ 2 * g + 32
  pub paid : min g (2 ^ 64 - 1) ≤ asked
  pub each : asked ≤ 256 * walks

-- the same after the last of the g entries was returned, if n pairs were read ahead, and the next batch may have `most`: one more
-- walk may follow. Unless no other pair is left, that batch is paid for by the entries and the pairs read ahead
pub record IsFrugal (g n most walks asked : ℕ) (all : Bool) : Type 0 where
  pub some : 0 < walks
  pub few : walks ≤ g
  pub spent : asked ≤ 2 * g + 30
  pub ahead : all ≡ false → asked + max most 1 ≤ 2 * (g + n) + 32
  pub paid : min (g + n) (2 ^ 64 - 1) ≤ asked
  pub small : max most 1 ≤ 256
  pub each : asked ≤ 256 * walks

-- g entries were given before this one, if there is one
abbrev pub AsksFor : {P : Type 0} → ℕ → Option P → ℕ → ℕ → ℕ → ℕ → Bool → Type 0
AsksFor g next n most walks asked all = MatchOption next (IsSpent g walks asked) (λ _. IsFrugal (g + 1) n most walks asked all)
