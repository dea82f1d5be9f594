-- What the end of an engine says.
use Rattle.std.specs.Prelude.{◌≡◌, List, [], ◌∷◌, ℕ, ◌+◌, ◌%◌, ◌^◌, ◌<◌, ◌≤◌, ◌==◌, if◌then◌else◌, length, slice_index_or}
use Rattle.volume.specs.declared.fs_root.FsRoot.{FsRoot}
use Rattle.volume.specs.Volumes.{PVolume}
use Rattle.engine.specs.declared.engine.CloseFault.{CloseFault}
use Rattle.engine.specs.declared.engine.CloseFault.TheVariants.{Missing, NoMemory}
use Rattle.engine.specs.declared.serve.ServeFault.{ServeFault}
use Rattle.engine.specs.declared.serve.ServeFault.TheVariants.{NotOpened, NotClosed}
use Rattle.engine.specs.Histories.{Entry, LegalFrom, StartsWith, own}
use Rattle.engine.specs.Seats.{Shows}
use Rattle.engine.specs.Clients.{Known, newcomer}

-- a history that begins with what the client has seen, and has no other calls of it
abbrev pub Agrees : List Entry → Known → Type 0
Agrees h k = StartsWith h k.seen × (own k.client h ≡ own k.client k.seen)

-- the history begins with what each of them has seen
abbrev pub AllAgree : List Entry → List Known → Type 0
AllAgree h [] = Unit {0}
AllAgree h (k ∷ ks) = Agrees h k × AllAgree h ks

-- how many of them are the client c
abbrev pub times_in : ℕ → List Known → ℕ
times_in c [] = 0
times_in c (k ∷ ks) = (if c == k.client then 1 else 0) + times_in c ks

-- each client below n is there
abbrev pub HasEach : ℕ → List Known → Type 0
HasEach n ks = (c : ℕ) → c < n → 1 ≤ times_in c ks

-- each client below n is there once
abbrev pub EachOnce : ℕ → List Known → Type 0
EachOnce n ks = (c : ℕ) → c < n → times_in c ks ≡ 1

-- one of the clients below n is not there
abbrev pub LacksOne : ℕ → List Known → Type 0
LacksOne n ks = (c : ℕ) × (c < n) × (times_in c ks ≡ 0)

-- each is a client below n
abbrev pub Within : ℕ → List Known → Type 0
Within n [] = Unit {0}
Within n (k ∷ ks) = (k.client < n) × Within n ks

-- why an engine with so many clients did not end: one of its clients is not in the list, or all are; both are returned
abbrev pub GivesBack : {J : Type 0} → ℕ → List Known → CloseFault J → Type 0
GivesBack n clients (Missing engine back) = LacksOne n clients × (engine ≡ n) × (back ≡ clients)
GivesBack n clients (NoMemory engine back) = EachOnce n clients × (engine ≡ n) × (back ≡ clients)

-- the calls of all of them
abbrev pub made_by_all : List Known → ℕ
made_by_all [] = 0
made_by_all (k ∷ ks) = own k.client k.seen + made_by_all ks

-- one legal history begins with all that the clients have seen, and has their calls and no others; the tree is the live
-- one of the world that it leaves
pub record Ends (o : PVolume) (clients : List Known) (count : ℕ) (tree : FsRoot) : Type 0 where
  pub history : List Entry
  pub legal : LegalFrom o history
  pub agree : AllAgree history clients
  pub length_is : count ≡ length history % 2 ^ 64
  pub all_made : length history ≡ made_by_all clients
  pub leaves : Shows o history tree

-- what n clients know that did the work: each did it once, from when it had seen nothing on, by its own number
pub record Worked (does : Known → Known → Type 0) (n : ℕ) (clients : List Known) : Type 0 where
  pub count : length clients ≡ n
  pub each : (i : ℕ) (d : Known) → i < n → does (newcomer i) (slice_index_or clients i d)

-- what is left of an engine over a volume: n clients did the work, each is there once, and the engine ended with what they
-- then knew
pub record Served (does : Known → Known → Type 0) (o : PVolume) (n : ℕ) (count : ℕ) (tree : FsRoot) : Type 0 where
  pub clients : List Known
  pub worked : Worked does n clients
  pub once : EachOnce n clients
  pub ends : Ends o clients count tree

-- why there is no report: no client ran, and the volume is returned; or all ran, and it is lost
abbrev pub GivesVolume : (Known → Known → Type 0) → PVolume → ℕ → ServeFault → Type 0
GivesVolume does o n (NotOpened volume) = volume ≡ o
GivesVolume does o n NotClosed = (clients : List Known) × Worked does n clients
