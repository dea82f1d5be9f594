-- What is read of a slot before a job is taken of it.
use Rattle.std.specs.Prelude.{◌≡◌, ℕ, ◌<◌, ◌≤◌, List, Option, None, length, take, IsTrue}
use Rattle.message.specs.declared.msg.Msg.{Msg}
use Rattle.node.specs.declared.shape.Shape.{Shape}
use Rattle.node.specs.Lawful.{AreLawfulSlots}
use Rattle.node.specs.Pure.{PNode, PSlots}
use Rattle.node.specs.Shapes.{is_shape}
use Rattle.jobs.specs.Job.{FitBelow}

module _ {U V : Type 0} where
  -- the first are the oldest of the others, and not too many to be counted
  pub record AreOldest (front ms : List (Msg U V)) : Type 0 where
    pub few : length front < 65536
    pub has : length front ≤ length ms
    pub oldest : front ≡ take (length front) ms

  -- the slots of a root of an allowed shape
  abbrev pub AreRootSlots : Shape → PSlots U V → Type 0
  AreRootSlots shape ss = IsTrue (is_shape shape) × (h : ℕ) × AreLawfulSlots shape ss h None

  -- a slot of whose oldest messages these can be taken
  pub record CanBeTaken (shape : Shape) (taken : List (Msg U V)) (lo : List ℕ) (hi : Option (List ℕ)) (ms : List (Msg U V)) (child : PNode U V) : Type 0 where
    pub some : 1 ≤ length taken
    pub oldest : AreOldest taken ms
    pub fit : FitBelow shape.pending taken child
