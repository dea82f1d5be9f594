-- What the replies of taking and installing say.
use Rattle.std.specs.Prelude.{◌≡◌, ◌^◌, ◌⊎◌, ℕ, ◌+◌, ◌≤◌, ◌<◌, ◌&&◌, ◌==◌, Bool, true, false, List, [], ◌∷◌, ◌++◌, Option, length, min, take, ⊤}
use Rattle.message.specs.declared.msg.Msg.{Msg}
use Rattle.flush.specs.Sunk.{free_pieces}
use Rattle.node.specs.Grafts.{AtRootSlot, Grafted}
use Rattle.node.specs.Pure.{PNode, leaf, inner, PSlots, PTree}
use Rattle.node.specs.StepRows.{can_flush_inner, IsFullBelow}
use Rattle.node.specs.Sinks.{first_lo}
use Rattle.node.specs.Site.{slots_from}
use Rattle.jobs.specs.declared.mark.Mark.{Mark}
use Rattle.jobs.specs.Job.{PJob, PDone, IsSubtree}
use Rattle.jobs.specs.declared.outcome.TakeOutcome.{TakeOutcome}
use Rattle.jobs.specs.declared.outcome.TakeOutcome.TheVariants.{Taken, NotThere, NoRoom, NoMemory}
use Rattle.jobs.specs.declared.outcome.InstallOutcome.{InstallOutcome}
use Rattle.jobs.specs.declared.outcome.InstallOutcome.TheVariants.{Installed, Stale, NoMemory as NoMemoryFor}
use Rattle.jobs.specs.Content.{Content, job_content, done_content, SameContent}
use Rattle.jobs.specs.Marks.{PMarked, MarkHas, Each, kept_at, without}

module _ {U V : Type 0} where
  abbrev pub IfTaken : TakeOutcome U V → (PJob U V → Type 0) → Type 0
  IfTaken (Taken job) P = P job
  IfTaken NotThere P = ⊤
  IfTaken NoRoom P = ⊤
  IfTaken NoMemory P = ⊤

  abbrev pub UnlessTaken : TakeOutcome U V → Type 0 → Type 0
  UnlessTaken (Taken job) P = ⊤
  UnlessTaken NotThere P = P
  UnlessTaken NoRoom P = P
  UnlessTaken NoMemory P = P

  -- the first of these slots has a message and an inner node below it, and no mark
  abbrev pub can_take_first : List Mark → PSlots U V → Bool
  can_take_first ms ss = can_flush_inner ss && (kept_at ms (first_lo ss) == 0)

  -- the same of the root's slot with this number
  abbrev pub can_take_at : ℕ → List Mark → PNode U V → Bool
  can_take_at i ms (leaf es) = false
  can_take_at i ms (inner ss) = can_take_first ms (slots_from i ss)

  -- of the slot's messages so many have room in its child, where a node may hold `most`
  abbrev pub Movable : ℕ → ℕ → List ℕ → Option (List ℕ) → List (Msg U V) → PNode U V → Type 0
  Movable most n lo hi msgs child = n ≡ min (length msgs) (free_pieces most child)

  -- a job can be taken of the root's slot number i, and it would move at most n messages, where a node may hold `most`
  pub record IsBacklog (i n most : ℕ) (ms : List Mark) (root : PNode U V) : Type 0 where
    pub there : can_take_at i ms root ≡ true
    pub some : 0 < n
    pub waiting : AtRootSlot (Movable most n) i root

  -- the pieces of the slot's first message have no room below it
  abbrev pub IsSlotFull : ℕ → ℕ → PNode U V → Type 0
  IsSlotFull most i (leaf es) = ⊥
  IsSlotFull most i (inner ss) = IsFullBelow most (slots_from i ss)

  -- why no job can be taken of a slot, where so many were given and so many marks stand
  abbrev pub LacksRoom : ℕ → ℕ → ℕ → PTree U V → Type 0
  LacksRoom i given all t = IsSlotFull t.shape.pending i t.root ⊎ ((64 ≤ all) ⊎ (given ≡ 2 ^ 64))

  -- likewise of a tree with its own marks
  abbrev pub LacksRoomIn : ℕ → PMarked U V → Type 0
  LacksRoomIn i m = LacksRoom i m.given (length m.marks) m.tree

  -- the mark of a job
  abbrev pub mark_of : PJob U V → Mark
  mark_of job = record { ticket = job.ticket; range = job.range; count = length job.msgs }

  -- the job has the slot's range, its child and its oldest messages
  pub record IsOf (job : PJob U V) (lo : List ℕ) (hi : Option (List ℕ)) (msgs : List (Msg U V)) (child : PNode U V) : Type 0 where
    pub begins : lo ≡ job.range.lo
    pub ends : hi ≡ job.range.hi
    pub has : length job.msgs ≤ length msgs
    pub oldest : job.msgs ≡ take (length job.msgs) msgs
    pub below : job.child ≡ child

  -- the job is of the root's slot with this number
  pub record IsJobOf (i t : ℕ) (a : PTree U V) (job : PJob U V) : Type 0 where
    pub ticket : job.ticket ≡ t
    pub shape : job.shape ≡ a.shape
    pub slot : AtRootSlot (IsOf job) i a.root

  -- a job was taken of the root's slot with this number: its mark was added, and nothing else has changed
  pub record IsTaken (i : ℕ) (job : PJob U V) (a b : PMarked U V) : Type 0 where
    pub tree : b.tree ≡ a.tree
    pub marks : b.marks ≡ a.marks ++ mark_of job ∷ []
    pub ticket : job.ticket ≡ a.given
    pub given : b.given ≡ a.given + 1
    pub shape : job.shape ≡ a.tree.shape
    pub slot : AtRootSlot (IsOf job) i a.tree.root

module _ {U V : Type 0} where
  -- the slot is that of the value
  abbrev pub IsSlotOf : PDone U V → List ℕ → Option (List ℕ) → List (Msg U V) → PNode U V → Type 0
  IsSlotOf done lo hi msgs child = (lo ≡ done.range.lo) × (hi ≡ done.range.hi)

module _ {U V : Type 0} (means : U → Option V → Option V) where
  -- what was built of a job
  pub record IsBuilt (job : PJob U V) (done : PDone U V) : Type 0 where
    pub ticket : done.ticket ≡ job.ticket
    pub content : SameContent (job_content means job) (done_content means done)
    pub subtree : IsSubtree done.shape done.range done.child

  -- where a mark of the ticket stands, its slot has the content
  abbrev pub Fits : ℕ → Content V → PTree U V → List Mark → Type 0
  Fits ticket c t ms = Each (λ m. m.ticket ≡ ticket → MarkHas means m c t) ms

  -- the same of the content of what was built
  abbrev pub FitsMark : PDone U V → PTree U V → List Mark → Type 0
  FitsMark done t ms = Fits done.ticket (done_content means done) t ms

  -- of each ticket that was given: the content that its marks' slots had before, they have after
  abbrev pub KeepsFits : PMarked U V → PMarked U V → Type 0
  KeepsFits a b = (ticket : ℕ) (c : Content V) → ticket < a.given → Fits ticket c a.tree a.marks → Fits ticket c b.tree b.marks

  -- the value's subtree took the place of the child of the value's slot, whose oldest messages are gone
  pub record IsPlaced (done : PDone U V) (a b : PTree U V) : Type 0 where
    pub number : ℕ
    pub slot : AtRootSlot (IsSlotOf done) number a.root
    pub tree : Grafted means number done.count done.child a b

  -- the same, and the mark is gone
  pub record IsInstalled (done : PDone U V) (a b : PMarked U V) : Type 0 where
    pub marks : b.marks ≡ without done.ticket a.marks
    pub given : b.given ≡ a.given
    pub placed : IsPlaced done a.tree b.tree

module _ {U V : Type 0} where
  abbrev pub IfInstalled : InstallOutcome U V → Type 0 → Type 0
  IfInstalled Installed P = P
  IfInstalled Stale P = ⊤
  IfInstalled (NoMemoryFor done) P = ⊤

  abbrev pub UnlessInstalled : InstallOutcome U V → Type 0 → Type 0
  UnlessInstalled Installed P = ⊤
  UnlessInstalled Stale P = P
  UnlessInstalled (NoMemoryFor done) P = P

  abbrev pub IfGivenBack : InstallOutcome U V → (PDone U V → Type 0) → Type 0
  IfGivenBack Installed P = ⊤
  IfGivenBack Stale P = ⊤
  IfGivenBack (NoMemoryFor done) P = P done
