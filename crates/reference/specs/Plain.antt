-- The abstraction of the plain program's values: each as a value of the definitions.
use Rattle.std.specs.Prelude.{◌≡◌, Result, IfOk, Option, Some, None}
use Rattle.std.specs.Borrow.{Bor}
use Rattle.reference.specs.Tree.{Tree, Dir, File, Entries, nothing, entry, At, Found, Missing, Blocked}
use Rattle.reference.specs.declared.plain.tree.Tree.{Tree as PlainTree, Dir'}
use Rattle.reference.specs.declared.plain.tree.Tree.TheVariants.{File as PlainFile}
use Rattle.reference.specs.declared.plain.tree.Entries.{Entries as PlainEntries, Entry'}
use Rattle.reference.specs.declared.plain.tree.Entries.TheVariants.{Nothing}
use Rattle.reference.specs.declared.plain.walk.At.{At as PlainAt}
use Rattle.reference.specs.declared.plain.walk.At.TheVariants.{Found as PlainFound, Missing as PlainMissing, Blocked as PlainBlocked}
use Rattle.pathkey.specs.declared.errno.NoMemory.{NoMemory}
use Rattle.reference.specs.Calls.{Outcome}
use Rattle.reference.specs.declared.plain.effect.Effect.{Effect}
use Rattle.reference.specs.declared.plain.effect.Effect.TheVariants.{Kept, Changed}

-- a tree of the program, and the entries of a directory
abbrev mutual
  pub tree_of : PlainTree → Tree
  tree_of (Dir' date p es) = Dir date (entries_of es)
  tree_of (PlainFile date v) = File date v.items

  pub entries_of : PlainEntries → Entries
  entries_of Nothing = nothing
  entries_of (Entry' name p x q rest) = entry name.items (tree_of x) (entries_of rest)

-- a tree that was found
abbrev pub tree_found : Option (Bor PlainTree) → Option Tree
tree_found None = None
tree_found (Some x) = Some (tree_of x.now)

-- a tree that is passed in
abbrev pub tree_given : Option PlainTree → Option Tree
tree_given None = None
tree_given (Some x) = Some (tree_of x)

-- what is at a path
abbrev pub at_of : PlainAt → At
at_of (PlainFound x) = Found (tree_of x.now)
at_of PlainMissing = Missing
at_of PlainBlocked = Blocked

-- the tree after a call and the reply, from the effect of the call on a tree
abbrev pub effect_of : Tree → Effect → Outcome
effect_of t (Kept r) = (t, r)
effect_of t (Changed x r) = (tree_of x, r)

-- if no allocation failed, the effect on the tree is the outcome
abbrev pub HasEffect : Result Effect NoMemory → Tree → Outcome → Type 0
HasEffect r t o = IfOk r (λ e. ◌≡◌ {A = Outcome} (effect_of t e) o)
