-- The entries of a directory, and what it takes to list them.
use Rattle.std.specs.Prelude.{◌≡◌, ℕ, List, length}
use Rattle.pathkey.specs.Names.{Name, Path}
use Rattle.reference.specs.Calls.{names_of}
use Rattle.reference.specs.Tree.{Tree, entry_at}
use Rattle.reference.specs.declared.reply.Kind.{Kind}
use Rattle.meta_index.specs.Asked.{IsSpent}
use Rattle.meta_index.specs.Means.{IsMeantBy}
use Rattle.meta_index.specs.declared.index.MetaIndex.{MetaIndex}

-- these are the entries of the directory at the path, found by so many walks for so many pairs
pub record IsListing (m : MetaIndex) (p : Path) (es : List (Kind × Name)) (walks asked : ℕ) : Type 0 where
  pub listed : (t : Tree) → IsMeantBy t m → es ≡ names_of (entry_at t p)
  pub spent : IsSpent (length es) walks asked
