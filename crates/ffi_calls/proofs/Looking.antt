-- What is read of indexes is read of each root that has them, at the path that a text is parsed to.
use Rattle.std.proofs.Common.{◌≡◌, ℕ, List, Result, Ok, Err, inl, inr, subst}
use Rattle.call_compiler.specs.declared.indexes.Indexes.{Indexes}
use Rattle.pathkey.specs.Names.{Path}
use Rattle.pathkey.specs.Outcomes.{IsOrLacksMemory}
use Rattle.pathkey.specs.declared.errno.Errno.{Errno}
use Rattle.reference.specs.declared.call.Call.{Call}
use Rattle.reference.specs.declared.call.Call.TheVariants.{Readdir}
use Rattle.reference.specs.declared.reply.Reply.{Reply}
use Rattle.reference.specs.declared.reply.Reply.TheVariants.{Fault, Names}
use Rattle.volume.specs.HistoryOf.{Tells}
use Rattle.volume.specs.declared.fs_root.FsRoot.{FsRoot}
use Rattle.ffi_calls.specs.Reads.{Lists, ListsIn, OnPath, TellsIn}

module _ (i : Indexes) (root : FsRoot) (is : i ≡ root.indexes) where
  pub root_tells : (c : Call) (r : Reply) → TellsIn c r i → Tells c r root
  root_tells c r k = λ t at mean. subst (TellsIn c r) is k t at mean.indexes

  pub root_lists : (p : Path) (result : Result ℕ Errno) (old new : List ℕ) → ListsIn p i result old new → Lists p root result old new
  root_lists p (Ok n) old new k = record {
    entries = k.entries;
    tells = root_tells (Readdir p) (Names k.entries) k.tells;
    size = k.size;
    buffer = k.buffer;
  }
  root_lists p (Err e) old new k = (root_tells (Readdir p) (Fault e) k.0, k.1)

-- what holds of the path that was parsed
pub on_path : {A : Type 0} (read : Result Path Errno) (p : Path) (result : Result A Errno) (P : Path → Type 0) → IsOrLacksMemory (Ok p) read → P p → OnPath read result P
on_path read p result P (inl is) holds = subst (λ (r : Result Path Errno). OnPath r result P) is holds
on_path read p result P (inr lacks) holds = absurd (cc)
