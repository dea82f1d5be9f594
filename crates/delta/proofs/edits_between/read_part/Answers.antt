use Rattle.std.proofs.Common.{◌≡◌, ◌≢◌, ℕ, [], Ok, Err}
use Rattle.std.specs.Prelude.{IfOk, MatchResult, Result, drop, take}
use Rattle.std.specs.Global.{Vec}
use Rattle.pathkey.specs.declared.errno.Errno.TheVariants.{ENOMEM}
use Rattle.pathkey.specs.declared.errno.NoMemory.{NoMemory}
use Rattle.reference.specs.Calls.{bytes_of}
use Rattle.reference.specs.Tree.{Tree, entry_at}
use Rattle.volume.specs.Volumes.{MeanRooted}
use Rattle.delta.proofs.PartFacts.{part_read}
use Rattle.delta.proofs.edits_between.read_part.Goals as goal

pub returns : goal.returns
returns c = go c.found_bytes.result c.found_bytes.ensures
  where
    go : (r : Result (Vec ℕ) NoMemory) → IfOk r (λ bytes. MatchResult c.try_read.result (λ read. bytes.items ≡ read.items) (λ fault. (fault ≢ ENOMEM) × (bytes.items ≡ [])))
        → IfOk r (λ bytes. (t : Tree) → MeanRooted c.args.tree.now t → bytes.items ≡ take c.args.count (drop c.args.from (bytes_of (entry_at t c.args.path.now))))
    go (Ok bytes) h = λ t of. part_read t c.args.path.now c.args.from c.args.count c.try_read.result bytes.items c.requires (c.try_read.ensures t 0 of) h
    go (Err e) h = tt
