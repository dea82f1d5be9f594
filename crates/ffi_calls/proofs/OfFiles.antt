-- A read that is answered from the blocks of a file.
use Rattle.std.proofs.Common.{◌≡◌, ◌≤◌, ◌<◌, ℕ, List, length, take, drop, Result, Ok, Err, sym, subst, ap, ◌∙◌, inl}
use Rattle.std.proofs.lemmas.Bool.{le-ltb, lt-ltb}
use Rattle.call_compiler.specs.Compiled.{MeanTree}
use Rattle.call_compiler.specs.Measured.{TellsLength}
use Rattle.call_compiler.specs.declared.indexes.Indexes.{Indexes}
use Rattle.call_compiler.proofs.Faults.{read_done, read_refused, read_too_much}
use Rattle.pathkey.specs.Names.{Path}
use Rattle.pathkey.specs.declared.errno.Errno.{Errno}
use Rattle.pathkey.specs.declared.errno.Errno.TheVariants.{EINVAL}
use Rattle.reference.specs.Calls.{greatest_read}
use Rattle.reference.specs.Tree.{File, Found, Tree, entry_at}
use Rattle.reference.specs.declared.call.Call.TheVariants.{Read}
use Rattle.reference.specs.declared.reply.Reply.TheVariants.{Data, Fault}
use Rattle.ffi_calls.specs.Reads.{TellsIn}

module _ (p : Path) (i : Indexes) (found : Result ℕ Errno) (is : (t : Tree) → MeanTree i t → TellsLength (entry_at t p) found) where
  -- there is no file
  pub no_file : (e : Errno) → found ≡ Err e → (off n : ℕ) → TellsIn (Read p off n) (Fault e) i
  no_file e none off n = λ t at mean. inl (sym (read_refused at t p off n e (subst (TellsLength (entry_at t p)) none (is t mean))))

  module _ (len : ℕ) (some : found ≡ Ok len) where
    file_of : (t : Tree) → MeanTree i t → (date : ℕ) × (b : List ℕ) × (entry_at t p ≡ Found (File date b)) × (length b ≡ len)
    file_of t mean = subst (TellsLength (entry_at t p)) some (is t mean)

    pub too_much : (off n : ℕ) → greatest_read < n → TellsIn (Read p off n) (Fault EINVAL) i
    too_much off n h = λ t at mean. let f = file_of t mean in inl (sym (read_too_much at t p off n f.0 f.1 f.2 (lt-ltb greatest_read n h)))

    -- what a read returns, if these are the bytes of each such file
    pub read_is : (off n : ℕ) (items : List ℕ) → n ≤ greatest_read → ((t : Tree) (date : ℕ) (b : List ℕ) → MeanTree i t → entry_at t p ≡ Found (File date b) → length b ≡ len → items ≡ take n (drop off b)) → TellsIn (Read p off n) (Data items) i
    read_is off n items h same = λ t at mean. let f = file_of t mean in inl (ap Data (same t f.0 f.1 mean f.2 f.3) ∙ sym (read_done at t p off n f.0 f.1 f.2 (le-ltb greatest_read n h)))
