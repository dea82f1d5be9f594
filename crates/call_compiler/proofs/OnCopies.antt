-- Copies: what bytes of a file that are written to another, or to the same, are compiled to.
use Rattle.std.proofs.Common.{◌≡◌, ℕ, ◌+◌, ◌-◌, ◌/◌, ◌^◌, ◌<◌, ◌≤◌, min, max, List, [], ◌∷◌, length, take, drop, true, false, Bool, cond, refl, sym, ap, ◌∙◌, subst, Some, arith}
use Rattle.std.specs.Prelude.{nat_le, Result, Ok, Err}
use Rattle.std.proofs.lemmas.Bool.{le-ltb}
use Rattle.std.proofs.lemmas.List.{ext_get_or, get_or-take, length-drop, length-take}
use Rattle.std.proofs.lemmas.List.Elements.{All-drop, All-take}
use Rattle.block_index.specs.Changed.{Messages as BlockMessages}
use Rattle.block_index.specs.Means.{blocks}
use Rattle.meta_index.specs.Means.{metadata}
use Rattle.meta_index.proofs.Fresh.{means_alike}
use Rattle.pathkey.specs.Keys.{block_key, enc}
use Rattle.pathkey.specs.Names.{Path, IsPath}
use Rattle.pathkey.specs.declared.errno.Errno.{Errno}
use Rattle.pathkey.specs.declared.errno.Errno.TheVariants.{EFBIG, EISDIR}
use Rattle.pathkey.proofs.OrderFacts.{same_itself}
use Rattle.reference.specs.Calls.{Outcome, does, faults_of_file, first_fault, greatest_file, is_empty}
use Rattle.reference.specs.Indexes.{Blocks, BlocksChange, Hold, IndexesMean, MetaMeans, edit_at, grow, meta_of, patched}
use Rattle.reference.specs.Reads.{Bytes, look, seen, sighted}
use Rattle.reference.specs.Shape.{AreBytes, IsMoment}
use Rattle.reference.specs.Tree.{Tree, Dir, File, At, Found, Missing, Blocked, entry_at, over}
use Rattle.reference.specs.declared.call.Call.{Call}
use Rattle.reference.specs.declared.call.Call.TheVariants.{Read, Write}
use Rattle.reference.specs.declared.reply.Meta.TheVariants.{File as FileMeta}
use Rattle.reference.specs.declared.reply.Reply.{Reply}
use Rattle.reference.specs.declared.reply.Reply.TheVariants.{Count, Fault}
use Rattle.reference.proofs.Contents.{length-over}
use Rattle.reference.proofs.FileBlocks.{write_holds}
use Rattle.reference.proofs.IndexLaws.{write_law}
use Rattle.reference.proofs.PointIndexes.{hold_alike}
use Rattle.call_compiler.specs.declared.files.FoundFile.{FoundFile}
use Rattle.call_compiler.specs.declared.indexes.Indexes.{Indexes}
use Rattle.call_compiler.specs.Compiled.{Messages, no_messages, blocks_after, growth, has_grown, metadata_after, MeanTree, IsCompiled}
use Rattle.call_compiler.specs.Copied.{HoldsOfBytes, IsCopied, Overwrites, SendsCopied, copying, copying_of}
use Rattle.call_compiler.specs.Files.{TellsFile}
use Rattle.call_compiler.specs.Punched.{reached_of}
use Rattle.call_compiler.proofs.Compiling.{After, meta_meant}
use Rattle.call_compiler.proofs.Faults.{write_done}
use Rattle.call_compiler.proofs.Idle.{grown_alike}
use Rattle.call_compiler.proofs.OnFiles.{Finds, read_is_refused, write_is_empty, write_is_refused, write_is_too_large}
use Rattle.call_compiler.proofs.OnHoles.{blocks_mean, file_there, written}
use Rattle.call_compiler.proofs.Zeroing.{hold_as}

-- where no file is, the call is the read that fails
not_a_file : (here : At) (p : Path) (off : ℕ) (q : Path) (target n : ℕ) (fault : Errno) → first_fault (faults_of_file here EISDIR) ≡ Some fault → copying_of here p off q target n ≡ Read p off 0
not_a_file (Found (Dir date es)) p off q target n fault e = refl
not_a_file (Found (File date b)) p off q target n fault e = absurd (cc)
not_a_file Missing p off q target n fault e = refl
not_a_file Blocked p off q target n fault e = refl

-- bytes of a list of bytes
bytes_taken : (b : List ℕ) (off n : ℕ) → AreBytes b → AreBytes (take n (drop off b))
bytes_taken b off n h = All-take (λ x. x < 256) n (drop off b) (All-drop (λ x. x < 256) off b h)

-- a list without length is empty, and any other is not
no_bytes : (w : List ℕ) → length w ≡ 0 → is_empty w ≡ true
no_bytes [] h = refl
no_bytes (x ∷ w) h = absurd (omega (arith, h))

some_bytes : (w : List ℕ) → 0 < length w → is_empty w ≡ false
some_bytes [] h = absurd (omega (arith, h))
some_bytes (x ∷ w) h = refl

-- beyond the end of a list no more is taken
take_fewer : (b : List ℕ) (n m : ℕ) → m ≡ min (length b) n → take n b ≡ take m b
take_fewer b n m e =
    let k : length (take n b) ≡ min n (length b) = length-take n b in
    let l : length (take m b) ≡ min m (length b) = length-take m b in
    ext_get_or 0 _ _ (omega (arith, k, l, e)) (λ x lx. get_or-take n b x 0 (omega (arith, k, lx)) ∙ sym (get_or-take m b x 0 (omega (arith, k, lx, e))))

module _ (i : Indexes) (p : Path) (off : ℕ) (q : Path) (target n at : ℕ) (reply : Reply) (msgs : Messages) (source : Result FoundFile Errno) (finds_source : Finds i p EISDIR source) where
  -- no messages are few
  none_few : msgs ≡ no_messages → SendsCopied reply msgs
  none_few none = subst (SendsCopied reply) (sym none) (omega arith, λ m e. omega arith)

  -- what the call is in each tree decides what is compiled
  copied_as : ((t : Tree) → MeanTree i t → IsCompiled i (copying p off q target n t) at reply msgs) → msgs ≡ no_messages → IsCopied i p off q target n at reply msgs
  copied_as is none = record {
    reply = λ t means. (is t means).reply t means;
    tree = λ t means. (is t means).tree t means;
    fault = λ e h. none;
    nothing = λ h. none;
    few = none_few none;
  }

  pub copy_has_no_source : (fault : Errno) → source ≡ Err fault → reply ≡ Fault fault → msgs ≡ no_messages → IsCopied i p off q target n at reply msgs
  copy_has_no_source fault is r none = copied_as (λ t means.
      let why : first_fault (faults_of_file (entry_at t p) EISDIR) ≡ Some fault = subst (λ (f : Result FoundFile Errno). TellsFile (entry_at t p) EISDIR f) is (finds_source t (meta_meant i t means)) in
      subst (λ (c : Call). IsCompiled i c at reply msgs) (sym (not_a_file (entry_at t p) p off q target n fault why)) (read_is_refused i p off 0 at reply msgs source finds_source fault is r none)) none

  module _ (from : FoundFile) (is_source : source ≡ Ok from) where
    -- the file in a tree that is meant
    source_in : (t : Tree) → MeanTree i t → (b : List ℕ) × (entry_at t p ≡ Found (File from.modified b)) × (length b ≡ from.len)
    source_in t means = subst (λ (r : Result FoundFile Errno). TellsFile (entry_at t p) EISDIR r) is_source (finds_source t (meta_meant i t means))

    -- the bytes that are taken
    taken : (t : Tree) (means : MeanTree i t) → copying p off q target n t ≡ Write q target (take n (drop off (source_in t means).0))
    taken t means = ap (λ (here : At). copying_of here p off q target n) (source_in t means).1

    as_write : ((t : Tree) (means : MeanTree i t) → IsCompiled i (Write q target (take n (drop off (source_in t means).0))) at reply msgs) → msgs ≡ no_messages → IsCopied i p off q target n at reply msgs
    as_write is = copied_as (λ t means. subst (λ (c : Call). IsCompiled i c at reply msgs) (sym (taken t means)) (is t means))

    -- how many they are
    count_taken : (t : Tree) (means : MeanTree i t) → length (take n (drop off (source_in t means).0)) ≡ reached_of from.len off n
    count_taken t means =
        let b : List ℕ = (source_in t means).0 in
        let l : length (source_in t means).0 ≡ from.len = (source_in t means).2 in
        let k : length (drop off (source_in t means).0) ≡ length (source_in t means).0 - off = length-drop off b in
        let m : length (take n (drop off (source_in t means).0)) ≡ min n (length (drop off (source_in t means).0)) = length-take n (drop off b) in
        omega (arith, l, k, m)

    module _ (file : Result FoundFile Errno) (finds : Finds i q EISDIR file) where
      pub copy_has_no_target : (fault : Errno) → file ≡ Err fault → reply ≡ Fault fault → msgs ≡ no_messages → IsCopied i p off q target n at reply msgs
      copy_has_no_target fault is r none = as_write (λ t means. write_is_refused i q target (take n (drop off (source_in t means).0)) at reply msgs file finds fault is r none) none

      module _ (found : FoundFile) (is : file ≡ Ok found) where
        pub copy_is_nothing : reached_of from.len off n ≡ 0 → reply ≡ Count 0 → msgs ≡ no_messages → IsCopied i p off q target n at reply msgs
        copy_is_nothing no_byte r none = as_write (λ t means.
            let w : List ℕ = take n (drop off (source_in t means).0) in
            write_is_empty i q target w at reply msgs file finds found is (no_bytes w (count_taken t means ∙ no_byte)) r none) none

        module _ (m : ℕ) (reaches : m ≡ reached_of from.len off n) (some : 0 < m) where
          pub copy_is_too_large : nat_le (target + m) greatest_file ≡ false → reply ≡ Fault EFBIG → msgs ≡ no_messages → IsCopied i p off q target n at reply msgs
          copy_is_too_large large r none = as_write (λ t means.
              let w : List ℕ = take n (drop off (source_in t means).0) in
              let l : length (take n (drop off (source_in t means).0)) ≡ m = count_taken t means ∙ sym reaches in
              write_is_too_large i q target w at reply msgs file finds found is (some_bytes w (omega (arith, l, some))) (ap (λ (x : ℕ). nat_le (target + x) greatest_file) l ∙ large) r none) none

          module _ (fits : target + m ≤ 2 ^ 40) (early : IsMoment at) (is_p : IsPath p) (is_q : IsPath q) (block : BlockMessages) (copied : HoldsOfBytes (blocks i.block) p from.len off m (λ w. Overwrites (blocks i.block) q target w block)) (few : length block ≤ m / 4096 + 2) where
            abbrev end : ℕ
            end = target + m

            -- the messages
            abbrev sent : Messages
            sent = record { meta = growth (enc q) end at (has_grown end at found.len found.modified); block = block }

            module _ (t : Tree) (means : MeanTree i t) where
              abbrev bytes : List ℕ
              bytes = (source_in t means).0

              abbrev w : List ℕ
              w = take n (drop off bytes)

              long : length w ≡ m
              long = count_taken t means ∙ sym reaches

              file_in : (b : List ℕ) × (entry_at t q ≡ Found (File found.modified b)) × (length b ≡ found.len)
              file_in = subst (λ (r : Result FoundFile Errno). TellsFile (entry_at t q) EISDIR r) is (finds t (meta_meant i t means))

              answers : (does at t (Write q target w)).1 ≡ Count m
              answers = write_done at t q target w found.modified file_in.0 file_in.1 (some_bytes w (let l : length w ≡ m = long in omega (arith, l, some)))
                  (le-ltb greatest_file (target + length w) (let l : length w ≡ m = long in omega (arith, l, fits))) ∙ ap Count long

              -- as many bytes as are there
              all_taken : w ≡ take m (drop off bytes)
              all_taken = take_fewer (drop off bytes) n m (let l : length bytes ≡ from.len = (source_in t means).2 in let k : length (drop off bytes) ≡ length bytes - off = length-drop off bytes in omega (arith, l, k, reaches))

              laid : Overwrites (blocks i.block) q target w block
              laid = subst (λ (x : List ℕ). Overwrites (blocks i.block) q target x block) (sym all_taken) (copied t bytes means.blocks (ap seen (source_in t means).1) (source_in t means).2)

              makes : After i sent (does at t (Write q target w)).0
              makes =
                  let u : Tree = (does at t (Write q target w)).0 in
                  let d : Blocks = blocks i.block in
                  let f : (b : List ℕ) × (entry_at t q ≡ Found (File found.modified b)) × (length b ≡ found.len) = file_in in
                  let l : length w ≡ m = long in
                  let value : metadata i.meta (enc q) ≡ Some (FileMeta found.len found.modified) = means.meta.paths q is_q ∙ ap (λ (here : At). meta_of (sighted here)) f.1 ∙ ap (λ (y : ℕ). Some (FileMeta y found.modified)) f.2 in
                  let done : ◌≡◌ {A = Outcome} (does at t (Write q target w)) (u, Count (length w)) = ap {B = Outcome} (λ (x : Reply). (u, x)) (answers ∙ ap Count (sym long)) in
                  let e : (e : Blocks) × BlocksChange (patched target w) q d e = written q is_q target w (omega (arith, l, some)) (omega (arith, l, fits)) d in
                  let are_bytes : AreBytes w = bytes_taken bytes off n (means.tree.files p from.modified bytes (source_in t means).1).bytes in
                  let law : IndexesMean u (edit_at (enc q) (grow (target + length w) at) (metadata i.meta)) e.0 = write_law at t u q target w (metadata i.meta) d e.0 early means (is_q, are_bytes) (some_bytes w (omega (arith, l, some))) e.1 done in
                  let meta : MetaMeans u (edit_at (enc q) (grow end at) (metadata i.meta)) = subst (λ (y : ℕ). MetaMeans u (edit_at (enc q) (grow (target + y) at) (metadata i.meta))) long law.meta in
                  let grown : edit_at (enc q) (grow end at) (metadata i.meta) (enc q) ≡ Some (FileMeta (max found.len end) at) =
                  ap (λ (x : Bool). cond x (grow end at (metadata i.meta (enc q))) (metadata i.meta (enc q))) (same_itself (enc q)) ∙ ap (grow end at) value in
                  let there : (b : List ℕ) × (look u q ≡ Some (Bytes b)) × (length b ≡ max found.len end) = file_there (entry_at u q) (max found.len end) at (sym (meta.paths q is_q) ∙ grown) in
                  let before : Hold (λ j. d (block_key q j)) f.0 = means.blocks.blocks q f.0 is_q (ap seen f.1) in
                  let over_it : Hold (λ j. laid.change j (d (block_key q j))) (over f.0 target w) = laid.holds f.0 before in
                  let as_written : Hold (λ j. e.0 (block_key q j)) there.0 = law.blocks.blocks q there.0 is_q there.1 in
                  let size : length (over f.0 target w) ≡ max (length f.0) (target + length w) = length-over f.0 target w in
                  let hold : Hold (λ j. laid.change j (d (block_key q j))) there.0 = hold_as (λ j. laid.change j (d (block_key q j))) (λ j. patched target w j (d (block_key q j))) (over f.0 target w) there.0 over_it
                  (write_holds target w (λ j. d (block_key q j)) f.0 before)
                  (hold_alike (λ j. e.0 (block_key q j)) (λ j. patched target w j (d (block_key q j))) there.0 (λ j lj. e.1.block j lj) as_written)
                  (omega (arith, size, f.2, there.2, l)) in
                  record {
                    tree = law.tree;
                    meta = means_alike u (edit_at (enc q) (grow end at) (metadata i.meta)) (metadata_after sent (metadata i.meta)) (grown_alike end at found.len found.modified (enc q) (metadata i.meta) value) meta;
                    blocks = blocks_mean t u q is_q there.0 d (blocks_after sent d) e.0 laid.change (patched target w) means.blocks law.blocks there.1 laid.changes e.1 hold;
                  }

            one_growth : (has : Bool) → length (growth (enc q) end at has) ≤ 1
            one_growth true = omega arith
            one_growth false = omega arith

            pub copy_is_done : reply ≡ Count m → msgs ≡ sent → IsCopied i p off q target n at reply msgs
            copy_is_done r is_sent = record {
              reply = λ t means. r ∙ sym (answers t means) ∙ ap (λ (c : Call). (does at t c).1) (sym (taken t means));
              tree = λ t means. subst (λ (c : Call). After i msgs (does at t c).0) (sym (taken t means)) (subst (λ (x : Messages). After i x (does at t (Write q target (w t means))).0) (sym is_sent) (makes t means));
              fault = λ e h. absurd (let both : Count m ≡ Fault e = sym r ∙ h in cc);
              nothing = λ h. absurd (let both : Count m ≡ Count 0 = sym r ∙ h in let zero_is : m ≡ 0 = cc in omega (arith, zero_is, some));
              few = subst (SendsCopied reply) (sym is_sent) (
                one_growth (has_grown end at found.len found.modified),
                λ k e.
                    let both : Count m ≡ Count k = sym r ∙ e in
                    let count : m ≡ k = cc in
                    omega (arith, count, few),
              );
            }
