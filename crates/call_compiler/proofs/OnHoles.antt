-- Holes: what setting a part of a file to zero is compiled to.
use Rattle.std.proofs.Common.{◌≡◌, ◌≢◌, ℕ, zero, suc, ◌+◌, ◌-◌, ◌/◌, ◌^◌, ◌<◌, ◌≤◌, max, List, [], length, true, false, Bool, cond, refl, sym, ap, ◌∙◌, subst, ◌⊎◌, inl, inr, ⊎_elim, Option, Some, arith}
use Rattle.std.specs.Prelude.{Result, Ok, Err}
use Rattle.std.proofs.lemmas.Bool.{le-ltb}
use Rattle.std.proofs.lemmas.List.{length-replicate}
use Rattle.block_index.specs.Changed.{Messages as BlockMessages, after, Changes}
use Rattle.block_index.specs.Means.{blocks}
use Rattle.block_index.proofs.Writing.{up_to, write_starts, write_goes_on, write_ends, patches_between, no_patches, one_patch_more}
use Rattle.meta_index.specs.Means.{metadata}
use Rattle.meta_index.proofs.Fresh.{means_alike}
use Rattle.pathkey.specs.Keys.{Key, block_key, blocks_from, enc, is_in}
use Rattle.pathkey.specs.Names.{EachName, Path, IsPath}
use Rattle.pathkey.specs.Order.{same}
use Rattle.pathkey.specs.declared.errno.Errno.{Errno}
use Rattle.pathkey.specs.declared.errno.Errno.TheVariants.{EISDIR}
use Rattle.pathkey.proofs.KeyFacts.{block_in_blocks, block_key_injective, enc_law}
use Rattle.pathkey.proofs.OrderFacts.{apart, same_itself, same_true}
use Rattle.reference.specs.Calls.{Outcome, bytes_of, does, greatest_file, is_empty}
use Rattle.reference.specs.Indexes.{Blocks, BlockOf, BlocksChange, BlocksMean, Hold, IndexesMean, MetaMeans, edit_at, grow, meta_of, most_blocks, patched}
use Rattle.reference.specs.Reads.{Bytes, look, seen, sighted}
use Rattle.reference.specs.Shape.{IsMoment}
use Rattle.reference.specs.Tree.{Tree, Dir, File, At, Found, Missing, Blocked, entry_at, over}
use Rattle.reference.specs.declared.call.Call.TheVariants.{Write}
use Rattle.reference.specs.declared.reply.Meta.TheVariants.{File as FileMeta}
use Rattle.reference.specs.declared.reply.Reply.{Reply}
use Rattle.reference.specs.declared.reply.Reply.TheVariants.{Count, Fault}
use Rattle.reference.proofs.Contents.{zeros as zero_bytes}
use Rattle.reference.proofs.FileBlocks.{write_holds}
use Rattle.reference.proofs.IndexLaws.{write_law}
use Rattle.reference.proofs.PointIndexes.{hold_alike}
use Rattle.call_compiler.specs.declared.files.FoundFile.{FoundFile}
use Rattle.call_compiler.specs.declared.indexes.Indexes.{Indexes}
use Rattle.call_compiler.specs.Compiled.{Messages, no_messages, blocks_after, growth, has_grown, metadata_after, MeanTree, IsCompiled}
use Rattle.call_compiler.specs.Files.{TellsFile}
use Rattle.call_compiler.specs.Punched.{IsHole, IsPunched, reached, reached_of}
use Rattle.call_compiler.proofs.Compiling.{After, meta_meant}
use Rattle.call_compiler.proofs.Faults.{write_done}
use Rattle.call_compiler.proofs.Idle.{grown_alike}
use Rattle.call_compiler.proofs.OnFiles.{Finds, write_is_refused, write_is_empty}
use Rattle.call_compiler.proofs.HoleBlocks.{Zeroes, hole_few, hole_zeroes}
use Rattle.call_compiler.proofs.Zeroing.{zeros, length-zeroed, hold_as}

-- ---- a write that is not sent

-- the patches of a write of any length have its effect on the blocks
module _ (p : Path) (is_path : IsPath p) (off : ℕ) (w : List ℕ) (some : 0 < length w) (short : off + length w ≤ 2 ^ 40) where
  first_patches : (n : ℕ) → off / 4096 + n ≤ (off + length w - 1) / 4096 + 1 → Changes (up_to (off / 4096 + n) (patched off w)) p (patches_between p off w (off / 4096) (off / 4096 + n))
  first_patches zero fits =
      let none : [] ≡ patches_between p off w (off / 4096) (off / 4096) = no_patches p off w (off / 4096) [] refl in
      let start : off / 4096 ≡ off / 4096 + 0 = omega arith in
      subst (λ (m : ℕ). Changes (up_to m (patched off w)) p (patches_between p off w (off / 4096) m)) start
      (subst (λ (ms : BlockMessages). Changes (up_to (off / 4096) (patched off w)) p ms) none (write_starts p off w (off / 4096) (omega arith)))
  first_patches (suc n) fits =
      let i : ℕ = off / 4096 + n in
      let next : i + 1 ≡ off / 4096 + suc n = omega arith in
      let was : Changes (up_to i (patched off w)) p (patches_between p off w (off / 4096) i) = first_patches n (omega (arith, fits)) in
      subst (λ (m : ℕ). Changes (up_to m (patched off w)) p (patches_between p off w (off / 4096) m)) next
      (subst (λ (ms : BlockMessages). Changes (up_to (i + 1) (patched off w)) p ms)
      (one_patch_more p off w (off / 4096) i _ (patches_between p off w (off / 4096) i) _ (omega arith) refl refl refl)
      (write_goes_on p off w i (patches_between p off w (off / 4096) i) is_path (omega (arith, fits, short, some)) (omega arith) (omega (arith, fits, some)) was))

  pub written : (d : Blocks) → (e : Blocks) × BlocksChange (patched off w) p d e
  written d =
      let n : ℕ = (off + length w - 1) / 4096 + 1 - off / 4096 in
      let end : off / 4096 + n ≡ (off + length w - 1) / 4096 + 1 = omega (arith, some) in
      let ms : BlockMessages = patches_between p off w (off / 4096) (off / 4096 + n) in
      (after ms d, write_ends p off w (off / 4096 + n) ms (omega (arith, end, some)) (first_patches n (omega arith)) d)

-- ---- the blocks of a file with other bytes

-- two paths are equal or not
one_path : (p q : Path) → EachName p → EachName q → (p ≡ q) ⊎ (p ≢ q)
one_path p q u v = elim (same (enc p) (enc q)) as (λ b. same (enc p) (enc q) ≡ b → (p ≡ q) ⊎ (p ≢ q)) [
  | true ↦ λ e. inl (enc_law p q u v (same_true (enc p) (enc q) e))
  | false ↦ λ e. inr (λ is. apart (enc p) (enc q) e (ap enc is))
] refl

-- if the blocks e are those of a tree, so are d', which differ in those of one file and have the same bytes
module _ (t u : Tree) (p : Path) (is_path : IsPath p) (b : List ℕ) (d d' e : Blocks) (change other : ℕ → Option (List ℕ) → Option (List ℕ))
    (old : BlocksMean t d) (means : BlocksMean u e) (there : look u p ≡ Some (Bytes b)) (new : BlocksChange change p d d') (written : BlocksChange other p d e) (hold : Hold (λ i. change i (d (block_key p i))) b) where
  own_block : (q : Path) (i : ℕ) → IsPath q → i < most_blocks → p ≢ q → d' (block_key q i) ≡ e (block_key q i)
  own_block q i is_q li ne =
      let out : (j : ℕ) → j < most_blocks → block_key q i ≡ block_key p j → ⊥ = λ j lj k. ne (sym (block_key_injective q p i j is_q.names is_path.names (omega arith) (omega arith) k).0) in
      new.elsewhere (block_key q i) out ∙ sym (written.elsewhere (block_key q i) out)

  here : (k : Key) (i : ℕ) → i < most_blocks → k ≡ block_key p i → BlockOf u k
  here k i li key = record { path = p; index = i; bytes = b; is_path = is_path; file = there; few = li; key = key }

  pub blocks_mean : BlocksMean u d'
  blocks_mean = record {
    blocks = λ q c is_q f. ⊎_elim
        (λ (is : p ≡ q).
        let bytes : b ≡ c = (let g : Some (Bytes b) ≡ Some (Bytes c) = sym there ∙ ap (look u) is ∙ f in cc) in
        hold_alike (λ i. change i (d (block_key p i))) (λ i. d' (block_key q i)) c
        (λ i li. sym (new.block i li) ∙ ap (λ (x : Path). d' (block_key x i)) is)
        (subst (λ (y : List ℕ). Hold (λ i. change i (d (block_key p i))) y) bytes hold))
        (λ (ne : p ≢ q). hold_alike (λ i. e (block_key q i)) (λ i. d' (block_key q i)) c (λ i li. sym (own_block q i is_q li ne)) (means.blocks q c is_q f))
        (one_path p q is_path.names is_q.names);
    only_blocks = λ k v f. ⊎_elim
        (λ (g : (w : List ℕ) × (d k ≡ Some w)).
        let o : BlockOf t k = old.only_blocks k g.0 g.1 in
        ⊎_elim
        (λ (is : p ≡ o.path). here k o.index o.few (o.key ∙ ap (λ (x : Path). block_key x o.index) (sym is)))
        (λ (ne : p ≢ o.path). means.only_blocks k v (ap e o.key ∙ sym (own_block o.path o.index o.is_path o.few ne) ∙ ap d' (sym o.key) ∙ f))
        (one_path p o.path is_path.names o.is_path.names))
        (λ (g : (i : ℕ) × (i < most_blocks) × (k ≡ block_key p i)). here k g.0 g.1 g.2)
        (new.only k v f);
  }

-- the bytes of a file whose metadata are these
pub file_there : (here : At) (n date : ℕ) → meta_of (sighted here) ≡ Some (FileMeta n date) → (b : List ℕ) × (seen here ≡ Some (Bytes b)) × (length b ≡ n)
file_there (Found (Dir other es)) n date e = absurd (cc)
file_there (Found (File other b)) n date e = (b, refl, cc)
file_there Missing n date e = absurd (cc)
file_there Blocked n date e = absurd (cc)

-- an empty list has no byte
some_bytes : (n : ℕ) → 0 < n → is_empty (zeros n) ≡ false
some_bytes zero h = absurd (omega (arith, h))
some_bytes (suc n) h = refl

-- in the blocks of a tree, each key with a value in a range of p's is that of a block of p
pub own_blocks : (t : Tree) (d : Blocks) (p : Path) → IsPath p → BlocksMean t d → (k : Key) (v : List ℕ) (a : ℕ) → a < 2 ^ 32 → d k ≡ Some v → is_in (blocks_from p a) k ≡ true → (i : ℕ) × (i < most_blocks) × (k ≡ block_key p i)
own_blocks t d p is_path means k v a ha e inside =
    let o : BlockOf t k = means.only_blocks k v e in
    let few : o.index < most_blocks = o.few in
    let is : (o.path ≡ p) × (a ≤ o.index) = block_in_blocks p o.path a o.index is_path.names o.is_path.names ha (omega arith) (ap (is_in (blocks_from p a)) (sym o.key) ∙ inside) in
    (o.index, o.few, o.key ∙ ap (λ (x : Path). block_key x o.index) is.0)

-- ---- what is compiled

module _ (i : Indexes) (p : Path) (off n at : ℕ) (reply : Reply) (msgs : Messages) (file : Result FoundFile Errno) (finds : Finds i p EISDIR file) where
  -- no messages are within the limit
  none_few : msgs ≡ no_messages → (length msgs.meta ≤ 1) × (length msgs.block ≤ 3)
  none_few none = subst (λ (x : Messages). (length x.meta ≤ 1) × (length x.block ≤ 3)) (sym none) (omega arith, omega arith)

  pub punch_is_refused : (fault : Errno) → file ≡ Err fault → reply ≡ Fault fault → msgs ≡ no_messages → IsPunched i p off n at reply msgs
  punch_is_refused fault is r none =
      let as_write : (w : List ℕ) → IsCompiled i (Write p off w) at reply msgs = λ w. write_is_refused i p off w at reply msgs file finds fault is r none in
      record {
        reply = λ t means. (as_write (zeros (reached (entry_at t p) off n))).reply t means;
        tree = λ t means. (as_write (zeros (reached (entry_at t p) off n))).tree t means;
        fault = λ e h. none;
        nothing = λ h. none;
        few = none_few none;
        gone = λ t means m e. absurd (let both : Fault fault ≡ Count m = sym r ∙ e in cc);
      }

  module _ (found : FoundFile) (is : file ≡ Ok found) where
    -- the file in a tree of the indexes
    file_in : (t : Tree) → MeanTree i t → (b : List ℕ) × (entry_at t p ≡ Found (File found.modified b)) × (length b ≡ found.len)
    file_in t means = subst (λ (r : Result FoundFile Errno). TellsFile (entry_at t p) EISDIR r) is (finds t (meta_meant i t means))

    -- the number of its bytes in the hole
    reached_is : (t : Tree) → MeanTree i t → reached (entry_at t p) off n ≡ reached_of found.len off n
    reached_is t means =
        let f : (b : List ℕ) × (entry_at t p ≡ Found (File found.modified b)) × (length b ≡ found.len) = file_in t means in
        ap (λ (here : At). reached_of (length (bytes_of here)) off n) f.1 ∙ ap (λ (l : ℕ). reached_of l off n) f.2

    pub punch_is_nothing : reached_of found.len off n ≡ 0 → reply ≡ Count 0 → msgs ≡ no_messages → IsPunched i p off n at reply msgs
    punch_is_nothing no_byte r none =
        let as_write : IsCompiled i (Write p off []) at reply msgs = write_is_empty i p off [] at reply msgs file finds found is refl r none in
        record {
          reply = λ t means. subst (λ (m : ℕ). reply ≡ (does at t (Write p off (zeros m))).1) (sym (reached_is t means ∙ no_byte)) (as_write.reply t means);
          tree = λ t means. subst (λ (m : ℕ). After i msgs (does at t (Write p off (zeros m))).0) (sym (reached_is t means ∙ no_byte)) (as_write.tree t means);
          fault = λ e h. none;
          nothing = λ h. none;
          few = none_few none;
          gone = λ t means m e j lj u v. absurd (let both : Count 0 ≡ Count m = sym r ∙ e in let zero_is : 0 ≡ m = cc in omega arith);
        }

    module _ (m : ℕ) (reaches : m ≡ reached_of found.len off n) (some : 0 < m) (within : off + m ≤ found.len) (short : found.len ≤ 2 ^ 40) (early : IsMoment at) (is_path : IsPath p) (block : BlockMessages) (hole : IsHole (blocks i.block) p off (off + m) block) where
      abbrev end : ℕ
      end = off + m

      -- the messages
      abbrev sent : Messages
      sent = record { meta = growth (enc p) end at (has_grown end at found.len found.modified); block = block }

      long : length (zeros m) ≡ m
      long = length-replicate m 0

      answers : (t : Tree) → MeanTree i t → (does at t (Write p off (zeros m))).1 ≡ Count m
      answers t means =
          let f : (b : List ℕ) × (entry_at t p ≡ Found (File found.modified b)) × (length b ≡ found.len) = file_in t means in
          write_done at t p off (zeros m) found.modified f.0 f.1 (some_bytes m some) (le-ltb greatest_file (off + length (zeros m)) (omega (arith, long, within, short))) ∙ ap Count long

      makes : (t : Tree) → MeanTree i t → After i sent (does at t (Write p off (zeros m))).0
      makes t means =
          let u : Tree = (does at t (Write p off (zeros m))).0 in
          let w : List ℕ = zeros m in
          let d : Blocks = blocks i.block in
          let f : (b : List ℕ) × (entry_at t p ≡ Found (File found.modified b)) × (length b ≡ found.len) = file_in t means in
          let value : metadata i.meta (enc p) ≡ Some (FileMeta found.len found.modified) = means.meta.paths p is_path ∙ ap (λ (here : At). meta_of (sighted here)) f.1 ∙ ap (λ (l : ℕ). Some (FileMeta l found.modified)) f.2 in
          let done : ◌≡◌ {A = Outcome} (does at t (Write p off w)) (u, Count (length w)) = ap {B = Outcome} (λ (x : Reply). (u, x)) (answers t means ∙ ap Count (sym long)) in
          let e : (e : Blocks) × BlocksChange (patched off w) p d e = written p is_path off w (omega (arith, long, some)) (omega (arith, long, within, short)) d in
          let law : IndexesMean u (edit_at (enc p) (grow (off + length w) at) (metadata i.meta)) e.0 = write_law at t u p off w (metadata i.meta) d e.0 early means (is_path, zero_bytes m) (some_bytes m some) e.1 done in
          let meta : MetaMeans u (edit_at (enc p) (grow end at) (metadata i.meta)) = subst (λ (l : ℕ). MetaMeans u (edit_at (enc p) (grow (off + l) at) (metadata i.meta))) long law.meta in
          let longest : max found.len end ≡ found.len = omega (arith, within) in
          let grown : edit_at (enc p) (grow end at) (metadata i.meta) (enc p) ≡ Some (FileMeta found.len at) =
          ap (λ (x : Bool). cond x (grow end at (metadata i.meta (enc p))) (metadata i.meta (enc p))) (same_itself (enc p)) ∙ ap (grow end at) value ∙ ap (λ (l : ℕ). Some (FileMeta l at)) longest in
          let there : (b : List ℕ) × (look u p ≡ Some (Bytes b)) × (length b ≡ found.len) = file_there (entry_at u p) found.len at (sym (meta.paths p is_path) ∙ grown) in
          let z : Zeroes p off end d block = hole_zeroes p is_path d (own_blocks t d p is_path means.blocks) off end (omega (arith, some)) (omega (arith, within, short)) block hole in
          let before : Hold (λ j. d (block_key p j)) f.0 = means.blocks.blocks p f.0 is_path (ap seen f.1) in
          let count : end - off ≡ m = omega arith in
          let zeroed : Hold (λ j. z.change j (d (block_key p j))) (over f.0 off w) = subst (λ (l : ℕ). Hold (λ j. z.change j (d (block_key p j))) (over f.0 off (zeros l))) count (z.holds f.0 before (omega (arith, within, f.2))) in
          let as_written : Hold (λ j. e.0 (block_key p j)) there.0 = law.blocks.blocks p there.0 is_path there.1 in
          let same_size : length (over f.0 off w) ≡ max (length f.0) (off + m) = length-zeroed f.0 off m in
          let hold : Hold (λ j. z.change j (d (block_key p j))) there.0 = hold_as (λ j. z.change j (d (block_key p j))) (λ j. patched off w j (d (block_key p j))) (over f.0 off w) there.0 zeroed
          (write_holds off w (λ j. d (block_key p j)) f.0 before)
          (hold_alike (λ j. e.0 (block_key p j)) (λ j. patched off w j (d (block_key p j))) there.0 (λ j lj. e.1.block j lj) as_written)
          (omega (arith, same_size, f.2, there.2, within)) in
          record {
            tree = law.tree;
            meta = means_alike u (edit_at (enc p) (grow end at) (metadata i.meta)) (metadata_after sent (metadata i.meta)) (grown_alike end at found.len found.modified (enc p) (metadata i.meta) value) meta;
            blocks = blocks_mean t u p is_path there.0 d (blocks_after sent d) e.0 z.change (patched off w) means.blocks law.blocks there.1 z.changes e.1 hold;
          }

      pub punch_is_done : reply ≡ Count m → msgs ≡ sent → IsPunched i p off n at reply msgs
      punch_is_done r is_sent = record {
        reply = λ u meant. subst (λ (k : ℕ). reply ≡ (does at u (Write p off (zeros k))).1) (sym (all_reached u meant)) (r ∙ sym (answers u meant));
        tree = λ u meant. subst (λ (k : ℕ). After i msgs (does at u (Write p off (zeros k))).0) (sym (all_reached u meant)) (subst (λ (x : Messages). After i x (does at u (Write p off (zeros m))).0) (sym is_sent) (makes u meant));
        fault = λ e h. absurd (let both : Count m ≡ Fault e = sym r ∙ h in cc);
        nothing = λ h. absurd (let both : Count m ≡ Count 0 = sym r ∙ h in let zero_is : m ≡ 0 = cc in omega (arith, zero_is, some));
        few = subst (λ (x : Messages). (length x.meta ≤ 1) × (length x.block ≤ 3)) (sym is_sent) (one_growth (has_grown end at found.len found.modified), hole_few (blocks i.block) p off end block hole);
        gone = λ t means k e j lj u v.
            let both : Count m ≡ Count k = sym r ∙ e in
            let count : m ≡ k = cc in
            ap (λ (x : Messages). blocks_after x (blocks i.block) (block_key p j)) is_sent ∙ (zeroed t means).gone j lj u (omega (arith, v, count));
      }
        where
          all_reached : (u : Tree) → MeanTree i u → reached (entry_at u p) off n ≡ m
          all_reached u meant = reached_is u meant ∙ sym reaches

          one_growth : (has : Bool) → length (growth (enc p) end at has) ≤ 1
          one_growth true = omega arith
          one_growth false = omega arith

          zeroed : (t : Tree) → MeanTree i t → Zeroes p off end (blocks i.block) block
          zeroed t means = hole_zeroes p is_path (blocks i.block) (own_blocks t (blocks i.block) p is_path means.blocks) off end (omega (arith, some)) (omega (arith, within, short)) block hole
