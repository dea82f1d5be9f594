-- Parts of files as they are read, and the blocks that they are.
use Rattle.std.proofs.Common.{◌≡◌, ◌≢◌, ◌⊎◌, ⊎_elim, inl, inr, ℕ, zero, suc, ◌+◌, ◌-◌, ◌*◌, ◌<◌, ◌≤◌, min, Bool, false, List, [], ◌∷◌, ◌++◌, length, take, drop, refl, sym, ap, subst, ◌∙◌, arith, Option, Some, None, Ok, Err, cond, length-take, length-drop}
use Rattle.std.specs.Prelude.{MatchResult, Result, nat_lt}
use Rattle.std.specs.Global.{Vec}
use Rattle.std.proofs.lemmas.Bool.{cases_lt, lt-ltb, le-ltb}
use Rattle.std.proofs.lemmas.Grind.{same_number_lists}
use Rattle.std.proofs.lemmas.List.{get_or-drop, get_or-take, get_or_past}
use Rattle.pathkey.specs.declared.errno.Errno.{Errno}
use Rattle.pathkey.specs.declared.errno.Errno.TheVariants.{EINVAL, EISDIR, ENOENT, ENOMEM, ENOTDIR}
use Rattle.reference.specs.Calls.{bytes_of, does, faults_of_file, greatest_read, changed, unless, when}
use Rattle.reference.specs.Image.{trimmed}
use Rattle.reference.specs.Indexes.{meta_of}
use Rattle.reference.specs.Reads.{Bytes, Directory, Seen, Sight, sight, sighted}
use Rattle.reference.specs.Tree.{At, Blocked, Dir, File, Found, Missing, Path, Tree, entry_at}
use Rattle.reference.specs.declared.call.Call.TheVariants.{Read}
use Rattle.reference.specs.declared.reply.Meta.TheVariants.{File as FileMeta}
use Rattle.reference.specs.declared.reply.Reply.{Reply}
use Rattle.reference.specs.declared.reply.Reply.TheVariants.{Data, Fault}
use Rattle.reference.proofs.LastBlock.{trimmed_same}
use Rattle.reference.proofs.Touching.{reply_is}
use Rattle.volume.specs.Typed.{replied}
use Rattle.edits.specs.Between.{block_change, resized, rewrite}
use Rattle.edits.specs.Edits.{block_at, block_digest, digest}
use Rattle.edits.specs.declared.edit.Change.TheVariants.{Block}
use Rattle.edits.proofs.BlockFacts.{block_byte, length-block, length-resized, resized_byte, seen_bytes}

-- ---- what is read

-- a read of a few bytes gives those of the file, or there is none
few_read : (t : Tree) (off n : ℕ) (a : At) → n ≤ 4096 → (r : Reply) → r ≡ (unless t (faults_of_file a EISDIR ++ when (nat_lt greatest_read n) EINVAL ∷ []) (t, Data (take n (drop off (bytes_of a))))).1
    → (r ≡ Data (take n (drop off (bytes_of a)))) ⊎ ((e : Errno) × (r ≡ Fault e) × (bytes_of a ≡ []))
few_read t off n (Found (Dir date es)) few r h = inr (EISDIR, h, refl)
few_read t off n (Found (File date b)) few r h =
    let small : nat_lt greatest_read n ≡ false = le-ltb greatest_read n (omega (arith, few)) in
    inl (subst (λ (s : Bool). r ≡ (unless t (when s EINVAL ∷ []) (t, Data (take n (drop off b)))).1) small h)
few_read t off n Missing few r h = inr (ENOENT, h, refl)
few_read t off n Blocked few r h = inr (ENOTDIR, h, refl)

-- no bytes have no part
pub nothing_read : (n off : ℕ) → take n (drop {A = ℕ} off []) ≡ []
nothing_read zero zero = refl
nothing_read zero (suc l) = refl
nothing_read (suc k) zero = refl
nothing_read (suc k) (suc l) = refl

pub part_read : (t : Tree) (p : Path) (off n : ℕ) (answer : Result (Vec ℕ) Errno) (bytes : List ℕ) → n ≤ 4096 → (replied (λ (b : Vec ℕ). Data b.items) answer ≡ (does 0 t (Read p off n)).1) ⊎ (replied (λ (b : Vec ℕ). Data b.items) answer ≡ Fault ENOMEM)
    → MatchResult answer (λ b. bytes ≡ b.items) (λ e. (e ≢ ENOMEM) × (bytes ≡ [])) → bytes ≡ take n (drop off (bytes_of (entry_at t p)))
unfolding changed
part_read t p off n answer bytes few told found = ⊎_elim (λ h. go answer found (h ∙ reply_is 0 t (Read p off n))) (λ h. lacking answer found h) told
  where
    lacking : (a : Result (Vec ℕ) Errno) → MatchResult a (λ b. bytes ≡ b.items) (λ e. (e ≢ ENOMEM) × (bytes ≡ [])) → replied (λ (b : Vec ℕ). Data b.items) a ≡ Fault ENOMEM → bytes ≡ take n (drop off (bytes_of (entry_at t p)))
    lacking (Ok b) f h = absurd (cc)
    lacking (Err e) f h = absurd (f.0 (cc))

    go : (a : Result (Vec ℕ) Errno) → MatchResult a (λ b. bytes ≡ b.items) (λ e. (e ≢ ENOMEM) × (bytes ≡ [])) → replied (λ (b : Vec ℕ). Data b.items) a ≡ (changed 0 t (Read p off n)).1 → bytes ≡ take n (drop off (bytes_of (entry_at t p)))
    go (Ok b) f h = ⊎_elim
        (λ (g : Data b.items ≡ Data (take n (drop off (bytes_of (entry_at t p))))). f ∙ (let same : b.items ≡ take n (drop off (bytes_of (entry_at t p))) = cc in same))
        (λ g. absurd (let clash : Data b.items ≡ Fault g.0 = g.1 in cc))
        (few_read t off n (entry_at t p) few (Data b.items) h)
    go (Err e) f h = ⊎_elim
        (λ (g : Fault e ≡ Data (take n (drop off (bytes_of (entry_at t p))))). absurd (cc))
        (λ g. f.1 ∙ sym (ap (λ (l : List ℕ). take n (drop off l)) g.2 ∙ nothing_read n off))
        (few_read t off n (entry_at t p) few (Fault e) h)

-- ---- blocks

-- as many bytes as a block of the new file has, from the old one
old_block : (a : At) (n i count : ℕ) → count ≡ min (n - 4096 * i) 4096 → trimmed (take count (drop (4096 * i) (bytes_of a))) ≡ trimmed (block_at i (resized (sighted a) n))
old_block a n i count is = trimmed_same (take count (drop (4096 * i) (bytes_of a))) (block_at i (resized (sighted a) n)) (λ k. ⊎_elim
    (λ (lt : k < count).
    get_or-take count (drop (4096 * i) (bytes_of a)) k 0 lt ∙ get_or-drop (4096 * i) (bytes_of a) k 0
    ∙ sym (resized_byte a n (4096 * i + k) (omega (arith, is, lt))) ∙ sym (block_byte i (resized (sighted a) n) k (omega (arith, is, lt))))
    (λ (le : count ≤ k).
    let l : length (block_at i (resized (sighted a) n)) ≡ min 4096 (length (resized (sighted a) n) - 4096 * i) = length-block i (resized (sighted a) n) in
    let m : length (take count (drop (4096 * i) (bytes_of a))) ≡ min count (length (drop (4096 * i) (bytes_of a))) = length-take count (drop (4096 * i) (bytes_of a)) in
    get_or_past (take count (drop (4096 * i) (bytes_of a))) k 0 (omega (arith, m, le)) ∙ sym (get_or_past (block_at i (resized (sighted a) n)) k 0 (omega (arith, l, length-resized (sighted a) n, is, le))))
    (cases_lt k count))

new_block : (c : List ℕ) (i count : ℕ) → count ≡ min (length c - 4096 * i) 4096 → take count (drop (4096 * i) c) ≡ block_at i c
new_block c i count is =
    let l : length (drop (4096 * i) c) ≡ length c - 4096 * i = length-drop (4096 * i) c in
    let m : length (take count (drop (4096 * i) c)) ≡ min count (length (drop (4096 * i) c)) = length-take count (drop (4096 * i) c) in
    let k : length (take 4096 (drop (4096 * i) c)) ≡ min 4096 (length (drop (4096 * i) c)) = length-take 4096 (drop (4096 * i) c) in
    same_number_lists (take count (drop (4096 * i) c)) (take 4096 (drop (4096 * i) c)) (omega (arith, l, m, k, is)) (λ j lt.
    get_or-take count (drop (4096 * i) c) j 0 (omega (arith, m, lt)) ∙ sym (get_or-take 4096 (drop (4096 * i) c) j 0 (omega (arith, m, is, lt))))

-- ---- the change of a block

pub no_file : (s r : Option Sight) (i : ℕ) → ((n at : ℕ) → meta_of r ≡ Some (FileMeta n at) → ⊥) → block_change s r i ≡ None
no_file s None i none = refl
no_file s (Some (Seen Directory at)) i none = refl
no_file s (Some (Seen (Bytes b) at)) i none = absurd (none (length b) at refl)

file_seen : (r : Option Sight) (n at : ℕ) → meta_of r ≡ Some (FileMeta n at) → (c : List ℕ) × (r ≡ Some (Seen (Bytes c) at)) × (length c ≡ n)
file_seen None n at h = absurd (cc)
file_seen (Some (Seen Directory date)) n at h = absurd (cc)
file_seen (Some (Seen (Bytes c) date)) n at h = let l : length c ≡ n = cc in let e : date ≡ at = cc in (c, ap (λ (x : ℕ). Some (Seen (Bytes c) x)) e, l)

pub block_past : (s r : Option Sight) (n at i : ℕ) → meta_of r ≡ Some (FileMeta n at) → n ≤ 4096 * i → block_change s r i ≡ None
block_past s r n at i h past =
    let (c, e, l) = file_seen r n at h in
    ap (λ (x : Option Sight). block_change s x i) e ∙ ap (λ (b : Bool). cond b (Some (rewrite s i c)) None) (le-ltb (4096 * i) (length c) (omega (arith, past, l)))

pub block_rewritten : (t u : Tree) (p : Path) (n at i count : ℕ) (was is : List ℕ) (sum : Option (List ℕ)) (bytes : List ℕ) → meta_of (sight u p) ≡ Some (FileMeta n at) → 4096 * i < n → count ≡ min (n - 4096 * i) 4096
    → was ≡ take count (drop (4096 * i) (bytes_of (entry_at t p))) → is ≡ take count (drop (4096 * i) (bytes_of (entry_at u p))) → sum ≡ block_digest was → bytes ≡ trimmed is
    → Some (Block i sum bytes) ≡ block_change (sight t p) (sight u p) i
block_rewritten t u p n at i count was is sum bytes h inside few read_was read_is digested kept =
    let (c, e, l) = file_seen (sight u p) n at h in
    let size : count ≡ min (length c - 4096 * i) 4096 = omega (arith, few, l) in
    let old : sum ≡ block_digest (block_at i (resized (sight t p) (length c))) =
    digested ∙ ap digest (ap trimmed read_was ∙ old_block (entry_at t p) (length c) i count size) in
    let new : bytes ≡ trimmed (block_at i c) =
    kept ∙ ap trimmed (read_is ∙ ap (λ (x : List ℕ). take count (drop (4096 * i) x)) (seen_bytes (entry_at u p) c at e) ∙ new_block c i count size) in
    ap (λ (x : Option (List ℕ)). Some (Block i x bytes)) old ∙ ap (λ (x : List ℕ). Some (Block i (block_digest (block_at i (resized (sight t p) (length c)))) x)) new
    ∙ sym (ap (λ (x : Option Sight). block_change (sight t p) x i) e ∙ ap (λ (b : Bool). cond b (Some (rewrite (sight t p) i c)) None) (lt-ltb (4096 * i) (length c) (omega (arith, inside, l))))
