-- `rename`: its failures, and the effect of its messages on the indexes.
use Rattle.std.proofs.Common.{◌≡◌, ℕ, ◌+◌, ◌<◌, ◌≤◌, List, [], ◌∷◌, ◌++◌, length, length-append, drop, map, true, false, Bool, cond, refl, sym, ap, ◌∙◌, subst, arith, Option, Some, None, ◌⊎◌, inl, inr, zero, suc, get_or, ◌||◌}
use Rattle.std.specs.Prelude.{fold, Contains}
use Rattle.std.specs.List.{list_any}
use Rattle.std.proofs.lemmas.Bool.{false_from_ne_true, le-ltb, lt-ltb, ltb-true, ltb-false}
use Rattle.std.proofs.lemmas.List.{append-nil, append_assoc, length-map, drop_at}
use Rattle.std.proofs.lemmas.List.Elements.{All-map, All-weaker}
use Rattle.std.proofs.lemmas.List.Folds.{list_any_none}
use Rattle.block_index.specs.Means.{blocks}
use Rattle.block_index.specs.Updates.{means as block_means}
use Rattle.block_index.specs.declared.update.BlockUpdate.{BlockUpdate}
use Rattle.message.specs.declared.msg.Msg.{Msg}
use Rattle.message.specs.declared.msg.Msg.TheVariants.{DelRange}
use Rattle.message.specs.Effects.{effects}
use Rattle.message.proofs.Lists.{effects-append}
use Rattle.meta_index.specs.declared.update.MetaUpdate.{MetaUpdate}
use Rattle.meta_index.specs.declared.at.At as reported
use Rattle.meta_index.specs.declared.index.MetaIndex.{MetaIndex}
use Rattle.meta_index.specs.Means.{metadata, IsMeantBy, lookup_answer}
use Rattle.meta_index.specs.Updates.{means as meta_means}
use Rattle.meta_index.proofs.Fresh.{means_alike}
use Rattle.pathkey.specs.Keys.{Key, enc, subtree, blocks_from, block_key, is_in}
use Rattle.pathkey.specs.Names.{Path, IsPath}
use Rattle.pathkey.specs.declared.errno.Errno.{Errno}
use Rattle.pathkey.specs.declared.errno.Errno.TheVariants.{ENAMETOOLONG, EBUSY}
use Rattle.pathkey.proofs.KeyFacts.{enc-append, under_from_key, in_subtree, in_subtree_from, path_in_subtree, block_in_subtree, in_blocks, block_in_blocks_from}
use Rattle.pathkey.proofs.TextFacts.{text_len_enc}
use Rattle.reference.specs.Tree.{Tree, Dir, File, At, Found, Missing, Blocked, onward, entry_at, all_touched}
use Rattle.reference.specs.Calls.{Outcome, when, is_root, first_fault, same_path, text_len, path_fault, is_file, is_full, deepest, deepest_at, faults_of_rename_from, faults_of_place, parents_of, changed, does}
use Rattle.reference.specs.Shape.{IsMoment}
use Rattle.reference.specs.Reads.{Look, Directory, Bytes, seen, look, Sight, Seen, look_of, sighted, sight}
use Rattle.reference.specs.Indexes.{Blocks, IndexesMean, PathOf, BlockOf, meta_of, most_blocks, moved, touch_at}
use Rattle.reference.specs.declared.call.Call.TheVariants.{Rename}
use Rattle.reference.specs.declared.reply.Meta.{Meta}
use Rattle.reference.specs.declared.reply.Reply.{Reply}
use Rattle.reference.specs.declared.reply.Reply.TheVariants.{Done, Fault}
use Rattle.reference.proofs.CallCases.{MayMove, renamed_cases}
use Rattle.reference.proofs.Deepest.{Deepest, deepest_there}
use Rattle.reference.proofs.Edits.{alike, look_from}
use Rattle.reference.proofs.EntryPaths.{append-nil as path_nil, along}
use Rattle.reference.proofs.IndexLaws.{rename_law}
use Rattle.reference.proofs.MovedKeys.{looked}
use Rattle.reference.proofs.RenameLooks.{IsMoved, none_below, rename_moves}
use Rattle.reference.proofs.Standing.{found_from, seen_found, file_seen, rising-found, below_deepest}
use Rattle.reference.proofs.Touching.{reply_is, done_law}
use Rattle.reference.proofs.TreeEdits.{MayBeSeen, looks_may}
use Rattle.call_compiler.specs.declared.indexes.Indexes.{Indexes}
use Rattle.call_compiler.specs.Compiled.{Messages, count, no_messages, touches, metadata_after, blocks_after, MeanTree, IsCompiled}
use Rattle.call_compiler.specs.Moves.{AreBelow, Clears, IsFoundAt, MovesBlocks, MovesEntries, gets_too_long, put_under, is_key_too_long, replaced}
use Rattle.call_compiler.proofs.Appending.{blocks_alike, touches_set}
use Rattle.call_compiler.proofs.Compiling.{After, meta_meant, compiled_kept, compiled_refused, compiled_done}
use Rattle.call_compiler.proofs.Faults.{rename_of_nothing, rename_to_itself, rename_no_place, rename_too_long, rename_done}
use Rattle.call_compiler.proofs.Overlay.{source, source_at, puts_move}

-- as many messages as directories
length-touches : (at : ℕ) (ps : List Path) → length (touches at ps) ≡ length ps
length-touches at [] = refl
length-touches at (p ∷ ps) = ap suc (length-touches at ps)

-- ---- facts about keys

-- of two prefixes of one list one is a prefix of the other
beginnings : (xs ys z w : List ℕ) → xs ++ z ≡ ys ++ w → ((u : List ℕ) × (xs ≡ ys ++ u)) ⊎ ((u : List ℕ) × (ys ≡ xs ++ u))
beginnings [] ys z w e = inr (ys, refl)
beginnings (x ∷ xs) [] z w e = inl (x ∷ xs, refl)
beginnings (x ∷ xs) (y ∷ ys) z w e =
    let head : x ≡ y = cc in
    let tail : xs ++ z ≡ ys ++ w = cc in
    elim (beginnings xs ys z w tail) [
      | inl f ↦ inl (f.0, (let g : xs ≡ ys ++ f.0 = f.1 in cc))
      | inr f ↦ inr (f.0, (let g : ys ≡ xs ++ f.0 = f.1 in cc))
    ]

-- the subtrees of two paths have a key in common only if one path is at or below the other
subtrees_apart : (o n : Path) → IsPath o → IsPath n → ((r : Path) → o ≡ n ++ r → ⊥) → ((r : Path) → n ≡ o ++ r → ⊥) → (k : Key) → is_in (subtree n) k ≡ true → is_in (subtree o) k ≡ false
subtrees_apart o n old new above below k inside = false_from_ne_true (is_in (subtree o) k) (λ also.
    let z : (z : Key) × (k ≡ enc n ++ z) = in_subtree n k inside in
    let w : (w : Key) × (k ≡ enc o ++ w) = in_subtree o k also in
    elim (beginnings (enc n) (enc o) z.0 w.0 (sym z.1 ∙ w.1)) [
      | inl f ↦ let r = under_from_key o n f.0 old.names new.names (sym f.1) in below r.0 r.1
      | inr f ↦ let r = under_from_key n o f.0 new.names old.names (sym f.1) in above r.0 r.1
    ])

-- an entry has metadata
metadata_seen : (s : Sight) → (v : Meta) × (meta_of (Some s) ≡ Some v)
metadata_seen (Seen Directory date) = (_, refl)
metadata_seen (Seen (Bytes b) date) = (_, refl)

-- an entry has an mtime
sight_from : (a : At) (l : Look) → seen a ≡ Some l → (s : Sight) × (sighted a ≡ Some s)
sight_from (Found (Dir date es)) l h = (_, refl)
sight_from (Found (File date b)) l h = (_, refl)
sight_from Missing l h = absurd (cc)
sight_from Blocked l h = absurd (cc)

-- a fault that is the second
second_none : (a b : Option Errno) → first_fault (a ∷ b ∷ []) ≡ None → b ≡ None
second_none None None h = refl
second_none None (Some e) h = absurd (cc)
second_none (Some d) b h = absurd (cc)

-- an element of a list passes the test
any_at : {X Y : Type 0} (test : Y → Bool) (f : X → Y) (xs : List X) (i : ℕ) (d : X) → i < length xs → test (f (get_or xs i d)) ≡ true → list_any test (map f xs) ≡ true
any_at test f [] i d l h = absurd (omega arith)
any_at test f (x ∷ xs) zero d l h = subst (λ (b : Bool). (b || list_any test (map f xs)) ≡ true) (sym h) refl
any_at test f (x ∷ xs) (suc i) d l h = elim (test (f x)) as (λ b. (b || list_any test (map f xs)) ≡ true) [
  | true ↦ refl
  | false ↦ any_at test f xs i d (omega arith) h
]

-- ---- a text that becomes too long

module _ (t : Tree) (m : MetaIndex) (o n : Path) (means : IsMeantBy t m) (old : IsPath o) (x : Tree) (at : entry_at t o ≡ Found x) (es : List (Key × Meta)) (below : AreBelow (metadata m) o es) where
  -- the message that puts an entry has a key that is too long
  abbrev Long : Key × Meta → Bool
  Long p = is_key_too_long (put_under {U = MetaUpdate} o n p)

  -- the entries below o are those of the subtree there
  below_old : (r : Path) → sight t (o ++ r) ≡ sight x r
  below_old r = ap sighted (along t o r ∙ ap (λ (a : At). fold onward a r) at)

  -- the new key of a path below o
  new_length : (r : Path) → length (enc n ++ drop (length (enc o)) (enc (o ++ r))) ≡ text_len n + text_len r
  new_length r =
      ap (λ (k : Key). length (enc n ++ drop (length (enc o)) k)) (enc-append o r)
      ∙ ap (λ (k : Key). length (enc n ++ k)) (drop_at (enc o) (enc r) (length (enc o)) refl)
      ∙ omega (arith, length-append (enc n) (enc r), text_len_enc n, text_len_enc r)

  -- no key is longer than that of the deepest entry
  entry_fits : text_len n + deepest x ≤ 1023 → (p : Key × Meta) → is_in (subtree o) p.0 ≡ true → metadata m p.0 ≡ Some p.1 → Long p ≡ false
  entry_fits fits p inside is =
      let c : PathOf p.0 = means.meta.only_paths p.0 p.1 is in
      let z : (z : Key) × (p.0 ≡ enc o ++ z) = in_subtree o p.0 inside in
      let r : (r : Path) × (c.path ≡ o ++ r) × (z.0 ≡ enc r) = under_from_key o c.path z.0 old.names c.is_path.names (sym z.1 ∙ c.key) in
      let l : (l : Sight) × (sight t c.path ≡ Some l) = looked (sight t c.path) p.1 (sym (means.meta.paths c.path c.is_path) ∙ ap (metadata m) (sym c.key) ∙ is) in
      let deep : text_len r.0 ≤ deepest x = below_deepest r.0 x (look_of l.0) (look_from x r.0 l.0 (sym (below_old r.0) ∙ ap (sight t) (sym r.1) ∙ l.1)) in
      let long : length (enc n ++ drop (length (enc o)) p.0) ≡ text_len n + text_len r.0 = ap (λ (k : Key). length (enc n ++ drop (length (enc o)) k)) (c.key ∙ ap enc r.1) ∙ new_length r.0 in
      le-ltb 1023 (length (enc n ++ drop (length (enc o)) p.0)) (omega arith)

  -- the deepest entry's key is among them
  deepest_put : 1023 < text_len n + deepest x → list_any is_key_too_long (map (put_under {U = MetaUpdate} o n) es) ≡ true
  deepest_put long =
      let d : Deepest x = deepest_there x (rising-found o t x at means.tree.rising) in
      let there : look t (o ++ d.path) ≡ Some d.there = alike t x (o ++ d.path) d.path (below_old d.path) ∙ d.seen in
      let s : (s : Sight) × (sight t (o ++ d.path) ≡ Some s) = sight_from (entry_at t (o ++ d.path)) d.there there in
      let may : MayBeSeen (o ++ d.path) d.there = looks_may t (o ++ d.path) d.there means.tree there in
      let v : (v : Meta) × (meta_of (Some s.0) ≡ Some v) = metadata_seen s.0 in
      let is : metadata m (enc (o ++ d.path)) ≡ Some v.0 = means.meta.paths (o ++ d.path) may.path ∙ ap meta_of s.1 ∙ v.1 in
      let c : Contains es (enc (o ++ d.path), v.0) = below.all (enc (o ++ d.path)) v.0 (ap (is_in (subtree o)) (enc-append o d.path) ∙ in_subtree_from o (enc d.path)) is in
      let l : text_len d.path ≡ deepest x = d.long in
      let whole : length (enc n ++ drop (length (enc o)) (enc (o ++ d.path))) ≡ text_len n + text_len d.path = new_length d.path in
      any_at is_key_too_long (put_under {U = MetaUpdate} o n) es c.0 (enc (o ++ d.path), v.0) c.1
      (ap Long c.2 ∙ lt-ltb 1023 (length (enc n ++ drop (length (enc o)) (enc (o ++ d.path)))) (omega arith))

  -- a message has a key that is too long exactly if a text becomes too long
  pub long_key : list_any is_key_too_long (map (put_under {U = MetaUpdate} o n) es) ≡ gets_too_long t o n
  long_key =
      let deep : deepest_at (entry_at t o) ≡ deepest x = ap deepest_at at in
      elim (gets_too_long t o n) as (λ b. gets_too_long t o n ≡ b → list_any is_key_too_long (map (put_under {U = MetaUpdate} o n) es) ≡ b) [
        | true ↦ λ e. deepest_put (let l : 1023 < text_len n + deepest_at (entry_at t o) = ltb-true 1023 (text_len n + deepest_at (entry_at t o)) e in omega arith)
        | false ↦ λ e. list_any_none is_key_too_long (map (put_under {U = MetaUpdate} o n) es)
            (All-map (λ m. is_key_too_long m ≡ false) (put_under {U = MetaUpdate} o n) es
            (All-weaker (λ p. (is_in (subtree o) p.0 ≡ true) × (metadata m p.0 ≡ Some p.1)) (λ p. Long p ≡ false)
            (λ p h. entry_fits (let l : text_len n + deepest_at (entry_at t o) ≤ 1023 = ltb-false 1023 (text_len n + deepest_at (entry_at t o)) e in omega arith) p h.0 h.1) es below.scan.sound))
      ] refl

-- ---- the effect of the messages on the values

-- below a path whose directory is empty, or a file, nothing is seen
alone : (t : Tree) (p : Path) → is_full (entry_at t p) ≡ false → (r : Path) (l : Look) → look t (p ++ r) ≡ Some l → r ≡ []
alone t p empty [] l h = refl
alone t p empty (k ∷ r) l h =
    let f : (x : Tree) × (entry_at t (p ++ k ∷ r) ≡ Found x) = seen_found (entry_at t (p ++ k ∷ r)) l h in
    absurd (none_below (entry_at t p) k r empty (ap path_fault (sym (along t p (k ∷ r)) ∙ f.1)))

-- so no other key at or below it has metadata
pub only_entry : (t : Tree) (m : MetaIndex) (p : Path) → IsMeantBy t m → IsPath p → is_full (entry_at t p) ≡ false → (k : Key) (v : Meta) → is_in (subtree p) k ≡ true → metadata m k ≡ Some v → k ≡ enc p
only_entry t m p means is_path empty k v inside e =
    let c : PathOf k = means.meta.only_paths k v e in
    let r : (r : Path) × (c.path ≡ p ++ r) = path_in_subtree p c.path is_path.names c.is_path.names (ap (is_in (subtree p)) (sym c.key) ∙ inside) in
    let l : (l : Sight) × (sight t c.path ≡ Some l) = looked (sight t c.path) v (sym (means.meta.paths c.path c.is_path) ∙ ap (metadata m) (sym c.key) ∙ e) in
    let only : r.0 ≡ [] = alone t p empty r.0 (look_of l.0) (ap (look t) (sym r.1) ∙ look_from t c.path l.0 l.1) in
    c.key ∙ ap enc (r.1 ∙ ap (λ (q : Path). p ++ q) only ∙ path_nil p)

module _ (t : Tree) (i : Indexes) (o n : Path) (means : MeanTree i t) (old : IsPath o) (new : IsPath n) (may : MayMove t o n) where
  -- below n there is only the entry at n, so no other key has metadata there
  no_metadata : (k : Key) → is_in (subtree n) k ≡ true → source o n (metadata i.meta) k ≡ None → metadata i.meta k ≡ None
  no_metadata k inside none = elim (metadata i.meta k) as (λ v. metadata i.meta k ≡ v → v ≡ None) [
    | None ↦ λ e. refl
    | Some v ↦ λ e. absurd (
        let key : k ≡ enc n ++ [] = only_entry t i.meta n (meta_meant i t means) new may.not_full k v inside e ∙ sym (append-nil (enc n)) in
        let f : (x : Tree) × (entry_at t o ≡ Found x) = found_from (entry_at t o) may.there in
        let here : (v : Meta) × (metadata i.meta (enc o) ≡ Some v) = found_metadata f.0 f.1 in
        let gone : metadata i.meta (enc o ++ []) ≡ None = sym (source_at o n (metadata i.meta) []) ∙ ap (source o n (metadata i.meta)) (sym key) ∙ none in
        let both : None ≡ Some here.0 = sym gone ∙ ap (metadata i.meta) (append-nil (enc o)) ∙ here.1 in
        cc)
  ] refl
    where
      found_metadata : (x : Tree) → entry_at t o ≡ Found x → (v : Meta) × (metadata i.meta (enc o) ≡ Some v)
      found_metadata (Dir date es) h = (_, means.meta.paths o old ∙ ap (λ (a : At). meta_of (sighted a)) h)
      found_metadata (File date b) h = (_, means.meta.paths o old ∙ ap (λ (a : At). meta_of (sighted a)) h)

  -- the blocks below n are those of the file at n
  block_alone : (k : Key) (v : List ℕ) → is_in (subtree n) k ≡ true → blocks i.block k ≡ Some v → (is_file (entry_at t n) ≡ true) × (j : ℕ) × (j < most_blocks) × (k ≡ block_key n j)
  block_alone k v inside e =
      let c : BlockOf t k = means.blocks.only_blocks k v e in
      let r : (r : Path) × (c.path ≡ n ++ r) = block_in_subtree n c.path c.index new.names c.is_path.names (ap (is_in (subtree n)) (sym c.key) ∙ inside) in
      let only : r.0 ≡ [] = alone t n may.not_full r.0 (Bytes c.bytes) (ap (look t) (sym r.1) ∙ c.file) in
      let path : c.path ≡ n = r.1 ∙ ap (λ (p : Path). n ++ p) only ∙ path_nil n in
      (ap is_file (file_seen (entry_at t n) c.bytes (ap (look t) (sym path) ∙ c.file)).1, c.index, c.few, c.key ∙ ap (λ (p : Path). block_key p c.index) path)

  -- the blocks after those of a replaced file are deleted
  abbrev kept : Blocks
  kept k = effects block_means (replaced (entry_at t n) n) k (blocks i.block k)

  -- below n none is left
  no_blocks : (k : Key) → is_in (subtree n) k ≡ true → kept k ≡ None
  no_blocks k inside = elim (blocks i.block k) as (λ v. blocks i.block k ≡ v → effects block_means (replaced (entry_at t n) n) k v ≡ None) [
    | None ↦ λ e. elim (is_file (entry_at t n)) as (λ b. effects block_means (cond {A = List (Msg BlockUpdate (List ℕ))} b (DelRange (blocks_from n 0) ∷ []) []) k None ≡ None) [
      | true ↦ elim (is_in (blocks_from n 0) k) as (λ b. cond {A = Option (List ℕ)} b None None ≡ None) [ true ↦ refl | false ↦ refl ]
      | false ↦ refl
    ]
    | Some v ↦ λ e.
        let c = block_alone k v inside e in
        let few : c.1 < 268435456 = c.2 in
        let there : is_in (blocks_from n 0) k ≡ true = ap (is_in (blocks_from n 0)) c.3 ∙ block_in_blocks_from n n 0 c.1 (omega arith) (omega arith) (refl, omega arith) in
        ap (λ (b : Bool). effects block_means (cond {A = List (Msg BlockUpdate (List ℕ))} b (DelRange (blocks_from n 0) ∷ []) []) k (Some v)) c.0
        ∙ ap (λ (b : Bool). cond {A = Option (List ℕ)} b None (Some v)) there
  ] refl

  -- and elsewhere all are unchanged
  other_blocks : (k : Key) → is_in (subtree n) k ≡ false → kept k ≡ blocks i.block k
  other_blocks k outside = elim (is_file (entry_at t n)) as (λ b. effects block_means (cond {A = List (Msg BlockUpdate (List ℕ))} b (DelRange (blocks_from n 0) ∷ []) []) k (blocks i.block k) ≡ blocks i.block k) [
    | true ↦ ap (λ (b : Bool). cond {A = Option (List ℕ)} b None (blocks i.block k)) (false_from_ne_true (is_in (blocks_from n 0) k) (λ h.
        let z = in_blocks n 0 k h in
        let both : true ≡ false = sym (in_subtree_from n (0 ∷ z.0)) ∙ ap (is_in (subtree n)) (sym z.1) ∙ outside in
        cc))
    | false ↦ refl
  ]

  module _ (at : ℕ) (ps : List Path) (t' u : Tree) (is : IsMoved t u o n) (moves : IndexesMean t' (touch_at at ps (moved o n (metadata i.meta))) (moved o n (blocks i.block)))
      (es : List (Key × Meta)) (bs : List (Key × List ℕ)) (entries : AreBelow (metadata i.meta) o es) (contents : AreBelow (blocks i.block) o bs)
      (gone : List (Msg MetaUpdate Meta)) (takes : Clears meta_means (metadata i.meta) o gone) (cut : List (Msg BlockUpdate (List ℕ))) (cuts : Clears block_means (blocks i.block) o cut) (msgs : Messages)
      (meta : msgs.meta ≡ (map (put_under o n) es ++ gone) ++ touches at ps) (block : msgs.block ≡ replaced (entry_at t n) n ++ map (put_under o n) bs ++ cut) where
    apart : (k : Key) → is_in (subtree n) k ≡ true → is_in (subtree o) k ≡ false
    apart = subtrees_apart o n old new is.not_above is.not_below

    -- after the messages the indexes abstract to the tree after the move
    pub messages_move : After i msgs t'
    messages_move = record {
      tree = moves.tree;
      meta = means_alike t' (touch_at at ps (moved o n (metadata i.meta))) (metadata_after msgs (metadata i.meta))
          (λ k. ap (λ (ms : List (Msg MetaUpdate Meta)). effects meta_means ms k (metadata i.meta k)) meta
          ∙ effects-append meta_means (map (put_under o n) es ++ gone) (touches at ps) k (metadata i.meta k)
          ∙ ap (effects meta_means (touches at ps) k) (puts_move meta_means o n (metadata i.meta) es entries gone takes (metadata i.meta) apart no_metadata (λ k e. refl) k)
          ∙ touches_set at ps (moved o n (metadata i.meta)) k)
          moves.meta;
      blocks = blocks_alike t' (moved o n (blocks i.block)) (blocks_after msgs (blocks i.block))
          (λ k. ap (λ (ms : List (Msg BlockUpdate (List ℕ))). effects block_means ms k (blocks i.block k)) (block ∙ append_assoc (replaced (entry_at t n) n) (map (put_under o n) bs) cut)
          ∙ effects-append block_means (replaced (entry_at t n) n) (map (put_under o n) bs ++ cut) k (blocks i.block k)
          ∙ puts_move block_means o n (blocks i.block) bs contents cut cuts kept apart (λ k e h. no_blocks k e) other_blocks k)
          moves.blocks;
    }

-- if the rename between two paths succeeds in the table, its move does
lets_move : (at : ℕ) (t : Tree) (o n : Path) → same_path o n ≡ false → (changed at t (Rename o n)).1 ≡ Done → MayMove t o n
unfolding changed
lets_move at t o n apart = renamed_cases (λ (z : Outcome). z.1 ≡ Done → MayMove t o n) t o n (λ e h. absurd (cc)) (λ same h. absurd (let both : true ≡ false = sym same ∙ apart in cc)) (λ may h. may)

may_move : (at : ℕ) (t : Tree) (o n : Path) → same_path o n ≡ false → (does at t (Rename o n)).1 ≡ Done → MayMove t o n
may_move at t o n apart h = lets_move at t o n apart (sym (reply_is at t (Rename o n)) ∙ h)

-- ---- what `rename` is compiled to

module _ (i : Indexes) (o n : Path) (at : ℕ) (reply : Reply) (msgs : Messages) (from : Option Errno) (first : (t : Tree) → IsMeantBy t i.meta → from ≡ first_fault (faults_of_rename_from t o)) where
  pub rename_is_of_nothing : (e : Errno) → from ≡ Some e → reply ≡ Fault e → msgs ≡ no_messages → IsCompiled i (Rename o n) at reply msgs
  rename_is_of_nothing e is = compiled_refused i (Rename o n) at reply msgs e (λ t means. rename_of_nothing at t o n e (sym (first t (meta_meant i t means)) ∙ is))

  module _ (here : from ≡ None) where
    -- the entry to be moved exists
    there : (t : Tree) → IsMeantBy t i.meta → first_fault (faults_of_rename_from t o) ≡ None
    there t means = sym (first t means) ∙ here

    found : (t : Tree) → IsMeantBy t i.meta → path_fault (entry_at t o) ≡ None
    found t means = second_none (when (is_root o) EBUSY) (path_fault (entry_at t o)) (there t means)

    pub rename_is_to_itself : same_path o n ≡ true → reply ≡ Done → msgs ≡ no_messages → IsCompiled i (Rename o n) at reply msgs
    rename_is_to_itself same r = compiled_kept i (Rename o n) at reply msgs
        (λ t means. r ∙ sym (ap (λ (z : Outcome). z.1) (rename_to_itself at t o n (there t (meta_meant i t means)) same)))
        (λ t means. ap (λ (z : Outcome). z.0) (rename_to_itself at t o n (there t (meta_meant i t means)) same))

    module _ (apart : same_path o n ≡ false) (place : Option Errno) (fits : (t : Tree) → IsMeantBy t i.meta → path_fault (entry_at t o) ≡ None → place ≡ first_fault (faults_of_place t o n)) where
      pub rename_is_without_place : (e : Errno) → place ≡ Some e → reply ≡ Fault e → msgs ≡ no_messages → IsCompiled i (Rename o n) at reply msgs
      rename_is_without_place e is = compiled_refused i (Rename o n) at reply msgs e
          (λ t means. let m : IsMeantBy t i.meta = meta_meant i t means in rename_no_place at t o n (there t m) apart e (sym (fits t m (found t m)) ∙ is))

      module _ (free : place ≡ None) (long : Bool) (longs : (t : Tree) → IsMeantBy t i.meta → path_fault (entry_at t o) ≡ None → long ≡ gets_too_long t o n) where
        pub rename_is_too_long : long ≡ true → reply ≡ Fault ENAMETOOLONG → msgs ≡ no_messages → IsCompiled i (Rename o n) at reply msgs
        rename_is_too_long is = compiled_refused i (Rename o n) at reply msgs ENAMETOOLONG
            (λ t means. let m : IsMeantBy t i.meta = meta_meant i t means in rename_too_long at t o n (there t m) apart (sym (fits t m (found t m)) ∙ free) (sym (longs t m (found t m)) ∙ is))

        module _ (short : long ≡ false) (is_old : IsPath o) (is_new : IsPath n) (sought target : reported.At) (found_old : (t : Tree) → IsMeantBy t i.meta → sought ≡ lookup_answer (entry_at t o)) (found_new : (t : Tree) → IsMeantBy t i.meta → target ≡ lookup_answer (entry_at t n))
            (entries : List (Msg MetaUpdate Meta)) (content : List (Msg BlockUpdate (List ℕ))) (e : MovesEntries i.meta o n sought entries) (b : MovesBlocks i.block o n target content) where
          answers : (t : Tree) → MeanTree i t → (does at t (Rename o n)).1 ≡ Done
          answers t means = let m : IsMeantBy t i.meta = meta_meant i t means in rename_done at t o n (there t m) apart (sym (fits t m (found t m)) ∙ free) (sym (longs t m (found t m)) ∙ short)

          abbrev sent : Messages
          sent = record { meta = entries ++ touches at (parents_of (Rename o n)); block = content }

          after : IsMoment at → (t : Tree) → MeanTree i t → ◌≡◌ {A = Outcome} (does at t (Rename o n)) ((does at t (Rename o n)).0, Done) → After i sent (does at t (Rename o n)).0
          after early t means done =
              let t' : Tree = (does at t (Rename o n)).0 in
              let m : IsMeantBy t i.meta = meta_meant i t means in
              let premise : (t : Tree) × IsFoundAt i.meta o sought t = (t, (m, found_old t m)) in
              let d : (u : Tree) × (◌≡◌ {A = Outcome} (changed at t (Rename o n)) (u, Done)) × (t' ≡ all_touched at u (parents_of (Rename o n))) = done_law at t t' (Rename o n) done in
              messages_move t i o n means is_old is_new (may_move at t o n apart (answers t means)) at (parents_of (Rename o n)) t' d.0 (rename_moves at t d.0 o n apart d.1)
              (rename_law at t t' o n (metadata i.meta) (blocks i.block) early means (is_old, is_new) apart done)
              e.pairs b.moves.pairs (record { scan = e.scan; all = e.all premise }) (record { scan = b.moves.scan; all = b.moves.all tt }) e.gone (e.clears premise) b.moves.gone (b.moves.clears tt) sent
              (ap (λ (ms : List (Msg MetaUpdate Meta)). ms ++ touches at (parents_of (Rename o n))) e.list)
              (b.moves.list ∙ ap (λ (ms : List (Msg BlockUpdate (List ℕ))). ms ++ map (put_under o n) b.moves.pairs ++ b.moves.gone) (b.replaces t m.tree (found_new t m)))

          counted : count sent ≤ length e.pairs + length b.moves.pairs + 3 + length (parents_of (Rename o n))
          counted = omega (
            arith,
            length-append entries (touches at (parents_of (Rename o n))),
            length-touches at (parents_of (Rename o n)),
            ap (length {A = Msg MetaUpdate Meta}) e.list,
            length-append (map (put_under {U = MetaUpdate} {V = Meta} o n) e.pairs) e.gone,
            length-map e.pairs (put_under {U = MetaUpdate} {V = Meta} o n),
            e.few,
            ap (length {A = Msg BlockUpdate (List ℕ)}) b.moves.list,
            length-append (b.first ++ map (put_under o n) b.moves.pairs) b.moves.gone,
            length-append b.first (map (put_under o n) b.moves.pairs),
            length-map b.moves.pairs (put_under {U = BlockUpdate} {V = List ℕ} o n),
            b.moves.few,
            b.few,
          )

          pub rename_is_done : IsMoment at → reply ≡ Done → msgs ≡ sent → IsCompiled i (Rename o n) at reply msgs
          rename_is_done early = compiled_done i (Rename o n) at reply msgs Done sent (λ e. (λ f. cc)) answers (after early) (inr (e.pairs, b.moves.pairs, e.scan, b.moves.scan, counted))
