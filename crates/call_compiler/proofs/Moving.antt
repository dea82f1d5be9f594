-- The messages that move the entries and the blocks at or below a path, as `rename` makes them.
use Rattle.std.proofs.Common.{◌≡◌, ℕ, ◌+◌, ◌≤◌, List, [], ◌∷◌, ◌++◌, length, length-append, drop, map, false, refl, sym, ap, ◌∙◌, subst, arith, Some, None}
use Rattle.std.specs.Prelude.{Contains, nat_lt}
use Rattle.std.specs.List.{list_any}
use Rattle.std.proofs.lemmas.Bool.{le-ltb}
use Rattle.std.proofs.lemmas.List.{append-nil, length-map, drop_at, nil_from_length}
use Rattle.std.proofs.lemmas.Option.{same_Some}
use Rattle.block_index.specs.declared.index.BlockIndex.{BlockIndex}
use Rattle.block_index.specs.declared.update.BlockUpdate.{BlockUpdate}
use Rattle.block_index.specs.Means.{blocks}
use Rattle.block_index.specs.Updates.{means as block_means}
use Rattle.message.specs.declared.msg.Msg.{Msg}
use Rattle.message.specs.declared.msg.Msg.TheVariants.{Del, DelRange, Put}
use Rattle.meta_index.specs.declared.at.At as reported
use Rattle.meta_index.specs.declared.at.At.TheVariants.{Found as FoundMeta}
use Rattle.meta_index.specs.declared.index.MetaIndex.{MetaIndex}
use Rattle.meta_index.specs.declared.update.MetaUpdate.{MetaUpdate}
use Rattle.meta_index.specs.Means.{found_meta, lookup_answer, metadata}
use Rattle.meta_index.specs.Updates.{means as meta_means}
use Rattle.pathkey.specs.Keys.{Key, enc, subtree}
use Rattle.pathkey.specs.Names.{IsPath, Path, text_len}
use Rattle.reference.specs.Calls.{deepest_at, is_full, path_fault}
use Rattle.reference.specs.Shape.{IsTree}
use Rattle.reference.specs.Tree.{At, Blocked, Dir, File, Found, Missing, Tree, entry_at}
use Rattle.reference.specs.declared.reply.Meta.{Meta}
use Rattle.reference.specs.declared.reply.Meta.TheVariants.{File as FileMeta}
use Rattle.reference.proofs.Standing.{found_from}
use Rattle.scan.specs.Pairs.{HasAll}
use Rattle.call_compiler.specs.Moves.{IsFoundAt, MovesBlocks, MovesEntries, Puts, gets_too_long, is_key_too_long, put_under, replaced}
use Rattle.call_compiler.proofs.Clearing.{delete_clears, nothing_clears, own_first, range_clears}
use Rattle.call_compiler.proofs.Renames.{long_key, only_entry}

-- ---- entries

-- a file was found
file_from : (a : At) (len date : ℕ) → FoundMeta (FileMeta len date) ≡ lookup_answer a → (b : List ℕ) × (stamp : ℕ) × (a ≡ Found (File stamp b))
file_from (Found (Dir stamp es)) len date h = absurd (cc)
file_from (Found (File stamp b)) len date h = (b, stamp, refl)
file_from Missing len date h = absurd (cc)
file_from Blocked len date h = absurd (cc)

module _ (m : MetaIndex) (o n : Path) (len date : ℕ) (found : reported.At) (is : found ≡ FoundMeta (FileMeta len date)) where
  file_there : (t : Tree) → IsFoundAt m o found t → (b : List ℕ) × (stamp : ℕ) × (entry_at t o ≡ Found (File stamp b))
  file_there t at = file_from (entry_at t o) len date (sym is ∙ at.1)

  -- no text gets too long where a file is moved: nothing is below it, and the new path is one
  pub file_fits : IsPath n → (t : Tree) → IsFoundAt m o found t → false ≡ gets_too_long t o n
  file_fits new t at =
      let f = file_there t at in
      sym (ap (λ (a : At). nat_lt 1023 (text_len n + deepest_at a)) f.2 ∙ le-ltb 1023 (text_len n + 0) (omega (arith, new.fits)))

  -- a put at the new key and a delete at the old one move a file's entry
  module _ (old : IsPath o) (stored : found_meta found ≡ metadata m (enc o)) (msgs : List (Msg MetaUpdate Meta)) (list : msgs ≡ Put (enc n) (FileMeta len date) ∷ Del (enc o) ∷ []) where
    here : metadata m (enc o) ≡ Some (FileMeta len date)
    here = sym stored ∙ ap found_meta is

    only : (t : Tree) → IsFoundAt m o found t → HasAll (metadata m) (subtree o).lo (subtree o).hi ((enc o, FileMeta len date) ∷ [])
    only t at k v inside e =
        let f = file_there t at in
        let key : k ≡ enc o = only_entry t m o at.0 old (ap is_full f.2) k v inside e in
        let value : v ≡ FileMeta len date = same_Some v (FileMeta len date) (sym e ∙ ap (metadata m) key ∙ here) in
        subst (λ (p : Key × Meta). Contains ((enc o, FileMeta len date) ∷ []) p) (λ i. (sym key i, sym value i)) (0, omega arith, refl)

    new_key : enc n ++ drop (length (enc o)) (enc o) ≡ enc n
    new_key = ap (λ (k : Key). enc n ++ drop (length (enc o)) k) (sym (append-nil (enc o))) ∙ ap (λ (k : Key). enc n ++ k) (drop_at (enc o) [] (length (enc o)) refl) ∙ append-nil (enc n)

    pub file_moves : MovesEntries m o n found msgs
    file_moves = record {
      pairs = (enc o, FileMeta len date) ∷ [];
      gone = Del (enc o) ∷ [];
      list = list ∙ ap {B = List (Msg MetaUpdate Meta)} (λ (k : Key). Put k (FileMeta len date) ∷ Del (enc o) ∷ []) (sym new_key);
      few = omega arith;
      scan = own_first (metadata m) o (FileMeta len date) here;
      all = λ p. only p.0 p.1;
      clears = λ p. delete_clears meta_means (metadata m) o (FileMeta len date) (only p.0 p.1);
    }

module _ (m : MetaIndex) (o n : Path) (found : reported.At) (first puts : List (Msg MetaUpdate Meta)) (none : first ≡ []) (p : Puts (metadata m) o n first puts) where
  all_put : puts ≡ map (put_under o n) p.0
  all_put = p.2 ∙ ap (λ (ms : List (Msg MetaUpdate Meta)). ms ++ map (put_under o n) p.0) none

  -- a key is too long exactly if a text gets too long
  pub longs : IsPath o → (t : Tree) → IsFoundAt m o found t → path_fault (entry_at t o) ≡ None → list_any is_key_too_long puts ≡ gets_too_long t o n
  longs old t at there =
      let f : (x : Tree) × (entry_at t o ≡ Found x) = found_from (entry_at t o) there in
      ap (list_any is_key_too_long) all_put ∙ long_key t m o n at.0 old f.0 f.1 p.0 p.1

  -- puts of all entries, and then a range-delete, move them
  pub all_move : (msgs : List (Msg MetaUpdate Meta)) → msgs ≡ puts ++ DelRange (subtree o) ∷ [] → MovesEntries m o n found msgs
  all_move msgs list = record {
    pairs = p.0;
    gone = DelRange (subtree o) ∷ [];
    list = list ∙ ap (λ (ms : List (Msg MetaUpdate Meta)). ms ++ DelRange (subtree o) ∷ []) all_put;
    few = omega arith;
    scan = p.1.scan;
    all = λ t. p.1.all;
    clears = λ t. range_clears meta_means (metadata m) o;
  }

-- ---- blocks

module _ (d : BlockIndex) (o n : Path) (to : reported.At) (first puts : List (Msg BlockUpdate (List ℕ))) (few : length first ≤ 1) (replaces : (t : Tree) → IsTree t → to ≡ lookup_answer (entry_at t n) → first ≡ replaced (entry_at t n) n) (p : Puts (blocks d) o n first puts) where
  -- puts of all blocks, and then a range-delete
  pub some_move : (msgs : List (Msg BlockUpdate (List ℕ))) → msgs ≡ puts ++ DelRange (subtree o) ∷ [] → MovesBlocks d o n to msgs
  some_move msgs list = record {
    first = first;
    few = few;
    replaces = replaces;
    moves = record {
      pairs = p.0;
      gone = DelRange (subtree o) ∷ [];
      list = list ∙ ap (λ (ms : List (Msg BlockUpdate (List ℕ))). ms ++ DelRange (subtree o) ∷ []) p.2;
      few = omega arith;
      scan = p.1.scan;
      all = λ t. p.1.all;
      clears = λ t. range_clears block_means (blocks d) o;
    };
  }

  -- where there is no block, no message is needed
  pub none_move : length puts ≤ length first → MovesBlocks d o n to puts
  none_move short =
      let none : p.0 ≡ [] = nil_from_length p.0 (omega (arith, short, ap (length {A = Msg BlockUpdate (List ℕ)}) p.2, length-append first (map (put_under o n) p.0), length-map p.0 (put_under {U = BlockUpdate} {V = List ℕ} o n))) in
      record {
        first = first;
        few = few;
        replaces = replaces;
        moves = record {
          pairs = p.0;
          gone = [];
          list = p.2 ∙ sym (append-nil (first ++ map (put_under o n) p.0));
          few = omega arith;
          scan = p.1.scan;
          all = λ t. p.1.all;
          clears = λ t. nothing_clears block_means (blocks d) o (subst (HasAll (blocks d) (subtree o).lo (subtree o).hi) none p.1.all);
        };
      }
