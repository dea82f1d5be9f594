-- From the keys at which two indexes differ to the edits between the trees that they mean.
use Rattle.std.proofs.Common.{◌≡◌, ⊎_elim, inl, inr, ℕ, ◌*◌, ◌<◌, ◌≤◌, true, List, [], map, refl, sym, ap, subst, ◌∙◌, arith, Option, Some, None, All}
use Rattle.std.specs.List.{Contains}
use Rattle.std.specs.List.Sorted.{IsStrictlySortedBy}
use Rattle.std.proofs.lemmas.Bool.{cases_lt}
use Rattle.std.proofs.lemmas.List.{get_or_past}
use Rattle.pathkey.specs.Keys.{Key, block_key, enc}
use Rattle.pathkey.specs.Names.{IsPath}
use Rattle.pathkey.specs.Order.{by_bytes}
use Rattle.pathkey.proofs.KeyFacts.{block_key_injective, enc_law}
use Rattle.reference.specs.Calls.{bytes_of}
use Rattle.reference.specs.Image.{trimmed}
use Rattle.reference.specs.Indexes.{BlockOf, Blocks, BlocksMean, Hold, IndexesMean, Metadata, PathOf, held, most_blocks}
use Rattle.reference.specs.Reads.{Bytes, Directory, look, seen}
use Rattle.reference.specs.Tree.{At, Blocked, Dir, File, Found, Missing, Path, Tree, entry_at}
use Rattle.reference.specs.declared.reply.Meta.{Meta}
use Rattle.reference.proofs.FileBlocks.{byte-held}
use Rattle.reference.proofs.LastBlock.{trimmed_same}
use Rattle.reference.proofs.PointIndexes.{no_blocks}
use Rattle.block_index.specs.Means.{blocks}
use Rattle.meta_index.specs.Means.{metadata}
use Rattle.volume.specs.Volumes.{MeanRooted}
use Rattle.volume.specs.declared.fs_root.FsRoot.{FsRoot}
use Rattle.edits.specs.Between.{AreBlocksBetween, AreEntriesBetween, key_of, trimmed_block}
use Rattle.edits.specs.Edits.{block_at}
use Rattle.delta.specs.Changed.{AreAlikeBlocks, AreBlocksDiffering, AreDiffering, AreFound, AreMetasDiffering, HaveSame, IsBlockKey}
use Rattle.delta.proofs.ChangedFacts.{contains_mapped, map_contains, past_block}
use Rattle.delta.proofs.PartFacts.{nothing_read}
use Rattle.edits.proofs.BlockFacts.{block_byte, length-block}

-- the block at a key is that of the tree
trimmed_at : (t : Tree) (d : Blocks) (p : Path) (i : ℕ) → BlocksMean t d → IsPath p → i < most_blocks → trimmed (held (d (block_key p i))) ≡ trimmed_block t (p, i)
trimmed_at t d p i of v lt = cases (entry_at t p) refl
  where
    file : (b : List ℕ) → look t p ≡ Some (Bytes b) → trimmed (held (d (block_key p i))) ≡ trimmed (block_at i b)
    file b is =
        let hold : Hold (λ k. d (block_key p k)) b = of.blocks p b v is in
        trimmed_same (held (d (block_key p i))) (block_at i b) (λ j. ⊎_elim
        (λ (lj : j < 4096). sym (byte-held (d (block_key p i)) j) ∙ hold.byte i j lt lj ∙ sym (block_byte i b j lj))
        (λ (le : 4096 ≤ j). past_block (λ k. d (block_key p k)) b i j hold lt le ∙ sym (get_or_past (block_at i b) j 0 (omega (arith, le, length-block i b))))
        (cases_lt j 4096))

    no_file : ((b : List ℕ) → look t p ≡ Some (Bytes b) → ⊥) → (o : Option (List ℕ)) → d (block_key p i) ≡ o → trimmed (held o) ≡ trimmed (block_at i [])
    no_file not None e = ap trimmed (sym (nothing_read 4096 (4096 * i)))
    no_file not (Some w) e = absurd (no_blocks t p d v not of i w lt e)

    cases : (a : At) → entry_at t p ≡ a → trimmed (held (d (block_key p i))) ≡ trimmed (block_at i (bytes_of a))
    cases (Found (Dir date es)) e = no_file (λ b f. let g : Some Directory ≡ Some (Bytes b) = sym (ap seen e) ∙ f in cc) (d (block_key p i)) refl
    cases (Found (File date b)) e = file b (ap seen e)
    cases Missing e = no_file (λ b f. let g : None ≡ Some (Bytes b) = sym (ap seen e) ∙ f in cc) (d (block_key p i)) refl
    cases Blocked e = no_file (λ b f. let g : None ≡ Some (Bytes b) = sym (ap seen e) ∙ f in cc) (d (block_key p i)) refl

module _ (t u : Tree) (m n : Metadata) (d e : Blocks) (of_t : IndexesMean t m d) (of_u : IndexesMean u n e) where
  module _ (ms keys : List Key) (of : AreDiffering (λ a b. a ≡ b) m n (λ k. true) ms) (same : HaveSame keys ms) (rising : IsStrictlySortedBy by_bytes keys) (ps : List Path) (paths : All IsPath ps) (have : map enc ps ≡ keys) where
    in_keys : (p : Path) → Contains ps p → Contains ms (enc p)
    in_keys p there = same.to (enc p) (subst (λ (l : List Key). Contains l (enc p)) have (contains_mapped enc ps p there))

    in_paths : (p : Path) → IsPath p → Contains ms (enc p) → Contains ps p
    in_paths p v there =
        let f = map_contains enc ps (enc p) (subst (λ (l : List Key). Contains l (enc p)) (sym have) (same.from (enc p) there)) in
        let w : IsPath f.0 = subst IsPath f.1.2 (paths f.1.0 f.0 f.1.1) in
        subst (λ (q : Path). Contains ps q) (enc_law f.0 p w.names v.names f.2) f.1

    pub entries_between : AreEntriesBetween t u ps
    entries_between = record {
      paths = paths;
      differ = λ p there s. let v : IsPath p = subst IsPath there.2 (paths there.0 p there.1) in of.differ (enc p) (in_keys p there) (of_t.meta.paths p v ∙ s ∙ sym (of_u.meta.paths p v));
      all = λ p v. ⊎_elim
          (λ c. inl (in_paths p v c))
          (λ s. inr (sym (of_t.meta.paths p v) ∙ ⊎_elim (λ x. x) (λ x. x.0 ∙ sym x.1) s ∙ of_u.meta.paths p v))
          (of.all (enc p) refl);
      rising = subst (IsStrictlySortedBy by_bytes) (sym have) rising;
    }

  -- what differs is the key of a path, or that of a block
  pub found_meta : (ms : List Key) → AreDiffering (λ a b. a ≡ b) m n (λ k. true) ms → (k : Key) → Contains ms k → PathOf k
  found_meta ms of k there = cases (m k) (n k) refl refl
    where
      cases : (o r : Option Meta) → m k ≡ o → n k ≡ r → PathOf k
      cases (Some v) r x y = of_t.meta.only_paths k v x
      cases None (Some v) x y = of_u.meta.only_paths k v y
      cases None None x y = absurd (of.differ k there (x ∙ sym y))

  pub found_block : (bs : List Key) → AreDiffering AreAlikeBlocks d e (λ k. true) bs → (k : Key) → Contains bs k → IsBlockKey k
  found_block bs of k there = cases (d k) (e k) refl refl
    where
      cases : (o r : Option (List ℕ)) → d k ≡ o → e k ≡ r → IsBlockKey k
      cases (Some v) r x y = let b : BlockOf t k = of_t.blocks.only_blocks k v x in record { path = b.path; index = b.index; is_path = b.is_path; few = b.few; key = b.key }
      cases None (Some v) x y = let b : BlockOf u k = of_u.blocks.only_blocks k v y in record { path = b.path; index = b.index; is_path = b.is_path; few = b.few; key = b.key }
      cases None None x y = absurd (of.differ k there (ap (λ (o : Option (List ℕ)). trimmed (held o)) (x ∙ sym y)))

  module _ (bs keys : List Key) (of : AreDiffering AreAlikeBlocks d e (λ k. true) bs) (same : HaveSame keys bs) (rising : IsStrictlySortedBy by_bytes keys) (found : List (Path × ℕ)) (few : (b : Path × ℕ) → Contains found b → IsPath b.0 × (b.1 < most_blocks)) (have : map key_of found ≡ keys) where
    pub blocks_between : AreBlocksBetween t u found
    blocks_between = record {
      paths = few;
      differ = λ b there alike.
          let v = few b there in
          of.differ (key_of b) (same.to (key_of b) (subst (λ (l : List Key). Contains l (key_of b)) have (contains_mapped key_of found b there)))
          (trimmed_at t d b.0 b.1 of_t.blocks v.0 v.1 ∙ alike ∙ sym (trimmed_at u e b.0 b.1 of_u.blocks v.0 v.1));
      all = λ p i v lt. ⊎_elim
          (λ c.
          let f = map_contains key_of found (block_key p i) (subst (λ (l : List Key). Contains l (block_key p i)) (sym have) (same.from (block_key p i) c)) in
          let w = few f.0 f.1 in
          let g = block_key_injective f.0.0 p f.0.1 i w.0.names v.names (omega (arith, w.1)) (omega (arith, lt)) f.2 in
          inl (subst (λ (q : Path). Contains found (q, i)) g.0 (subst (λ (x : ℕ). Contains found (f.0.0, x)) g.1 f.1)))
          (λ s. inr (sym (trimmed_at t d p i of_t.blocks v lt) ∙ ⊎_elim (λ x. x) (λ x. ap (λ (o : Option (List ℕ)). trimmed (held o)) (x.0 ∙ sym x.1)) s ∙ trimmed_at u e p i of_u.blocks v lt))
          (of.all (block_key p i) refl);
      rising = subst (IsStrictlySortedBy by_bytes) (sym have) rising;
    }

-- ---- frozen trees

module _ (r s : FsRoot) (t u : Tree) (of_t : MeanRooted r t) (of_u : MeanRooted s u) where
  module _ (ms keys : List Key) (of : AreMetasDiffering r.indexes s.indexes ms) (same : HaveSame keys ms) where
    pub path_keys : (k : Key) → Contains keys k → PathOf k
    path_keys k there = found_meta t u (metadata r.indexes.meta) (metadata s.indexes.meta) (blocks r.indexes.block) (blocks s.indexes.block) of_t.indexes of_u.indexes ms of k (same.to k there)

    pub entries_found : IsStrictlySortedBy by_bytes keys → (ps : List Path) → All IsPath ps → map enc ps ≡ keys → AreEntriesBetween t u ps
    entries_found rising = entries_between t u (metadata r.indexes.meta) (metadata s.indexes.meta) (blocks r.indexes.block) (blocks s.indexes.block) of_t.indexes of_u.indexes ms keys of same rising

  module _ (bs keys : List Key) (of : AreBlocksDiffering r.indexes s.indexes bs) (same : HaveSame keys bs) where
    pub block_keys : (k : Key) → Contains keys k → IsBlockKey k
    block_keys k there = found_block t u (metadata r.indexes.meta) (metadata s.indexes.meta) (blocks r.indexes.block) (blocks s.indexes.block) of_t.indexes of_u.indexes bs of k (same.to k there)

    pub blocks_found : IsStrictlySortedBy by_bytes keys → (found : List (Path × ℕ)) → AreFound keys found → AreBlocksBetween t u found
    blocks_found rising found are = blocks_between t u (metadata r.indexes.meta) (metadata s.indexes.meta) (blocks r.indexes.block) (blocks s.indexes.block) of_t.indexes of_u.indexes bs keys of same rising found are.blocks are.keys
