-- What a walk lists, from what the scan of an index finds.
use Rattle.std.proofs.Common.{◌≡◌, ℕ, ◌+◌, ◌-◌, ◌*◌, ◌^◌, ◌<◌, ◌≤◌, min, List, [], ◌∷◌, ◌++◌, length, drop, get_or, replicate, true, false, refl, sym, ap, subst, ◌∙◌, ◌⊎◌, inl, inr, ⊎_elim, arith, Option, Some, None, length-take, length-drop}
use Rattle.std.specs.Prelude.{All, AllPairs, Any, Contains}
use Rattle.std.proofs.lemmas.Bool.{cases_lt, and_parts}
use Rattle.std.proofs.lemmas.List.{ext_get_or, get_or-append_right, get_or-drop, get_or-map, get_or-replicate, get_or-take, get_or_append_left, get_or_past, length-append, length-map, length-replicate, map-append, nil_from_length}
use Rattle.std.proofs.lemmas.List.Elements.{All-pop, All-push}
use Rattle.block_index.specs.Means.{blocks}
use Rattle.call_compiler.specs.declared.indexes.Indexes.{Indexes}
use Rattle.message.specs.Ranges.{before, reaches, within}
use Rattle.message.proofs.NextKey.{in_range}
use Rattle.pathkey.specs.Keys.{Key, block_key, blocks_from, enc}
use Rattle.pathkey.specs.Names.{Path, EachName, IsPath}
use Rattle.pathkey.specs.PathKeys.{IsPathOf}
use Rattle.pathkey.specs.declared.range.KeyRange.{KeyRange}
use Rattle.pathkey.proofs.KeyFacts.{block_in_blocks, block_in_blocks_from, block_key_injective, enc_law}
use Rattle.pathkey.proofs.KeyOrder.{not_before_from_reaches}
use Rattle.reference.specs.Indexes.{BlockOf, Blocks, BlocksMean, Hold, Metadata, MetaMeans, PathOf, byte_of, meta_of, most_blocks}
use Rattle.reference.specs.Reads.{Bytes, look, seen, sighted}
use Rattle.reference.specs.Shape.{IsTree}
use Rattle.reference.specs.Tree.{Tree, Dir, File, At, Found, Missing, Blocked, entry_at}
use Rattle.reference.specs.declared.reply.Meta.{Meta}
use Rattle.scan.specs.Pairs.{IsScan}
use Rattle.volume.specs.Walks.{AreBlocks, AreBlocksAt, AreEntries, AreNumbered, IsBlock, IsEntry, IsOfBlock, ReadsNumbers, ReadsPaths, block_bytes}

-- ---- entries

-- if there are metadata, there is an entry
pub assert_invariant : (a : At) (v : Meta) → meta_of (sighted a) ≡ Some v → (x : Tree) × (a ≡ Found x)
assert_invariant (Found x) v e = (x, refl)
assert_invariant Missing v e = absurd (cc)
assert_invariant Blocked v e = absurd (cc)

module _ (t : Tree) (m : Metadata) (is : IsTree t) (means : MetaMeans t m) (lo : Key) (hi : Option Key) (limit : ℕ) (ps : List (Key × Meta)) (found : IsScan m lo hi limit ps) where
  -- each key that was found is a path's
  pub all_of_paths : All (λ p. PathOf p.0) ps
  all_of_paths = λ k d l. means.only_paths (get_or ps k d).0 (get_or ps k d).1 (found.sound k d l).1

abbrev keyed : Path × Meta → Key × Meta
keyed e = (enc e.0, e.1)

-- one pair more, and the path that has its key
pub paths_more : (ps : List (Key × Meta)) (es : List (Path × Meta)) (k : Key) (v : Meta) (p : Path) (o : Option Path) → ReadsPaths ps es → IsPathOf k o → o ≡ Some p → ReadsPaths (ps ++ (k, v) ∷ []) (es ++ (p, v) ∷ [])
paths_more ps es k v p o so_far of e =
    let at : IsPath p × (enc p ≡ k) = subst (IsPathOf k) e of in
    record {
      paths = All-push (λ (e : Path × Meta). IsPath e.0) es (p, v) so_far.paths at.0;
      pairs = map-append keyed es ((p, v) ∷ []) ∙ ap (λ (l : List (Key × Meta)). l ++ keyed (p, v) ∷ []) so_far.pairs ∙ ap (λ (j : Key). ps ++ (j, v) ∷ []) at.1;
    }

module _ (t : Tree) (m : Metadata) (is : IsTree t) (means : MetaMeans t m) (from : Path) (limit : ℕ) (ps : List (Key × Meta)) (found : IsScan m (enc from) None limit ps) (es : List (Path × Meta)) (reads : ReadsPaths ps es) where
  many : length es ≡ length ps
  many = sym (length-map es keyed) ∙ ap (λ (l : List (Key × Meta)). length l) reads.pairs

  pair_at : (k : ℕ) (d : Path × Meta) → k < length es → get_or ps k (keyed d) ≡ keyed (get_or es k d)
  pair_at k d l = ap (λ (z : List (Key × Meta)). get_or z k (keyed d)) (sym reads.pairs) ∙ get_or-map keyed es k d (keyed d) l

  there : (p : Path) (v : Meta) → IsPath p → m (enc p) ≡ Some v → IsEntry t p v
  there p v is_path e = sym (means.paths p is_path) ∙ e

  is_sound : All (λ e. (reaches (enc from) (enc e.0) ≡ true) × IsEntry t e.0 e.1) es
  is_sound = λ k d l.
      let at : get_or ps k (keyed d) ≡ keyed (get_or es k d) = pair_at k d l in
      let pair : (within (enc from) None (enc (get_or es k d).0) ≡ true) × (m (enc (get_or es k d).0) ≡ Some (get_or es k d).1) =
      subst (λ (x : Key × Meta). (within (enc from) None x.0 ≡ true) × (m x.0 ≡ Some x.1)) at (found.sound k (keyed d) (let n : length es ≡ length ps = many in omega arith)) in
      ((and_parts _ _ pair.0).0, there (get_or es k d).0 (get_or es k d).1 (reads.paths k d l) pair.1)

  is_rising : AllPairs (λ d e. before (enc d.0) (enc e.0) ≡ true) es
  is_rising = λ i j d a l.
      let n : length es ≡ length ps = many in
      let first : get_or ps i (keyed d) ≡ keyed (get_or es i d) = pair_at i d (omega arith) in
      let later : get_or ps j (keyed d) ≡ keyed (get_or es j d) = pair_at j d l in
      subst (λ (x : Key × Meta). before x.0 (enc (get_or es j d).0) ≡ true) first
      (subst (λ (x : Key × Meta). before (get_or ps i (keyed d)).0 x.0 ≡ true) later (found.rising i j (keyed d) a (omega arith)))

  is_path_of : (p : Path) (v : Meta) → IsEntry t p v → IsPath p
  is_path_of p v e = let at : (x : Tree) × (entry_at t p ≡ Found x) = assert_invariant (entry_at t p) v e in is.paths p at.0 at.1

  listed : (p : Path) (v : Meta) → IsPath p → Contains ps (enc p, v) → Contains es (p, v)
  listed p v is_path (k, l, e) =
      let n : length es ≡ length ps = many in
      let here : k < length es = omega arith in
      let x : Path × Meta = get_or es k (p, v) in
      let at : (enc p, v) ≡ keyed x = sym e ∙ pair_at k (p, v) here in
      let path : x.0 ≡ p = enc_law x.0 p (reads.paths k (p, v) here).names is_path.names (sym (ap (λ (y : Key × Meta). y.0) at)) in
      let meta : x.1 ≡ v = sym (ap (λ (y : Key × Meta). y.1) at) in
      (k, here, ap (λ (q : Path). (q, x.1)) path ∙ ap (λ (w : Meta). (p, w)) meta)

  is_complete : (p : Path) (v : Meta) → reaches (enc from) (enc p) ≡ true → IsEntry t p v → Contains es (p, v) ⊎ ((length es ≡ limit) × All (λ e. before (enc e.0) (enc p) ≡ true) es)
  is_complete p v low e =
      let is_path : IsPath p = is_path_of p v e in
      elim (found.complete (enc p) v (in_range (enc from) (enc p) None low refl) (means.paths p is_path ∙ e)) [
        | inl c ↦ inl (listed p v is_path c)
        | inr x ↦ inr (many ∙ x.0, λ k d l. subst (λ (y : Key × Meta). before y.0 (enc p) ≡ true) (pair_at k d l) (x.1 k (keyed d) (let n : length es ≡ length ps = many in omega arith)))
      ]

  -- the entries from a path on, by the pairs from its key on
  pub entries_listed : AreEntries t from limit es
  entries_listed = record { few = (let n : length es ≡ length ps = many in let f : length ps ≤ limit = found.few in omega arith); sound = is_sound; rising = is_rising; complete = is_complete }

-- ---- the bytes of a block

-- bytes that are padded with zeros, from what is at each position
padded : (xs v : List ℕ) → length v ≤ length xs → ((j : ℕ) → get_or xs j 0 ≡ get_or v j 0) → xs ≡ v ++ replicate (length xs - length v) 0
padded xs v le at =
    let zeros : List ℕ = replicate (length xs - length v) 0 in
    let r : length zeros ≡ length xs - length v = length-replicate (length xs - length v) 0 in
    let a : length (v ++ zeros) ≡ length v + length zeros = length-append v zeros in
    ext_get_or 0 xs (v ++ zeros) (omega arith) (λ j l. at j ∙ ⊎_elim
    (λ (h : j < length v). sym (get_or_append_left v zeros 0 j h))
    (λ (h : length v ≤ j). get_or_past v j 0 h ∙ sym (get_or-append_right v zeros (length v) j 0 refl h ∙ get_or-replicate (length xs - length v) (j - length v) 0 0 (omega arith)))
    (cases_lt j (length v)))

long_block : (b : List ℕ) (i : ℕ) → length (block_bytes b i) ≡ min 4096 (length b - 4096 * i)
long_block b i = length-take 4096 (drop (4096 * i) b) ∙ ap (min 4096) (length-drop (4096 * i) b)

-- a byte of a block is the file's
byte_at : (b : List ℕ) (i j : ℕ) → j < 4096 → get_or (block_bytes b i) j 0 ≡ get_or b (4096 * i + j) 0
byte_at b i j l = get_or-take 4096 (drop (4096 * i) b) j 0 l ∙ get_or-drop (4096 * i) b j 0

-- after all bytes there are only zeros
pub past_bytes : (b : List ℕ) (i : ℕ) → length b ≤ 4096 * i → IsBlock b i []
past_bytes b i h = (length (block_bytes b i) - length {A = ℕ} [], padded (block_bytes b i) [] (omega arith) (λ j. let l : length (block_bytes b i) ≡ min 4096 (length b - 4096 * i) = long_block b i in get_or_past (block_bytes b i) j 0 (omega arith) ∙ sym (get_or_past [] j 0 (omega arith))))

module _ (block : ℕ → Option (List ℕ)) (b : List ℕ) (hold : Hold block b) (i : ℕ) (few : i < most_blocks) where
  -- a stored block has its bytes, except for zeros at their end
  stored_block : (v : List ℕ) → block i ≡ Some v → IsBlock b i v
  stored_block v e = (length (block_bytes b i) - length v, padded (block_bytes b i) v short same)
    where
      long : length (block_bytes b i) ≡ min 4096 (length b - 4096 * i)
      long = long_block b i

      short : length v ≤ length (block_bytes b i)
      short = ⊎_elim
          (λ (h : length (block_bytes b i) < length v).
          let end : (length (block_bytes b i) < 4096) × (4096 * i + length (block_bytes b i) < length b) = hold.within i v (length (block_bytes b i)) few e h in
          let one : length (block_bytes b i) < 4096 = end.0 in
          let two : 4096 * i + length (block_bytes b i) < length b = end.1 in
          let l : length (block_bytes b i) ≡ min 4096 (length b - 4096 * i) = long in
          absurd (omega arith))
          (λ (h : length v ≤ length (block_bytes b i)). h)
          (cases_lt (length (block_bytes b i)) (length v))

      same : (j : ℕ) → get_or (block_bytes b i) j 0 ≡ get_or v j 0
      same j = ⊎_elim
          (λ (h : j < 4096). byte_at b i j h ∙ sym (hold.byte i j few h) ∙ ap (λ (o : Option (List ℕ)). byte_of o j) e)
          (λ (h : 4096 ≤ j).
          let l : length (block_bytes b i) ≡ min 4096 (length b - 4096 * i) = long in
          let s : length v ≤ length (block_bytes b i) = short in
          get_or_past (block_bytes b i) j 0 (omega arith) ∙ sym (get_or_past v j 0 (omega arith)))
          (cases_lt j 4096)

  -- one that is not stored has only zeros
  absent_block : block i ≡ None → IsBlock b i []
  absent_block e = (
    length (block_bytes b i) - length {A = ℕ} [],
    padded (block_bytes b i) [] (omega arith) (λ j. ⊎_elim
        (λ (h : j < 4096). byte_at b i j h ∙ sym (hold.byte i j few h) ∙ ap (λ (o : Option (List ℕ)). byte_of o j) e ∙ sym (get_or_past [] j 0 (omega arith)))
        (λ (h : 4096 ≤ j). let l : length (block_bytes b i) ≡ min 4096 (length b - 4096 * i) = long_block b i in get_or_past (block_bytes b i) j 0 (omega arith) ∙ sym (get_or_past [] j 0 (omega arith)))
        (cases_lt j 4096)),
  )

-- ---- the order of blocks

low_key : (p : Path) (i : ℕ) → (blocks_from p i).lo ≡ block_key p i
unfolding blocks_from
low_key p i = refl

module _ (p : Path) (is_path : EachName p) (i j : ℕ) (few_i : i < most_blocks) (few_j : j < most_blocks) where
  -- blocks whose keys are in order have their numbers in order
  less_from_before : before (block_key p i) (block_key p j) ≡ true → i < j
  less_from_before h = ⊎_elim
      (λ (g : i < j). g)
      (λ (g : j ≤ i). absurd (
      let low : reaches (blocks_from p j).lo (block_key p i) ≡ true = (and_parts _ _ (block_in_blocks_from p p j i (omega arith) (omega arith) (refl, g))).0 in
      let not : before (block_key p i) (block_key p j) ≡ false = not_before_from_reaches (block_key p j) (block_key p i) (subst (λ (k : Key). reaches k (block_key p i) ≡ true) (low_key p j) low) in
      cc))
      (cases_lt i j)

-- ---- the blocks of a file

-- what a scan of a range found in the blocks of indexes
pub found_in : (i j : Indexes) (r s : KeyRange) (limit : ℕ) (ps : List (Key × List ℕ)) → i ≡ j → r ≡ s → IsScan (blocks i.block) r.lo r.hi limit ps → IsScan (blocks j.block) s.lo s.hi limit ps
found_in i j r s limit ps same range found =
    subst (λ (x : KeyRange). IsScan (blocks j.block) x.lo x.hi limit ps) range (subst (λ (x : Indexes). IsScan (blocks x.block) r.lo r.hi limit ps) same found)

module _ (t : Tree) (d : Blocks) (means : BlocksMean t d) (p : Path) (is_path : IsPath p) (from limit : ℕ) (fits : from < 2 ^ 32) (ps : List (Key × List ℕ)) (found : IsScan d (blocks_from p from).lo (blocks_from p from).hi limit ps) where
  -- each key that was found is that of a block of the file at the path, from the number on
  pub record FoundBlock (k : Key) : Type 0 where
    pub number : ℕ
    pub few : number < most_blocks
    pub key : k ≡ block_key p number
    pub behind : from ≤ number
    pub bytes : List ℕ
    pub file : look t p ≡ Some (Bytes bytes)

  pub found_block : (k : ℕ) (q : Key × List ℕ) → k < length ps → FoundBlock (get_or ps k q).0
  found_block k q l =
      let pair = found.sound k q l in
      let of : BlockOf t (get_or ps k q).0 = means.only_blocks (get_or ps k q).0 (get_or ps k q).1 pair.1 in
      let lt : of.index < most_blocks = of.few in
      let at : (of.path ≡ p) × (from ≤ of.index) = block_in_blocks p of.path from of.index is_path.names of.is_path.names fits (omega arith) (subst (λ (x : Key). within (blocks_from p from).lo (blocks_from p from).hi x ≡ true) of.key pair.0) in
      record { number = of.index; few = lt; key = of.key ∙ ap (λ (z : Path). block_key z of.index) at.0; behind = at.1; bytes = of.bytes; file = ap (look t) (sym at.0) ∙ of.file }

  pub all_of_blocks : All (λ q. IsOfBlock p q.0) ps
  all_of_blocks = λ k q l. let b : FoundBlock (get_or ps k q).0 = found_block k q l in (b.number, b.few, b.key)

abbrev numbered : Path → ℕ × List ℕ → Key × List ℕ
numbered p x = (block_key p x.0, x.1)

-- one more pair, and the number in its key
pub numbers_more : (ps : List (Key × List ℕ)) (bs : List (ℕ × List ℕ)) (k : Key) (v : List ℕ) (n : ℕ) → ((q : Path) (i : ℕ) → i < 2 ^ 32 → k ≡ block_key q i → n ≡ i)
    → ReadsNumbers ps bs → ReadsNumbers (ps ++ (k, v) ∷ []) (bs ++ (n, v) ∷ [])
numbers_more ps bs k v n reads before_it = record {
  of_path = λ p all.
      let parts = All-pop (λ (q : Key × List ℕ). IsOfBlock p q.0) (ps ++ (k, v) ∷ []) ps (Some (k, v)) refl all in
      let so_far : AreNumbered p ps bs = before_it.of_path p parts.0 in
      let (i, few, key) = parts.1 in
      let lt : i < most_blocks = few in
      let number : n ≡ i = reads p i (omega arith) key in
      record {
        few = All-push (λ (x : ℕ × List ℕ). x.0 < most_blocks) bs (n, v) so_far.few (omega arith);
        pairs = map-append (numbered p) bs ((n, v) ∷ []) ∙ ap (λ (l : List (Key × List ℕ)). l ++ numbered p (n, v) ∷ []) so_far.pairs ∙ ap (λ (j : Key). ps ++ (j, v) ∷ []) (ap (block_key p) number ∙ sym key);
      };
}

module _ (t : Tree) (d : Blocks) (is : IsTree t) (means : BlocksMean t d) (p : Path) (is_path : IsPath p) (from limit : ℕ) (fits : from < 2 ^ 32) (ps : List (Key × List ℕ)) (found : IsScan d (blocks_from p from).lo (blocks_from p from).hi limit ps) (bs : List (ℕ × List ℕ)) (reads : AreNumbered p ps bs) where
  many_blocks : length bs ≡ length ps
  many_blocks = sym (length-map bs (numbered p)) ∙ ap (λ (l : List (Key × List ℕ)). length l) reads.pairs

  block_at : (k : ℕ) (q : ℕ × List ℕ) → k < length bs → get_or ps k (numbered p q) ≡ numbered p (get_or bs k q)
  block_at k q l = ap (λ (z : List (Key × List ℕ)). get_or z k (numbered p q)) (sym reads.pairs) ∙ get_or-map (numbered p) bs k q (numbered p q) l

  -- there are none if there is no file
  no_blocks : ((b : List ℕ) → look t p ≡ Some (Bytes b) → ⊥) → bs ≡ []
  no_blocks none = nil_from_length bs (⊎_elim
      (λ (h : 0 < length ps). let first : FoundBlock t d means p is_path from limit fits ps found (get_or ps 0 ([], [])).0 = found_block t d means p is_path from limit fits ps found 0 ([], []) h in absurd (none first.bytes first.file))
      (λ (h : length ps ≤ 0). let n : length bs ≡ length ps = many_blocks in omega arith)
      (cases_lt 0 (length ps)))

  module _ (b : List ℕ) (short : length b ≤ 2 ^ 40) (file : look t p ≡ Some (Bytes b)) where
    hold : Hold (λ i. d (block_key p i)) b
    hold = means.blocks p b is_path file

    blocks_sound : All (λ x. (from ≤ x.0) × (x.0 < most_blocks) × IsBlock b x.0 x.1) bs
    blocks_sound = λ k q l.
        let n : length bs ≡ length ps = many_blocks in
        let x : ℕ × List ℕ = get_or bs k q in
        let few : x.0 < most_blocks = reads.few k q l in
        let pair : (within (blocks_from p from).lo (blocks_from p from).hi (block_key p x.0) ≡ true) × (d (block_key p x.0) ≡ Some x.1) =
        subst (λ (y : Key × List ℕ). (within (blocks_from p from).lo (blocks_from p from).hi y.0 ≡ true) × (d y.0 ≡ Some y.1)) (block_at k q l) (found.sound k (numbered p q) (omega arith)) in
        ((block_in_blocks p p from x.0 is_path.names is_path.names fits (omega arith) pair.0).1, few, stored_block (λ i. d (block_key p i)) b hold x.0 few x.1 pair.1)

    blocks_rising : AllPairs (λ x y. x.0 < y.0) bs
    blocks_rising = λ i j q a l.
        let n : length bs ≡ length ps = many_blocks in
        let here : i < length bs = omega arith in
        let first : get_or ps i (numbered p q) ≡ numbered p (get_or bs i q) = block_at i q here in
        let later : get_or ps j (numbered p q) ≡ numbered p (get_or bs j q) = block_at j q l in
        less_from_before p is_path.names (get_or bs i q).0 (get_or bs j q).0 (reads.few i q here) (reads.few j q l)
        (subst (λ (y : Key × List ℕ). before y.0 (block_key p (get_or bs j q).0) ≡ true) first
        (subst (λ (y : Key × List ℕ). before (get_or ps i (numbered p q)).0 y.0 ≡ true) later (found.rising i j (numbered p q) a (omega arith))))

    module _ (i : ℕ) (le : from ≤ i) (few : i < most_blocks) where
      block_listed : (v : List ℕ) → Contains ps (block_key p i, v) → Any (λ x. x.0 ≡ i) bs
      block_listed v (k, l, e) =
          let n : length bs ≡ length ps = many_blocks in
          let here : k < length bs = omega arith in
          let x : ℕ × List ℕ = get_or bs k (i, v) in
          let lt : x.0 < most_blocks = reads.few k (i, v) here in
          let at : (block_key p i, v) ≡ numbered p x = sym e ∙ block_at k (i, v) here in
          let number : x.0 ≡ i = (block_key_injective p p x.0 i is_path.names is_path.names (omega arith) (omega arith) (sym (ap (λ (y : Key × List ℕ). y.0) at))).1 in
          let value : x.1 ≡ v = sym (ap (λ (y : Key × List ℕ). y.1) at) in
          (k, (i, v), here, ap (λ (m : ℕ). (m, x.1)) number ∙ ap (λ (w : List ℕ). (i, w)) value, refl)

      all_before : All (λ q. before q.0 (block_key p i) ≡ true) ps → All (λ x. x.0 < i) bs
      all_before h = λ k q l.
          let n : length bs ≡ length ps = many_blocks in
          less_from_before p is_path.names (get_or bs k q).0 i (reads.few k q l) few (subst (λ (y : Key × List ℕ). before y.0 (block_key p i) ≡ true) (block_at k q l) (h k (numbered p q) (omega arith)))

      complete_by : (o : Option (List ℕ)) → d (block_key p i) ≡ o → Any (λ x. x.0 ≡ i) bs ⊎ (IsBlock b i [] ⊎ ((length bs ≡ limit) × All (λ x. x.0 < i) bs))
      complete_by None e = inr (inl (absent_block (λ j. d (block_key p j)) b hold i few e))
      complete_by (Some v) e = elim (found.complete (block_key p i) v (block_in_blocks_from p p from i fits (omega arith) (refl, le)) e) [
        | inl c ↦ inl (block_listed v c)
        | inr x ↦ inr (inr (many_blocks ∙ x.0, all_before x.1))
      ]

    blocks_complete : (i : ℕ) → from ≤ i → Any (λ x. x.0 ≡ i) bs ⊎ (IsBlock b i [] ⊎ ((length bs ≡ limit) × All (λ x. x.0 < i) bs))
    blocks_complete i le = ⊎_elim
        (λ (h : i < most_blocks). complete_by i le h (d (block_key p i)) refl)
        (λ (h : most_blocks ≤ i). inr (inl (past_bytes b i (omega arith))))
        (cases_lt i most_blocks)

    file_blocks : AreBlocks b from limit bs
    file_blocks = record { few = (let n : length bs ≡ length ps = many_blocks in let f : length ps ≤ limit = found.few in omega arith); sound = blocks_sound; rising = blocks_rising; complete = blocks_complete }

  blocks_by : (a : At) → entry_at t p ≡ a → AreBlocksAt a from limit bs
  blocks_by (Found (File date b)) e = file_blocks b (is.files p date b e).few (ap seen e)
  blocks_by (Found (Dir date es)) e = no_blocks (λ b f. let s : look t p ≡ seen (Found (Dir date es)) = ap seen e in cc)
  blocks_by Missing e = no_blocks (λ b f. let s : look t p ≡ seen Missing = ap seen e in cc)
  blocks_by Blocked e = no_blocks (λ b f. let s : look t p ≡ seen Blocked = ap seen e in cc)

  -- the blocks of what is at a path, from the pairs of its range
  pub blocks_listed : AreBlocksAt (entry_at t p) from limit bs
  blocks_listed = blocks_by (entry_at t p) refl
