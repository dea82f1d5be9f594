-- Facts on the paths at which two trees differ.
use Rattle.std.proofs.Common.{◌≡◌, ◌⊎◌, ⊎_elim, ℕ, zero, suc, ◌+◌, ◌-◌, ◌*◌, ◌/◌, ◌%◌, ◌^◌, ◌<◌, ◌≤◌, Bool, true, false, ◌||◌, List, [], ◌∷◌, ◌++◌, length, get_or, map, take, refl, sym, ap, subst, ◌∙◌, arith, Option, Some, None, inl, inr, length-append}
use Rattle.std.specs.Prelude.{AllPairs, All}
use Rattle.std.specs.List.{Contains}
use Rattle.std.specs.List.Sorted.{IsStrictlySortedBy}
use Rattle.std.specs.Ordering.{is_lt}
use Rattle.std.proofs.lemmas.List.Elements.{Contains-append_left, Contains-append_right, Contains-append_cases, Contains-get_or}
use Rattle.std.proofs.lemmas.Bool.{cases_lt}
use Rattle.std.proofs.lemmas.Grind.{same_number_lists}
use Rattle.std.proofs.lemmas.List.{get_or_past, take-append-le, take_all}
use Rattle.std.specs.Int.{w32, to_be_bytes}
use Rattle.block_index.specs.Means.{blocks}
use Rattle.call_compiler.specs.declared.indexes.Indexes.{Indexes}
use Rattle.change_log.specs.KeyLogs.{touched_of}
use Rattle.change_log.specs.Touched.{is_touched}
use Rattle.change_log.specs.declared.touched_keys.Changes.TheVariants.{Within}
use Rattle.change_log.specs.declared.touched_keys.TouchedKeys.{TouchedKeys}
use Rattle.message.proofs.NextKey.{by_bool}
use Rattle.meta_index.specs.Means.{metadata}
use Rattle.pathkey.specs.Keys.{Key, block_key, enc}
use Rattle.pathkey.specs.Names.{IsPath}
use Rattle.pathkey.specs.Order.{by_bytes, same}
use Rattle.pathkey.proofs.KeyFacts.{enc_law}
use Rattle.reference.specs.Image.{trimmed}
use Rattle.reference.specs.Indexes.{Hold, IndexesMean, Metadata, Blocks, BlockOf, PathOf, byte_of, held, meta_of, most_blocks}
use Rattle.reference.specs.Reads.{Bytes, Seen, look, look_of, sight}
use Rattle.reference.specs.Tree.{Path, Tree}
use Rattle.reference.proofs.Edits.{look_from, look_sighted}
use Rattle.reference.proofs.FileBlocks.{byte-held}
use Rattle.reference.proofs.ImageBytes.{trimmed_byte}
use Rattle.reference.proofs.LastBlock.{trimmed_same}
use Rattle.reference.proofs.TreeEdits.{MayBeSeen, looks_may}
use Rattle.reference.proofs.Unique.{agree}
use Rattle.reference.specs.declared.reply.Meta.{Meta}
use Rattle.volume.specs.Differences.{AgreeBeside, AgreeOutside}
use Rattle.volume.specs.Volumes.{MeanRooted}
use Rattle.volume.specs.declared.fs_root.FsRoot.{FsRoot}
use Rattle.edits.proofs.Ordered.{Below, Ordered, ordered}
use Rattle.delta.specs.Changed.{AreAlikeBlocks, AreBlocksDiffering, AreChanged, AreDiffering, AreMetasDiffering, HaveSame, IsSameAt, file_key, is_in_either}

-- ---- bytes of a block

-- blocks that are alike have the same bytes
pub alike_bytes : (o r : Option (List ℕ)) (j : ℕ) → trimmed (held o) ≡ trimmed (held r) → byte_of o j ≡ byte_of r j
alike_bytes o r j e = byte-held o j ∙ sym (trimmed_byte (held o) j) ∙ ap (λ (x : List ℕ). get_or x j 0) e ∙ trimmed_byte (held r) j ∙ sym (byte-held r j)

-- blocks that are alike hold at most one list of bytes of a length
same_bytes : (f g : ℕ → Option (List ℕ)) (b c : List ℕ) → Hold f b → Hold g c → ((i : ℕ) → i < most_blocks → trimmed (held (f i)) ≡ trimmed (held (g i))) → length b ≡ length c → length b ≤ 2 ^ 40 → b ≡ c
same_bytes f g b c h k alike l small = same_number_lists b c l (λ n lt.
    let i : n / 4096 < 268435456 = omega arith in
    let j : n % 4096 < 4096 = omega arith in
    let e : 4096 * (n / 4096) + n % 4096 ≡ n = omega arith in
    ap (λ (x : ℕ). get_or b x 0) (sym e) ∙ sym (h.byte (n / 4096) (n % 4096) i j) ∙ alike_bytes (f (n / 4096)) (g (n / 4096)) (n % 4096) (alike (n / 4096) i) ∙ k.byte (n / 4096) (n % 4096) i j ∙ ap (λ (x : ℕ). get_or c x 0) e)

-- ---- trees whose indexes agree at a path

same_sights : (t u : Tree) (m n : Metadata) (d e : Blocks) (p : Path) → IndexesMean t m d → IndexesMean u n e → IsPath p → m (enc p) ≡ n (enc p)
    → ((i : ℕ) → i < most_blocks → trimmed (held (d (block_key p i))) ≡ trimmed (held (e (block_key p i)))) → sight t p ≡ sight u p
same_sights t u m n d e p of_t of_u v same alike = agree (sight t p) (sight u p) (sym (of_t.meta.paths p v) ∙ same ∙ of_u.meta.paths p v)
    (λ b c date stamp x y l.
    let left : look t p ≡ Some (Bytes b) = look_from t p (Seen (Bytes b) date) x in
    let right : look u p ≡ Some (Bytes c) = look_from u p (Seen (Bytes c) stamp) y in
    let may : MayBeSeen p (Bytes b) = looks_may t p (Bytes b) of_t.tree left in
    same_bytes (λ i. d (block_key p i)) (λ i. e (block_key p i)) b c (of_t.blocks.blocks p b v left) (of_u.blocks.blocks p c v right) alike l (may.content b refl).few)

-- ---- trees that are the same at a path

-- a block has no byte past its end
pub past_block : (f : ℕ → Option (List ℕ)) (b : List ℕ) (i j : ℕ) → Hold f b → i < most_blocks → 4096 ≤ j → get_or (held (f i)) j 0 ≡ 0
past_block f b i j h li lj = elim (f i) as (λ o. f i ≡ o → get_or (held o) j 0 ≡ 0) [
  | None ↦ λ e. refl
  | Some v ↦ λ e. ⊎_elim (λ (lt : j < length v). absurd (let g = h.within i v j li e lt in omega (arith, g.0, lj))) (λ (le : length v ≤ j). get_or_past v j 0 le) (cases_lt j (length v))
] refl

one_file : (f g : ℕ → Option (List ℕ)) (b : List ℕ) (i : ℕ) → Hold f b → Hold g b → i < most_blocks → trimmed (held (f i)) ≡ trimmed (held (g i))
one_file f g b i h k li = trimmed_same (held (f i)) (held (g i)) (λ j. ⊎_elim
    (λ (lt : j < 4096). sym (byte-held (f i) j) ∙ h.byte i j li lt ∙ sym (k.byte i j li lt) ∙ byte-held (g i) j)
    (λ (le : 4096 ≤ j). past_block f b i j h li le ∙ sym (past_block g b i j k li le))
    (cases_lt j 4096))

same_block : (t u : Tree) (m n : Metadata) (d e : Blocks) (k : Key) → IndexesMean t m d → IndexesMean u n e → (b : BlockOf t k) → sight t b.path ≡ sight u b.path
    → trimmed (held (d k)) ≡ trimmed (held (e k))
same_block t u m n d e k of_t of_u b same =
    let right : look u b.path ≡ Some (Bytes b.bytes) = look_sighted u b.path ∙ ap (Rattle.std.specs.Prelude.option_map look_of) (sym same) ∙ sym (look_sighted t b.path) ∙ b.file in
    ap (λ (x : Key). trimmed (held (d x))) b.key
    ∙ one_file (λ i. d (block_key b.path i)) (λ i. e (block_key b.path i)) b.bytes b.index (of_t.blocks.blocks b.path b.bytes b.is_path b.file) (of_u.blocks.blocks b.path b.bytes b.is_path right) b.few
    ∙ ap (λ (x : Key). trimmed (held (e x))) (sym b.key)

-- ---- keys

-- the key of a block has five bytes behind that of its file
pub block_file : (p : Path) (i : ℕ) → file_key (block_key p i) ≡ enc p
unfolding block_key
block_file p i =
    let l : length (enc p ++ 0 ∷ to_be_bytes w32 i) ≡ length (enc p) + length (0 ∷ to_be_bytes w32 i) = length-append (enc p) (0 ∷ to_be_bytes w32 i) in
    let five : length (0 ∷ to_be_bytes w32 i) ≡ 5 = refl in
    let n : length (enc p ++ 0 ∷ to_be_bytes w32 i) - 5 ≡ length (enc p) = omega (arith, l, five) in
    ap (λ (x : ℕ). take x (enc p ++ 0 ∷ to_be_bytes w32 i)) n ∙ take-append-le (length (enc p)) (enc p) (0 ∷ to_be_bytes w32 i) (omega arith) ∙ take_all (length (enc p)) (enc p) (omega arith)

-- ---- the paths of the keys at which the indexes differ

pub map_contains : {X Y : Type 0} (h : X → Y) (xs : List X) (y : Y) → Contains (map h xs) y → (x : X) × Contains xs x × (h x ≡ y)
map_contains h [] y there = absurd (omega (arith, there.1))
map_contains h (x ∷ xs) y (zero, lt, e) = (x, (zero, omega arith, refl), e)
map_contains h (x ∷ xs) y (suc n, lt, e) = let r = map_contains h xs y (n, omega (arith, lt), e) in (r.0, (suc r.1.0, omega (arith, r.1.1), r.1.2), r.2)

pub contains_mapped : {X Y : Type 0} (h : X → Y) (xs : List X) (x : X) → Contains xs x → Contains (map h xs) (h x)
contains_mapped h [] x there = absurd (omega (arith, there.1))
contains_mapped h (y ∷ xs) x (zero, lt, e) = (zero, omega arith, ap h e)
contains_mapped h (y ∷ xs) x (suc n, lt, e) = let r = contains_mapped h xs x (n, omega (arith, lt), e) in (suc r.0, omega (arith, r.1), r.2)

-- what holds of each element and all later ones holds of each pair
pairs : {X : Type 0} (R : X → X → Type 0) (xs : List X) → Ordered R xs → AllPairs R xs
pairs R [] o i j d lt within = absurd (omega (arith, within))
pairs R (x ∷ xs) o zero zero d lt within = absurd (omega (arith, lt))
pairs R (x ∷ xs) o zero (suc j) d lt within = o.0 (get_or xs j d) (Contains-get_or xs j d (omega (arith, within)))
pairs R (x ∷ xs) o (suc i) zero d lt within = absurd (omega (arith, lt))
pairs R (x ∷ xs) o (suc i) (suc j) d lt within = pairs R xs o.1 i j d (omega (arith, lt)) (omega (arith, within))

-- something holds at some number, or another thing at all
some_or_all : (A : Type 0) (P : ℕ → Type 0) (n : ℕ) → ((i : ℕ) → i < n → A ⊎ P i) → A ⊎ ((i : ℕ) → i < n → P i)
some_or_all A P zero h = inr (λ i lt. absurd (omega (arith, lt)))
some_or_all A P (suc n) h = ⊎_elim (λ a. inl a)
    (λ before_n. ⊎_elim (λ a. inl a) (λ (at : P n). inr (λ i lt. ⊎_elim (λ (l : i < n). before_n i l) (λ (r : n ≤ i). let e : n ≡ i = omega (arith, lt, r) in subst P e at) (cases_lt i n))) (h n (omega arith)))
    (some_or_all A P n (λ i lt. h i (omega (arith, lt))))

module _ (t u : Tree) (m n : Metadata) (d e : Blocks) (of_t : IndexesMean t m d) (of_u : IndexesMean u n e) (ms bs keys : List Key)
    (of_ms : AreDiffering (λ a b. a ≡ b) m n (λ k. true) ms) (of_bs : AreDiffering AreAlikeBlocks d e (λ k. true) bs) (mixed : HaveSame keys (ms ++ map file_key bs)) where
  meta_path : (k : Key) → Contains ms k → PathOf k
  meta_path k there = cases (m k) (n k) refl refl
    where
      cases : (o r : Option Meta) → m k ≡ o → n k ≡ r → PathOf k
      cases (Some v) r x y = of_t.meta.only_paths k v x
      cases None (Some v) x y = of_u.meta.only_paths k v y
      cases None None x y = absurd (of_ms.differ k there (x ∙ sym y))

  -- the file of a block that differs
  record FileOf (k : Key) : Type 0 where
    path : Path
    is_path : IsPath path
    key : file_key k ≡ enc path
    differ : sight t path ≡ sight u path → ⊥

  file_of : (k : Key) → Contains bs k → FileOf k
  file_of k there = cases (d k) (e k) refl refl
    where
      cases : (o r : Option (List ℕ)) → d k ≡ o → e k ≡ r → FileOf k
      cases (Some v) r x y =
          let b : BlockOf t k = of_t.blocks.only_blocks k v x in
          record { path = b.path; is_path = b.is_path; key = ap file_key b.key ∙ block_file b.path b.index; differ = λ s. of_bs.differ k there (same_block t u m n d e k of_t of_u b s) }
      cases None (Some v) x y =
          let b : BlockOf u k = of_u.blocks.only_blocks k v y in
          record { path = b.path; is_path = b.is_path; key = ap file_key b.key ∙ block_file b.path b.index; differ = λ s. of_bs.differ k there (sym (same_block u t n m e d k of_u of_t b (sym s))) }
      cases None None x y = absurd (of_bs.differ k there (ap (λ o. trimmed (held o)) (x ∙ sym y)))

  parts : (k : Key) → Contains keys k → Contains ms k ⊎ ((q : Key) × Contains bs q × (file_key q ≡ k))
  parts k there = ⊎_elim (λ c. inl c) (λ c. inr (map_contains file_key bs k c))
      (Contains-append_cases ms (map file_key bs) k (mixed.to k there))

  pub key_path : (k : Key) → Contains keys k → PathOf k
  key_path k there = ⊎_elim (λ c. meta_path k c)
      (λ (q : (q : Key) × Contains bs q × (file_key q ≡ k)). let f : FileOf q.0 = file_of q.0 q.1 in record { path = f.path; is_path = f.is_path; key = sym q.2 ∙ f.key })
      (parts k there)

  module _ (rising : IsStrictlySortedBy by_bytes keys) (ps : List Path) (paths : All IsPath ps) (have : map enc ps ≡ keys) where
    is_path : (p : Path) → Contains ps p → IsPath p
    is_path p there = subst IsPath there.2 (paths there.0 p there.1)

    differs : (p : Path) → Contains ps p → sight t p ≡ sight u p → ⊥
    differs p there s =
        let v : IsPath p = is_path p there in
        ⊎_elim (λ (c : Contains ms (enc p)). of_ms.differ (enc p) c (of_t.meta.paths p v ∙ ap meta_of s ∙ sym (of_u.meta.paths p v)))
        (λ (q : (q : Key) × Contains bs q × (file_key q ≡ enc p)).
        let f : FileOf q.0 = file_of q.0 q.1 in
        let one : f.path ≡ p = enc_law f.path p f.is_path.names v.names (sym f.key ∙ q.2) in
        f.differ (subst (λ (x : Path). sight t x ≡ sight u x) (sym one) s))
        (parts (enc p) (subst (λ (l : List Key). Contains l (enc p)) have (contains_mapped enc ps p there)))

    listed : (p : Path) → IsPath p → Contains (ms ++ map file_key bs) (enc p) → Contains ps p
    listed p v c =
        let f = map_contains enc ps (enc p) (subst (λ (l : List Key). Contains l (enc p)) (sym have) (mixed.from (enc p) c)) in
        subst (λ (x : Path). Contains ps x) (enc_law f.0 p (is_path f.0 f.1).names v.names f.2) f.1

    at_meta : (p : Path) → IsPath p → Contains ps p ⊎ (m (enc p) ≡ n (enc p))
    at_meta p v = ⊎_elim
        (λ c. inl (listed p v (Contains-append_left ms (map file_key bs) (enc p) c)))
        (λ (s : IsSameAt (λ a b. a ≡ b) m n (enc p)). inr (⊎_elim (λ x. x) (λ x. x.0 ∙ sym x.1) s))
        (of_ms.all (enc p) refl)

    at_block : (p : Path) → IsPath p → (i : ℕ) → i < most_blocks → Contains ps p ⊎ (trimmed (held (d (block_key p i))) ≡ trimmed (held (e (block_key p i))))
    at_block p v i lt = ⊎_elim
        (λ c. inl (listed p v (Contains-append_right ms (map file_key bs) (enc p) (subst (λ (x : Key). Contains (map file_key bs) x) (block_file p i) (contains_mapped file_key bs (block_key p i) c)))))
        (λ (s : IsSameAt AreAlikeBlocks d e (block_key p i)). inr (⊎_elim (λ x. x) (λ x. ap (λ o. trimmed (held o)) (x.0 ∙ sym x.1)) s))
        (of_bs.all (block_key p i) refl)

    pub changed : AreChanged t u ps
    changed = record {
      differ = λ p there s. differs p there s;
      all = λ p v. ⊎_elim (λ c. inl c)
          (λ same_at. ⊎_elim (λ c. inl c) (λ alike. inr (same_sights t u m n d e p of_t of_u v same_at alike))
          (some_or_all (Contains ps p) (λ i. trimmed (held (d (block_key p i))) ≡ trimmed (held (e (block_key p i)))) most_blocks (at_block p v)))
          (at_meta p v);
      rising = λ i j x lt within. ap is_lt (pairs (Below enc) ps (ordered enc ps (subst (IsStrictlySortedBy by_bytes) (sym have) rising)) i j x lt within);
    }

-- ---- volumes

-- outside of what may differ from a third tree on either side, two trees agree
pub agree_either : (m b n d : TouchedKeys) (i j k : Indexes) → AgreeBeside (Within m b) i k → AgreeBeside (Within n d) j k → AgreeOutside (is_in_either m n) (is_in_either b d) i j
agree_either m b n d i j k one other = record {
  meta = λ q h. let f = neither (is_touched (touched_of m) q) (is_touched (touched_of n) q) h in sym (other.meta q f.1) ∙ one.meta q f.0;
  block = λ q h. let f = neither (is_touched (touched_of b) q) (is_touched (touched_of d) q) h in sym (other.block q f.1) ∙ one.block q f.0;
}
  where
    neither : (a b : Bool) → (a || b) ≡ false → (a ≡ false) × (b ≡ false)
    neither true b h = absurd (cc)
    neither false b h = (refl, h)

-- what differs within what was touched is all that differs
pub differing_everywhere : {V : Type 0} (alike : Option V → Option V → Type 0) (f g : Key → Option V) (within : Key → Bool) (ks : List Key) → ((o : Option V) → alike o o) → ((k : Key) → within k ≡ false → g k ≡ f k)
    → AreDiffering alike f g within ks → AreDiffering alike f g (λ k. true) ks
differing_everywhere alike f g within ks itself agree of = record {
  differ = of.differ;
  all = λ k e. by_bool (within k) (Contains ks k ⊎ IsSameAt alike f g k) (of.all k) (λ out. inr (inl (subst (alike (f k)) (sym (agree k out)) (itself (f k)))));
}

module _ (r s : FsRoot) (t u : Tree) (of_t : MeanRooted r t) (of_u : MeanRooted s u) (ms bs keys : List Key) (metas : AreMetasDiffering r.indexes s.indexes ms) (blocks_differ : AreBlocksDiffering r.indexes s.indexes bs) (mixed : HaveSame keys (ms ++ map file_key bs)) where
  pub mixed_path : (k : Key) → Contains keys k → PathOf k
  mixed_path = key_path t u (metadata r.indexes.meta) (metadata s.indexes.meta) (blocks r.indexes.block) (blocks s.indexes.block) of_t.indexes of_u.indexes ms bs keys metas blocks_differ mixed

  pub mixed_changed : IsStrictlySortedBy by_bytes keys → (ps : List Path) → All IsPath ps → map enc ps ≡ keys → AreChanged t u ps
  mixed_changed = changed t u (metadata r.indexes.meta) (metadata s.indexes.meta) (blocks r.indexes.block) (blocks s.indexes.block) of_t.indexes of_u.indexes ms bs keys metas blocks_differ mixed
