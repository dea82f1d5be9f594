-- What the messages of a copy make of the blocks of a file: bytes are laid over it.
use Rattle.std.proofs.Common.{◌≡◌, ℕ, zero, suc, ◌+◌, ◌-◌, ◌*◌, ◌/◌, ◌%◌, ◌^◌, ◌<◌, ◌≤◌, min, max, List, [], ◌++◌, length, take, drop, get_or, true, false, Bool, cond, refl, sym, ap, ◌∙◌, subst, ◌⊎◌, inl, inr, ⊎_elim, Option, Some, arith}
use Rattle.std.specs.Prelude.{nat_le, nat_lt, ◌==◌, ◌&&◌}
use Rattle.std.proofs.lemmas.Bool.{and_from, and_left, and_right, cases_lt, eqb-true, le-leb, le-ltb, lt-leb, lt-ltb}
use Rattle.std.proofs.lemmas.List.{ext_get_or, get_or-append_right, get_or-drop, get_or-take, get_or_append_left, length-append, length-drop, length-take}
use Rattle.std.proofs.lemmas.List.FromFn.{length-map-range_with_len}
use Rattle.block_index.specs.Changed.{Messages, after, Changes, patch_of, patches, touched}
use Rattle.block_index.specs.Updates.{means}
use Rattle.pathkey.specs.Keys.{Key, block_key}
use Rattle.pathkey.specs.Names.{Path, IsPath}
use Rattle.pathkey.specs.Order.{same}
use Rattle.pathkey.proofs.KeyFacts.{block_key_injective}
use Rattle.pathkey.proofs.OrderFacts.{apart, same_true}
use Rattle.reference.specs.Tree.{over}
use Rattle.reference.specs.Indexes.{Blocks, Hold, byte_of, most_blocks, patched}
use Rattle.reference.proofs.Contents.{length-over}
use Rattle.reference.proofs.FileBlocks.{over_before, over_inside, over_after, write_holds}
use Rattle.reference.proofs.PointIndexes.{hold_alike, unchanged}
use Rattle.call_compiler.specs.Copied.{HoldsOfBytes, Overwrites, Shares, SharesWhereMeant, whole_of}
use Rattle.call_compiler.proofs.HoleBlocks.{joined}

abbrev Change : Type 0
Change = ℕ → Option (List ℕ) → Option (List ℕ)

-- ---- in one list

-- bytes behind bytes are all of them at once
over_twice : (b : List ℕ) (off : ℕ) (w v : List ℕ) → over (over b off w) (off + length w) v ≡ over b off (w ++ v)
over_twice b off w v =
    let first : List ℕ = over b off w in
    let n : length (w ++ v) ≡ length w + length v = length-append w v in
    let k : length (over b off w) ≡ max (length b) (off + length w) = length-over b off w in
    let l : length (over (over b off w) (off + length w) v) ≡ max (length (over b off w)) (off + length w + length v) = length-over (over b off w) (off + length w) v in
    let r : length (over b off (w ++ v)) ≡ max (length b) (off + length (w ++ v)) = length-over b off (w ++ v) in
    ext_get_or 0 _ _ (omega arith) (λ x _. ⊎_elim
    (λ (u : x < off). over_before first (off + length w) v x (omega arith) ∙ over_before b off w x u ∙ sym (over_before b off (w ++ v) x u))
    (λ (u : off ≤ x). ⊎_elim
    (λ (g : x < off + length w). over_before first (off + length w) v x g ∙ over_inside b off w x u g ∙ sym (get_or_append_left w v 0 (x - off) (omega arith)) ∙ sym (over_inside b off (w ++ v) x u (omega arith)))
    (λ (g : off + length w ≤ x). ⊎_elim
    (λ (h : x < off + length w + length v).
    let e : x - off - length w ≡ x - (off + length w) = omega arith in
    over_inside first (off + length w) v x g h
    ∙ ap (λ (y : ℕ). get_or v y 0) (sym e)
    ∙ sym (get_or-append_right w v (length w) (x - off) 0 refl (omega arith))
    ∙ sym (over_inside b off (w ++ v) x u (omega arith)))
    (λ (h : off + length w + length v ≤ x). over_after first (off + length w) v x h ∙ over_after b off w x g ∙ sym (over_after b off (w ++ v) x (omega arith)))
    (cases_lt x (off + length w + length v)))
    (cases_lt x (off + length w)))
    (cases_lt x off))

-- the first bytes and then the others are all that are taken
pub taken_twice : (b : List ℕ) (off m n : ℕ) → m ≤ n → take m (drop off b) ++ take (n - m) (drop (off + m) b) ≡ take n (drop off b)
taken_twice b off m n le =
    let d : length (drop off b) ≡ length b - off = length-drop off b in
    let e : length (drop (off + m) b) ≡ length b - (off + m) = length-drop (off + m) b in
    let k : length (take m (drop off b)) ≡ min m (length (drop off b)) = length-take m (drop off b) in
    let l : length (take (n - m) (drop (off + m) b)) ≡ min (n - m) (length (drop (off + m) b)) = length-take (n - m) (drop (off + m) b) in
    let r : length (take n (drop off b)) ≡ min n (length (drop off b)) = length-take n (drop off b) in
    let a : length (take m (drop off b) ++ take (n - m) (drop (off + m) b)) ≡ length (take m (drop off b)) + length (take (n - m) (drop (off + m) b)) = length-append (take m (drop off b)) (take (n - m) (drop (off + m) b)) in
    ext_get_or 0 _ _ (omega arith) (λ x lx. ⊎_elim
    (λ (u : x < m). get_or_append_left (take m (drop off b)) (take (n - m) (drop (off + m) b)) 0 x (omega arith)
    ∙ get_or-take m (drop off b) x 0 u ∙ sym (get_or-take n (drop off b) x 0 (omega arith)))
    (λ (u : m ≤ x).
    let full : length (take m (drop off b)) ≡ m = omega arith in
    let at : off + m + (x - m) ≡ off + x = omega arith in
    get_or-append_right (take m (drop off b)) (take (n - m) (drop (off + m) b)) m x 0 full u
    ∙ get_or-take (n - m) (drop (off + m) b) (x - m) 0 (omega arith)
    ∙ get_or-drop (off + m) b (x - m) 0
    ∙ ap (λ (y : ℕ). get_or b y 0) at
    ∙ sym (get_or-drop off b x 0)
    ∙ sym (get_or-take n (drop off b) x 0 (omega arith)))
    (cases_lt x m))

-- as many bytes are taken as the list has
pub length_taken : (b : List ℕ) (off n : ℕ) → off + n ≤ length b → length (take n (drop off b)) ≡ n
length_taken b off n fits =
    let d : length (drop off b) ≡ length b - off = length-drop off b in
    let k : length (take n (drop off b)) ≡ min n (length (drop off b)) = length-take n (drop off b) in
    omega arith

-- ---- no bytes

pub overwrites_nothing : (d : Blocks) (q : Path) (off : ℕ) → Overwrites d q off [] []
overwrites_nothing d q off = record {
  change = λ i o. o;
  changes = unchanged q d;
  holds = λ b hold. record {
    byte = λ i j li lj. hold.byte i j li lj ∙ ⊎_elim
        (λ (u : 4096 * i + j < off). sym (over_before b off [] (4096 * i + j) u))
        (λ (u : off ≤ 4096 * i + j). sym (over_after b off [] (4096 * i + j) (omega arith)))
        (cases_lt (4096 * i + j) off);
    within = λ i v j li e lj.
        let s : (j < 4096) × (4096 * i + j < length b) = hold.within i v j li e lj in
        let l : length (over b off []) ≡ max (length b) (off + 0) = length-over b off [] in
        (s.0, omega arith);
  };
}

-- none are taken
pub taken_none : (d : Blocks) (q : Path) (target off n : ℕ) (b : List ℕ) → n ≡ 0 → (ms : Messages) → ms ≡ [] → Overwrites d q target (take n (drop off b)) ms
taken_none d q target off n b none ms is =
    subst (λ (m : ℕ). Overwrites d q target (take m (drop off b)) ms) (sym none) (subst (Overwrites d q target []) (sym is) (overwrites_nothing d q target))

-- ---- bytes that are written

pub overwrites_patches : (q : Path) (off : ℕ) (w : List ℕ) (ms : Messages) → Changes (patched off w) q ms → (d : Blocks) → Overwrites d q off w ms
overwrites_patches q off w ms changes d = record {
  change = patched off w;
  changes = changes d;
  holds = λ b hold. write_holds off w (λ i. d (block_key q i)) b hold;
}

-- as many messages as blocks are touched
pub count_patches : (q : Path) (off : ℕ) (w : List ℕ) → 0 < length w → length (patches q off w) ≡ (off + length w + 4095) / 4096 - off / 4096
count_patches q off w some = length-map-range_with_len (patch_of q off w) (off / 4096) (touched off w) ∙ omega (arith, some)

-- ---- bytes, and others behind them

module _ (q : Path) (off : ℕ) (w v : List ℕ) (d : Blocks) (ms ns : Messages) (first : Overwrites d q off w ms) (second : Overwrites (after ms d) q (off + length w) v ns) where
  abbrev both_change : Change
  both_change i o = second.change i (first.change i o)

  both_hold : (b : List ℕ) → Hold (λ i. d (block_key q i)) b → Hold (λ i. both_change i (d (block_key q i))) (over b off (w ++ v))
  both_hold b hold =
      let mid : List ℕ = over b off w in
      let there : Hold (λ i. after ms d (block_key q i)) mid = hold_alike (λ i. first.change i (d (block_key q i))) (λ i. after ms d (block_key q i)) mid (λ i li. sym (first.changes.block i li)) (first.holds b hold) in
      hold_alike (λ i. second.change i (after ms d (block_key q i))) (λ i. both_change i (d (block_key q i))) (over b off (w ++ v))
      (λ i li. ap (second.change i) (first.changes.block i li))
      (subst (λ (l : List ℕ). Hold (λ i. second.change i (after ms d (block_key q i))) l) (over_twice b off w v) (second.holds mid there))

  pub overwrites_both : Overwrites d q off (w ++ v) (ms ++ ns)
  overwrites_both = record {
    change = both_change;
    changes = record {
      block = λ i li. joined ms ns d (block_key q i) ∙ second.changes.block i li ∙ ap (second.change i) (first.changes.block i li);
      elsewhere = λ k out. joined ms ns d k ∙ second.changes.elsewhere k out ∙ first.changes.elsewhere k out;
      only = λ k u e. ⊎_elim
          (λ (g : (u : List ℕ) × (after ms d k ≡ Some u)). first.changes.only k g.0 g.1)
          (λ (g : (i : ℕ) × (i < most_blocks) × (k ≡ block_key q i)). inr g)
          (second.changes.only k u (sym (joined ms ns d k) ∙ e));
    };
    holds = both_hold;
  }

-- ---- blocks that are shared

module _ (d : Blocks) (p q : Path) (is_q : IsPath q) (s t n : ℕ) (few_s : s + n ≤ most_blocks) (few_t : t + n ≤ most_blocks) (ms : Messages) (sh : Shares d p s q t n ms)
    (b : List ℕ) (hold : Hold (λ i. d (block_key p i)) b) (fits : 4096 * s + 4096 * n ≤ length b) where
  -- a block of q among them becomes that of p
  abbrev becomes : Change
  becomes i o = cond (nat_le t i && nat_lt i (t + n)) (d (block_key p (s + (i - t)))) o

  inside : (i : ℕ) → t ≤ i → i < t + n → (nat_le t i && nat_lt i (t + n)) ≡ true
  inside i u v = and_from _ _ (le-leb t i u) (lt-ltb i (t + n) v)

  outside : (i : ℕ) → (i < t) ⊎ (t + n ≤ i) → (nat_le t i && nat_lt i (t + n)) ≡ false
  outside i (inl u) = and_left _ _ (lt-leb t i u)
  outside i (inr u) = and_right _ _ (le-ltb i (t + n) u)

  place : (i : ℕ) → ((t ≤ i) × (i < t + n)) ⊎ ((i < t) ⊎ (t + n ≤ i))
  place i = ⊎_elim (λ (u : i < t). inr (inl u)) (λ (u : t ≤ i). ⊎_elim (λ (v : i < t + n). inl (u, v)) (λ (v : t + n ≤ i). inr (inr v)) (cases_lt i (t + n))) (cases_lt i t)

  shared_block : (i : ℕ) → (t ≤ i) × (i < t + n) → (o : Option (List ℕ)) → becomes i o ≡ d (block_key p (s + (i - t)))
  shared_block i u o = ap (λ (x : Bool). cond x (d (block_key p (s + (i - t)))) o) (inside i u.0 u.1)

  other_block : (i : ℕ) → (i < t) ⊎ (t + n ≤ i) → (o : Option (List ℕ)) → becomes i o ≡ o
  other_block i u o = ap (λ (x : Bool). cond x (d (block_key p (s + (i - t)))) o) (outside i u)

  block_is : (i : ℕ) → i < most_blocks → after ms d (block_key q i) ≡ becomes i (d (block_key q i))
  block_is i li = ⊎_elim
      (λ (u : (t ≤ i) × (i < t + n)).
      let low : t ≤ i = u.0 in
      let high : i < t + n = u.1 in
      let at : t + (i - t) ≡ i = omega arith in
      ap (λ (x : ℕ). after ms d (block_key q x)) (sym at) ∙ sh.shared (i - t) (omega arith) ∙ sym (shared_block i u (d (block_key q i))))
      (λ (u : (i < t) ⊎ (t + n ≤ i)).
      sh.elsewhere (block_key q i) (λ j lj e.
      let is : (q ≡ q) × (i ≡ t + j) = block_key_injective q q i (t + j) is_q.names is_q.names (omega arith) (omega arith) e in
      let same_number : i ≡ t + j = is.1 in
      ⊎_elim (λ (x : i < t). omega arith) (λ (x : t + n ≤ i). omega arith) u)
      ∙ sym (other_block i u (d (block_key q i))))
      (place i)

  -- a key is that of one of the blocks, or of none
  find : (k : Key) (m : ℕ) → ((j : ℕ) × (j < m) × (k ≡ block_key q (t + j))) ⊎ ((j : ℕ) → j < m → k ≡ block_key q (t + j) → ⊥)
  find k zero = inr (λ j lj e. omega (arith, lj))
  find k (suc m) = ⊎_elim
      (λ (g : (j : ℕ) × (j < m) × (k ≡ block_key q (t + j))). let l : g.0 < m = g.1 in inl (g.0, omega arith, g.2))
      (λ (none : (j : ℕ) → j < m → k ≡ block_key q (t + j) → ⊥).
      elim (same k (block_key q (t + m))) as (λ x. same k (block_key q (t + m)) ≡ x → ((j : ℕ) × (j < suc m) × (k ≡ block_key q (t + j))) ⊎ ((j : ℕ) → j < suc m → k ≡ block_key q (t + j) → ⊥)) [
        | true ↦ λ e. inl (m, omega arith, same_true k (block_key q (t + m)) e)
        | false ↦ λ e. inr (λ j lj is. ⊎_elim
            (λ (u : j < m). none j u is)
            (λ (u : m ≤ j). let at : j ≡ m = omega (arith, lj, u) in apart k (block_key q (t + m)) e (is ∙ ap (λ (x : ℕ). block_key q (t + x)) at))
            (cases_lt j m))
      ] refl)
      (find k m)

  long : length (take (4096 * n) (drop (4096 * s) b)) ≡ 4096 * n
  long = length_taken b (4096 * s) (4096 * n) fits

  holds : (c : List ℕ) → Hold (λ i. d (block_key q i)) c → Hold (λ i. becomes i (d (block_key q i))) (over c (4096 * t) (take (4096 * n) (drop (4096 * s) b)))
  holds c own =
      let w : List ℕ = take (4096 * n) (drop (4096 * s) b) in
      let lw : length (take (4096 * n) (drop (4096 * s) b)) ≡ 4096 * n = long in
      record {
        byte = λ i j li lj. ⊎_elim
            (λ (u : (t ≤ i) × (i < t + n)).
            let low : t ≤ i = u.0 in
            let high : i < t + n = u.1 in
            let at : 4096 * s + (4096 * i + j - 4096 * t) ≡ 4096 * (s + (i - t)) + j = omega arith in
            ap (λ (o : Option (List ℕ)). byte_of o j) (shared_block i u (d (block_key q i)))
            ∙ hold.byte (s + (i - t)) j (omega arith) lj
            ∙ ap (λ (x : ℕ). get_or b x 0) (sym at)
            ∙ sym (get_or-drop (4096 * s) b (4096 * i + j - 4096 * t) 0)
            ∙ sym (get_or-take (4096 * n) (drop (4096 * s) b) (4096 * i + j - 4096 * t) 0 (omega arith))
            ∙ sym (over_inside c (4096 * t) w (4096 * i + j) (omega arith) (omega arith)))
            (λ (u : (i < t) ⊎ (t + n ≤ i)).
            ap (λ (o : Option (List ℕ)). byte_of o j) (other_block i u (d (block_key q i)))
            ∙ own.byte i j li lj
            ∙ ⊎_elim
            (λ (x : i < t). sym (over_before c (4096 * t) w (4096 * i + j) (omega arith)))
            (λ (x : t + n ≤ i). sym (over_after c (4096 * t) w (4096 * i + j) (omega arith)))
            u)
            (place i);
        within = λ i v j li e lj.
            let lo : length (over c (4096 * t) w) ≡ max (length c) (4096 * t + length w) = length-over c (4096 * t) w in
            ⊎_elim
            (λ (u : (t ≤ i) × (i < t + n)).
            let low : t ≤ i = u.0 in
            let high : i < t + n = u.1 in
            let x : (j < 4096) × (4096 * (s + (i - t)) + j < length b) = hold.within (s + (i - t)) v j (omega arith) (sym (shared_block i u (d (block_key q i))) ∙ e) lj in
            let short : j < 4096 = x.0 in
            (short, omega arith))
            (λ (u : (i < t) ⊎ (t + n ≤ i)).
            let x : (j < 4096) × (4096 * i + j < length c) = own.within i v j li (sym (other_block i u (d (block_key q i))) ∙ e) lj in
            let short : j < 4096 = x.0 in
            let less : 4096 * i + j < length c = x.1 in
            (short, omega arith))
            (place i);
      }

  pub overwrites_shared : Overwrites d q (4096 * t) (take (4096 * n) (drop (4096 * s) b)) ms
  overwrites_shared = record {
    change = becomes;
    changes = record {
      block = block_is;
      elsewhere = λ k out. sh.elsewhere k (λ j lj e. out (t + j) (omega arith) e);
      only = λ k v e. ⊎_elim
          (λ (g : (j : ℕ) × (j < n) × (k ≡ block_key q (t + j))). let l : g.0 < n = g.1 in inr (t + g.0, omega arith, g.2))
          (λ (none : (j : ℕ) → j < n → k ≡ block_key q (t + j) → ⊥). inl (v, sym (sh.elsewhere k none) ∙ e))
          (find k n);
    };
    holds = holds;
  }

-- ---- how many blocks are shared

-- none, or both offsets are where a block begins
abbrev pub IsWhole : ℕ → ℕ → ℕ → ℕ → Type 0
IsWhole off target n m = (m ≡ 0) ⊎ ((off ≡ 4096 * (off / 4096)) × (target ≡ 4096 * (target / 4096)) × (m ≡ n / 4096))

whole_by : (off target n : ℕ) (x y : Bool) → (off % 4096 == 0) ≡ x → (target % 4096 == 0) ≡ y → IsWhole off target n (cond (x && y) (n / 4096) 0)
whole_by off target n true true e f =
    let a : off % 4096 ≡ 0 = eqb-true (off % 4096) 0 e in
    let b : target % 4096 ≡ 0 = eqb-true (target % 4096) 0 f in
    inr (omega (arith, a), omega (arith, b), refl)
whole_by off target n true false e f = inl refl
whole_by off target n false y e f = inl refl

pub whole_cases : (off target n m : ℕ) → m ≡ whole_of off target n → IsWhole off target n m
whole_cases off target n m is = subst (IsWhole off target n) (sym is) (whole_by off target n (off % 4096 == 0) (target % 4096 == 0) refl refl)

-- the bytes fill them
pub whole_fits : (off target n m : ℕ) → IsWhole off target n m → 4096 * m ≤ n
whole_fits off target n m (inl none) = omega (arith, none)
whole_fits off target n m (inr whole) = let e : m ≡ n / 4096 = whole.2 in omega (arith, e)

-- few messages
pub copy_few : (off target n m : ℕ) (ms ns : Messages) → IsWhole off target n m → length ms ≤ m + 1 → (m ≡ 0 → ms ≡ []) → length ns ≤ (target + 4096 * m + (n - 4096 * m) + 4095) / 4096 - (target + 4096 * m) / 4096 → length (ms ++ ns) ≤ n / 4096 + 2
copy_few off target n m ms ns (inl u) few none tail =
    let all : length (ms ++ ns) ≡ length ms + length ns = length-append ms ns in
    let l : length ms ≡ 0 = ap length (none u) in
    omega (arith, all, u, l, tail)
copy_few off target n m ms ns (inr u) few none tail =
    let all : length (ms ++ ns) ≡ length ms + length ns = length-append ms ns in
    let e : m ≡ n / 4096 = u.2 in
    let t : target ≡ 4096 * (target / 4096) = u.1 in
    omega (arith, all, e, t, few, tail)

-- ---- all of them

module _ (d : Blocks) (p q : Path) (is_p : IsPath p) (is_q : IsPath q) (size off target n m : ℕ) (within : off + n ≤ size) (short : size ≤ 2 ^ 40) (fits : target + n ≤ 2 ^ 40) (whole : IsWhole off target n m) (ms ns : Messages)
    (shares : SharesWhereMeant d p (off / 4096) q (target / 4096) m ms) (none : m ≡ 0 → ms ≡ [])
    (tail : HoldsOfBytes d p size (off + 4096 * m) (n - 4096 * m) (λ w. (e : Blocks) → Overwrites e q (target + 4096 * m) w ns)) where
  pub copy_overwrites : HoldsOfBytes d p size off n (λ w. Overwrites d q target w (ms ++ ns))
  copy_overwrites t b means there long =
      let w : List ℕ = take (4096 * m) (drop off b) in
      let v : List ℕ = take (n - 4096 * m) (drop (off + 4096 * m) b) in
      let le : 4096 * m ≤ n = whole_fits off target n m whole in
      let lw : length (take (4096 * m) (drop off b)) ≡ 4096 * m = length_taken b off (4096 * m) (omega (arith, within, long, le)) in
      subst (λ (x : List ℕ). Overwrites d q target x (ms ++ ns)) (taken_twice b off (4096 * m) n le)
      (overwrites_both q target w v d ms ns (front whole)
      (subst (λ (x : ℕ). Overwrites (after ms d) q (target + x) v ns) (sym lw) (tail t b means there long (after ms d))))
    where
      front : IsWhole off target n m → Overwrites d q target (take (4096 * m) (drop off b)) ms
      front (inl absent) =
          let zero_is : 0 ≡ 4096 * m = omega (arith, absent) in
          subst (Overwrites d q target (take (4096 * m) (drop off b))) (sym (none absent))
          (subst (λ (x : ℕ). Overwrites d q target (take x (drop off b)) []) zero_is (overwrites_nothing d q target))
      front (inr some) =
          let a : off ≡ 4096 * (off / 4096) = some.0 in
          let c : target ≡ 4096 * (target / 4096) = some.1 in
          let e : m ≡ n / 4096 = some.2 in
          subst (λ (x : ℕ). Overwrites d q x (take (4096 * m) (drop off b)) ms) (sym c)
          (subst (λ (x : ℕ). Overwrites d q (4096 * (target / 4096)) (take (4096 * m) (drop x b)) ms) (sym a)
          (overwrites_shared d p q is_q (off / 4096) (target / 4096) m (omega (arith, within, short, e)) (omega (arith, fits, e)) ms (shares t means)
          b (means.blocks p b is_p there) (omega (arith, within, long, a, e))))
