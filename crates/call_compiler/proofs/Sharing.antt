-- Blocks of a file that are put at those of another, one after the other, as a walk finds them.
use Rattle.std.proofs.Common.{◌≡◌, ℕ, ◌+◌, ◌-◌, ◌^◌, ◌<◌, ◌≤◌, List, [], ◌∷◌, ◌++◌, true, false, Bool, cond, refl, sym, ap, ◌∙◌, subst, ◌⊎◌, inl, inr, ⊎_elim, Option, Some, None, arith}
use Rattle.std.proofs.lemmas.Bool.{and_from, and_parts, cases_lt, false≢true}
use Rattle.block_index.specs.Changed.{Messages, after}
use Rattle.block_index.specs.Updates.{means}
use Rattle.message.specs.declared.msg.Msg.TheVariants.{Put}
use Rattle.message.specs.Ranges.{before, reaches}
use Rattle.message.proofs.KeyOrder.{both}
use Rattle.message.proofs.Lists.{effects-append}
use Rattle.message.proofs.NextKey.{before-next, in_range, reaches-next}
use Rattle.pathkey.specs.Keys.{Key, block_key, blocks_from, is_in, next_key}
use Rattle.pathkey.specs.Names.{Path, IsPath}
use Rattle.pathkey.specs.Order.{same}
use Rattle.pathkey.proofs.KeyFacts.{block_key_injective}
use Rattle.pathkey.proofs.KeyOrder.{le_le, not_before_from_reaches, reaches-from_before}
use Rattle.pathkey.proofs.OrderFacts.{same_false, same_from_eq}
use Rattle.reference.specs.Indexes.{Blocks, most_blocks}
use Rattle.scan.specs.Pairs.{HasNone, IsFirst}
use Rattle.call_compiler.specs.Copied.{Shares}
use Rattle.call_compiler.specs.Punched.{TakesOut}
use Rattle.call_compiler.proofs.BlockOrder.{block_before, block_reaches, reached_blocks}
use Rattle.call_compiler.proofs.HoleBlocks.{between, between_from, between_holds}

-- where a tree's blocks lie in the range of those of a path, they are its own
abbrev pub OwnsRange : Blocks → Path → Type 0
OwnsRange d p = (k : Key) (v : List ℕ) (a : ℕ) → a < 2 ^ 32 → d k ≡ Some v → is_in (blocks_from p a) k ≡ true → (i : ℕ) × (i < most_blocks) × (k ≡ block_key p i)

-- the blocks of p before number `next` were put at q, from which none of the others is stored; the walk goes on at the key lo
pub record Shared (d : Blocks) (p : Path) (s : ℕ) (q : Path) (t n : ℕ) (lo : Key) (next : ℕ) (ms : Messages) : Type 0 where
  pub begins : reaches (block_key p s) lo ≡ true
  pub ahead : (i : ℕ) → i < most_blocks → next ≤ i → reaches lo (block_key p i) ≡ true
  pub behind : (i : ℕ) → i < most_blocks → reaches lo (block_key p i) ≡ true → next ≤ i
  pub put : (j : ℕ) → s + j < next → after ms d (block_key q (t + j)) ≡ d (block_key p (s + j))
  pub gone : (j : ℕ) → j < n → next ≤ s + j → after ms d (block_key q (t + j)) ≡ None
  pub elsewhere : (k : Key) → ((j : ℕ) → j < n → k ≡ block_key q (t + j) → ⊥) → after ms d k ≡ d k

module _ (d : Blocks) (p q : Path) (is_p : IsPath p) (is_q : IsPath q) (s t n : ℕ) (few_s : s + n ≤ most_blocks) (few_t : t + n ≤ most_blocks) where
  -- ---- what is deleted first

  in_blocks : (i : ℕ) → i < most_blocks → is_in (between q t (t + n)) (block_key q i) ≡ true → (t ≤ i) × (i < t + n)
  in_blocks i li e =
      let parts : (reaches (block_key q t) (block_key q i) ≡ true) × (before (block_key q i) (block_key q (t + n)) ≡ true) = and_parts _ _ e in (
        reached_blocks q is_q t i (omega arith) (omega arith) parts.0,
        ⊎_elim (λ (u : i < t + n). u)
            (λ (u : t + n ≤ i). absurd (false≢true (sym (not_before_from_reaches (block_key q (t + n)) (block_key q i) (block_reaches q (t + n) i (omega arith) (omega arith) u)) ∙ parts.1)))
            (cases_lt i (t + n)),
      )

  kept : OwnsRange d q → (k : Key) → ((j : ℕ) → j < n → k ≡ block_key q (t + j) → ⊥) → (b : Bool) → is_in (between q t (t + n)) k ≡ b → (o : Option (List ℕ)) → d k ≡ o → cond b None o ≡ o
  kept own k out false e o g = refl
  kept own k out true e None g = refl
  kept own k out true e (Some v) g =
      let at : (i : ℕ) × (i < most_blocks) × (k ≡ block_key q i) = own k v t (omega arith) g (between_from q is_q t (t + n) k (omega arith) e) in
      let place : (t ≤ at.0) × (at.0 < t + n) = in_blocks at.0 at.1 (sym (ap (is_in (between q t (t + n))) at.2) ∙ e) in
      let low : t ≤ at.0 = place.0 in
      let high : at.0 < t + n = place.1 in
      let is : at.0 ≡ t + (at.0 - t) = omega arith in
      absurd (out (at.0 - t) (omega arith) (at.2 ∙ ap (block_key q) is))

  pub share_starts : (ms : Messages) → OwnsRange d q → TakesOut q t (t + n) ms → (lo : Key) → lo ≡ block_key p s → Shared d p s q t n lo s ms
  share_starts ms own takes lo is = subst (λ (l : Key). Shared d p s q t n l s ms) (sym is) (record {
    begins = block_reaches p s s (omega arith) (omega arith) (omega arith);
    ahead = λ i li le. block_reaches p s i (omega arith) (omega arith) le;
    behind = λ i li e. reached_blocks p is_p s i (omega arith) (omega arith) e;
    put = λ j lj. absurd (omega (arith, lj));
    gone = λ j lj le. gone takes j lj;
    elsewhere = λ k out. elsewhere takes k out;
  })
    where
      gone : TakesOut q t (t + n) ms → (j : ℕ) → j < n → after ms d (block_key q (t + j)) ≡ None
      gone (inl (none, is_none)) j lj = absurd (omega (arith, none, lj))
      gone (inr (some, is_range)) j lj =
          ap (λ (xs : Messages). after xs d (block_key q (t + j))) is_range
          ∙ ap (λ (b : Bool). cond b None (d (block_key q (t + j)))) (between_holds q is_q t (t + n) (t + j) (omega arith) (omega arith) (omega arith) (omega arith) (omega arith))

      elsewhere : TakesOut q t (t + n) ms → (k : Key) → ((j : ℕ) → j < n → k ≡ block_key q (t + j) → ⊥) → after ms d k ≡ d k
      elsewhere (inl (none, is_none)) k out = ap (λ (xs : Messages). after xs d k) is_none
      elsewhere (inr (some, is_range)) k out = ap (λ (xs : Messages). after xs d k) is_range ∙ kept own k out (is_in (between q t (t + n)) k) refl (d k) refl

  -- ---- one more block

  module _ (lo : Key) (next : ℕ) (ms : Messages) (w : Shared d p s q t n lo next ms) (from : s ≤ next) (to : next ≤ s + n) where
    abbrev hi : Key
    hi = block_key p (s + n)

    -- no more of them is stored
    none_between : (k : Key) → HasNone d lo (Some k) → (i : ℕ) → i < most_blocks → next ≤ i → before (block_key p i) k ≡ true → d (block_key p i) ≡ None
    none_between k none i li le less = none (block_key p i) (in_range lo (block_key p i) (Some k) (w.ahead i li le) less)

    pub share_ends : HasNone d lo (Some hi) → Shares d p s q t n ms
    share_ends none = record {
      shared = λ j lj. ⊎_elim
          (λ (u : s + j < next). w.put j u)
          (λ (u : next ≤ s + j). w.gone j lj u ∙ sym (none_between hi none (s + j) (omega arith) u (block_before p is_p (s + j) (s + n) (omega arith) (omega arith) (omega arith))))
          (cases_lt (s + j) next);
      elsewhere = w.elsewhere;
    }

    module _ (own : OwnsRange d p) (k : Key) (v : List ℕ) (first : IsFirst d lo (Some hi) (Some (k, v))) (m : ℕ) (number : (r : Path) (i : ℕ) → i < 2 ^ 32 → k ≡ block_key r i → m ≡ i) where
      there : (reaches lo k ≡ true) × (before k hi ≡ true)
      there = both (reaches lo k) (before k hi) first.0

      at : (i : ℕ) × (i < most_blocks) × (k ≡ block_key p i)
      at = own k v s (omega arith) first.1 (between_from p is_p s (s + n) k (omega arith) (and_from _ _ (le_le (block_key p s) lo k w.begins there.0) there.1))

      m_is : m ≡ at.0
      m_is = number p at.0 (let li : at.0 < most_blocks = at.1 in omega arith) at.2

      key : k ≡ block_key p m
      key = at.2 ∙ ap (block_key p) (sym m_is)

      few : m < most_blocks
      few = let li : at.0 < most_blocks = at.1 in omega (arith, m_is)

      after_next : next ≤ m
      after_next = w.behind m few (subst (λ (x : Key). reaches lo x ≡ true) key there.0)

      before_end : m < s + n
      before_end = ⊎_elim (λ (u : m < s + n). u)
          (λ (u : s + n ≤ m). absurd (false≢true (sym (not_before_from_reaches hi (block_key p m) (block_reaches p (s + n) m (omega arith) (let l : m < most_blocks = few in omega arith) u)) ∙ subst (λ (x : Key). before x hi ≡ true) key there.1)))
          (cases_lt m (s + n))

      -- the number is one that is asked for
      pub share_within : (m < next) ⊎ (s + n ≤ m) → ⊥
      share_within (inl u) = let l : next ≤ m = after_next in omega arith
      share_within (inr u) = let l : m < s + n = before_end in omega arith

      module _ (z : Key) (z_is : z ≡ block_key q (t + (m - s))) where
        abbrev more : Messages
        more = ms ++ Put z v ∷ []

        put_effect : (x : Key) → after more d x ≡ cond (same z x) (Some v) (after ms d x)
        put_effect x = effects-append means ms (Put z v ∷ []) x (d x)

        -- another block is not changed
        others : (x : Key) → (z ≡ x → ⊥) → after more d x ≡ after ms d x
        others x ne = put_effect x ∙ ap (λ (b : Bool). cond b (Some v) (after ms d x)) (same_false z x ne)

        apart : (j : ℕ) → j < n → (s + j ≡ m → ⊥) → z ≡ block_key q (t + j) → ⊥
        apart j lj ne e =
            let l : m < s + n = before_end in
            let g : next ≤ m = after_next in
            let i : (q ≡ q) × (t + (m - s) ≡ t + j) = block_key_injective q q (t + (m - s)) (t + j) is_q.names is_q.names (omega arith) (omega arith) (sym z_is ∙ e) in
            let f : t + (m - s) ≡ t + j = i.1 in
            ne (omega arith)

        pub share_goes_on : (lo2 : Key) → lo2 ≡ next_key k → (ms2 : Messages) → ms2 ≡ more → Shared d p s q t n lo2 (m + 1) ms2
        share_goes_on lo2 lo_is ms2 ms_is = subst (λ (l : Key). Shared d p s q t n l (m + 1) ms2) (sym lo_is) (subst (Shared d p s q t n (next_key k) (m + 1)) (sym ms_is) (record {
          begins = le_le (block_key p s) lo (next_key k) w.begins (le_le lo k (next_key k) there.0 (reaches-from_before k (next_key k) (before-next k)));
          ahead = λ i li le. reaches-next k (block_key p i) ∙ subst (λ (x : Key). before x (block_key p i) ≡ true) (sym key) (block_before p is_p m i (let l : m < most_blocks = few in omega arith) (omega arith) (omega arith));
          behind = λ i li e. ⊎_elim
              (λ (u : m < i). omega arith)
              (λ (u : i ≤ m). absurd (false≢true (sym (not_before_from_reaches (block_key p i) (block_key p m) (block_reaches p i m (omega arith) (let l : m < most_blocks = few in omega arith) u)) ∙ subst (λ (x : Key). before x (block_key p i) ≡ true) key (sym (reaches-next k (block_key p i)) ∙ e))))
              (cases_lt m i);
          put = λ j lj. put_one j lj;
          gone = λ j lj le. others (block_key q (t + j)) (apart j lj (λ e. omega (arith, le, e))) ∙ w.gone j lj (let g : next ≤ m = after_next in omega (arith, le));
          elsewhere = λ x out. others x (λ e. out (m - s) (let l : m < s + n = before_end in let g : next ≤ m = after_next in omega arith) (sym e ∙ z_is)) ∙ w.elsewhere x out;
        }))
          where
            put_one : (j : ℕ) → s + j < m + 1 → after more d (block_key q (t + j)) ≡ d (block_key p (s + j))
            put_one j lj = ⊎_elim
                (λ (u : s + j < m).
                let l : m < s + n = before_end in
                others (block_key q (t + j)) (apart j (omega arith) (λ e. omega (arith, u, e)))
                ∙ ⊎_elim
                (λ (x : s + j < next). w.put j x)
                (λ (x : next ≤ s + j). w.gone j (omega arith) x ∙ sym (none_between k first.2 (s + j) (omega arith) x (subst (λ (y : Key). before (block_key p (s + j)) y ≡ true) (sym key) (block_before p is_p (s + j) m (omega arith) (omega arith) u))))
                (cases_lt (s + j) next))
                (λ (u : m ≤ s + j).
                let is : s + j ≡ m = omega (arith, lj, u) in
                let at_q : t + (m - s) ≡ t + j = omega (arith, is) in
                put_effect (block_key q (t + j)) ∙ ap (λ (b : Bool). cond b (Some v) (after ms d (block_key q (t + j)))) (same_from_eq z (block_key q (t + j)) (z_is ∙ ap (block_key q) at_q))
                ∙ sym first.1 ∙ ap d (key ∙ ap (block_key p) (sym is)))
                (cases_lt (s + j) m)

-- ---- what a walk finds, in the range as it was named

module _ {V : Type 0} (f : Key → Option V) (lo : Key) (hi : Option Key) (end : Key) (is_end : hi ≡ Some end) (r : Option (Key × V)) where
  pub found_first : (p : Key × V) → r ≡ Some p → IsFirst f lo hi r → IsFirst f lo (Some end) (Some p)
  found_first p is h = subst (λ (x : Option (Key × V)). IsFirst f lo (Some end) x) is (subst (λ (x : Option Key). IsFirst f lo x r) is_end h)

  pub found_none : r ≡ None → IsFirst f lo hi r → HasNone f lo (Some end)
  found_none is h = subst (λ (x : Option (Key × V)). IsFirst f lo (Some end) x) is (subst (λ (x : Option Key). IsFirst f lo x r) is_end h)

-- no message deletes no block
pub takes_none : (q : Path) (t n : ℕ) (ms : Messages) → TakesOut q t (t + n) ms → n ≡ 0 → ms ≡ []
takes_none q t n ms (inl (less, none)) e = none
takes_none q t n ms (inr (less, is)) e = absurd (omega (arith, less, e))
