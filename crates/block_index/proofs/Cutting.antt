-- What the messages of a cut make of the block half of a tree.
use Rattle.std.proofs.Common.{◌≡◌, ◌≢◌, ℕ, ◌+◌, ◌-◌, ◌*◌, ◌/◌, ◌%◌, ◌^◌, ◌<◌, ◌≤◌, List, [], ◌∷◌, length, take, true, false, Bool, cond, leb, sym, ap, refl, ◌∙◌, inl, ⊎_elim, Option, Some, None, arith}
use Rattle.std.specs.Prelude.{option_map}
use Rattle.std.proofs.lemmas.List.{take_all}
use Rattle.std.proofs.lemmas.Bool.{cases_lt, leb-true, leb-false, eq-eqb, ne_eqb, false_from_ne_true}
use Rattle.message.specs.declared.msg.Msg.TheVariants.{Edit, DelRange}
use Rattle.pathkey.specs.Names.{Path, IsPath}
use Rattle.pathkey.specs.Keys.{Key, block_key, blocks_from, is_in}
use Rattle.pathkey.specs.Order.{same}
use Rattle.pathkey.proofs.OrderFacts.{same_true, same_from_eq}
use Rattle.pathkey.proofs.KeyFacts.{block_key_injective, block_in_blocks, block_in_blocks_from}
use Rattle.reference.specs.Tree.{Tree}
use Rattle.reference.specs.Indexes.{Blocks, BlocksMean, BlockOf, most_blocks, cut_block, cleared}
use Rattle.reference.proofs.BlockRanges.{cleared_some}
use Rattle.block_index.specs.declared.update.BlockUpdate.TheVariants.{CutTo}
use Rattle.block_index.specs.Changed.{cuts, CutsWhereMeant}

-- a block of the block half of a tree has at most 4,096 bytes
pub short_block : (t : Tree) (d : Blocks) (k : Key) (v : List ℕ) → BlocksMean t d → d k ≡ Some v → length v ≤ 4096
short_block t d k v means_t e =
    let o : BlockOf t k = means_t.only_blocks k v e in
    ⊎_elim
    (λ (l : 4096 < length v). let s : (4096 < 4096) × (4096 * o.index + 4096 < length o.bytes) = (means_t.blocks o.path o.bytes o.is_path o.file).within o.index v 4096 o.few (ap d (sym o.key) ∙ e) l in absurd (let z : 4096 < 4096 = s.0 in omega arith))
    (λ (l : length v ≤ 4096). l)
    (cases_lt 4096 (length v))

-- to take more bytes than a block has changes nothing
kept_whole : (o : Option (List ℕ)) (n : ℕ) → 4096 ≤ n → ((v : List ℕ) → o ≡ Some v → length v ≤ 4096) → option_map (take n) o ≡ o
kept_whole None n h short = refl
kept_whole (Some v) n h short = ap (λ (z : List ℕ). Some z) (take_all n v (let l : length v ≤ 4096 = short v refl in omega arith))

cut_to_none : (n i : ℕ) (o : Option (List ℕ)) → n ≤ 4096 * i → cut_block n i o ≡ None
cut_to_none n i o h = elim (leb n (4096 * i)) as (λ t. leb n (4096 * i) ≡ t → cond t None (option_map (take (n - 4096 * i)) o) ≡ None) [
  | true ↦ λ e. refl
  | false ↦ λ e. let l : 4096 * i < n = leb-false n (4096 * i) e in absurd (omega arith)
] refl

cut_to_some : (n i : ℕ) (o : Option (List ℕ)) → 4096 * i < n → cut_block n i o ≡ option_map (take (n - 4096 * i)) o
cut_to_some n i o h = elim (leb n (4096 * i)) as (λ t. leb n (4096 * i) ≡ t → cond t None (option_map (take (n - 4096 * i)) o) ≡ option_map (take (n - 4096 * i)) o) [
  | true ↦ λ e. let l : n ≤ 4096 * i = leb-true n (4096 * i) e in absurd (omega arith)
  | false ↦ λ e. refl
] refl

-- a range of later blocks holds them, and not the earlier ones
later_in : (p : Path) (a j : ℕ) → a < 2 ^ 32 → j < most_blocks → a ≤ j → is_in (blocks_from p a) (block_key p j) ≡ true
later_in p a j h l g = block_in_blocks_from p p a j h (omega arith) (refl, g)

earlier_out : (p : Path) (a j : ℕ) → IsPath p → a < 2 ^ 32 → j < most_blocks → j < a → is_in (blocks_from p a) (block_key p j) ≡ false
earlier_out p a j is_path h l g = false_from_ne_true _ (λ e. let s : (p ≡ p) × (a ≤ j) = block_in_blocks p p a j is_path.names is_path.names h (omega arith) e in let z : a ≤ j = s.1 in omega arith)

-- a key with a value that is not that of a block of p is in no range of its blocks
outside : (t : Tree) (d : Blocks) (p : Path) (a : ℕ) (k : Key) → IsPath p → a < 2 ^ 32 → BlocksMean t d → ((i : ℕ) → i < most_blocks → k ≡ block_key p i → ⊥) → cleared (blocks_from p a) d k ≡ d k
outside t d p a k is_path h means_t out = elim (is_in (blocks_from p a) k) as (λ b. is_in (blocks_from p a) k ≡ b → cond b None (d k) ≡ d k) [
  | false ↦ λ e. refl
  | true ↦ λ e. sym (none e (d k) refl)
] refl
  where
    none : is_in (blocks_from p a) k ≡ true → (o : Option (List ℕ)) → d k ≡ o → o ≡ None
    none e None f = refl
    none e (Some v) f =
        let o : BlockOf t k = means_t.only_blocks k v f in
        let few : o.index < most_blocks = o.few in
        let is : (o.path ≡ p) × (a ≤ o.index) = block_in_blocks p o.path a o.index is_path.names o.is_path.names h (omega arith) (ap (is_in (blocks_from p a)) (sym o.key) ∙ e) in
        absurd (out o.index o.few (o.key ∙ ap (λ (x : Path). block_key x o.index) is.0))

-- a cut between two blocks
pub cut_whole : (p : Path) (n a : ℕ) → IsPath p → n ≤ 2 ^ 40 → n ≡ 4096 * a → CutsWhereMeant n p (DelRange (blocks_from p a) ∷ [])
cut_whole p n a is_path few e = λ t d means_t. record {
  block = λ j lj. ⊎_elim
      (λ (x : j < a). ap (λ (b : Bool). cond b None (d (block_key p j))) (earlier_out p a j is_path (omega arith) lj x)
      ∙ sym (cut_to_some n j (d (block_key p j)) (omega arith) ∙ kept_whole (d (block_key p j)) (n - 4096 * j) (omega arith) (λ v f. short_block t d (block_key p j) v means_t f)))
      (λ (x : a ≤ j). ap (λ (b : Bool). cond b None (d (block_key p j))) (later_in p a j (omega arith) lj x) ∙ sym (cut_to_none n j (d (block_key p j)) (omega arith)))
      (cases_lt j a);
  elsewhere = λ k out. outside t d p a k is_path (omega arith) means_t out;
  only = λ k v f. inl (v, (cleared_some (is_in (blocks_from p a) k) (d k) v f).1);
}

map_some : (o : Option (List ℕ)) (r : ℕ) (v : List ℕ) → option_map (take r) o ≡ Some v → (u : List ℕ) × (o ≡ Some u)
map_some None r v e = absurd (cc)
map_some (Some u) r v e = (u, refl)

cut_some : (b : Bool) (o : Option (List ℕ)) (r : ℕ) (v : List ℕ) → cond b (option_map (take r) o) o ≡ Some v → (u : List ℕ) × (o ≡ Some u)
cut_some true o r v e = map_some o r v e
cut_some false o r v e = (v, e)

-- a cut within a block
pub cut_part : (p : Path) (n i r : ℕ) → IsPath p → n ≤ 2 ^ 40 → 0 < r → r < 4096 → n ≡ 4096 * i + r → CutsWhereMeant n p (Edit (block_key p i) (CutTo r) ∷ DelRange (blocks_from p (i + 1)) ∷ [])
cut_part p n i r is_path few some less e = λ t d means_t. record {
  block = λ j lj. ⊎_elim
      (λ (x : j < i). ap (λ (b : Bool). cond b None (cond (same (block_key p i) (block_key p j)) (option_map (take r) (d (block_key p j))) (d (block_key p j)))) (earlier_out p (i + 1) j is_path (omega arith) lj (omega arith))
      ∙ ap (λ (b : Bool). cond b (option_map (take r) (d (block_key p j))) (d (block_key p j))) (differs j lj (omega arith))
      ∙ sym (cut_to_some n j (d (block_key p j)) (omega arith) ∙ kept_whole (d (block_key p j)) (n - 4096 * j) (omega arith) (λ v f. short_block t d (block_key p j) v means_t f)))
      (λ (x : i ≤ j). ⊎_elim
      (λ (y : i < j). ap (λ (b : Bool). cond b None (cond (same (block_key p i) (block_key p j)) (option_map (take r) (d (block_key p j))) (d (block_key p j)))) (later_in p (i + 1) j (omega arith) lj (omega arith)) ∙ sym (cut_to_none n j (d (block_key p j)) (omega arith)))
      (λ (y : j ≤ i). let q : i ≡ j = omega arith in
      let s : r ≡ n - 4096 * j = omega arith in
      ap (λ (b : Bool). cond b None (cond (same (block_key p i) (block_key p j)) (option_map (take r) (d (block_key p j))) (d (block_key p j)))) (earlier_out p (i + 1) j is_path (omega arith) lj (omega arith))
      ∙ ap (λ (b : Bool). cond b (option_map (take r) (d (block_key p j))) (d (block_key p j))) (same_from_eq (block_key p i) (block_key p j) (ap (λ (m : ℕ). block_key p m) q))
      ∙ ap (λ (m : ℕ). option_map (take m) (d (block_key p j))) s
      ∙ sym (cut_to_some n j (d (block_key p j)) (omega arith)))
      (cases_lt i j))
      (cases_lt j i);
  elsewhere = λ k out.
      ap (λ (b : Bool). cond (is_in (blocks_from p (i + 1)) k) None (cond b (option_map (take r) (d k)) (d k))) (false_from_ne_true (same (block_key p i) k) (λ f. out i (omega arith) (sym (same_true (block_key p i) k f))))
      ∙ outside t d p (i + 1) k is_path (omega arith) means_t out;
  only = λ k v f. inl (cut_some (same (block_key p i) k) (d k) r v (cleared_some (is_in (blocks_from p (i + 1)) k) (cond (same (block_key p i) k) (option_map (take r) (d k)) (d k)) v f).1);
}
  where
    differs : (j : ℕ) → j < most_blocks → j < i → same (block_key p i) (block_key p j) ≡ false
    differs j lj x = false_from_ne_true _ (λ f. let s : (p ≡ p) × (i ≡ j) = block_key_injective p p i j is_path.names is_path.names (omega arith) (omega arith) (same_true (block_key p i) (block_key p j) f) in let z : i ≡ j = s.1 in omega arith)

-- ---- the list of messages
-- a cut between two blocks is one range-delete
pub cuts_between : (p : Path) (n a : ℕ) → n / 4096 ≡ a → n % 4096 ≡ 0 → cuts p n ≡ DelRange (blocks_from p a) ∷ []
cuts_between p n a e z =
    ap (λ (b : Bool). cond b (DelRange (blocks_from p (n / 4096)) ∷ []) (Edit (block_key p (n / 4096)) (CutTo (n % 4096)) ∷ DelRange (blocks_from p (n / 4096 + 1)) ∷ [])) (eq-eqb (n % 4096) 0 z)
    ∙ ap (λ (i : ℕ). DelRange (blocks_from p i) ∷ []) e

-- a cut inside a block shortens it first
pub cuts_inside : (p : Path) (n : ℕ) → n % 4096 ≢ 0 → cuts p n ≡ Edit (block_key p (n / 4096)) (CutTo (n % 4096)) ∷ DelRange (blocks_from p (n / 4096 + 1)) ∷ []
cuts_inside p n z =
    ap (λ (b : Bool). cond b (DelRange (blocks_from p (n / 4096)) ∷ []) (Edit (block_key p (n / 4096)) (CutTo (n % 4096)) ∷ DelRange (blocks_from p (n / 4096 + 1)) ∷ [])) (ne_eqb (n % 4096) 0 z)
