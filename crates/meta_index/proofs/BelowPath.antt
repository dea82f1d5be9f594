-- What is below a path: its keys, and the entries of the directory there.
use Rattle.std.proofs.Common.{◌≡◌, ◌==◌, ℕ, suc, ◌<◌, length, arith, List, [], ◌∷◌, ◌++◌, Bool, true, false, not, cond, refl, sym, ap, subst, ◌∙◌, Option, Some, None, append-nil}
use Rattle.std.specs.Prelude.{fold}
use Rattle.std.specs.Option.{is_some}
use Rattle.std.specs.Ordering.{is_le}
use Rattle.std.proofs.lemmas.Bool.{and_parts, and_from, ne_eqb}
use Rattle.pathkey.specs.Order.{by_bytes}
use Rattle.pathkey.specs.Names.{Name, Path, EachName, IsPath}
use Rattle.pathkey.specs.Keys.{Key, enc, is_in, is_below, next_key, subtree}
use Rattle.pathkey.proofs.OrderFacts.{same_itself}
use Rattle.pathkey.proofs.KeyFacts.{enc-append, path_in_subtree, path_in_subtree_from, same_beginning}
use Rattle.pathkey.proofs.KeyOrder.{le_le, not_reaches_from_before, reaches-from_before}
use Rattle.message.specs.Ranges.{reaches, within}
use Rattle.scan.specs.Pairs.{IsScan}
use Rattle.scan.proofs.AtHand.{found_none}
use Rattle.message.proofs.NextKey.{before-next, reaches-next}
use Rattle.reference.specs.Tree.{Tree, Dir, File, nothing, entry, entry_at, named, found, onward, At, Found, Missing, Blocked}
use Rattle.reference.specs.Calls.{is_full}
use Rattle.reference.specs.Reads.{sighted, sight}
use Rattle.reference.specs.Indexes.{meta_of, PathOf}
use Rattle.reference.specs.declared.reply.Meta.{Meta}
use Rattle.reference.proofs.Edits.{fold-Missing, fold-Blocked}
use Rattle.reference.proofs.EntryPaths.{along}
use Rattle.meta_index.specs.declared.index.MetaIndex.{MetaIndex}
use Rattle.meta_index.specs.Below.{below, HasPair}
use Rattle.meta_index.specs.Means.{metadata, IsMeantBy}

-- ---- keys

pub subtree_low : (p : Path) → (subtree p).lo ≡ enc p
subtree_low [] = refl
subtree_low (n ∷ p) = refl

least : (k : Key) (b : ℕ) → is_le (by_bytes (0 ∷ []) (b ∷ k)) ≡ true
least k b = reaches-next [] (b ∷ k)

least_name : (n : Name) (k : Key) → is_le (by_bytes (0 ∷ []) (n ++ 0 ∷ k)) ≡ true
least_name [] k = least k 0
least_name (b ∷ n) k = least (n ++ 0 ∷ k) b

-- the keys of paths below a path are in the range below it
pub in_below : (p : Path) (n : Name) (r : Path) → within (below p).lo (below p).hi (enc (p ++ n ∷ r)) ≡ true
in_below p n r =
    let low : reaches (next_key (enc p)) (enc (p ++ n ∷ r)) ≡ true = subst (λ (k : Key). reaches (next_key (enc p)) k ≡ true) (sym (enc-append p (n ∷ r))) (same_beginning (enc p) (0 ∷ []) (enc (n ∷ r)) (least_name n (enc r))) in
    let whole : is_in (subtree p) (enc (p ++ n ∷ r)) ≡ true = path_in_subtree_from p (p ++ n ∷ r) (n ∷ r) refl in
    and_from _ _ low (and_parts _ _ whole).1

-- and no other path's key is
pub from_below : (p q : Path) → EachName p → EachName q → within (below p).lo (below p).hi (enc q) ≡ true → (n : Name) × (r : Path) × (q ≡ p ++ n ∷ r)
from_below p q u v h =
    let parts : (reaches (next_key (enc p)) (enc q) ≡ true) × (is_below (enc q) (below p).hi ≡ true) = and_parts _ _ h in
    let low : reaches (enc p) (enc q) ≡ true = le_le (enc p) (next_key (enc p)) (enc q) (reaches-from_before (enc p) (next_key (enc p)) (before-next (enc p))) parts.0 in
    let whole : is_in (subtree p) (enc q) ≡ true = and_from _ _ (subst (λ (k : Key). reaches k (enc q) ≡ true) (sym (subtree_low p)) low) parts.1 in
    let under : (r : Path) × (q ≡ p ++ r) = path_in_subtree p q u v whole in
    split under.0 under.1 parts.0
  where
    split : (r : Path) → q ≡ p ++ r → reaches (next_key (enc p)) (enc q) ≡ true → (n : Name) × (r : Path) × (q ≡ p ++ n ∷ r)
    split [] e f = absurd (
        let is : enc q ≡ enc p = ap enc (e ∙ append-nil p) in
        let never : reaches (next_key (enc p)) (enc p) ≡ false = not_reaches_from_before (enc p) (next_key (enc p)) (before-next (enc p)) in
        let g : reaches (next_key (enc p)) (enc p) ≡ true = sym (ap (reaches (next_key (enc p))) is) ∙ f in
        cc)
    split (n ∷ r) e f = (n, r, e)

-- ---- entries

-- an entry that a directory has
pub record EntryOf (here : At) : Type 0 where
  pub name : Name
  pub tree : Tree
  pub stands : onward here name ≡ Found tree

-- what is full has an entry
pub full_entry : (here : At) → is_full here ≡ true → EntryOf here
full_entry (Found (Dir date nothing)) h = absurd (cc)
full_entry (Found (Dir date (entry n x es))) h = record { name = n; tree = x; stands = ap (λ (b : Bool). found (cond b (Some x) (named n es))) (same_itself n) }
full_entry (Found (File date b)) h = absurd (cc)
full_entry Missing h = absurd (cc)
full_entry Blocked h = absurd (cc)

-- what is not full has nothing below it
pub nothing_below : (here : At) (n : Name) (r : Path) → is_full here ≡ false → sighted (fold onward here (n ∷ r)) ≡ None
nothing_below (Found (Dir date nothing)) n r h = ap sighted (fold-Missing r)
nothing_below (Found (Dir date (entry m x es))) n r h = absurd (cc)
nothing_below (Found (File date b)) n r h = ap sighted (fold-Blocked r)
nothing_below Missing n r h = ap sighted (fold-Missing r)
nothing_below Blocked n r h = ap sighted (fold-Blocked r)

pub seen_some : (x : Tree) → meta_of (sighted (Found x)) ≡ None → ⊥
seen_some (Dir date es) e = cc
seen_some (File date b) e = cc

-- a value that was found at a key of a range is a pair of the range
pub pair_at : (f : List ℕ → Option Meta) (lo : List ℕ) (hi : Option (List ℕ)) (k : List ℕ) (o : Option Meta) (b : Bool) → within lo hi k ≡ true → o ≡ f k → b ≡ is_some o → b ≡ true → HasPair f lo hi
pair_at f lo hi k None b w e s t = absurd (cc)
pair_at f lo hi k (Some v) b w e s t = record { key = k; value = v; inside = w; stands = sym e }

-- if a key below a path has a value, there is a directory with entries at the path
pub occupied : (t : Tree) (m : MetaIndex) (p : Path) → IsPath p → IsMeantBy t m → HasPair (metadata m) (below p).lo (below p).hi → is_full (entry_at t p) ≡ true
occupied t m p is_path means x = elim (is_full (entry_at t p)) as (λ b. is_full (entry_at t p) ≡ b → b ≡ true) [
  | true ↦ λ full. refl
  | false ↦ λ empty. absurd (
      let of : PathOf x.key = means.meta.only_paths x.key x.value x.stands in
      let inside : within (below p).lo (below p).hi (enc of.path) ≡ true = subst (λ (k : Key). within (below p).lo (below p).hi k ≡ true) of.key x.inside in
      let rest : (n : Name) × (r : Path) × (of.path ≡ p ++ n ∷ r) = from_below p of.path is_path.names of.is_path.names inside in
      let unseen : sight t of.path ≡ None = ap (sight t) rest.2 ∙ ap sighted (along t p (rest.0 ∷ rest.1)) ∙ nothing_below (entry_at t p) rest.0 rest.1 empty in
      let clash : None ≡ Some x.value = sym (ap meta_of unseen) ∙ sym (means.meta.paths of.path of.is_path) ∙ sym (ap (metadata m) of.key) ∙ x.stands in
      cc)
] refl

-- whether a scan of the keys below a path finds a pair shows whether there is a directory with entries there
pub emptiness : (t : Tree) (m : MetaIndex) (p : Path) (n : ℕ) (ps : List (Key × Meta)) → 0 < n → IsPath p → IsMeantBy t m → IsScan (metadata m) (below p).lo (below p).hi n ps → (length ps == 0) ≡ not (is_full (entry_at t p))
emptiness t m p n ps some_wanted is_path means s = elim (is_full (entry_at t p)) as (λ b. is_full (entry_at t p) ≡ b → (length ps == 0) ≡ not b) [
  | true ↦ λ full. some ps s full
  | false ↦ λ empty. none ps s empty
] refl
  where
    some : (qs : List (Key × Meta)) → IsScan (metadata m) (below p).lo (below p).hi n qs → is_full (entry_at t p) ≡ true → (length qs == 0) ≡ false
    some [] q full = absurd (
        let e : EntryOf (entry_at t p) = full_entry (entry_at t p) full in
        let there : entry_at t (p ++ e.name ∷ []) ≡ Found e.tree = along t p (e.name ∷ []) ∙ e.stands in
        let meta : metadata m (enc (p ++ e.name ∷ [])) ≡ meta_of (sight t (p ++ e.name ∷ [])) = means.meta.paths (p ++ e.name ∷ []) (means.tree.paths (p ++ e.name ∷ []) e.tree there) in
        seen_some e.tree (sym (ap (λ (a : At). meta_of (sighted a)) there) ∙ sym meta ∙ found_none (metadata m) (below p).lo (below p).hi n some_wanted q (enc (p ++ e.name ∷ [])) (in_below p e.name [])))
    some (x ∷ qs) q full = ne_eqb (suc (length qs)) 0 (λ e. cc)

    none : (qs : List (Key × Meta)) → IsScan (metadata m) (below p).lo (below p).hi n qs → is_full (entry_at t p) ≡ false → (length qs == 0) ≡ true
    none [] q empty = refl
    none (x ∷ qs) q empty = absurd (
        let found : (within (below p).lo (below p).hi x.0 ≡ true) × (metadata m x.0 ≡ Some x.1) = q.sound 0 x (omega (arith)) in
        let full : is_full (entry_at t p) ≡ true = occupied t m p is_path means (record { key = x.0; value = x.1; inside = found.0; stands = found.1 }) in
        cc)
