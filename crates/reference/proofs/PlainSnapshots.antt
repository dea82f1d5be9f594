-- The snapshots of the plain program's world, as a map of trees.
use Rattle.std.proofs.Common.{◌≡◌, ℕ, List, [], ◌∷◌, Bool, true, false, cond, Option, Some, None, length, ◌+◌, arith, refl, sym, ap, ◌∙◌}
use Rattle.std.specs.Prelude.{is_some}
use Rattle.std.specs.Borrow.{Bor}
use Rattle.std.specs.declared.cmp.Ordering.{Ordering}
use Rattle.std.specs.declared.cmp.Ordering.TheVariants.{Less}
use Rattle.std.specs.List.{AllByRecursion}
use Rattle.std.specs.Option.{option_map, option_copied}
use Rattle.std.specs.Ordering.{eq_by_cmp, is_eq}
use Rattle.std.specs.Cmp.{eq_by_cmp_equiv}
use Rattle.std.specs.List.Sorted.{IsStrictlySortedBy}
use Rattle.std.specs.FinMap as finite
use Rattle.std.specs.Map.{lookup, keys_of}
use Rattle.std.specs.BTreeMap.{BTreeMap, is_at}
use Rattle.std.specs.BTreeMap as tree
use Rattle.std.proofs.lemmas.Cmp.{nat_list_cmp_total}
use Rattle.pathkey.specs.Order.{by_bytes}
use Rattle.reference.specs.Tree.{Tree}
use Rattle.reference.specs.Plain.{tree_of, tree_found}
use Rattle.reference.specs.PlainWorlds.{trees_of, snapshots_of}
use Rattle.reference.specs.declared.plain.tree.Tree.{Tree as PlainTree}

-- a look-up in the trees that were read is the one in those that were kept, read
find-trees_of : (q : List ℕ) (kept : List (List ℕ × PlainTree)) → finite.find by_bytes q (trees_of kept) ≡ option_map tree_of (lookup (is_at (by_bytes q)) kept)
find-trees_of q [] = refl
find-trees_of q (e ∷ kept) =
    elim (is_eq (by_bytes q e.0)) as (λ b. cond b (Some (tree_of e.1)) (finite.find by_bytes q (trees_of kept)) ≡ option_map tree_of (cond b (Some e.1) (lookup (is_at (by_bytes q)) kept))) [
      | true ↦ refl
      | false ↦ find-trees_of q kept
    ]

-- the tree of a name
pub get-snapshots_of : (m : BTreeMap (List ℕ) PlainTree) (q : List ℕ) → finite.get (snapshots_of m) q ≡ option_map tree_of (tree.get by_bytes m q)
get-snapshots_of m q = finite.get-from_entries nat_list_cmp_total (trees_of m.entries) q ∙ find-trees_of q m.entries

-- a tree that was found, as what the map has
pub found_copied : (r : Option (Bor PlainTree)) → tree_found r ≡ option_map tree_of (option_copied r)
found_copied None = refl
found_copied (Some x) = refl

-- reading goes into a choice
chosen : (b : Bool) (x y : Option PlainTree) → option_map tree_of (cond b x y) ≡ cond b (option_map tree_of x) (option_map tree_of y)
chosen true x y = refl
chosen false x y = refl

-- one name that has another tree, or none
updated : (m n : BTreeMap (List ℕ) PlainTree) (s : List ℕ) (w : Option PlainTree) → tree.Updates by_bytes m n s w → (q : List ℕ) → finite.get (snapshots_of n) q ≡ cond (eq_by_cmp by_bytes q s) (option_map tree_of w) (finite.get (snapshots_of m) q)
updated m n s w u q =
    get-snapshots_of n q
    ∙ ap (option_map tree_of) (u.0 q)
    ∙ chosen (eq_by_cmp by_bytes s q) w (tree.get by_bytes m q)
    ∙ ap (λ (b : Bool). cond b (option_map tree_of w) (option_map tree_of (tree.get by_bytes m q))) ((eq_by_cmp_equiv nat_list_cmp_total).symm s q)
    ∙ ap (λ (o : Option Tree). cond (eq_by_cmp by_bytes q s) (option_map tree_of w) o) (sym (get-snapshots_of m q))

-- names that byte order does not tell apart are one
pub bytes_differ : finite.IsAntisymmetric by_bytes
bytes_differ = finite.slice_cmp-IsAntisymmetric finite.nat_cmp-IsAntisymmetric

-- a name that is given a tree
pub inserted : (m n : BTreeMap (List ℕ) PlainTree) (s : List ℕ) (x : PlainTree) → tree.Updates by_bytes m n s (Some x) → snapshots_of n ≡ finite.insert (snapshots_of m) s (tree_of x)
inserted m n s x u =
    finite.same_map nat_list_cmp_total bytes_differ (snapshots_of n) (finite.insert (snapshots_of m) s (tree_of x))
    (λ q. updated m n s (Some x) u q ∙ sym (finite.get-insert nat_list_cmp_total (snapshots_of m) s (tree_of x) q))

-- a name that is taken out
pub removed : (m n : BTreeMap (List ℕ) PlainTree) (s : List ℕ) → tree.Updates by_bytes m n s None → snapshots_of n ≡ finite.remove (snapshots_of m) s
removed m n s u =
    finite.same_map nat_list_cmp_total bytes_differ (snapshots_of n) (finite.remove (snapshots_of m) s)
    (λ q. updated m n s None u q ∙ sym (finite.get-remove nat_list_cmp_total (snapshots_of m) s q))

-- a name below all that are kept is not among them
find-above : (s : List ℕ) (kept : List (List ℕ × PlainTree)) → AllByRecursion (λ k. by_bytes s k ≡ Less) (keys_of kept) → finite.find by_bytes s (trees_of kept) ≡ None
find-above s [] h = refl
find-above s (e ∷ kept) h =
    ap (λ (o : Ordering). cond (is_eq o) (Some (tree_of e.1)) (finite.find by_bytes s (trees_of kept))) h.0 ∙ find-above s kept h.1

-- as many names as entries, where the names rise
len-from_entries : (kept : List (List ℕ × PlainTree)) → IsStrictlySortedBy by_bytes (keys_of kept) → finite.len (finite.from_entries {R = by_bytes} (trees_of kept)) ≡ length kept
unfolding IsStrictlySortedBy
len-from_entries [] h = finite.len-empty by_bytes Tree
len-from_entries (e ∷ kept) h =
    let rest : finite.FinMap by_bytes Tree = finite.from_entries (trees_of kept) in
    let fresh : finite.get rest e.0 ≡ None = finite.get-from_entries nat_list_cmp_total (trees_of kept) e.0 ∙ find-above e.0 kept h.0 in
    let grown : finite.len (finite.insert rest e.0 (tree_of e.1)) ≡ finite.len rest + 1 =
    finite.len-insert nat_list_cmp_total rest e.0 (tree_of e.1) ∙ ap (λ (o : Option Tree). cond (is_some o) (finite.len rest) (finite.len rest + 1)) fresh
    in
    omega (arith, grown, len-from_entries kept h.1)

-- likewise for a world's snapshots
pub len-snapshots_of : (m : BTreeMap (List ℕ) PlainTree) → tree.IsOrdered by_bytes m → finite.len (snapshots_of m) ≡ length m.entries
len-snapshots_of m o = len-from_entries m.entries o
