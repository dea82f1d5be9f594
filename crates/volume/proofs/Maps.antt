-- The entries of a map of indexes, as a finite map.
use Rattle.std.proofs.Common.{◌≡◌, ◌↔◌, ℕ, List, [], ◌∷◌, Bool, true, false, T, ◌&&◌, cond, Contains, IsSome, Option, Some, None, length, map, ◌+◌, arith, refl, sym, ap, subst, ◌∙◌}
use Rattle.std.specs.Prelude.{is_some}
use Rattle.std.specs.declared.cmp.Ordering.{Ordering}
use Rattle.std.specs.declared.cmp.Ordering.TheVariants.{Less}
use Rattle.std.specs.List.{AllByRecursion}
use Rattle.std.specs.Ordering.{eq_by_cmp, is_eq, is_lt}
use Rattle.std.specs.Cmp.{eq_by_cmp_equiv}
use Rattle.std.specs.List.Sorted.{IsStrictlySortedBy}
use Rattle.std.specs.FinMap as finite
use Rattle.std.specs.FinMap.Entries.{below_all}
use Rattle.std.specs.Map.{lookup, keys_of}
use Rattle.std.specs.BTreeMap.{BTreeMap, is_at}
use Rattle.std.specs.BTreeMap as tree
use Rattle.std.proofs.lemmas.Cmp.{nat_list_cmp_total}
use Rattle.std.proofs.lemmas.Map.Views.{btree_map_contains_key_iff}
use Rattle.pathkey.specs.Order.{by_bytes}
use Rattle.reference.proofs.PlainSnapshots.{bytes_differ}
use Rattle.volume.specs.Volumes.{AreNames, Kept, snapshot_root, names_in}
use Rattle.volume.specs.declared.fs_root.FsRoot.{FsRoot}

-- a look-up among the entries is the map's
find-lookup : (q : List ℕ) (es : List (List ℕ × FsRoot)) → finite.find by_bytes q es ≡ lookup (is_at (by_bytes q)) es
find-lookup q [] = refl
find-lookup q (e ∷ es) = ap (λ (o : Option FsRoot). cond (is_eq (by_bytes q e.0)) (Some e.1) o) (find-lookup q es)

pub get-snapshot_root : (m : BTreeMap (List ℕ) FsRoot) (q : List ℕ) → finite.get (snapshot_root m) q ≡ tree.get by_bytes m q
get-snapshot_root m q = finite.get-from_entries nat_list_cmp_total m.entries q ∙ find-lookup q m.entries

-- one name gets other indexes or is removed
updated : (m n : BTreeMap (List ℕ) FsRoot) (s : List ℕ) (w : Option FsRoot) → tree.Updates by_bytes m n s w → (q : List ℕ) → finite.get (snapshot_root n) q ≡ cond (eq_by_cmp by_bytes q s) w (finite.get (snapshot_root m) q)
updated m n s w u q =
    get-snapshot_root n q
    ∙ u.0 q
    ∙ ap (λ (b : Bool). cond b w (tree.get by_bytes m q)) ((eq_by_cmp_equiv nat_list_cmp_total).symm s q)
    ∙ ap (λ (o : Option FsRoot). cond (eq_by_cmp by_bytes q s) w o) (sym (get-snapshot_root m q))

-- a name that gets indexes
pub inserted : (m n : BTreeMap (List ℕ) FsRoot) (s : List ℕ) (x : FsRoot) → tree.Updates by_bytes m n s (Some x) → snapshot_root n ≡ finite.insert (snapshot_root m) s x
inserted m n s x u =
    finite.same_map nat_list_cmp_total bytes_differ (snapshot_root n) (finite.insert (snapshot_root m) s x)
    (λ q. updated m n s (Some x) u q ∙ sym (finite.get-insert nat_list_cmp_total (snapshot_root m) s x q))

-- a name that is removed
pub removed : (m n : BTreeMap (List ℕ) FsRoot) (s : List ℕ) → tree.Updates by_bytes m n s None → snapshot_root n ≡ finite.remove (snapshot_root m) s
removed m n s u =
    finite.same_map nat_list_cmp_total bytes_differ (snapshot_root n) (finite.remove (snapshot_root m) s)
    (λ q. updated m n s None u q ∙ sym (finite.get-remove nat_list_cmp_total (snapshot_root m) s q))

-- a name below all others is not among them
find-above : (s : List ℕ) (es : List (List ℕ × FsRoot)) → AllByRecursion (λ k. by_bytes s k ≡ Less) (keys_of es) → finite.find by_bytes s es ≡ None
find-above s [] h = refl
find-above s (e ∷ es) h = ap (λ (o : Ordering). cond (is_eq o) (Some e.1) (finite.find by_bytes s es)) h.0 ∙ find-above s es h.1

-- a sorted list has as many names as entries
len-from_entries : (es : List (List ℕ × FsRoot)) → IsStrictlySortedBy by_bytes (keys_of es) → finite.len (finite.from_entries {R = by_bytes} es) ≡ length es
unfolding IsStrictlySortedBy
len-from_entries [] h = finite.len-empty by_bytes FsRoot
len-from_entries (e ∷ es) h =
    let rest : Kept = finite.from_entries es in
    let fresh : finite.get rest e.0 ≡ None = finite.get-from_entries nat_list_cmp_total es e.0 ∙ find-above e.0 es h.0 in
    let grown : finite.len (finite.insert rest e.0 e.1) ≡ finite.len rest + 1 =
    finite.len-insert nat_list_cmp_total rest e.0 e.1 ∙ ap (λ (o : Option FsRoot). cond (is_some o) (finite.len rest) (finite.len rest + 1)) fresh
    in
    omega (arith, grown, len-from_entries es h.1)

pub len-snapshot_root : (m : BTreeMap (List ℕ) FsRoot) → tree.IsOrdered by_bytes m → finite.len (snapshot_root m) ≡ length m.entries
len-snapshot_root m o = len-from_entries m.entries o

-- ---- the names, in their order

both : (a b : Bool) → T a → T b → T (a && b)
both true b p q = q
both false b p q = p

-- a test that a name is below all others
is_below_all : (s : List ℕ) (es : List (List ℕ × FsRoot)) → AllByRecursion (λ k. by_bytes s k ≡ Less) (keys_of es) → T (below_all by_bytes s es)
is_below_all s [] h = tt
is_below_all s (e ∷ es) h = both (is_lt (by_bytes s e.0)) (below_all by_bytes s es) (subst (λ (o : Ordering). T (is_lt o)) (sym h.0) tt) (is_below_all s es h.1)

-- and that the names are sorted
is_rising : (es : List (List ℕ × FsRoot)) → IsStrictlySortedBy by_bytes (keys_of es) → T (finite.is_sorted by_bytes es)
unfolding IsStrictlySortedBy
is_rising [] h = tt
is_rising (e ∷ es) h = both (below_all by_bytes e.0 es) (finite.is_sorted by_bytes es) (is_below_all e.0 es h.0) (is_rising es h.1)

-- the entries of a map are those of the finite map
entries-snapshot_root : (m : BTreeMap (List ℕ) FsRoot) → tree.IsOrdered by_bytes m → finite.entries (snapshot_root m) ≡ m.entries
entries-snapshot_root m o =
    let rise : T (finite.is_sorted by_bytes m.entries) = is_rising m.entries o in
    let one : snapshot_root m ≡ finite.from_sorted m.entries =
    finite.same_map nat_list_cmp_total bytes_differ (snapshot_root m) (finite.from_sorted m.entries)
    (λ q. finite.get-from_entries nat_list_cmp_total m.entries q ∙ sym (finite.get-from_sorted by_bytes m.entries q rise))
    in
    ap (λ (k : Kept). finite.entries k) one ∙ finite.entries-from_sorted by_bytes m.entries rise

-- and so are its names
pub names-snapshot_root : (m : BTreeMap (List ℕ) FsRoot) → tree.IsOrdered by_bytes m → tree.keys m ≡ names_in (snapshot_root m)
names-snapshot_root m o = ap (λ (es : List (List ℕ × FsRoot)). map (λ (e : List ℕ × FsRoot). e.0) es) (sym (entries-snapshot_root m o))

-- which are sorted, and are all names in it
pub are_names : (m : BTreeMap (List ℕ) FsRoot) → tree.IsOrdered by_bytes m → AreNames (snapshot_root m) (names_in (snapshot_root m))
are_names m o = record {
  rising = subst (λ (ks : List (List ℕ)). IsStrictlySortedBy by_bytes ks) (names-snapshot_root m o) o;
  all = λ s.
      subst (λ (ks : List (List ℕ)). IsSome (finite.get (snapshot_root m) s) ↔ Contains ks s) (names-snapshot_root m o)
      (subst (λ (x : Option FsRoot). IsSome x ↔ Contains (tree.keys m) s) (sym (get-snapshot_root m s)) (btree_map_contains_key_iff nat_list_cmp_total bytes_differ m s));
}
