-- An append at a root, in the words of a tree's code: `now` is the root that is lent for the change, `new` what the
-- append left there, and `seen` what the tree has afterwards.
use Rattle.std.proofs.Common.{◌≡◌, ℕ, ◌≤◌, List, [], Option, refl, ap, sym, ◌∙◌, subst, arith, false}
use Rattle.std.specs.Prelude.{◌&&◌, nat_le, OnOk, OnErr, Result, Ok, Err, IsTrue, is_ok}
use Rattle.std.proofs.lemmas.Bool.{leb-true}
use Rattle.std.proofs.lemmas.Result.{on_ok_weaker}
use Rattle.message.proofs.KeyOrder.{both}
use Rattle.message.specs.declared.msg.Msg.{Msg}
use Rattle.message.proofs.Results.{either_way}
use Rattle.node.specs.declared.shape.Shape.{Shape}
use Rattle.node.specs.Shapes.{is_between, is_shape}
use Rattle.node.specs.Pure.{PNode, PTree, empty_root}
use Rattle.node.specs.Lawful.{IsLawfulRoot, IsLawful}
use Rattle.node.specs.Appended.{IsAppended, Appended}
use Rattle.node.specs.Searchable.{IsRoot, IsSearchable}
use Rattle.node.proofs.Appending.{lawful-appended, value-appended, appended-nothing}
use Rattle.node.proofs.Placing.{is_root, searchable_root}

-- what is known of an error
pub when_err : {T E P : Type 0} (r : Result T E) → is_ok r ≡ false → OnErr r P → P
when_err (Ok x) e p = (cc)
when_err (Err x) e p = p

module _ {U V : Type 0} (S : Shape) where
  abbrev pub tree_of : PNode U V → PTree U V
  tree_of n = record { shape = S; root = n }

  pub borrowed_is_root : (old now : PNode U V) → IsLawful (tree_of old) → now ≡ old → IsRoot now
  borrowed_is_root old now l e = subst (λ (n : PNode U V). IsRoot n) (sym e) (is_root S l.levels old l.root)

  pub borrowed_is_searchable : (old now : PNode U V) → IsLawful (tree_of old) → now ≡ old → IsSearchable now
  borrowed_is_searchable old now l e = subst (λ (n : PNode U V). IsSearchable n) (sym e) (searchable_root S l.levels old l.root)

  pub lawful_same : (old now seen : PNode U V) → IsLawful (tree_of old) → now ≡ old → seen ≡ now → IsLawful (tree_of seen)
  lawful_same old now seen l e s = subst (λ (n : PNode U V). IsLawful (tree_of n)) (sym (s ∙ e)) l

  pub lawful_after : (means : U → Option V → Option V) {T X : Type 0} (r : Result T X) (ms : List (Msg U V)) (old now new seen : PNode U V) → IsLawful (tree_of old) → now ≡ old → OnOk r (IsAppended means ms now new) → OnErr r (new ≡ now) → seen ≡ new → IsLawful (tree_of seen)
  lawful_after means r ms old now new seen l e ok err s =
      let was : IsLawfulRoot S now l.levels = subst (λ (n : PNode U V). IsLawfulRoot S n l.levels) (sym e) l.root in
      let kept : IsLawfulRoot S new l.levels = either_way r ok err (λ q. lawful-appended means S l.levels ms now new q was) (λ q. subst (λ (n : PNode U V). IsLawfulRoot S n l.levels) (sym q) was) in
      subst (λ (n : PNode U V). IsLawful (tree_of n)) (sym s) (record { shape = l.shape; levels = l.levels; root = kept })

  pub appended_after : (means : U → Option V → Option V) {T X : Type 0} (r : Result T X) (ms : List (Msg U V)) (was : PTree U V) (old now new seen : PNode U V) → IsLawful (tree_of old) → tree_of old ≡ was → now ≡ old → OnOk r (IsAppended means ms now new) → seen ≡ new → OnOk r (Appended means ms was (tree_of seen))
  appended_after means r ms was old now new seen l w e ok s =
      on_ok_weaker r (λ (q : IsAppended means ms now new).
      let from_old : IsAppended means ms old new = subst (λ (n : PNode U V). IsAppended means ms n new) e q in
      let here : Appended means ms (tree_of old) (tree_of new) = record { shape_kept = refl; slots = from_old; value_after = value-appended means S l.levels ms old new from_old l.root } in
      subst (λ (t : PTree U V). Appended means ms t (tree_of seen)) w (subst (λ (n : PNode U V). Appended means ms (tree_of old) (tree_of n)) (sym s) here)) ok

  pub unchanged_after : {T X : Type 0} (r : Result T X) (was : PTree U V) (old now new seen : PNode U V) → tree_of old ≡ was → now ≡ old → OnErr r (new ≡ now) → seen ≡ new → OnErr r (tree_of seen ≡ was)
  unchanged_after (Ok x) was old now new seen w e err s = tt
  unchanged_after (Err x) was old now new seen w e err s = ap tree_of (s ∙ err ∙ e) ∙ w

module _ {U V : Type 0} (S : Shape) where
  -- no message leaves a tree as it was
  pub appended_none : (means : U → Option V → Option V) (ms : List (Msg U V)) (was : PTree U V) (old : PNode U V) → IsLawful (tree_of S old) → tree_of S old ≡ was → ms ≡ [] → Appended means ms was (tree_of S old)
  appended_none means ms was old l w e =
      let here : Appended means [] (tree_of S old) (tree_of S old) = record { shape_kept = refl; slots = appended-nothing means S l.levels old l.root; value_after = λ k. refl } in
      subst (λ (t : PTree U V). Appended means ms t (tree_of S old)) w (subst (λ (xs : List (Msg U V)). Appended means xs (tree_of S old) (tree_of S old)) (sym e) here)

between_test : (low high n : ℕ) → IsTrue (is_between low high n) → (low ≤ n) × (n ≤ high)
between_test low high n h = let p = both (nat_le low n) (nat_le n high) h in (leb-true low n p.0, leb-true n high p.1)

-- the greatest numbers of an allowed shape
pub small_shape : (S : Shape) → IsTrue (is_shape S) → (S.fanout ≤ 64) × (S.pending ≤ 1024) × (S.leaf ≤ 1024)
small_shape S h =
    let p = both (is_between 4 64 S.fanout && is_between S.fanout 1024 S.pending) (is_between 4 1024 S.leaf) h in
    let q = both (is_between 4 64 S.fanout) (is_between S.fanout 1024 S.pending) p.0 in
    ((between_test 4 64 S.fanout q.0).1, (between_test S.fanout 1024 S.pending q.1).1, (between_test 4 1024 S.leaf p.1).1)

-- an allowed shape has room for one slot
room_for_one : (S : Shape) → IsTrue (is_shape S) → 1 ≤ S.fanout
room_for_one S h =
    let p = both (is_between 4 64 S.fanout && is_between S.fanout 1024 S.pending) (is_between 4 1024 S.leaf) h in
    let q = both (is_between 4 64 S.fanout) (is_between S.fanout 1024 S.pending) p.0 in
    let r = between_test 4 64 S.fanout q.0 in
    omega (arith, r.0)

module _ {U V : Type 0} (S : Shape) where
  -- a new tree is lawful
  pub lawful_empty : IsTrue (is_shape S) → (root : PNode U V) → root ≡ empty_root → IsLawful (tree_of S root)
  lawful_empty ok root e =
      let one : 1 ≤ S.fanout = room_for_one S ok in
      record {
        shape = ok;
        levels = 1;
        root = subst (λ (n : PNode U V). IsLawfulRoot S n 1) (sym e) (omega arith, omega arith, one, refl, (refl, (λ k out. refl), (refl, omega arith, tt), tt));
      }
