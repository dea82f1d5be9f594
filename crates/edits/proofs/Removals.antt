-- The entries that go: after their removals a tree is left that has all the others.
use Rattle.std.proofs.Common.{◌≡◌, ◌≢◌, ⊎_elim, ℕ, ◌+◌, List, [], ◌∷◌, ◌++◌, length, append-nil, append_assoc, length-append, refl, sym, ap, subst, ◌∙◌, arith, Option, Some, None}
use Rattle.std.specs.Prelude.{option_map}
use Rattle.std.specs.List.{Contains}
use Rattle.std.specs.declared.cmp.Ordering.TheVariants.{Less}
use Rattle.std.proofs.lemmas.List.Elements.{Contains-append_right}
use Rattle.pathkey.specs.Enc.{enc}
use Rattle.pathkey.specs.Names.{Name, parent}
use Rattle.pathkey.specs.Order.{by_bytes}
use Rattle.pathkey.proofs.KeyFacts.{enc-append}
use Rattle.reference.specs.Calls.{parent_fault}
use Rattle.reference.specs.Indexes.{meta_of}
use Rattle.reference.specs.Reads.{Bytes, Directory, Seen, Sight, look, look_of, sight}
use Rattle.reference.specs.Shape.{IsDirectory, IsTree}
use Rattle.reference.specs.Tree.{Dir, File, Path, Tree}
use Rattle.reference.specs.declared.reply.Meta.{Meta}
use Rattle.reference.specs.declared.reply.Meta.TheVariants.{Dir as DirMeta, File as FileMeta}
use Rattle.reference.proofs.Edits.{look_from, look_sighted}
use Rattle.reference.proofs.PathOrder.{behind_beginning, not_below_itself}
use Rattle.reference.proofs.Standing.{parent_directory, parent_from_found}
use Rattle.reference.proofs.TreeEdits.{MayBeSeen, looks_may}
use Rattle.edits.specs.Between.{AreEntriesBetween, edit_of, removal, removals}
use Rattle.edits.specs.Edits.{AreEdited, IsEdited}
use Rattle.edits.specs.declared.edit.Change.{Change}
use Rattle.edits.specs.declared.edit.Change.TheVariants.{Remove}
use Rattle.edits.specs.declared.edit.Edit.{Edit}
use Rattle.edits.proofs.EditTrees.{Makes, removed, seen_there}
use Rattle.edits.proofs.Ordered.{Below, Ordered, below_below, contains_first, contains_more, contains_none, contains_cases, contains_parts, earlier, later, ordered}

-- ---- edits one after the other

pub edited_append : (es fs : List Edit) (t m u : Tree) → AreEdited es t m → AreEdited fs m u → AreEdited (es ++ fs) t u
edited_append [] fs t m u one two = subst (λ (x : Tree). AreEdited fs x u) one two
edited_append (e ∷ es) fs t m u one two = (one.0, one.1, edited_append es fs one.0 m u one.2 two)

pub one_edit : (e : Edit) (t u : Tree) → IsEdited e t u → AreEdited (e ∷ []) t u
one_edit e t u is = (u, is, refl)

-- ---- paths

pub parent_push : (p : Path) (n : Name) → parent (p ++ n ∷ []) ≡ p
parent_push [] n = refl
parent_push (k ∷ []) n = refl
parent_push (k ∷ m ∷ p) n = ap (λ (q : Path). k ∷ q) (parent_push (m ∷ p) n)

-- a directory stands before its entries
pub above : (p : Path) (n : Name) → by_bytes (enc p) (enc (p ++ n ∷ [])) ≡ Less
above p n =
    ap (λ (k : List ℕ). by_bytes (enc p) k) (enc-append p (n ∷ [])) ∙ ap (λ (k : List ℕ). by_bytes k (enc p ++ enc (n ∷ []))) (sym (append-nil (enc p))) ∙ behind_beginning (enc p) [] (enc (n ∷ [])) ∙ first n
  where
    first : (k : Name) → by_bytes [] (enc (k ∷ [])) ≡ Less
    first [] = refl
    first (b ∷ k) = refl

-- ---- what is seen once the entries that go are gone

abbrev pub left_of : Option Sight → Option Sight → Option Sight
left_of (Some (Seen Directory at)) (Some (Seen Directory date)) = Some (Seen Directory at)
left_of (Some (Seen (Bytes b) at)) (Some (Seen (Bytes c) date)) = Some (Seen (Bytes b) at)
left_of s r = None

pub stays_left : (s r : Option Sight) → removal (meta_of s) (meta_of r) ≡ None → left_of s r ≡ s
stays_left None None h = refl
stays_left None (Some (Seen Directory date)) h = refl
stays_left None (Some (Seen (Bytes c) date)) h = refl
stays_left (Some (Seen Directory at)) None h = absurd (cc)
stays_left (Some (Seen Directory at)) (Some (Seen Directory date)) h = refl
stays_left (Some (Seen Directory at)) (Some (Seen (Bytes c) date)) h = absurd (cc)
stays_left (Some (Seen (Bytes b) at)) None h = absurd (cc)
stays_left (Some (Seen (Bytes b) at)) (Some (Seen Directory date)) h = absurd (cc)
stays_left (Some (Seen (Bytes b) at)) (Some (Seen (Bytes c) date)) h = refl

pub same_left : (s r : Option Sight) → meta_of s ≡ meta_of r → left_of s r ≡ s
same_left None None h = refl
same_left None (Some (Seen Directory date)) h = absurd (cc)
same_left None (Some (Seen (Bytes c) date)) h = absurd (cc)
same_left (Some (Seen Directory at)) None h = absurd (cc)
same_left (Some (Seen Directory at)) (Some (Seen Directory date)) h = refl
same_left (Some (Seen Directory at)) (Some (Seen (Bytes c) date)) h = absurd (cc)
same_left (Some (Seen (Bytes b) at)) None h = absurd (cc)
same_left (Some (Seen (Bytes b) at)) (Some (Seen Directory date)) h = absurd (cc)
same_left (Some (Seen (Bytes b) at)) (Some (Seen (Bytes c) date)) h = refl

-- nothing is left where nothing comes
pub none_left : (s r : Option Sight) → r ≡ None → left_of s r ≡ None
none_left None r e = refl
none_left (Some (Seen Directory at)) r e = ap (left_of (Some (Seen Directory at))) e
none_left (Some (Seen (Bytes b) at)) r e = ap (left_of (Some (Seen (Bytes b) at))) e

-- a removal is that of the old entry, of which nothing is left; and there are no directories on both sides
pub record IsRemoval (s r : Option Sight) (c : Change) : Type 0 where
  pub meta : Meta
  pub change : c ≡ Remove meta
  pub there : meta_of s ≡ Some meta
  pub gone : left_of s r ≡ None
  pub kinds : (at date : ℕ) → s ≡ Some (Seen Directory at) → r ≡ Some (Seen Directory date) → ⊥

pub removal_is : (s r : Option Sight) (c : Change) → removal (meta_of s) (meta_of r) ≡ Some c → IsRemoval s r c
removal_is None None c h = absurd (cc)
removal_is None (Some (Seen Directory date)) c h = absurd (cc)
removal_is None (Some (Seen (Bytes b) date)) c h = absurd (cc)
removal_is (Some (Seen Directory at)) None c h = record { meta = DirMeta at; change = cc; there = refl; gone = refl; kinds = λ a d x y. cc }
removal_is (Some (Seen Directory at)) (Some (Seen Directory date)) c h = absurd (cc)
removal_is (Some (Seen Directory at)) (Some (Seen (Bytes b) date)) c h = record { meta = DirMeta at; change = cc; there = refl; gone = refl; kinds = λ a d x y. cc }
removal_is (Some (Seen (Bytes b) at)) None c h = record { meta = FileMeta (length b) at; change = cc; there = refl; gone = refl; kinds = λ a d x y. cc }
removal_is (Some (Seen (Bytes b) at)) (Some (Seen Directory date)) c h = record { meta = FileMeta (length b) at; change = cc; there = refl; gone = refl; kinds = λ a d x y. cc }
removal_is (Some (Seen (Bytes b) at)) (Some (Seen (Bytes d) date)) c h = absurd (cc)

-- what is seen below a path is seen in a directory
pub in_directory : (t : Tree) (p : Path) (n : Name) (s : Sight) → sight t (p ++ n ∷ []) ≡ Some s → (at : ℕ) × (sight t p ≡ Some (Seen Directory at))
in_directory t p n s e =
    let q : Path = p ++ n ∷ [] in
    let ne : q ≢ [] = λ z. let l : length q ≡ length p + 1 = length-append p (n ∷ []) in omega (arith, l, ap length z) in
    let parent_is : parent_fault t q ≡ None = parent_from_found q t ne (seen_there t q s e) in
    let dir : look t p ≡ Some Directory = ap (look t) (sym (parent_push p n)) ∙ parent_directory t q ne parent_is in
    go (sight t p) (sym (look_sighted t p) ∙ dir)
  where
    go : (o : Option Sight) → option_map look_of o ≡ Some Directory → (at : ℕ) × (o ≡ Some (Seen Directory at))
    go None h = absurd (cc)
    go (Some (Seen Directory at)) h = (at, refl)
    go (Some (Seen (Bytes b) at)) h = absurd (cc)

-- the root is seen as a directory
pub root_seen : (x : Tree) → IsTree x → (at : ℕ) × (sight x [] ≡ Some (Seen Directory at))
root_seen x is = go x is.root
  where
    go : (y : Tree) → IsDirectory y → (at : ℕ) × (sight y [] ≡ Some (Seen Directory at))
    go (Dir at es) d = (at, refl)
    go (File at b) d = absurd d

module _ (t u : Tree) (is_t : IsTree t) (is_u : IsTree u) (ps : List Path) (of : AreEntriesBetween t u ps) where
  pub in_order : Ordered (Below enc) ps
  in_order = ordered enc ps of.rising

  -- what the removals of some of the entries leave
  pub record AreGone (rest : List Path) (m : Tree) : Type 0 where
    pub edited : AreEdited (removals t u rest) t m
    pub tree : IsTree m
    pub within : (q : Path) → Contains rest q → sight m q ≡ left_of (sight t q) (sight u q)
    pub other : (q : Path) → (Contains rest q → ⊥) → sight m q ≡ sight t q

  module _ (front rest : List Path) (p : Path) (cut : ps ≡ front ++ p ∷ rest) (m : Tree) (gone : AreGone rest m) where
    order : Ordered (Below enc) (front ++ p ∷ rest)
    order = subst (Ordered (Below enc)) cut in_order

    listed : Contains ps p
    listed = subst (λ (l : List Path). Contains l p) (sym cut) (Contains-append_right front (p ∷ rest) p (contains_first p rest))

    -- it is not among the later ones
    not_later : Contains rest p → ⊥
    not_later there = not_below_itself (enc p) (later (Below enc) front p rest p order there)

    still : sight m p ≡ sight t p
    still = gone.other p not_later

    -- an entry below it is seen in the new tree if it still is
    child : (n : Name) (s : Sight) → sight m (p ++ n ∷ []) ≡ Some s → (r : Sight) × (sight u (p ++ n ∷ []) ≡ Some r)
    child n s e =
        let q : Path = p ++ n ∷ [] in
        let may : MayBeSeen q (look_of s) = looks_may m q (look_of s) gone.tree (look_from m q s e) in
        ⊎_elim
        (λ (there : Contains ps q). ⊎_elim
        (λ c. absurd (not_below_itself (enc q) (below_below (enc q) (enc p) (enc q) (earlier (Below enc) front p rest q order c) (above p n))))
        (λ x. ⊎_elim
        (λ (same : p ≡ q). absurd (not_below_itself (enc p) (ap (λ (z : Path). by_bytes (enc p) (enc z)) same ∙ above p n)))
        (λ c. some_left (sight t q) (sight u q) (sym (gone.within q c) ∙ e))
        x)
        (contains_parts front p rest q (subst (λ (l : List Path). Contains l q) cut there)))
        (λ (same : meta_of (sight t q) ≡ meta_of (sight u q)). some_same (sight t q) (sight u q) same (sym (gone.other q (λ c. of.differ q (subst (λ (l : List Path). Contains l q) (sym cut) (Contains-append_right front (p ∷ rest) q (contains_more p rest q c))) same)) ∙ e))
        (of.all q may.path)
      where
        some_left : (a b : Option Sight) → left_of a b ≡ Some s → (r : Sight) × (b ≡ Some r)
        some_left a None h = absurd (let f : None ≡ Some s = sym (none_left a None refl) ∙ h in cc)
        some_left a (Some r) h = (r, refl)

        some_same : (a b : Option Sight) → meta_of a ≡ meta_of b → a ≡ Some s → (r : Sight) × (b ≡ Some r)
        some_same a (Some r) same h = (r, refl)
        some_same None None same h = absurd (cc)
        some_same (Some (Seen Directory at)) None same h = absurd (cc)
        some_same (Some (Seen (Bytes b) at)) None same h = absurd (cc)

    -- the removals with that at this path, if it goes
    pub gone_more : (x : Tree) × AreGone (p ∷ rest) x
    gone_more = go (removal (meta_of (sight t p)) (meta_of (sight u p))) refl
      where
        go : (o : Option Change) → removal (meta_of (sight t p)) (meta_of (sight u p)) ≡ o → (x : Tree) × AreGone (p ∷ rest) x
        go None e = (
          m,
          record {
            edited = subst (λ (o : Option Change). AreEdited (removals t u rest ++ edit_of p o) t m) (sym e) (subst (λ (es : List Edit). AreEdited es t m) (sym (append-nil (removals t u rest))) gone.edited);
            tree = gone.tree;
            within = λ q there. ⊎_elim (λ (same : p ≡ q). subst (λ (z : Path). sight m z ≡ left_of (sight t z) (sight u z)) same (still ∙ sym (stays_left (sight t p) (sight u p) e))) (λ c. gone.within q c) (contains_cases p rest q there);
            other = λ q off. gone.other q (λ c. off (contains_more p rest q c));
          },
        )
        go (Some c) e =
            let is : IsRemoval (sight t p) (sight u p) c = removal_is (sight t p) (sight u p) c e in
            let empty : (n : Name) → sight m (p ++ n ∷ []) ≡ None = λ n. no_child is n (sight m (p ++ n ∷ [])) refl in
            let made : Makes p (Remove is.meta) m = removed m p is.meta gone.tree (not_root is) (ap meta_of still ∙ is.there) empty in
            let x : Tree = made.0 in
            let one : IsEdited (record { path = p; change = c }) m x = subst (λ (d : Change). IsEdited (record { path = p; change = d }) m x) (sym is.change) made.1 in (
              x,
              record {
                edited = subst (λ (o : Option Change). AreEdited (removals t u rest ++ edit_of p o) t x) (sym e) (edited_append (removals t u rest) (record { path = p; change = c } ∷ []) t m x gone.edited (one_edit (record { path = p; change = c }) m x one));
                tree = made.1.tree;
                within = λ q there. ⊎_elim
                    (λ (same : p ≡ q). subst (λ (z : Path). sight x z ≡ left_of (sight t z) (sight u z)) same (made.1.itself ∙ sym is.gone))
                    (λ d. made.1.other q (λ same. not_later (subst (Contains rest) same d)) ∙ gone.within q d)
                    (contains_cases p rest q there);
                other = λ q off. made.1.other q (λ same. off (subst (Contains (p ∷ rest)) (sym same) (contains_first p rest))) ∙ gone.other q (λ d. off (contains_more p rest q d));
              },
            )
          where
            no_child : IsRemoval (sight t p) (sight u p) c → (n : Name) (s : Option Sight) → sight m (p ++ n ∷ []) ≡ s → s ≡ None
            no_child is n None f = refl
            no_child is n (Some s) f =
                let r = child n s f in
                let new = in_directory u p n r.0 r.1 in
                let old = in_directory m p n s f in
                absurd (is.kinds old.0 new.0 (sym still ∙ old.1) new.1)

            not_root : IsRemoval (sight t p) (sight u p) c → p ≢ []
            not_root is z =
                let old = root_seen t is_t in
                let new = root_seen u is_u in
                is.kinds old.0 new.0 (ap (sight t) z ∙ old.1) (ap (sight u) z ∙ new.1)

  -- all of them
  pub all_gone : (front rest : List Path) → ps ≡ front ++ rest → (x : Tree) × AreGone rest x
  all_gone front [] cut = (t, record { edited = refl; tree = is_t; within = λ q there. absurd (contains_none q there); other = λ q off. refl })
  all_gone front (p ∷ rest) cut =
      let f = all_gone (front ++ p ∷ []) rest (cut ∙ sym (append_assoc front (p ∷ []) rest)) in
      gone_more front rest p cut f.0 f.1
