-- The entries that come or change: after them a tree is left that has the metadata of the new one.
use Rattle.std.proofs.Common.{◌≡◌, ◌≢◌, ⊎_elim, ℕ, ◌-◌, ◌^◌, ◌≤◌, List, [], ◌∷◌, ◌++◌, length, replicate, append_assoc, append-nil, refl, sym, ap, subst, ◌∙◌, arith, Option, Some, None}
use Rattle.std.specs.Prelude.{option_map}
use Rattle.std.specs.List.{Contains}
use Rattle.std.proofs.lemmas.List.{take_all}
use Rattle.std.proofs.lemmas.List.Elements.{Contains-append_left, Contains-append_right, Contains-push, Contains-push_cases}
use Rattle.std.specs.declared.cmp.Ordering.TheVariants.{Less}
use Rattle.pathkey.specs.Enc.{enc}
use Rattle.pathkey.specs.Names.{IsPath, Name, parent}
use Rattle.pathkey.specs.Order.{by_bytes}
use Rattle.reference.specs.Indexes.{meta_of}
use Rattle.reference.specs.Reads.{Bytes, Directory, Seen, Sight, look, look_of, sight}
use Rattle.reference.specs.Shape.{IsContent, IsMoment, IsTree}
use Rattle.reference.specs.Tree.{Path, Tree, sized}
use Rattle.reference.specs.declared.reply.Meta.{Meta}
use Rattle.reference.specs.declared.reply.Meta.TheVariants.{Dir as DirMeta, File as FileMeta}
use Rattle.reference.proofs.Edits.{look_sighted}
use Rattle.reference.proofs.EntryPaths.{last_name}
use Rattle.reference.proofs.PathOrder.{not_below_itself}
use Rattle.reference.proofs.TreeEdits.{MayBeSeen, looks_may, sights_may}
use Rattle.edits.specs.Between.{AreEntriesBetween, arrival, arrivals, edit_of, resized}
use Rattle.edits.specs.Edits.{AreEdited, IsEdited, seen_after}
use Rattle.edits.specs.declared.edit.Change.{Change}
use Rattle.edits.specs.declared.edit.Change.TheVariants.{Add, Alter}
use Rattle.edits.proofs.EditTrees.{Makes, MayHave, content_seen, put_new, resized_file, touched_directory}
use Rattle.edits.proofs.Ordered.{Below, Ordered, below_below, contains_first, contains_parts, earlier, later}
use Rattle.edits.proofs.Removals.{above, edited_append, in_directory, in_order, left_of, none_left, one_edit, root_seen, same_left}

-- ---- what is seen before blocks are rewritten

abbrev pub between : Option Sight → Option Sight → Option Sight
between s None = None
between s (Some (Seen Directory at)) = Some (Seen Directory at)
between s (Some (Seen (Bytes c) at)) = Some (Seen (Bytes (resized s (length c))) at)

same_size : (b : List ℕ) → sized b (length b) ≡ b
same_size b =
    let none : length b - length b ≡ 0 = omega arith in
    ap (λ (l : List ℕ). l ++ replicate (length b - length b) 0) (take_all (length b) b (omega arith)) ∙ ap (λ (n : ℕ). b ++ replicate n 0) none ∙ append-nil b

pub same_between : (s r : Option Sight) → meta_of s ≡ meta_of r → between s r ≡ s
same_between None None h = refl
same_between None (Some (Seen Directory date)) h = absurd (cc)
same_between None (Some (Seen (Bytes c) date)) h = absurd (cc)
same_between (Some (Seen Directory at)) None h = absurd (cc)
same_between (Some (Seen Directory at)) (Some (Seen Directory date)) h = let e : at ≡ date = cc in ap (λ (x : ℕ). Some (Seen Directory x)) (sym e)
same_between (Some (Seen Directory at)) (Some (Seen (Bytes c) date)) h = absurd (cc)
same_between (Some (Seen (Bytes b) at)) None h = absurd (cc)
same_between (Some (Seen (Bytes b) at)) (Some (Seen Directory date)) h = absurd (cc)
same_between (Some (Seen (Bytes b) at)) (Some (Seen (Bytes c) date)) h =
    let e : at ≡ date = cc in
    let n : length b ≡ length c = cc in
    ap (λ (l : ℕ). Some (Seen (Bytes (sized b l)) date)) (sym n) ∙ ap (λ (l : List ℕ). Some (Seen (Bytes l) date)) (same_size b) ∙ ap (λ (x : ℕ). Some (Seen (Bytes b) x)) (sym e)

-- without an arrival nothing comes and nothing is left
pub none_between : (s r : Option Sight) → arrival (meta_of s) (meta_of r) ≡ None → (between s r ≡ None) × (left_of s r ≡ None)
none_between s None h = (refl, none_left s None refl)
none_between None (Some (Seen Directory date)) h = absurd (cc)
none_between None (Some (Seen (Bytes c) date)) h = absurd (cc)
none_between (Some (Seen Directory at)) (Some (Seen Directory date)) h = absurd (cc)
none_between (Some (Seen Directory at)) (Some (Seen (Bytes c) date)) h = absurd (cc)
none_between (Some (Seen (Bytes b) at)) (Some (Seen Directory date)) h = absurd (cc)
none_between (Some (Seen (Bytes b) at)) (Some (Seen (Bytes c) date)) h = absurd (cc)

-- the file or directory that comes
pub data Arrives (s r : Option Sight) (c : Change) : Type 0 where
  Comes : (m : Meta) → c ≡ Add m → left_of s r ≡ None → meta_of r ≡ Some m → seen_after c None ≡ between s r → Arrives s r c
  Touched : (at date : ℕ) → c ≡ Alter (DirMeta at) (DirMeta date) → left_of s r ≡ Some (Seen Directory at) → r ≡ Some (Seen Directory date) → Arrives s r c
  Resized : (b d : List ℕ) (at date : ℕ) → c ≡ Alter (FileMeta (length b) at) (FileMeta (length d) date) → left_of s r ≡ Some (Seen (Bytes b) at) → s ≡ Some (Seen (Bytes b) at) → r ≡ Some (Seen (Bytes d) date) → Arrives s r c

pub arrives : (s r : Option Sight) (c : Change) → arrival (meta_of s) (meta_of r) ≡ Some c → Arrives s r c
arrives s None c h = absurd (cc)
arrives None (Some (Seen Directory date)) c h = let e : c ≡ Add (DirMeta date) = cc in Comes (DirMeta date) e refl refl (ap (λ (x : Change). seen_after x None) e)
arrives None (Some (Seen (Bytes d) date)) c h = let e : c ≡ Add (FileMeta (length d) date) = cc in Comes (FileMeta (length d) date) e refl refl (ap (λ (x : Change). seen_after x None) e)
arrives (Some (Seen Directory at)) (Some (Seen Directory date)) c h = Touched at date (cc) refl refl
arrives (Some (Seen Directory at)) (Some (Seen (Bytes d) date)) c h = let e : c ≡ Add (FileMeta (length d) date) = cc in Comes (FileMeta (length d) date) e refl refl (ap (λ (x : Change). seen_after x None) e)
arrives (Some (Seen (Bytes b) at)) (Some (Seen Directory date)) c h = let e : c ≡ Add (DirMeta date) = cc in Comes (DirMeta date) e refl refl (ap (λ (x : Change). seen_after x None) e)
arrives (Some (Seen (Bytes b) at)) (Some (Seen (Bytes d) date)) c h = Resized b d at date (cc) refl refl refl

-- metadata of an entry of a tree
pub may_have : (t : Tree) (p : Path) (m : Meta) → IsTree t → meta_of (sight t p) ≡ Some m → MayHave m
may_have t p m is e = go (sight t p) refl e
  where
    go : (s : Option Sight) → sight t p ≡ s → meta_of s ≡ Some m → MayHave m
    go None f h = absurd (cc)
    go (Some (Seen Directory at)) f h =
        let same : DirMeta at ≡ m = cc in
        let early : IsMoment at = sights_may t p (Seen Directory at) is f in
        subst MayHave same (record { early = early; short = λ n d x. cc })
    go (Some (Seen (Bytes b) at)) f h =
        let same : FileMeta (length b) at ≡ m = cc in
        let early : IsMoment at = sights_may t p (Seen (Bytes b) at) is f in
        let content : IsContent b = content_seen t p b at is f in
        subst MayHave same (record { early = early; short = λ n d x. let l : length b ≡ n = cc in subst (λ (y : ℕ). y ≤ 2 ^ 40) l content.few })

directory_seen : (t : Tree) (p : Path) (at : ℕ) → sight t p ≡ Some (Seen Directory at) → look t p ≡ Some Directory
directory_seen t p at e = look_sighted t p ∙ ap (option_map look_of) e

directory_meta : (s : Option Sight) (at : ℕ) → meta_of s ≡ Some (DirMeta at) → s ≡ Some (Seen Directory at)
directory_meta None at h = absurd (cc)
directory_meta (Some (Seen Directory date)) at h = let e : date ≡ at = cc in ap (λ (x : ℕ). Some (Seen Directory x)) e
directory_meta (Some (Seen (Bytes b) date)) at h = absurd (cc)

module _ (t u : Tree) (is_t : IsTree t) (is_u : IsTree u) (ps : List Path) (of : AreEntriesBetween t u ps) where
  -- of the entries some came
  pub record HaveCome (done : List Path) (m : Tree) : Type 0 where
    pub tree : IsTree m
    pub within : (q : Path) → IsPath q → Contains done q → sight m q ≡ between (sight t q) (sight u q)
    pub other : (q : Path) → IsPath q → (Contains done q → ⊥) → sight m q ≡ left_of (sight t q) (sight u q)

  module _ (done rest : List Path) (p : Path) (cut : ps ≡ done ++ p ∷ rest) (m : Tree) (come : HaveCome done m) where
    order : Ordered (Below enc) (done ++ p ∷ rest)
    order = subst (Ordered (Below enc)) cut (in_order t u is_t is_u ps of)

    listed : Contains ps p
    listed = subst (λ (l : List Path). Contains l p) (sym cut) (Contains-append_right done (p ∷ rest) p (contains_first p rest))

    is_path : IsPath p
    is_path = subst IsPath listed.2 (of.paths listed.0 p listed.1)

    not_done : Contains done p → ⊥
    not_done there = not_below_itself (enc p) (earlier (Below enc) done p rest p order there)

    left : sight m p ≡ left_of (sight t p) (sight u p)
    left = come.other p is_path not_done

    -- the directory of an entry that comes is there
    stands_in : (q : Path) (k : Name) (r : Sight) → p ≡ q ++ k ∷ [] → sight u p ≡ Some r → look m q ≡ Some Directory
    stands_in q k r is there =
        let dir : (at : ℕ) × (sight u q ≡ Some (Seen Directory at)) = in_directory u q k r (ap (sight u) (sym is) ∙ there) in
        let may : MayBeSeen q Directory = looks_may u q Directory is_u (directory_seen u q dir.0 dir.1) in
        let up : by_bytes (enc q) (enc p) ≡ Less = ap (λ (z : Path). by_bytes (enc q) (enc z)) is ∙ above q k in
        let came : Contains done q → look m q ≡ Some Directory = λ c. directory_seen m q dir.0 (come.within q may.path c ∙ ap (between (sight t q)) dir.1) in
        ⊎_elim
        (λ (there : Contains ps q). ⊎_elim came
        (λ x. ⊎_elim
        (λ (same : p ≡ q). absurd (not_below_itself (enc q) (ap (λ (z : Path). by_bytes (enc q) (enc z)) (sym same) ∙ up)))
        (λ c. absurd (not_below_itself (enc q) (below_below (enc q) (enc p) (enc q) up (later (Below enc) done p rest q order c))))
        x)
        (contains_parts done p rest q (subst (λ (l : List Path). Contains l q) cut there)))
        (λ (same : meta_of (sight t q) ≡ meta_of (sight u q)).
        let old : sight t q ≡ Some (Seen Directory dir.0) = directory_meta (sight t q) dir.0 (same ∙ ap meta_of dir.1) in
        directory_seen m q dir.0 (come.other q may.path (λ c. of.differ q (subst (λ (l : List Path). Contains l q) (sym cut) (Contains-append_left done (p ∷ rest) q c)) same) ∙ same_left (sight t q) (sight u q) same ∙ old))
        (of.all q may.path)

    -- the tree with what comes at the path
    made : (c : Change) → Arrives (sight t p) (sight u p) c → (x : Tree) × IsEdited (record { path = p; change = c }) m x × (sight x p ≡ between (sight t p) (sight u p))
    made c (Comes meta is none new after) =
        let ne : p ≢ [] = λ z. root_stays z in
        let some = found (sight u p) new in
        let last = last_name p ne in
        let above_is : look m (parent p) ≡ Some Directory = stands_in (parent p) last.0 some.0 last.1 some.1 in
        let f : Makes p (Add meta) m = put_new m p meta come.tree is_path ne (left ∙ none) above_is (may_have u p meta is_u new) in
        (f.0, subst (λ (d : Change). IsEdited (record { path = p; change = d }) m f.0) (sym is) f.1, f.1.itself ∙ ap (λ (d : Change). seen_after d (sight m p)) (sym is) ∙ ap (seen_after c) (left ∙ none) ∙ after)
      where
        found : (s : Option Sight) → meta_of s ≡ Some meta → (r : Sight) × (s ≡ Some r)
        found None h = absurd (cc)
        found (Some r) h = (r, refl)

        root_stays : p ≡ [] → ⊥
        root_stays z =
            let old = root_seen t is_t in
            let r = root_seen u is_u in
            let e : left_of (sight t p) (sight u p) ≡ Some (Seen Directory old.0) = ap (λ (s : Option Sight). left_of s (sight u p)) (ap (sight t) z ∙ old.1) ∙ ap (left_of (Some (Seen Directory old.0))) (ap (sight u) z ∙ r.1) in
            let f : None ≡ Some (Seen Directory old.0) = sym none ∙ e in cc
    made c (Touched at date is there new) =
        let early : IsMoment date = sights_may u p (Seen Directory date) is_u new in
        let f : Makes p (Alter (DirMeta at) (DirMeta date)) m = touched_directory m p at date come.tree (left ∙ there) early in
        (f.0, subst (λ (d : Change). IsEdited (record { path = p; change = d }) m f.0) (sym is) f.1, f.1.itself ∙ ap (seen_after (Alter (DirMeta at) (DirMeta date))) (left ∙ there) ∙ sym (ap (between (sight t p)) new))
    made c (Resized b d at date is there old new) =
        let early : IsMoment date = sights_may u p (Seen (Bytes d) date) is_u new in
        let content : IsContent d = content_seen u p d date is_u new in
        let f : Makes p (Alter (FileMeta (length b) at) (FileMeta (length d) date)) m = resized_file m p b at (length d) date come.tree (left ∙ there) content.few early in
        (f.0, subst (λ (x : Change). IsEdited (record { path = p; change = x }) m f.0) (sym is) f.1, f.1.itself ∙ ap (seen_after (Alter (FileMeta (length b) at) (FileMeta (length d) date))) (left ∙ there) ∙ sym (ap (between (sight t p)) new ∙ ap (λ (s : Option Sight). between s (Some (Seen (Bytes d) date))) old))

    -- one more came
    pub come_more : (x : Tree) × AreEdited (edit_of p (arrival (meta_of (sight t p)) (meta_of (sight u p)))) m x × HaveCome (done ++ p ∷ []) x
    come_more = go (arrival (meta_of (sight t p)) (meta_of (sight u p))) refl
      where
        Result : Option Change → Type 0
        Result o = (x : Tree) × AreEdited (edit_of p o) m x × HaveCome (done ++ p ∷ []) x

        go : (o : Option Change) → arrival (meta_of (sight t p)) (meta_of (sight u p)) ≡ o → Result (arrival (meta_of (sight t p)) (meta_of (sight u p)))
        go None e = let n = none_between (sight t p) (sight u p) e in subst Result (sym e) (
          m,
          refl,
          record {
            tree = come.tree;
            within = λ q v there. ⊎_elim (λ c. come.within q v c)
                (λ (same : p ≡ q). subst (λ (z : Path). sight m z ≡ between (sight t z) (sight u z)) same (left ∙ n.1 ∙ sym n.0))
                (Contains-push_cases done p q there);
            other = λ q v off. come.other q v (λ c. off (Contains-append_left done (p ∷ []) q c));
          },
        )
        go (Some c) e =
            let f = made c (arrives (sight t p) (sight u p) c e) in
            subst Result (sym e) (
              f.0,
              one_edit (record { path = p; change = c }) m f.0 f.1,
              record {
                tree = f.1.tree;
                within = λ q v there. ⊎_elim
                    (λ d. f.1.other q (λ same. not_done (subst (Contains done) same d)) ∙ come.within q v d)
                    (λ (same : p ≡ q). subst (λ (z : Path). sight f.0 z ≡ between (sight t z) (sight u z)) same f.2)
                    (Contains-push_cases done p q there);
                other = λ q v off. f.1.other q (λ same. off (subst (Contains (done ++ p ∷ [])) (sym same) (Contains-push done p))) ∙ come.other q v (λ d. off (Contains-append_left done (p ∷ []) q d));
              },
            )

  -- all of them
  pub all_come : (done rest : List Path) → ps ≡ done ++ rest → (m : Tree) → HaveCome done m → (x : Tree) × AreEdited (arrivals t u rest) m x × IsTree x × ((q : Path) → IsPath q → sight x q ≡ between (sight t q) (sight u q))
  all_come done [] cut m come = (
    m,
    refl,
    come.tree,
    λ q v. ⊎_elim
        (λ c. come.within q v (subst (λ (l : List Path). Contains l q) (cut ∙ append-nil done) c))
        (λ (same : meta_of (sight t q) ≡ meta_of (sight u q)).
        come.other q v (λ c. of.differ q (subst (λ (l : List Path). Contains l q) (sym (cut ∙ append-nil done)) c) same) ∙ same_left (sight t q) (sight u q) same ∙ sym (same_between (sight t q) (sight u q) same))
        (of.all q v),
  )
  all_come done (p ∷ rest) cut m come =
      let f = come_more done rest p cut m come in
      let g = all_come (done ++ p ∷ []) rest (cut ∙ sym (append_assoc done (p ∷ []) rest)) f.0 f.2 in
      (g.0, edited_append (edit_of p (arrival (meta_of (sight t p)) (meta_of (sight u p)))) (arrivals t u rest) m f.0 g.0 f.1 g.1, g.2, g.3)
