-- A directory's entries listed one after the other: each is the first key after everything below the one before.
use Rattle.std.proofs.Common.{◌≡◌, List, [], ◌∷◌, ◌++◌, Bool, true, false, cond, refl, sym, ap, subst, ◌∙◌, append_assoc, append-nil, Option, Some, None}
use Rattle.std.specs.Prelude.{fold}
use Rattle.std.specs.Ordering.{is_eq}
use Rattle.std.specs.declared.cmp.Ordering.TheVariants.{Less}
use Rattle.std.proofs.lemmas.Bool.{and_parts}
use Rattle.pathkey.specs.Order.{by_bytes, same}
use Rattle.pathkey.specs.Names.{Name, Path, IsPath, HasNameBytes}
use Rattle.pathkey.specs.Keys.{Key, enc, is_below}
use Rattle.pathkey.proofs.OrderFacts.{same_itself, same_true}
use Rattle.pathkey.proofs.KeyOrder.{le_le, reaches-from_before, reaches-from_not_before}
use Rattle.message.specs.Ranges.{before, reaches, within}
use Rattle.scan.specs.Pairs.{HasNone, IsFirst}
use Rattle.message.proofs.NextKey.{by_bool, in_range, not_reaches, one_key}
use Rattle.reference.specs.Tree.{Tree, Dir, File, Entries, nothing, entry, entry_at, named, found, onward, At, Found, Missing, Blocked}
use Rattle.reference.specs.Calls.{kind_of, listing, names_of}
use Rattle.reference.specs.Shape.{AllAbove, Rising, RisingEntries}
use Rattle.reference.specs.Reads.{sighted}
use Rattle.reference.specs.Indexes.{meta_of, PathOf}
use Rattle.reference.specs.declared.reply.Kind.{Kind}
use Rattle.reference.specs.declared.reply.Meta.{Meta}
use Rattle.reference.proofs.Edits.{fold-Missing, fold-Blocked}
use Rattle.reference.proofs.EntryPaths.{along, each_rest}
use Rattle.reference.proofs.Standing.{rising-found}
use Rattle.meta_index.specs.declared.index.MetaIndex.{MetaIndex}
use Rattle.meta_index.specs.Below.{below, kind_reported}
use Rattle.meta_index.specs.Means.{metadata, IsMeantBy}
use Rattle.meta_index.proofs.BelowPath.{in_below, from_below, seen_some}
use Rattle.meta_index.proofs.ChildOrder.{end_key, child_before, end_before, child_inside, child_first}

-- q is at or below an entry of es, in the directory p
pub record Among (p : Path) (es : Entries) (q : Path) : Type 0 where
  pub name : Name
  pub rest : Path
  pub tree : Tree
  pub path : q ≡ p ++ name ∷ rest
  pub entry : named name es ≡ Some tree

module _ (t : Tree) (m : MetaIndex) (p : Path) where
  -- the pairs are those of the directory p except for the entries es, and these and everything below them are all from
  -- lo on
  pub record IsRest (es : Entries) (listed : List (Kind × Name)) (lo : Key) (hi : Option Key) : Type 0 where
    pub whole : listed ++ listing es ≡ names_of (entry_at t p)
    pub rising : RisingEntries es
    pub stand : (n : Name) (x : Tree) → named n es ≡ Some x → entry_at t (p ++ n ∷ []) ≡ Found x
    pub ahead : (n : Name) (x : Tree) → named n es ≡ Some x → reaches lo (enc (p ++ n ∷ [])) ≡ true
    pub only : (q : Path) (v : Meta) → IsPath q → within lo hi (enc q) ≡ true → metadata m (enc q) ≡ Some v → Among p es q
    pub high : hi ≡ (below p).hi

  -- the pairs are a beginning of what the directory p lists, and the rest begins at lo
  pub record Listed (listed : List (Kind × Name)) (lo : Key) (hi : Option Key) : Type 0 where
    pub entries : Entries
    pub rest : IsRest entries listed lo hi

-- the directory's entries; none if there is no directory
abbrev pub entries_of : At → Entries
entries_of (Found (Dir date es)) = es
entries_of (Found (File date b)) = nothing
entries_of Missing = nothing
entries_of Blocked = nothing

names_listed : (here : At) → listing (entries_of here) ≡ names_of here
names_listed (Found (Dir date es)) = refl
names_listed (Found (File date b)) = refl
names_listed Missing = refl
names_listed Blocked = refl

entry_stands : (here : At) (n : Name) (x : Tree) → named n (entries_of here) ≡ Some x → onward here n ≡ Found x
entry_stands (Found (Dir date es)) n x e = ap found e
entry_stands (Found (File date b)) n x e = absurd (cc)
entry_stands Missing n x e = absurd (cc)
entry_stands Blocked n x e = absurd (cc)

some_entry : (here : At) (n : Name) (r : Path) (v : Meta) → meta_of (sighted (fold onward here (n ∷ r))) ≡ Some v → (x : Tree) × (named n (entries_of here) ≡ Some x)
some_entry (Found (Dir date es)) n r v e = elim (named n es) as (λ o. named n es ≡ o → meta_of (sighted (fold onward (found o) r)) ≡ Some v → (x : Tree) × (named n es ≡ Some x)) [
  | None ↦ λ f g. absurd (let clash : None ≡ Some v = sym (ap (λ (a : At). meta_of (sighted a)) (fold-Missing r)) ∙ g in cc)
  | Some x ↦ λ f g. (x, f)
] refl e
some_entry (Found (File date b)) n r v e = absurd (let clash : None ≡ Some v = sym (ap (λ (a : At). meta_of (sighted a)) (fold-Blocked r)) ∙ e in cc)
some_entry Missing n r v e = absurd (let clash : None ≡ Some v = sym (ap (λ (a : At). meta_of (sighted a)) (fold-Missing r)) ∙ e in cc)
some_entry Blocked n r v e = absurd (let clash : None ≡ Some v = sym (ap (λ (a : At). meta_of (sighted a)) (fold-Blocked r)) ∙ e in cc)

entries_rise : (t : Tree) (p : Path) (here : At) → entry_at t p ≡ here → Rising t → RisingEntries (entries_of here)
entries_rise t p (Found (Dir date es)) e h = rising-found p t (Dir date es) e h
entries_rise t p (Found (File date b)) e h = tt
entries_rise t p Missing e h = tt
entries_rise t p Blocked e h = tt

-- nothing is listed yet
pub listed_none : (t : Tree) (m : MetaIndex) (p : Path) → IsPath p → IsMeantBy t m → Listed t m p [] (below p).lo (below p).hi
listed_none t m p is_path means = record {
  entries = entries_of (entry_at t p);
  rest = record {
    whole = names_listed (entry_at t p);
    rising = entries_rise t p (entry_at t p) refl means.tree.rising;
    stand = λ n x e. along t p (n ∷ []) ∙ entry_stands (entry_at t p) n x e;
    ahead = λ n x e. (and_parts _ _ (in_below p n [])).0;
    only = λ q v of inside e.
        let at : (n : Name) × (r : Path) × (q ≡ p ++ n ∷ r) = from_below p q is_path.names of.names inside in
        let meta : meta_of (sighted (fold onward (entry_at t p) (at.0 ∷ at.1))) ≡ Some v = ap (λ (a : At). meta_of (sighted a)) (sym (along t p (at.0 ∷ at.1)) ∙ ap (entry_at t) (sym at.2)) ∙ sym (means.meta.paths q of) ∙ e in
        let some : (x : Tree) × (named at.0 (entries_of (entry_at t p)) ≡ Some x) = some_entry (entry_at t p) at.0 at.1 v meta in
        record { name = at.0; rest = at.1; tree = some.0; path = at.2; entry = some.1 };
    high = refl;
  };
}

-- ---- names of entries

first_named : (n : Name) (x : Tree) (es : Entries) → named n (entry n x es) ≡ Some x
first_named n x es = ap (λ (b : Bool). cond b (Some x) (named n es)) (same_itself n)

above_named : (n k : Name) (es : Entries) (x : Tree) → AllAbove n es → named k es ≡ Some x → by_bytes n k ≡ Less
above_named n k nothing x h e = absurd (cc)
above_named n k (entry l y es) x h e = by_bool (same k l) (by_bytes n k ≡ Less)
    (λ s. ap (by_bytes n) (same_true k l s) ∙ h.0)
    (λ s. above_named n k es x h.1 (sym (ap (λ (b : Bool). cond b (Some y) (named k es)) s) ∙ e))

-- a name is that of the first entry, or of one after it
named_cases : (P : Type 0) (k n : Name) (x y : Tree) (es : Entries) → named k (entry n y es) ≡ Some x → (k ≡ n → P) → (named k es ≡ Some x → P) → P
named_cases P k n x y es e f g = by_bool (same k n) P (λ s. f (same_true k n s)) (λ s. g (sym (ap (λ (b : Bool). cond b (Some y) (named k es)) s) ∙ e))

less_apart : (n k : Name) → by_bytes n k ≡ Less → same k n ≡ true → ⊥
less_apart n k l s = let clash : by_bytes n n ≡ Less = ap (by_bytes n) (sym (same_true k n s)) ∙ l in let f : is_eq (by_bytes n n) ≡ true = same_itself n in cc

-- a later entry's name is none of the first's
later_named : (k n : Name) (x y : Tree) (es : Entries) → AllAbove n es → named k es ≡ Some x → named k (entry n y es) ≡ Some x
later_named k n x y es h e = by_bool (same k n) (named k (entry n y es) ≡ Some x)
    (λ s. absurd (less_apart n k (above_named n k es x h e) s))
    (λ s. ap (λ (b : Bool). cond b (Some y) (named k es)) s ∙ e)

name_bytes : (p : Path) (n : Name) (r : Path) → IsPath (p ++ n ∷ r) → HasNameBytes n
name_bytes p n r h = (each_rest p (n ∷ r) h.names).0.bytes

kind_is : (x : Tree) (v : Meta) → meta_of (sighted (Found x)) ≡ Some v → kind_reported v ≡ kind_of x
kind_is (Dir date es) v e = cc
kind_is (File date b) v e = cc

-- ---- one entry more

-- the first key from lo on is that of the next entry, and everything after its end is the rest
pub record Next (t : Tree) (m : MetaIndex) (p : Path) (listed : List (Kind × Name)) (hi : Option Key) (k : Key) (v : Meta) : Type 0 where
  pub name : Name
  pub path : IsPath (p ++ name ∷ [])
  pub key : k ≡ enc (p ++ name ∷ [])
  pub more : Listed t m p (listed ++ (kind_reported v, name) ∷ []) (end_key p name) hi

module _ (t : Tree) (m : MetaIndex) (p : Path) (means : IsMeantBy t m) (listed : List (Kind × Name)) (lo : Key) (hi : Option Key) where
  -- the metadata of an entry that is left
  own_meta : (es : Entries) → IsRest t m p es listed lo hi → (n : Name) (x : Tree) → named n es ≡ Some x → metadata m (enc (p ++ n ∷ [])) ≡ meta_of (sighted (Found x))
  own_meta es r n x e =
      let there : entry_at t (p ++ n ∷ []) ≡ Found x = r.stand n x e in
      means.meta.paths (p ++ n ∷ []) (means.tree.paths (p ++ n ∷ []) x there) ∙ ap (λ (a : At). meta_of (sighted a)) there

  -- no key from lo on, if the first entry's key is not reached yet
  reached : (es : Entries) → IsRest t m p es listed lo hi → (n : Name) (x : Tree) → named n es ≡ Some x → (k : Key) → HasNone (metadata m) lo (Some k) → reaches k (enc (p ++ n ∷ [])) ≡ true
  reached es r n x e k none = by_bool (before (enc (p ++ n ∷ [])) k) (reaches k (enc (p ++ n ∷ [])) ≡ true)
      (λ s. absurd (seen_some x (sym (own_meta es r n x e) ∙ none (enc (p ++ n ∷ [])) (in_range lo (enc (p ++ n ∷ [])) (Some k) (r.ahead n x e) s))))
      (λ s. reaches-from_not_before (enc (p ++ n ∷ [])) k s)

  -- the key of the first pair is that of the first entry
  first_key : (n : Name) (x : Tree) (es : Entries) → IsRest t m p (entry n x es) listed lo hi → (k : Key) (q : Path) → k ≡ enc q → IsPath q → Among p (entry n x es) q → HasNone (metadata m) lo (Some k) → k ≡ enc (p ++ n ∷ [])
  first_key n x es r k q e of among none =
      let near : reaches k (enc (p ++ n ∷ [])) ≡ true = reached (entry n x es) r n x (first_named n x es) k none in
      let is : k ≡ enc (p ++ among.name ∷ among.rest) = e ∙ ap enc among.path in
      named_cases (k ≡ enc (p ++ n ∷ [])) among.name n among.tree x es among.entry
      (λ s.
      let here : k ≡ enc (p ++ n ∷ among.rest) = is ∙ ap (λ (j : Name). enc (p ++ j ∷ among.rest)) s in
      one_key k (enc (p ++ n ∷ [])) near (subst (λ (j : Key). reaches (enc (p ++ n ∷ [])) j ≡ true) (sym here) (child_first p n among.rest)))
      (λ s. absurd (
      let bytes : HasNameBytes among.name = name_bytes p among.name among.rest (subst IsPath among.path of) in
      let far : before (enc (p ++ n ∷ [])) k ≡ true = subst (λ (j : Key). before (enc (p ++ n ∷ [])) j ≡ true) (sym is) (child_before p n among.name [] among.rest bytes (above_named n among.name es among.tree r.rising.0 s)) in
      let never : reaches k (enc (p ++ n ∷ [])) ≡ false = not_reaches (enc (p ++ n ∷ [])) k far in
      cc))

  -- the rest after the first entry
  rest_behind : (n : Name) (x : Tree) (es : Entries) (v : Meta) → IsRest t m p (entry n x es) listed lo hi → kind_reported v ≡ kind_of x → IsRest t m p es (listed ++ (kind_reported v, n) ∷ []) (end_key p n) hi
  rest_behind n x es v r kind = record {
    whole = append_assoc listed ((kind_reported v, n) ∷ []) (listing es) ∙ ap (λ (k : Kind). listed ++ (k, n) ∷ listing es) kind ∙ r.whole;
    rising = r.rising.2;
    stand = λ k y e. r.stand k y (later_named k n y x es r.rising.0 e);
    ahead = λ k y e.
        let there : entry_at t (p ++ k ∷ []) ≡ Found y = r.stand k y (later_named k n y x es r.rising.0 e) in
        end_before p n k [] (name_bytes p k [] (means.tree.paths (p ++ k ∷ []) y there)) (above_named n k es y r.rising.0 e);
    only = λ q w of inside e.
        let parts : (reaches (end_key p n) (enc q) ≡ true) × (is_below (enc q) hi ≡ true) = and_parts _ _ inside in
        let end : reaches lo (end_key p n) ≡ true = le_le lo (enc (p ++ n ∷ [])) (end_key p n) (r.ahead n x (first_named n x es)) (reaches-from_before (enc (p ++ n ∷ [])) (end_key p n) (child_inside p n [])) in
        let low : reaches lo (enc q) ≡ true = le_le lo (end_key p n) (enc q) end parts.0 in
        behind q parts.0 (r.only q w of (in_range lo (enc q) hi low parts.1) e);
    high = r.high;
  }
    where
      behind : (q : Path) → reaches (end_key p n) (enc q) ≡ true → Among p (entry n x es) q → Among p es q
      behind q far among = named_cases (Among p es q) among.name n among.tree x es among.entry
          (λ s. absurd (
          let here : enc q ≡ enc (p ++ n ∷ among.rest) = ap enc among.path ∙ ap (λ (j : Name). enc (p ++ j ∷ among.rest)) s in
          let never : reaches (end_key p n) (enc q) ≡ false = not_reaches (enc q) (end_key p n) (subst (λ (j : Key). before j (end_key p n) ≡ true) (sym here) (child_inside p n among.rest)) in
          cc))
          (λ s. record { name = among.name; rest = among.rest; tree = among.tree; path = among.path; entry = s })

  next_of : (es : Entries) (k : Key) (v : Meta) → IsRest t m p es listed lo hi → IsFirst (metadata m) lo hi (Some (k, v)) → (q : Path) → k ≡ enc q → IsPath q → Among p es q → Next t m p listed hi k v
  next_of nothing k v r h q e of among = absurd (let f : None ≡ Some among.tree = among.entry in cc)
  next_of (entry n x es) k v r h q e of among =
      let key : k ≡ enc (p ++ n ∷ []) = first_key n x es r k q e of among h.2 in
      let meta : meta_of (sighted (Found x)) ≡ Some v = sym (own_meta (entry n x es) r n x (first_named n x es)) ∙ ap (metadata m) (sym key) ∙ h.1 in
      record {
        name = n;
        path = means.tree.paths (p ++ n ∷ []) x (r.stand n x (first_named n x es));
        key = key;
        more = record { entries = es; rest = rest_behind n x es v r (kind_is x v meta) };
      }

  -- the first pair is the next entry
  pub next_listed : (k : Key) (v : Meta) → Listed t m p listed lo hi → IsFirst (metadata m) lo hi (Some (k, v)) → Next t m p listed hi k v
  next_listed k v l h =
      let of : PathOf k = means.meta.only_paths k v h.1 in
      let inside : within lo hi (enc of.path) ≡ true = subst (λ (j : Key). within lo hi j ≡ true) of.key h.0 in
      let meta : metadata m (enc of.path) ≡ Some v = ap (metadata m) (sym of.key) ∙ h.1 in
      next_of l.entries k v l.rest h of.path of.key of.is_path (l.rest.only of.path v of.is_path inside meta)

  all_of : (es : Entries) → IsRest t m p es listed lo hi → HasNone (metadata m) lo hi → listed ≡ names_of (entry_at t p)
  all_of nothing r h = sym (append-nil listed) ∙ r.whole
  all_of (entry n x es) r h = absurd (
      let at : named n (entry n x es) ≡ Some x = first_named n x es in
      let high : is_below (enc (p ++ n ∷ [])) hi ≡ true = subst (λ (o : Option Key). is_below (enc (p ++ n ∷ [])) o ≡ true) (sym r.high) (and_parts _ _ (in_below p n [])).1 in
      seen_some x (sym (own_meta (entry n x es) r n x at) ∙ h (enc (p ++ n ∷ [])) (in_range lo (enc (p ++ n ∷ [])) hi (r.ahead n x at) high)))

  -- if no pair is left, all entries are listed
  pub all_listed : Listed t m p listed lo hi → HasNone (metadata m) lo hi → listed ≡ names_of (entry_at t p)
  all_listed l h = all_of l.entries l.rest h
