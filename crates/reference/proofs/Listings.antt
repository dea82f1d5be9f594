-- What a directory lists.
use Rattle.std.proofs.Common.{◌≡◌, ◌↔◌, ◌⊎◌, inl, inr, ⊎_elim, ℕ, List, [], ◌∷◌, ◌++◌, Bool, true, false, cond, sym, ap, refl, ◌∙◌, subst, arith, Option, Some, None}
use Rattle.std.specs.Prelude.{option_map, Contains}
use Rattle.std.proofs.lemmas.List.Elements.{Contains-append_left, Contains-append_right, Contains-append_cases, Contains-push, Contains-push_cases}
use Rattle.pathkey.proofs.OrderFacts.{same_true, same_from_eq}
use Rattle.reference.specs.Tree.{same, Name, Path, Tree, Dir, File, Entries, nothing, entry, named, Found, found, entry_at}
use Rattle.reference.specs.Calls.{kind_of, listing}
use Rattle.reference.specs.Reads.{seen, look_kind, kind_at}
use Rattle.reference.specs.Shape.{Rising, RisingEntries}
use Rattle.reference.specs.declared.reply.Kind.{Kind}
use Rattle.reference.proofs.Standing.{rising-found}
use Rattle.reference.proofs.Sight.{none_above, child_law}

-- ---- membership in a list that begins with one more
in_none : {X : Type 0} (x : X) → Contains {X = X} [] x → ⊥
in_none x h = omega arith

in_more : {X : Type 0} (y : X) (ys : List X) (x : X) → Contains (y ∷ ys) x → (y ≡ x) ⊎ Contains ys x
in_more {X} y ys x h = ⊎_elim
    (λ (g : Contains (y ∷ []) x). ⊎_elim (λ (f : Contains {X = X} [] x). absurd (in_none x f)) (λ (f : y ≡ x). inl f) (Contains-push_cases [] y x g))
    (λ (g : Contains ys x). inr g)
    (Contains-append_cases (y ∷ []) ys x h)

in_first : {X : Type 0} (y : X) (ys : List X) → Contains (y ∷ ys) y
in_first y ys = Contains-append_left (y ∷ []) ys y (Contains-push [] y)

in_rest : {X : Type 0} (y : X) (ys : List X) (x : X) → Contains ys x → Contains (y ∷ ys) x
in_rest y ys x h = Contains-append_right (y ∷ []) ys x h

-- ---- entries
seen_kind : (o : Option Tree) → option_map look_kind (seen (found o)) ≡ option_map kind_of o
seen_kind None = refl
seen_kind (Some (Dir date es)) = refl
seen_kind (Some (File date b)) = refl

listed_named : (k : Kind) (n : Name) (es : Entries) → RisingEntries es → Contains (listing es) (k, n) → option_map kind_of (named n es) ≡ Some k
listed_named k n nothing v h = absurd (in_none (k, n) h)
listed_named k n (entry m x rest) v h = ⊎_elim first (λ g. later (listed_named k n rest v.2 g)) (in_more (kind_of x, m) (listing rest) (k, n) h)
  where
    first : ◌≡◌ {A = Kind × Name} (kind_of x, m) (k, n) → option_map kind_of (cond (same n m) (Some x) (named n rest)) ≡ Some k
    first e =
        let is : n ≡ m = sym (ap (λ (z : Kind × Name). z.1) e) in
        ap (λ (b : Bool). option_map kind_of (cond b (Some x) (named n rest))) (same_from_eq n m is) ∙ ap (λ (z : Kind × Name). Some z.0) e

    later : option_map kind_of (named n rest) ≡ Some k → option_map kind_of (cond (same n m) (Some x) (named n rest)) ≡ Some k
    later ih =
        elim (same n m) as (λ b. same n m ≡ b → option_map kind_of (cond b (Some x) (named n rest)) ≡ Some k) [
          | true ↦ λ e. absurd (let none : named n rest ≡ None = ap (λ (z : Name). named z rest) (same_true n m e) ∙ none_above m rest v.0 in let f : option_map kind_of None ≡ Some k = ap (option_map kind_of) (sym none) ∙ ih in cc)
          | false ↦ λ e. ih
        ] refl

named_listed : (k : Kind) (n : Name) (es : Entries) → option_map kind_of (named n es) ≡ Some k → Contains (listing es) (k, n)
named_listed k n nothing h = absurd (cc)
named_listed k n (entry m x rest) h =
    elim (same n m) as (λ b. same n m ≡ b → option_map kind_of (cond b (Some x) (named n rest)) ≡ Some k → Contains ((kind_of x, m) ∷ listing rest) (k, n)) [
      | true ↦ λ e f.
          let is : m ≡ n = sym (same_true n m e) in
          let kind : kind_of x ≡ k = cc in
          let pair : ◌≡◌ {A = Kind × Name} (kind_of x, m) (k, n) = cc in
          subst (λ (z : Kind × Name). Contains ((kind_of x, m) ∷ listing rest) z) pair (in_first (kind_of x, m) (listing rest))
      | false ↦ λ e f. in_rest (kind_of x, m) (listing rest) (k, n) (named_listed k n rest f)
    ] refl h

pub listing_law : (t : Tree) (p : Path) (date : ℕ) (es : Entries) (k : Kind) (n : Name) → Rising t → entry_at t p ≡ Found (Dir date es) → Contains (listing es) (k, n) ↔ (kind_at t (p ++ n ∷ []) ≡ Some k)
listing_law t p date es k n rises there =
    let kind : kind_at t (p ++ n ∷ []) ≡ option_map kind_of (named n es) = ap (option_map look_kind) (child_law t p date es n there) ∙ seen_kind (named n es) in
    (λ h. kind ∙ listed_named k n es (rising-found p t (Dir date es) there rises) h, λ h. named_listed k n es (sym kind ∙ h))
