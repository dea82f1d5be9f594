-- What is seen at the paths of a tree decides the tree, and what stands at each path.
use Rattle.std.proofs.Common.{◌≡◌, ℕ, List, [], ◌∷◌, ◌++◌, Bool, true, false, cond, sym, ap, refl, ◌∙◌, subst, Ordering, Option, Some, None}
use Rattle.std.specs.Prelude.{fold}
use Rattle.std.specs.Ordering.{is_eq}
use Rattle.std.specs.declared.cmp.Ordering.TheVariants.{Less, Equal, Greater}
use Rattle.reference.specs.Tree.{by_bytes, same, Name, Path, Tree, Dir, File, Entries, nothing, entry, named, At, Found, Missing, Blocked, found, onward, entry_at}
use Rattle.reference.specs.Reads.{Directory, Bytes, seen, look, Seen, sighted, sight}
use Rattle.reference.specs.Shape.{AllAbove, Rising, RisingEntries}
use Rattle.pathkey.proofs.OrderFacts.{equal, same_itself, same_true}
use Rattle.reference.proofs.EntryPaths.{along}
use Rattle.reference.proofs.Edits.{fold-Missing, fold-Blocked}
use Rattle.reference.proofs.Standing.{file_seen}
use Rattle.reference.proofs.Rising.{above_trans, flipped}

-- a name below all others is none of them
pub none_above : (n : Name) (es : Entries) → AllAbove n es → named n es ≡ None
none_above n nothing h = refl
none_above n (entry m x rest) h = subst (λ (o : Ordering). cond (is_eq o) (Some x) (named n rest) ≡ None) (sym h.0) (none_above n rest h.1)

some_sighted : (x : Tree) → sighted (Found x) ≡ None → ⊥
some_sighted (Dir date es) h = cc
some_sighted (File date b) h = cc

some_seen : (x : Tree) → seen (Found x) ≡ None → ⊥
some_seen (Dir date es) h = cc
some_seen (File date b) h = cc

abbrev Alike : Entries → Entries → Type 0
Alike es fs = (n : Name) (p : Path) → sighted (fold onward (found (named n es)) p) ≡ sighted (fold onward (found (named n fs)) p)

-- the first entry of es has no name of its own there where all names of fs are above
first_missing : (n : Name) (x : Tree) (rest fs : Entries) → AllAbove n fs → Alike (entry n x rest) fs → ⊥
first_missing n x rest fs h like =
    some_sighted x (sym (ap (λ (o : Option Tree). sighted (found o)) here) ∙ like n [] ∙ ap (λ (o : Option Tree). sighted (found o)) (none_above n fs h))
  where
    here : named n (entry n x rest) ≡ Some x
    here = ap (λ (b : Bool). cond b (Some x) (named n rest)) (same_itself n)

-- entries behind equal first ones are alike
tails : (n : Name) (x y : Tree) (es fs : Entries) → AllAbove n es → AllAbove n fs → Alike (entry n x es) (entry n y fs) → Alike es fs
tails n x y es fs h g like = λ k p. elim (same k n) as (λ b. same k n ≡ b → sighted (fold onward (found (named k es)) p) ≡ sighted (fold onward (found (named k fs)) p)) [
  | true ↦ λ e.
      let is : k ≡ n = same_true k n e in
      let a : named k es ≡ None = ap (λ (z : Name). named z es) is ∙ none_above n es h in
      let b : named k fs ≡ None = ap (λ (z : Name). named z fs) is ∙ none_above n fs g in
      ap (λ (o : Option Tree). sighted (fold onward (found o) p)) (a ∙ sym b)
  | false ↦ λ e. subst (λ (b : Bool). sighted (fold onward (found (cond b (Some x) (named k es))) p) ≡ sighted (fold onward (found (cond b (Some y) (named k fs))) p)) e (like k p)
] refl

heads : (n : Name) (x y : Tree) (es fs : Entries) → Alike (entry n x es) (entry n y fs) → (p : Path) → sight x p ≡ sight y p
heads n x y es fs like p = subst (λ (b : Bool). sighted (fold onward (found (cond b (Some x) (named n es))) p) ≡ sighted (fold onward (found (cond b (Some y) (named n fs))) p)) (same_itself n) (like n p)

mutual
  pub one_tree : (t u : Tree) → Rising t → Rising u → ((p : Path) → sight t p ≡ sight u p) → t ≡ u
  one_tree (Dir date es) (Dir stamp fs) r s like =
      let h : Some (Seen Directory date) ≡ Some (Seen Directory stamp) = like [] in
      let when : date ≡ stamp = cc in
      cc (when, one_directory es fs r s (λ n p. like (n ∷ p)))
  one_tree (Dir date es) (File stamp c) r s like = absurd (let h : Some (Seen Directory date) ≡ Some (Seen (Bytes c) stamp) = like [] in cc)
  one_tree (File date b) (Dir stamp fs) r s like = absurd (let h : Some (Seen (Bytes b) date) ≡ Some (Seen Directory stamp) = like [] in cc)
  one_tree (File date b) (File stamp c) r s like = let h : Some (Seen (Bytes b) date) ≡ Some (Seen (Bytes c) stamp) = like [] in cc

  pub one_directory : (es fs : Entries) → RisingEntries es → RisingEntries fs → Alike es fs → es ≡ fs
  one_directory nothing nothing r s like = refl
  one_directory nothing (entry m y fs) r s like = absurd (first_missing m y fs nothing tt (λ n p. sym (like n p)))
  one_directory (entry n x es) nothing r s like = absurd (first_missing n x es nothing tt like)
  one_directory (entry n x es) (entry m y fs) r s like =
      elim (by_bytes n m) as (λ o. by_bytes n m ≡ o → entry n x es ≡ entry m y fs) [
        | Less ↦ λ e. absurd (first_missing n x es (entry m y fs) (e, above_trans n m fs e s.0) like)
        | Greater ↦ λ e. absurd (first_missing m y fs (entry n x es) (flipped n m e, above_trans m n es (flipped n m e) r.0) (λ k p. sym (like k p)))
        | Equal ↦ λ e.
            let is : n ≡ m = equal n m e in
            let like' : Alike (entry n x es) (entry n y fs) = subst (λ (z : Name). Alike (entry n x es) (entry z y fs)) (sym is) like in
            let above : AllAbove n fs = subst (λ (z : Name). AllAbove z fs) (sym is) s.0 in
            let head : x ≡ y = one_tree x y r.1 s.1 (heads n x y es fs like') in
            let tail : es ≡ fs = one_directory es fs r.2 s.2 (tails n x y es fs r.0 above like') in
            cc
      ] refl

directory_seen : (a : At) → seen a ≡ Some Directory → (date : ℕ) × (es : Entries) × (a ≡ Found (Dir date es))
directory_seen (Found (Dir date es)) h = (date, es, refl)
directory_seen (Found (File stamp c)) h = absurd (cc)
directory_seen Missing h = absurd (cc)
directory_seen Blocked h = absurd (cc)

found_none : (o : Option Tree) → seen (found o) ≡ None → o ≡ None
found_none None h = refl
found_none (Some x) h = absurd (some_seen x h)

pub blocked_law : (t : Tree) (p : Path) (n : Name) (r : Path) (b : List ℕ) → look t p ≡ Some (Bytes b) → entry_at t (p ++ n ∷ r) ≡ Blocked
blocked_law t p n r b h = along t p (n ∷ r) ∙ ap (λ (a : At). fold onward a (n ∷ r)) (file_seen (entry_at t p) b h).1 ∙ fold-Blocked r

pub child_law : (t : Tree) (p : Path) (date : ℕ) (es : Entries) (n : Name) → entry_at t p ≡ Found (Dir date es) → look t (p ++ n ∷ []) ≡ seen (found (named n es))
child_law t p date es n h = ap seen (along t p (n ∷ [])) ∙ ap (λ (a : At). seen (onward a n)) h

pub missing_law : (t : Tree) (p : Path) (n : Name) (r : Path) → look t p ≡ Some Directory → look t (p ++ n ∷ []) ≡ None → entry_at t (p ++ n ∷ r) ≡ Missing
missing_law t p n r h g =
    let d : (date : ℕ) × (es : Entries) × (entry_at t p ≡ Found (Dir date es)) = directory_seen (entry_at t p) h in
    let o : named n d.1 ≡ None = found_none (named n d.1) (sym (child_law t p d.0 d.1 n d.2) ∙ g) in
    along t p (n ∷ r) ∙ ap (λ (a : At). fold onward a (n ∷ r)) d.2 ∙ ap (λ (c : Option Tree). fold onward (found c) r) o ∙ fold-Missing r
