-- The longest text from a tree down is that of a path at which something is seen.
use Rattle.std.proofs.Common.{◌≡◌, ℕ, ◌+◌, ◌<◌, [], ◌∷◌, length, true, false, Bool, cond, sym, ap, refl, ◌∙◌, subst, arith, Some, None}
use Rattle.std.specs.Prelude.{fold, nat_le}
use Rattle.std.proofs.lemmas.Bool.{leb-true, leb-false}
use Rattle.pathkey.specs.Names.{text_len}
use Rattle.pathkey.proofs.OrderFacts.{same_itself, same_true}
use Rattle.reference.specs.Tree.{same, Name, Path, Tree, Dir, File, Entries, nothing, entry, named, found, onward}
use Rattle.reference.specs.Calls.{deepest, deepest_of}
use Rattle.reference.specs.Reads.{Look, Directory, Bytes, seen, look}
use Rattle.reference.specs.Shape.{Rising, RisingEntries}
use Rattle.reference.proofs.Edits.{fold-Missing}
use Rattle.reference.proofs.Sight.{none_above}

-- something is seen at the path, whose text is the longest
pub record Deepest (x : Tree) : Type 0 where
  pub path : Path
  pub there : Look
  pub seen : look x path ≡ Some there
  pub long : text_len path ≡ deepest x

-- below the first entry
below_first : (date : ℕ) (n : Name) (y : Tree) (rest : Entries) → Deepest y → deepest_of (entry n y rest) ≡ 1 + length n + deepest y → Deepest (Dir date (entry n y rest))
below_first date n y rest d long = record {
  path = n ∷ d.path;
  there = d.there;
  seen = subst (λ (b : Bool). seen (fold onward (found (cond b (Some y) (named n rest))) d.path) ≡ Some d.there) (sym (same_itself n)) d.seen;
  long = let l : text_len d.path ≡ deepest y = d.long in omega arith;
}

-- below another
below_others : (date : ℕ) (n : Name) (y : Tree) (rest : Entries) → RisingEntries (entry n y rest) → (p : Path) (l : Look) → look (Dir date rest) p ≡ Some l → text_len p ≡ deepest_of rest → 0 < deepest_of rest → deepest_of (entry n y rest) ≡ deepest_of rest → Deepest (Dir date (entry n y rest))
below_others date n y rest v [] l there long some is = absurd (omega arith)
below_others date n y rest v (k ∷ r) l there long some is = record {
  path = k ∷ r;
  there = l;
  seen = elim (same k n) as (λ b. same k n ≡ b → seen (fold onward (found (cond b (Some y) (named k rest))) r) ≡ Some l) [
    | true ↦ λ e. absurd (
        let key : k ≡ n = same_true k n e in
        let gone : seen (fold onward (found (named k rest)) r) ≡ None = ap (λ (m : Name). seen (fold onward (found (named m rest)) r)) key ∙ ap (λ o. seen (fold onward (found o) r)) (none_above n rest v.0) ∙ ap seen (fold-Missing r) in
        let both : None ≡ Some l = sym gone ∙ there in
        cc)
    | false ↦ λ e. there
  ] refl;
  long = long ∙ sym is;
}

mutual
  pub deepest_there : (x : Tree) → Rising x → Deepest x
  deepest_there (File date b) v = record { path = []; there = Bytes b; seen = refl; long = refl }
  deepest_there (Dir date es) v = deepest_among date es v

  deepest_among : (date : ℕ) (es : Entries) → RisingEntries es → Deepest (Dir date es)
  deepest_among date nothing v = record { path = []; there = Directory; seen = refl; long = refl }
  deepest_among date (entry n y rest) v =
      let first : Deepest y = deepest_there y v.1 in
      let others : Deepest (Dir date rest) = deepest_among date rest v.2 in
      elim (nat_le (deepest_of rest) (1 + length n + deepest y)) as (λ b. nat_le (deepest_of rest) (1 + length n + deepest y) ≡ b → Deepest (Dir date (entry n y rest))) [
        | true ↦ λ e. below_first date n y rest first (omega (arith, leb-true (deepest_of rest) (1 + length n + deepest y) e))
        | false ↦ λ e. below_others date n y rest v others.path others.there others.seen others.long (omega (arith, leb-false (deepest_of rest) (1 + length n + deepest y) e)) (omega (arith, leb-false (deepest_of rest) (1 + length n + deepest y) e))
      ] refl
