-- The steps of a listing in the words of the code.
use Rattle.std.proofs.Common.{◌≡◌, ℕ, List, [], ◌∷◌, ◌++◌, Bool, sym, ap, subst, ◌∙◌, append_assoc, Option, Some, None}
use Rattle.pathkey.specs.Names.{Name, Path, IsPath}
use Rattle.pathkey.specs.Keys.{Key, enc, next_key}
use Rattle.pathkey.specs.declared.range.KeyRange.{KeyRange}
use Rattle.pathkey.proofs.KeyFacts.{enc-append}
use Rattle.scan.specs.Pairs.{AreFrom, IsFirst, IsGiven}
use Rattle.reference.specs.Tree.{Tree, entry_at}
use Rattle.reference.specs.Calls.{names_of}
use Rattle.reference.specs.declared.reply.Kind.{Kind}
use Rattle.reference.specs.declared.reply.Meta.{Meta}
use Rattle.meta_index.specs.declared.index.MetaIndex.{MetaIndex}
use Rattle.meta_index.specs.Below.{below, kind_reported}
use Rattle.meta_index.specs.Means.{metadata, IsMeantBy}
use Rattle.meta_index.proofs.ChildOrder.{end_key}
use Rattle.meta_index.proofs.Listed.{Listed, listed_none, Next, next_listed, all_listed}

-- these entries of the directory p are listed; `next` is the first pair after them and everything below them, and the
-- pairs read ahead are those after it
pub record GoesOn (t : Tree) (m : MetaIndex) (p : Path) (es : List (Kind × Name)) (hi : Option Key) (next : Option (Key × Meta)) (all : Bool) (ps : List (Key × Meta)) : Type 0 where
  pub lo : Key
  pub listed : Listed t m p es lo hi
  pub given : IsGiven (metadata m) lo hi next all ps

-- the end of the keys at and below an entry, of which this is the key
entry_end : (p : Path) (n : Name) → end_key p n ≡ (enc p ++ n) ++ 1 ∷ []
entry_end p n = sym (append_assoc (enc p) n (1 ∷ []))

module _ (t : Tree) (m : MetaIndex) (p : Path) (means : IsMeantBy t m) where
  -- before the first entry
  pub listing_starts : (r : KeyRange) (next : Option (Key × Meta)) (all : Bool) (ps : List (Key × Meta)) → IsPath p → r ≡ below p → IsGiven (metadata m) r.lo r.hi next all ps → GoesOn t m p [] r.hi next all ps
  listing_starts r next all ps is_path is given = record {
    lo = r.lo;
    listed = subst (λ (x : KeyRange). Listed t m p [] x.lo x.hi) (sym is) (listed_none t m p is_path means);
    given = given;
  }

  module _ (es : List (Kind × Name)) (hi : Option Key) (next : Option (Key × Meta)) (all : Bool) (ps : List (Key × Meta)) (goes : GoesOn t m p es hi next all ps) where
    -- if no pair is left
    pub listing_ends : next ≡ None → es ≡ names_of (entry_at t p)
    listing_ends e = all_listed t m p means es goes.lo hi goes.listed (subst (λ (o : Option (Key × Meta)). IsGiven (metadata m) goes.lo hi o all ps) e goes.given)

    module _ (k : Key) (v : Meta) (is : next ≡ Some (k, v)) where
      given : IsFirst (metadata m) goes.lo hi (Some (k, v)) × AreFrom (metadata m) (next_key k) hi all ps
      given = subst (λ (o : Option (Key × Meta)). IsGiven (metadata m) goes.lo hi o all ps) is goes.given

      found : Next t m p es hi k v
      found = next_listed t m p means es goes.lo hi k v goes.listed given.0

      -- its key is the directory's, its name and a byte 0
      entry_key : k ≡ enc p ++ (found.name ++ 0 ∷ [])
      entry_key = found.key ∙ enc-append p (found.name ∷ [])

      whole_key : k ≡ (enc p ++ found.name) ++ 0 ∷ []
      whole_key = entry_key ∙ sym (append_assoc (enc p) found.name (0 ∷ []))

      -- the pair is that of the next entry
      pub listing_goes_on : (directory : Key) → directory ≡ enc p → (name : Name) → ((n : Name) → k ≡ directory ++ (n ++ 0 ∷ []) → name ≡ n)
          → (kind : Kind) → kind ≡ kind_reported v → (high : Option Key) → high ≡ hi → (further : Option (Key × Meta)) (none_left : Bool) (rest : List (Key × Meta))
          → ((s : List ℕ) → k ≡ s ++ 0 ∷ [] → AreFrom (metadata m) (next_key k) hi all ps → IsGiven (metadata m) (s ++ 1 ∷ []) hi further none_left rest)
          → GoesOn t m p (es ++ (kind, name) ∷ []) high further none_left rest
      listing_goes_on directory at name name_of kind kind_is high high_is further none_left rest goes_past =
          let name_is : name ≡ found.name = name_of found.name (entry_key ∙ ap (λ (d : Key). d ++ (found.name ++ 0 ∷ [])) (sym at)) in
          let more : es ++ (kind, name) ∷ [] ≡ es ++ (kind_reported v, found.name) ∷ [] = ap (λ (x : Kind). es ++ (x, name) ∷ []) kind_is ∙ ap (λ (x : Name). es ++ (kind_reported v, x) ∷ []) name_is in
          let end : Key = (enc p ++ found.name) ++ 1 ∷ [] in
          let here : Listed t m p (es ++ (kind_reported v, found.name) ∷ []) end hi = subst (λ (x : Key). Listed t m p (es ++ (kind_reported v, found.name) ∷ []) x hi) (entry_end p found.name) found.more in
          let past : IsGiven (metadata m) end hi further none_left rest = goes_past (enc p ++ found.name) whole_key given.1 in
          record {
            lo = end;
            listed = subst (λ (o : Option Key). Listed t m p (es ++ (kind, name) ∷ []) end o) (sym high_is) (subst (λ (x : List (Kind × Name)). Listed t m p x end hi) (sym more) here);
            given = subst (λ (o : Option Key). IsGiven (metadata m) end o further none_left rest) (sym high_is) past;
          }
