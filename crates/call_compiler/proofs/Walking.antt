-- The walk over the pairs below a path, each put under its new key.
use Rattle.std.proofs.Common.{◌≡◌, ◌≢◌, ◌+◌, List, [], ◌∷◌, ◌++◌, length, drop, map, refl, sym, ap, ◌∙◌, subst, Option, Some, None, arith}
use Rattle.std.proofs.lemmas.List.{append-nil, append_assoc, drop_at, map-append}
use Rattle.message.specs.declared.msg.Msg.{Msg}
use Rattle.message.specs.declared.msg.Msg.TheVariants.{Put}
use Rattle.message.specs.Ranges.{reaches}
use Rattle.message.proofs.KeyOrder.{both}
use Rattle.pathkey.specs.Keys.{Key, enc, subtree, next_key, is_below, IsRekeyed}
use Rattle.pathkey.specs.Names.{Path}
use Rattle.pathkey.specs.declared.range.KeyRange.{KeyRange}
use Rattle.pathkey.proofs.KeyFacts.{in_subtree}
use Rattle.pathkey.proofs.KeyOrder.{le_le}
use Rattle.scan.specs.Pairs.{HasNone, IsFirst, IsScan}
use Rattle.message.proofs.NextKey.{in_range}
use Rattle.scan.proofs.Parts.{IsPart, part_start, part_more, scan_all}
use Rattle.scan.proofs.ReadaheadFacts.{short_law}
use Rattle.call_compiler.specs.Moves.{Puts, put_under}

module _ {U V : Type 0} (f : Key → Option V) (o n : Path) (first : List (Msg U V)) where
  -- the pairs below o that are before the rest of the range have their messages
  pub record Walked (rest : KeyRange) (msgs : List (Msg U V)) : Type 0 where
    pub pairs : List (Key × V)
    pub end : rest.hi ≡ (subtree o).hi
    pub part : IsPart f (subtree o).lo (subtree o).hi rest.lo pairs
    pub list : msgs ≡ first ++ map (put_under o n) pairs

  -- none yet
  pub walk_starts : (rest : KeyRange) (msgs : List (Msg U V)) → rest ≡ subtree o → msgs ≡ first → Walked rest msgs
  walk_starts rest msgs is none = record {
    pairs = [];
    end = ap (λ (r : KeyRange). r.hi) is;
    part = part_start f (subtree o).lo (subtree o).hi rest.lo [] (ap (λ (r : KeyRange). r.lo) is) refl;
    list = none ∙ sym (append-nil first);
  }

  module _ (rest : KeyRange) (msgs : List (Msg U V)) (w : Walked rest msgs) where
    -- what is found first, in the range as it was named
    found : (r q : Option (Key × V)) → r ≡ q → IsFirst f rest.lo rest.hi r → IsFirst f rest.lo (subtree o).hi q
    found r q e h = subst (λ (x : Option (Key × V)). IsFirst f rest.lo (subtree o).hi x) e (subst (λ (hi : Option Key). IsFirst f rest.lo hi r) w.end h)

    -- all of them
    pub walk_ends : (r : Option (Key × V)) → r ≡ None → IsFirst f rest.lo rest.hi r → Puts f o n first msgs
    walk_ends r is h =
        let lo = (subtree o).lo in
        let hi = (subtree o).hi in
        let none : HasNone f rest.lo hi = found r None is h in
        let exact : IsScan f lo hi (length w.pairs) w.pairs = scan_all f lo hi rest.lo w.pairs w.part (length w.pairs) (omega arith) none in
        let more : IsScan f lo hi (length w.pairs + 1) w.pairs = scan_all f lo hi rest.lo w.pairs w.part (length w.pairs + 1) (omega arith) none in
        (w.pairs, record { scan = exact; all = short_law f lo hi (length w.pairs + 1) w.pairs more (omega arith) }, w.list)

    module _ (r : Option (Key × V)) (p : Key × V) (is : r ≡ Some p) (first_one : IsFirst f rest.lo rest.hi r) where
      here : IsFirst f rest.lo (subtree o).hi (Some p)
      here = found r (Some p) is first_one

      -- each key that is found begins as the keys below o
      pub always_below : (moved : Option Key) → IsRekeyed p.0 o n moved → moved ≡ None → ⊥
      always_below moved h none =
          let q = both (reaches rest.lo p.0) (is_below p.0 (subtree o).hi) here.0 in
          let z : (z : Key) × (p.0 ≡ enc o ++ z) = in_subtree o p.0 (in_range (subtree o).lo p.0 (subtree o).hi (le_le (subtree o).lo rest.lo p.0 w.part.reached q.0) q.1) in
          let never : (z : Key) → p.0 ≢ enc o ++ z = subst (λ (x : Option Key). IsRekeyed p.0 o n x) none h in
          never z.0 z.1

      -- one more pair
      pub walk_goes_on : (moved : Option Key) (k : Key) → IsRekeyed p.0 o n moved → moved ≡ Some k → (next : Key) → next ≡ next_key p.0 → (new : List (Msg U V)) → new ≡ msgs ++ Put k p.1 ∷ [] → Walked (record { lo = next; hi = rest.hi }) new
      walk_goes_on moved k h some next after new list =
          let z : (z : Key) × (p.0 ≡ enc o ++ z) × (k ≡ enc n ++ z) = subst (λ (x : Option Key). IsRekeyed p.0 o n x) some h in
          let key : k ≡ enc n ++ drop (length (enc o)) p.0 = z.2 ∙ ap (λ (x : Key). enc n ++ x) (sym (drop_at (enc o) z.0 (length (enc o)) refl) ∙ ap (drop (length (enc o))) (sym z.1)) in
          record {
            pairs = w.pairs ++ p ∷ [];
            end = w.end;
            part = part_more f (subtree o).lo (subtree o).hi rest.lo w.pairs w.part p next (w.pairs ++ p ∷ []) here after refl;
            list = list ∙ ap (λ (ms : List (Msg U V)). ms ++ Put k p.1 ∷ []) w.list
                ∙ append_assoc first (map (put_under o n) w.pairs) (Put k p.1 ∷ [])
                ∙ ap (λ (x : Key). first ++ (map (put_under o n) w.pairs ++ Put x p.1 ∷ [])) key
                ∙ ap (λ (ms : List (Msg U V)). first ++ ms) (sym (map-append (put_under o n) w.pairs (p ∷ [])));
          }
