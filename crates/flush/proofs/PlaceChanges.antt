-- What becomes of a leaf's entries, and of the place of a key, when the key gets or loses its value there.
use Rattle.std.proofs.Common.{◌≡◌, ℕ, ◌<◌, true, List, [], ◌∷◌, length, get_or, set, insert, remove, refl, ap, sym, ◌∙◌, subst, Option, Some, None, Result}
use Rattle.std.specs.Prelude.{◌&&◌, ⊤, Ok, Err, MatchResult}
use Rattle.std.proofs.lemmas.Option.{same_Some}
use Rattle.pathkey.specs.Order.{same}
use Rattle.pathkey.proofs.KeyOrder.{from_start}
use Rattle.message.specs.declared.msg.Msg.{Msg}
use Rattle.message.specs.declared.msg.Msg.TheVariants.{Put, Del, Edit}
use Rattle.message.specs.Ranges.{within}
use Rattle.message.specs.Effects.{point_key}
use Rattle.node.specs.Lawful.{Rises}
use Rattle.node.specs.Meaning.{lookup}
use Rattle.node.specs.Leaves.{Applied, IsChanged, IsEntry, IsGap, IsPlace}
use Rattle.node.proofs.Applying.{applied_put, applied_del, applied_edit}
use Rattle.node.proofs.LeafChanges.{is_replaced, is_removed, is_inserted, is_absent, is_edited, is_edited_away}
use Rattle.flush.specs.Merge.{IsAppliedAt, IsSetAt}
use Rattle.flush.proofs.AtPlace.{entry_set, entry_inserted, gap_removed}

module _ {V : Type 0} where
  -- changed entries still rise
  rising_changed : (k : List ℕ) (v : Option V) (old new : List (List ℕ × V)) → IsChanged (same k) v old new → Rises [] None old → Rises [] None new
  rising_changed k v old new h r = h.rises [] None r (λ q out. absurd (let here : within [] None q ≡ true = ap (λ b. b && true) (from_start q) in cc))

  -- the same, of a value that has two names
  pub set_to : (k : List ℕ) (v w : Option V) (p : Result ℕ ℕ) (old new : List (List ℕ × V)) → v ≡ w → IsSetAt k v p old new → IsSetAt k w p old new
  set_to k v w p old new e h = subst (λ o. IsSetAt k o p old new) e h

  -- a new entry
  pub set_new : (k : List ℕ) (es new : List (List ℕ × V)) (i : ℕ) (v : V) → new ≡ insert es i (k, v) → IsGap es k i → Rises [] None es → IsSetAt k (Some v) (Ok i) es new
  set_new k es new i v is g r =
      let changed = is_inserted k es i v g in
      subst (λ (zs : List (List ℕ × V)). IsSetAt k (Some v) (Ok i) es zs) (sym is) (record { changed = changed; place = entry_inserted k es i v g (rising_changed k (Some v) es (insert es i (k, v)) changed r) })

  -- no entry
  set_absent : (k : List ℕ) (es : List (List ℕ × V)) (i : ℕ) → IsGap es k i → IsSetAt k None (Err i) es es
  set_absent k es i g = record { changed = is_absent k es i g; place = g }

  pub set_still : (k : List ℕ) (es : List (List ℕ × V)) (i : ℕ) (p : Result ℕ ℕ) → p ≡ Err i → IsPlace es k p → IsSetAt k None (Err i) es es
  set_still k es i p at place = set_absent k es i (subst (λ (q : Result ℕ ℕ). IsPlace es k q) at place)

  -- no entry, where an update leaves none
  pub set_unmade : (k : List ℕ) (es : List (List ℕ × V)) (i : ℕ) (makes : Option V → Option V) (o r : Option V) → r ≡ None → r ≡ makes o → o ≡ None → IsGap es k i → IsSetAt k (makes (lookup es k)) (Err i) es es
  set_unmade k es i makes o r e h a g = set_to k None (makes (lookup es k)) (Err i) es es (sym e ∙ h ∙ ap makes (a ∙ sym g.value)) (set_absent k es i g)

  -- an entry that goes
  pub set_gone : (k : List ℕ) (es new : List (List ℕ × V)) (i : ℕ) (p : Result ℕ ℕ) → new ≡ remove es i → p ≡ Ok i → IsPlace es k p → Rises [] None es → IsSetAt k None (Err i) es new
  set_gone k es new i p is at place r =
      let g : IsEntry es k i = subst (λ (q : Result ℕ ℕ). IsPlace es k q) at place in
      subst (λ (zs : List (List ℕ × V)). IsSetAt k None (Err i) es zs) (sym is) (record { changed = is_removed k es i g r; place = gap_removed k es i g r })

  module _ (k : List ℕ) (es : List (List ℕ × V)) (i : ℕ) (x : List ℕ × V) (v : V) (g : IsEntry es k i) (r : Rises [] None es) (at : x ≡ get_or es i x) where
    -- an entry that got another value
    pub set_over : IsSetAt k (Some v) (Ok i) es (set es i (x.0, v))
    set_over =
        let changed = is_replaced k es i x v g r at in
        record { changed = changed; place = entry_set k es i (x.0, v) g (ap (λ (y : List ℕ × V). y.0) at ∙ g.key x) (rising_changed k (Some v) es (set es i (x.0, v)) changed r) }

    -- by an update
    pub set_edited : (makes : Option V → Option V) → Some v ≡ makes (Some x.1) → IsSetAt k (makes (lookup es k)) (Ok i) es (set es i (x.0, v))
    set_edited makes made = record { changed = is_edited makes k es i x v g r at made; place = set_over.place }

    -- or goes by one
    pub set_edited_away : (makes : Option V → Option V) (new : List (List ℕ × V)) → None ≡ makes (Some x.1) → new ≡ remove (set es i (x.0, v)) i → IsSetAt k (makes (lookup es k)) (Err i) es new
    set_edited_away makes new made is = record {
      changed = is_edited_away makes k es i x v g r at new made is;
      place = subst (λ zs. IsGap zs k i) (sym is) (gap_removed k (set es i (x.0, v)) i set_over.place (rising_changed k (Some v) es (set es i (x.0, v)) set_over.changed r));
    }

  -- a place is among the entries
  pub within_place : (k : List ℕ) (es : List (List ℕ × V)) (p : Result ℕ ℕ) → IsPlace es k p → MatchResult p (λ i. i < length es) (λ i. ⊤)
  within_place k es (Ok i) h = h.bound
  within_place k es (Err i) h = tt

module _ {U V : Type 0} (means : U → Option V → Option V) (m : Msg U V) (q : List ℕ) (p : Result ℕ ℕ) (old new : List (List ℕ × V)) where
  applied_at : point_key m ≡ Some q → Applied means (m ∷ []) old new → IsPlace new q p → IsAppliedAt means m p old new
  applied_at e a at = record { applied = a; place = λ k f. subst (λ z. IsPlace new z p) (same_Some q k (sym e ∙ f)) at }

  -- each form of message
  pub at_put : (v : V) → m ≡ Put q v → IsSetAt q (Some v) p old new → IsAppliedAt means m p old new
  at_put v e h = applied_at (ap point_key e) (applied_put means m q v v old new e refl h.changed) h.place

  pub at_del : m ≡ Del q → IsSetAt q None p old new → IsAppliedAt means m p old new
  at_del e h = applied_at (ap point_key e) (applied_del means m q old new e h.changed) h.place

  pub at_edit : (u : U) → m ≡ Edit q u → IsSetAt q (means u (lookup old q)) p old new → IsAppliedAt means m p old new
  at_edit u e h = applied_at (ap point_key e) (applied_edit means m q u old new e h.changed) h.place
