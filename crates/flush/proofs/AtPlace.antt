-- The place of a key among a leaf's entries, where it is known without a search.
use Rattle.std.proofs.Common.{◌≡◌, ℕ, suc, ◌+◌, ◌-◌, ◌<◌, ◌≤◌, true, List, [], ◌∷◌, length, get_or, set, insert, remove, take, drop, refl, ap, sym, ◌∙◌, subst, Some, None, cond, arith, length-append, length-take, length-drop}
use Rattle.std.proofs.lemmas.List.{get_or_default, get_or-set_same, length-set, get_or-take, get_or-drop, get_or-append_right, get_or_append_left}
use Rattle.std.proofs.lemmas.List.Edits.{get_or-insert_at, length-insert}
use Rattle.std.proofs.Math.Seq.{get_or-append_seam}
use Rattle.pathkey.proofs.OrderFacts.{same_from_eq, same_itself}
use Rattle.pathkey.proofs.KeyOrder.{not_before_from_reaches, reaches-from_before}
use Rattle.message.specs.Ranges.{reaches, before}
use Rattle.node.specs.Lawful.{Rises}
use Rattle.node.specs.Meaning.{lookup}
use Rattle.node.specs.Leaves.{IsEntry, IsGap}
use Rattle.node.proofs.EntryPlaces.{is_entry, around_entry, entries_climb}
use Rattle.node.proofs.Halves.{all_below, rising_at}
use Rattle.node.proofs.LeafChanges.{is_removed}
use Rattle.flush.specs.Merge.{EndsAt}
use Rattle.flush.proofs.Merging.{lookup_ahead}

module _ {V : Type 0} where
  -- where an entry has the key
  entry_at : (k : List ℕ) (es : List (List ℕ × V)) (i : ℕ) (e : List ℕ × V) → Rises [] None es → i < length es → e ≡ get_or es i e → e.0 ≡ k → IsEntry es k i
  entry_at k es i e r b at is =
      let key : (d : List ℕ × V) → (get_or es i d).0 ≡ k = λ d. ap (λ (x : List ℕ × V). x.0) (get_or_default es i d e b ∙ sym at) ∙ is in
      is_entry k es i e (record {
        bound = omega (arith, b);
        earlier = λ j d l. subst (λ (q : List ℕ). before (get_or es j d).0 q ≡ true) (key d) (rising_at [] None es j i d d r l b);
        others = λ j d l c. not_before_from_reaches k (get_or es j d).0 (subst (λ (q : List ℕ). reaches q (get_or es j d).0 ≡ true) (key d) (entries_climb [] None es r i j d l c));
      }) b at (same_from_eq e.0 k is)

  -- an entry that got another value
  pub entry_set : (k : List ℕ) (es : List (List ℕ × V)) (i : ℕ) (y : List ℕ × V) → IsEntry es k i → y.0 ≡ k → Rises [] None (set es i y) → IsEntry (set es i y) k i
  entry_set k es i y g is r = entry_at k (set es i y) i y r (omega (arith, g.bound, length-set es i y)) (sym (get_or-set_same es i y y g.bound)) is

  -- a new entry
  pub entry_inserted : (k : List ℕ) (es : List (List ℕ × V)) (i : ℕ) (v : V) → IsGap es k i → Rises [] None (insert es i (k, v)) → IsEntry (insert es i (k, v)) k i
  entry_inserted k es i v g r = entry_at k (insert es i (k, v)) i (k, v) r (omega (arith, g.count.bound, length-insert es i (k, v) g.count.bound)) (sym (get_or-insert_at es i (k, v) (k, v) g.count.bound)) refl

  -- the place of an entry that has gone
  pub gap_removed : (k : List ℕ) (es : List (List ℕ × V)) (i : ℕ) → IsEntry es k i → Rises [] None es → IsGap (remove es i) k i
  gap_removed k es i g r =
      let a = around_entry k es i g r in
      let long : length (take i es) ≡ i = omega (arith, length-take i es, g.bound) in
      let low : (j : ℕ) (d : List ℕ × V) → j < i → before (get_or (remove es i) j d).0 k ≡ true = λ j d l.
      subst (λ (x : List ℕ × V). before x.0 k ≡ true) (sym (get_or_append_left (take i es) (drop (suc i) es) d j (omega (arith, long)) ∙ get_or-take i es j d l)) (a.earlier j d l) in
      let high : (j : ℕ) (d : List ℕ × V) → i ≤ j → j < length (remove es i) → before k (get_or (remove es i) j d).0 ≡ true = λ j d l b.
      let n : suc i + (j - i) ≡ suc j = omega arith in
      let at : get_or (remove es i) j d ≡ get_or es (suc j) d = get_or-append_right (take i es) (drop (suc i) es) i j d long l ∙ get_or-drop (suc i) es (j - i) d ∙ ap (λ m. get_or es m d) n in
      subst (λ (x : List ℕ × V). before k x.0 ≡ true) (sym at) (a.after (suc j) d (omega arith) (omega (arith, b, length-append (take i es) (drop (suc i) es), long, length-drop (suc i) es, g.bound))) in
      record {
        count = record {
          bound = omega (arith, length-append (take i es) (drop (suc i) es), long);
          earlier = low;
          others = λ j d l b. not_before_from_reaches k (get_or (remove es i) j d).0 (reaches-from_before k (get_or (remove es i) j d).0 (high j d l b));
        };
        after = high;
        value = (is_removed k es i g r).value k ∙ ap (λ t. cond t None (lookup es k)) (same_itself k);
      }

  -- behind all entries
  pub gap_behind : (k : List ℕ) (es : List (List ℕ × V)) → Rises [] (Some k) es → IsGap es k (length es)
  gap_behind k es r = record {
    count = record { bound = omega arith; earlier = λ j d l. all_below [] (Some k) es j d r l; others = λ j d l b. absurd (omega arith) };
    after = λ j d l b. absurd (omega arith);
    value = lookup_ahead k es r;
  }

  -- the last entry
  pub entry_last : (k : List ℕ) (es : List (List ℕ × V)) (i : ℕ) → EndsAt k es → Rises [] None es → i ≡ length es - 1 → IsEntry es k i
  entry_last k es i e r n =
      let y : List ℕ × V = (k, e.value) in
      let long : length es ≡ length e.front + 1 = ap length e.is ∙ length-append e.front (y ∷ []) in
      let m : i ≡ length e.front = omega (arith, n, long) in
      let at : get_or es i y ≡ y = ap (λ j. get_or es j y) m ∙ ap (λ zs. get_or zs (length e.front) y) e.is ∙ get_or-append_seam e.front y [] y in
      entry_at k es i y r (omega (arith, m, long)) (sym at) refl
