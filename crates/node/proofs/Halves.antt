-- Entries that rise, in two halves.
use Rattle.std.proofs.Common.{◌≡◌, ℕ, zero, suc, ◌+◌, ◌-◌, ◌<◌, ◌≤◌, true, false, List, [], ◌∷◌, ◌++◌, length, get_or, take, drop, ap, sym, ◌∙◌, subst, Option, None, arith, length-take, length-drop, take-append-drop}
use Rattle.std.proofs.lemmas.List.{get_or_default}
use Rattle.pathkey.specs.Keys.{is_below}
use Rattle.pathkey.proofs.KeyOrder.{le_lt, not_before_from_reaches}
use Rattle.message.specs.Ranges.{reaches, before}
use Rattle.node.specs.Lawful.{Rises}
use Rattle.node.specs.Meaning.{lookup}
use Rattle.node.specs.Leaves.{IsDivided}
use Rattle.node.proofs.EntryFacts.{first_below, rises-before, rises-others, lookup-front, lookup-back}
use Rattle.node.proofs.EntryPlaces.{after_entry, entries_climb}

module _ {V : Type 0} where
  -- each entry stands below the end
  pub all_below : (lo : List ℕ) (hi : Option (List ℕ)) (es : List (List ℕ × V)) (j : ℕ) (d : List ℕ × V) → Rises lo hi es → j < length es → is_below (get_or es j d).0 hi ≡ true
  all_below lo hi [] j d r b = absurd (omega arith)
  all_below lo hi (x ∷ es) zero d r b = first_below lo hi x es r
  all_below lo hi (x ∷ es) (suc j) d r b = all_below x.0 hi es j d r.2 (omega arith)

  -- the first entry stands at or after the beginning
  from_lo : (lo : List ℕ) (hi : Option (List ℕ)) (es : List (List ℕ × V)) (d : List ℕ × V) → Rises lo hi es → 0 < length es → reaches lo (get_or es 0 d).0 ≡ true
  from_lo lo hi [] d r b = absurd (omega arith)
  from_lo lo hi (x ∷ es) d r b = r.0

  -- an entry stands before each later one
  pub rising_at : (lo : List ℕ) (hi : Option (List ℕ)) (es : List (List ℕ × V)) (i j : ℕ) (d e : List ℕ × V) → Rises lo hi es → i < j → j < length es → before (get_or es i d).0 (get_or es j e).0 ≡ true
  rising_at lo hi es i j d e r h b =
      let here : i < length es = omega arith in
      after_entry lo hi (get_or es i d).0 es i r (λ f. ap (λ (x : List ℕ × V). x.0) (get_or_default es i f d here)) here j e (omega arith) b

  -- two halves
  pub is_divided : (es : List (List ℕ × V)) (m : ℕ) (e : List ℕ × V) → Rises [] None es → 2 ≤ length es → m ≤ length es - m → length es - m ≤ m + 1 → e ≡ get_or es m e → IsDivided es (take m es) (drop m es) e.0
  is_divided es m e r two low high at =
      let inside : m < length es = omega arith in
      let is : (d : List ℕ × V) → get_or es m d ≡ e = λ d. get_or_default es m d e inside ∙ sym at in
      let earlier : (j : ℕ) (d : List ℕ × V) → j < m → before (get_or es j d).0 e.0 ≡ true = λ j d h. subst (λ (x : List ℕ × V). before (get_or es j d).0 x.0 ≡ true) (is e) (rising_at [] None es j m d e r h inside) in
      let later : (j : ℕ) (d : List ℕ × V) → m ≤ j → j < length es → reaches e.0 (get_or es j d).0 ≡ true = λ j d h b. subst (λ (x : List ℕ × V). reaches x.0 (get_or es j d).0 ≡ true) (is d) (entries_climb [] None es r m j d h b) in
      let others : (j : ℕ) (d : List ℕ × V) → m ≤ j → j < length es → before (get_or es j d).0 e.0 ≡ false = λ j d h b. not_before_from_reaches e.0 (get_or es j d).0 (later j d h b) in
      let whole : take m es ++ drop m es ≡ es = take-append-drop m es in
      record {
        whole = sym whole;
        front_some = omega (arith, length-take m es);
        back_some = omega (arith, length-drop m es);
        halves = (omega (arith, length-take m es, length-drop m es), omega (arith, length-take m es, length-drop m es));
        below = λ k h. sym (ap (λ (z : List (List ℕ × V)). lookup z k) whole) ∙ lookup-front e.0 k None (take m es) (drop m es) (rises-others [] e.0 None es m others r) h;
        above = λ k h. sym (ap (λ (z : List (List ℕ × V)). lookup z k) whole) ∙ lookup-back [] e.0 k (take m es) (drop m es) (rises-before [] e.0 None es m earlier (omega arith) r) h;
        rise = λ lo hi s. (
          le_lt lo (get_or es 0 e).0 e.0 (from_lo lo hi es e s (omega arith)) (earlier 0 e (omega arith)),
          subst (λ (x : List ℕ × V). is_below x.0 hi ≡ true) (is e) (all_below lo hi es m e s inside),
          rises-before lo e.0 hi es m earlier (omega arith) s,
          rises-others lo e.0 hi es m others s,
        );
      }
