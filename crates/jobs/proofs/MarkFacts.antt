-- Facts on lists of marks.
use Rattle.std.proofs.Common.{◌≡◌, ℕ, ◌+◌, ◌<◌, ◌≤◌, Bool, true, false, List, [], ◌∷◌, ◌++◌, length, get_or, refl, ap, sym, ◌∙◌, subst, arith, cond, Option, Some, None, add-one}
use Rattle.std.specs.Prelude.{◌==◌}
use Rattle.std.specs.List.{remove}
use Rattle.std.proofs.lemmas.Bool.{both_ways, cond_both, eqb-true}
use Rattle.std.proofs.lemmas.Option.{same_Some}
use Rattle.pathkey.specs.Order.{same}
use Rattle.pathkey.proofs.OrderFacts.{same_itself, same_false, apart}
use Rattle.node.specs.Pure.{PNode}
use Rattle.jobs.specs.declared.mark.Mark.{Mark}
use Rattle.jobs.specs.Marks.{Each, IsMarked, Stands, NoneAt, AreMarks, position, one_more, without, kept_at}
use Rattle.jobs.proofs.Slots.{root_both}

-- what follows of each
pub each_map : (P Q : Mark → Type 0) (ms : List Mark) → ((m : Mark) → P m → Q m) → Each P ms → Each Q ms
each_map P Q [] f h = tt
each_map P Q (m ∷ ms) f h = (f m h.0, each_map P Q ms f h.1)

-- what follows of two facts of each
pub each_two : (P Q R : Mark → Type 0) (ms : List Mark) → ((m : Mark) → P m → Q m → R m) → Each P ms → Each Q ms → Each R ms
each_two P Q R [] f h k = tt
each_two P Q R (m ∷ ms) f h k = (f m h.0 k.0, each_two P Q R ms f h.1 k.1)

-- what holds of each and of one more
pub each_last : (P : Mark → Type 0) (ms : List Mark) (n : Mark) → Each P ms → P n → Each P (ms ++ n ∷ [])
each_last P [] n h p = (p, tt)
each_last P (x ∷ xs) n h p = (h.0, each_last P xs n h.1 p)

-- what holds of each holds of the marks but one
pub each_without : (P : Mark → Type 0) (t : ℕ) (ms : List Mark) → Each P ms → Each P (without t ms)
each_without P t [] h = tt
each_without P t (m ∷ ms) h = cond_both (m.ticket == t) ms (m ∷ without t ms) (Each P) (λ e. h.1) (λ e. (h.0, each_without P t ms h.1))

-- the marks but one are no more
pub fewer_without : (t : ℕ) (ms : List Mark) → length (without t ms) ≤ length ms
fewer_without t [] = omega arith
fewer_without t (m ∷ ms) = cond_both (m.ticket == t) ms (m ∷ without t ms) (λ z. length z ≤ length (m ∷ ms)) (λ e. omega arith) (λ e. let q = fewer_without t ms in omega (arith, q))

-- without a place among the others
pub none_later : (o : Option ℕ) → one_more o ≡ None → o ≡ None
none_later None e = refl
none_later (Some i) e = (cc)

-- a place among the others
pub place_later : (i : ℕ) (o : Option ℕ) → one_more o ≡ Some i → (j : ℕ) × (o ≡ Some j) × (j + 1 ≡ i)
place_later i None e = (cc)
place_later i (Some j) e = (j, refl, same_Some (j + 1) i e)

-- where no mark has the ticket, all stay
pub without_none : (t : ℕ) (ms : List Mark) → position t ms ≡ None → ms ≡ without t ms
without_none t [] h = refl
without_none t (m ∷ ms) h =
    (elim (m.ticket == t) as (λ b. cond b (Some 0) (one_more (position t ms)) ≡ None → m ∷ ms ≡ cond b ms (m ∷ without t ms)) [
      | true ↦ λ e. (cc)
      | false ↦ λ e. ap (λ z. m ∷ z) (without_none t ms (none_later (position t ms) e))
    ]) h

-- the mark taken away by its number
pub without_place : (t i : ℕ) (ms : List Mark) → position t ms ≡ Some i → remove ms i ≡ without t ms
without_place t i [] h = (cc)
without_place t i (m ∷ ms) h =
    (elim (m.ticket == t) as (λ b. cond b (Some 0) (one_more (position t ms)) ≡ Some i → remove (m ∷ ms) i ≡ cond b ms (m ∷ without t ms)) [
      | true ↦ λ e. subst (λ j. remove (m ∷ ms) j ≡ ms) (same_Some 0 i e) refl
      | false ↦ λ e. later (position t ms) (λ j q. without_place t j ms q) refl e
    ]) h
  where
    later : (o : Option ℕ) → ((j : ℕ) → position t ms ≡ Some j → remove ms j ≡ without t ms) → position t ms ≡ o → one_more o ≡ Some i → remove (m ∷ ms) i ≡ m ∷ without t ms
    later None f q e = (cc)
    later (Some j) f q e = subst (λ n. remove (m ∷ ms) n ≡ m ∷ without t ms) (sym (add-one j) ∙ same_Some (j + 1) i e) (ap (λ z. m ∷ z) (f j q))

-- the mark with the ticket is one of those that begin elsewhere
found : (lo : List ℕ) (t : ℕ) (m : Mark) (xs : List Mark) (j : ℕ) → NoneAt m.range.lo xs → Each (λ n. n.ticket ≡ t → n.range.lo ≡ lo) xs → position t xs ≡ Some j → m.range.lo ≡ lo → ⊥
found lo t m [] j a g e z = (cc)
found lo t m (x ∷ xs) j a g e z =
    (elim (x.ticket == t) as (λ b. (x.ticket == t) ≡ b → cond b (Some 0) (one_more (position t xs)) ≡ Some j → ⊥) [
      | true ↦ λ u v. apart x.range.lo m.range.lo a.0 (g.0 (eqb-true x.ticket t u) ∙ sym z)
      | false ↦ λ u v. let p = place_later j (position t xs) v in found lo t m xs p.0 a.1 g.1 p.1 z
    ]) refl e

-- what holds of the mark with the ticket holds of the one with its number
pub at_place : (Q : Mark → Type 0) (t i : ℕ) (ms : List Mark) (d : Mark) → position t ms ≡ Some i → Each (λ m. m.ticket ≡ t → Q m) ms → Q (get_or ms i d)
at_place Q t i [] d e h = (cc)
at_place Q t i (m ∷ ms) d e h =
    (elim (m.ticket == t) as (λ b. (m.ticket == t) ≡ b → cond b (Some 0) (one_more (position t ms)) ≡ Some i → Q (get_or (m ∷ ms) i d)) [
      | true ↦ λ u v. subst (λ n. Q (get_or (m ∷ ms) n d)) (same_Some 0 i v) (h.0 (eqb-true m.ticket t u))
      | false ↦ λ u v. let p = place_later i (position t ms) v in subst (λ n. Q (get_or (m ∷ ms) n d)) (sym (add-one p.0) ∙ p.2) (at_place Q t p.0 ms d p.1 h.1)
    ]) refl e

module _ {U V : Type 0} where
  -- each mark stands
  pub standing : (root : PNode U V) (from : ℕ) (ms : List Mark) (given : ℕ) → AreMarks root from ms given → Each (Stands root) ms
  standing root from [] given h = tt
  standing root from (m ∷ ms) given h = (h.1, standing root (m.ticket + 1) ms given h.3)

  -- where each stands in another root, they are marks of that one
  pub moved : (a b : PNode U V) (from : ℕ) (ms : List Mark) (given : ℕ) → AreMarks a from ms given → Each (Stands b) ms → AreMarks b from ms given
  moved a b from [] given h s = h
  moved a b from (m ∷ ms) given h s = (h.0, s.0, h.2, moved a b (m.ticket + 1) ms given h.3 s.1)

  -- tickets may begin earlier
  pub from_earlier : (root : PNode U V) (from to : ℕ) (ms : List Mark) (given : ℕ) → to ≤ from → AreMarks root from ms given → AreMarks root to ms given
  from_earlier root from to [] given e h = omega (arith, e, h)
  from_earlier root from to (m ∷ ms) given e h = (omega (arith, e, h.0), h.1, h.2, h.3)

  -- and some more may be given
  pub marks_given : (root : PNode U V) (from : ℕ) (ms : List Mark) (given more : ℕ) → given ≤ more → AreMarks root from ms given → AreMarks root from ms more
  marks_given root from [] given more e h = omega (arith, e, h)
  marks_given root from (m ∷ ms) given more e h = (h.0, h.1, h.2, marks_given root (m.ticket + 1) ms given more e h.3)

  -- the marks but one are marks
  pub marks_without : (root : PNode U V) (t from : ℕ) (ms : List Mark) (given : ℕ) → AreMarks root from ms given → AreMarks root from (without t ms) given
  marks_without root t from [] given h = h
  marks_without root t from (m ∷ ms) given h =
      cond_both (m.ticket == t) ms (m ∷ without t ms) (λ z. AreMarks root from z given)
      (λ e. from_earlier root (m.ticket + 1) from ms given (omega (arith, h.0)) h.3)
      (λ e. (h.0, h.1, each_without (λ n. same n.range.lo m.range.lo ≡ false) t ms h.2, marks_without root t (m.ticket + 1) ms given h.3))

  -- no marks
  pub marks_none : (root : PNode U V) (from : ℕ) (ms : List Mark) (given : ℕ) → AreMarks root from ms given → from ≤ given
  marks_none root from [] given h = h
  marks_none root from (m ∷ ms) given h = let r = marks_none root (m.ticket + 1) ms given h.3 in omega (arith, h.0, r)

  -- each ticket is below those that come
  pub below_given : (root : PNode U V) (from : ℕ) (ms : List Mark) (given : ℕ) → AreMarks root from ms given → Each (λ m. m.ticket < given) ms
  below_given root from [] given h = tt
  below_given root from (m ∷ ms) given h = (let q = marks_none root (m.ticket + 1) ms given h.3 in omega (arith, q), below_given root (m.ticket + 1) ms given h.3)

  -- a standing mark has some messages
  pub has_some : (root : PNode U V) (m : Mark) → Stands root m → 1 ≤ m.count
  has_some root m s = root_both (IsMarked m) (IsMarked m) (1 ≤ m.count) s.0 root (λ lo e ms c h k. h.some) s.1 s.1

  -- each marked slot keeps some
  pub kept_some : (root : PNode U V) (from : ℕ) (ms : List Mark) (given : ℕ) → AreMarks root from ms given → Each (λ m. 0 < kept_at ms m.range.lo) ms
  kept_some root from [] given h = tt
  kept_some root from (m ∷ ms) given h = (
    by_number (same m.range.lo m.range.lo) m.count (kept_at ms m.range.lo) (λ e. has_some root m h.1) (λ e. absurd (both_ways (same m.range.lo m.range.lo) e (same_itself m.range.lo))),
    each_map (λ n. 0 < kept_at ms n.range.lo) (λ n. 0 < kept_at (m ∷ ms) n.range.lo) ms (λ n k. by_number (same m.range.lo n.range.lo) m.count (kept_at ms n.range.lo) (λ e. has_some root m h.1) (λ e. k)) (kept_some root (m.ticket + 1) ms given h.3),
  )
    where
      by_number : (b : Bool) (x y : ℕ) → (b ≡ true → 0 < x) → (b ≡ false → 0 < y) → 0 < cond b x y
      by_number true x y f g = f refl
      by_number false x y f g = g refl

  -- a slot that keeps none has no mark
  pub none_at : (root : PNode U V) (lo : List ℕ) (from : ℕ) (ms : List Mark) (given : ℕ) → AreMarks root from ms given → kept_at ms lo ≡ 0 → NoneAt lo ms
  none_at root lo from [] given h e = tt
  none_at root lo from (m ∷ ms) given h e =
      (elim (same m.range.lo lo) as (λ b. cond b m.count (kept_at ms lo) ≡ 0 → (b ≡ false) × NoneAt lo ms) [
        | true ↦ λ q. absurd (omega (arith, q, has_some root m h.1))
        | false ↦ λ q. (refl, none_at root lo (m.ticket + 1) ms given h.3 q)
      ]) e

  -- one mark more
  pub marks_more : (root : PNode U V) (n : Mark) (from : ℕ) (ms : List Mark) (given : ℕ) → AreMarks root from ms given → Stands root n → n.ticket ≡ given → NoneAt n.range.lo ms → AreMarks root from (ms ++ n ∷ []) (given + 1)
  marks_more root n from [] given h s t a = (omega (arith, h, t), s, tt, omega (arith, t))
  marks_more root n from (m ∷ ms) given h s t a = (h.0, h.1, each_last (λ x. same x.range.lo m.range.lo ≡ false) ms n h.2 (same_false n.range.lo m.range.lo (λ e. apart m.range.lo n.range.lo a.0 (sym e))), marks_more root n (m.ticket + 1) ms given h.3 s t a.1)

  -- where the mark with the ticket begins at lo, no other does
  pub others_apart : (lo : List ℕ) (t from : ℕ) (ms : List Mark) (root : PNode U V) (given : ℕ) → AreMarks root from ms given → Each (λ m. m.ticket ≡ t → m.range.lo ≡ lo) ms → (i : ℕ) × (position t ms ≡ Some i) → Each (λ m. m.range.lo ≡ lo → ⊥) (without t ms)
  others_apart lo t from [] root given h f p = tt
  others_apart lo t from (m ∷ ms) root given h f p =
      (elim (m.ticket == t) as (λ b. (m.ticket == t) ≡ b → cond b (Some 0) (one_more (position t ms)) ≡ Some p.0 → Each (λ n. n.range.lo ≡ lo → ⊥) (cond b ms (m ∷ without t ms))) [
        | true ↦ λ e q. each_map (λ n. same n.range.lo m.range.lo ≡ false) (λ n. n.range.lo ≡ lo → ⊥) ms (λ n a z. apart n.range.lo m.range.lo a (z ∙ sym (f.0 (eqb-true m.ticket t e)))) h.2
        | false ↦ λ e q. (λ z. first (position t ms) refl q z, others_apart lo t (m.ticket + 1) ms root given h.3 f.1 (there (position t ms) refl q))
      ]) refl p.1
    where
      there : (o : Option ℕ) → position t ms ≡ o → one_more o ≡ Some p.0 → (i : ℕ) × (position t ms ≡ Some i)
      there None e q = (cc)
      there (Some j) e q = (j, e)

      first : (o : Option ℕ) → position t ms ≡ o → one_more o ≡ Some p.0 → m.range.lo ≡ lo → ⊥
      first None e q z = (cc)
      first (Some j) e q z = found lo t m ms j h.2 f.1 e z
