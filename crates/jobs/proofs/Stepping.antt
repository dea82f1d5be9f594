-- What a step leaves of the marks.
use Rattle.std.proofs.Common.{◌≡◌, ℕ, ◌+◌, ◌≤◌, length, Bool, true, false, List, [], ◌∷◌, refl, sym, subst, arith, Option}
use Rattle.std.proofs.lemmas.Bool.{cond_both}
use Rattle.node.specs.declared.step.StepKind.{StepKind}
use Rattle.node.specs.declared.step.StepKind.TheVariants.{FlushInner, FlushLeaf, SplitInner, MergeLeaves, MergeInner, RootUp, RootDown, DropCovered}
use Rattle.node.specs.declared.step.StepReply.{StepReply}
use Rattle.node.specs.declared.step.StepReply.TheVariants.{Did, NotThere, NoRoom, NoMemory}
use Rattle.node.specs.Pure.{PNode, PTree}
use Rattle.node.specs.Lawful.{IsLawful}
use Rattle.node.specs.Steps.{Answers}
use Rattle.node.specs.RootSteps.{StepAnswers, AnswersUp, AnswersDown}
use Rattle.node.proofs.Placing.{is_root}
use Rattle.pathkey.specs.Order.{same}
use Rattle.jobs.specs.declared.mark.Mark.{Mark}
use Rattle.jobs.specs.Marks.{AllKept, Each, Stands, AreMarks, KeepsContent, those}
use Rattle.jobs.specs.Survive.{survives, left_by}
use Rattle.jobs.proofs.MarkFacts.{each_map, each_two, standing, moved, from_earlier, marks_none}
use Rattle.jobs.proofs.Moves.{still_stands, still_has, step_moves}
use Rattle.jobs.proofs.Keeping.{kept_same}

-- what holds of each holds of those
pub each_those : (P : Mark → Type 0) (f : Mark → Bool) (ms : List Mark) → Each P ms → Each P (those f ms)
each_those P f [] h = tt
each_those P f (m ∷ ms) h = cond_both (f m) (m ∷ those f ms) (those f ms) (Each P) (λ e. (h.0, each_those P f ms h.1)) (λ e. each_those P f ms h.1)

-- what holds of each holds of those that a step leaves
pub each_left : (P : Mark → Type 0) (r : StepReply) (f : Mark → Bool) (ms : List Mark) → Each P ms → Each P (left_by r f ms)
each_left P (Did n) f ms h = each_those P f ms h
each_left P NotThere f ms h = h
each_left P NoRoom f ms h = h
each_left P NoMemory f ms h = h

-- those are no more
fewer_those : (f : Mark → Bool) (ms : List Mark) → length (those f ms) ≤ length ms
fewer_those f [] = omega arith
fewer_those f (m ∷ ms) = cond_both (f m) (m ∷ those f ms) (those f ms) (λ z. length z ≤ length (m ∷ ms)) (λ e. let q = fewer_those f ms in omega (arith, q)) (λ e. let q = fewer_those f ms in omega (arith, q))

-- nor are those that a step leaves
pub fewer_left : (r : StepReply) (f : Mark → Bool) (ms : List Mark) → length (left_by r f ms) ≤ length ms
fewer_left (Did n) f ms = fewer_those f ms
fewer_left NotThere f ms = omega arith
fewer_left NoRoom f ms = omega arith
fewer_left NoMemory f ms = omega arith

-- and the test does
those_pass : (f : Mark → Bool) (ms : List Mark) → Each (λ m. f m ≡ true) (those f ms)
those_pass f [] = tt
those_pass f (m ∷ ms) = cond_both (f m) (m ∷ those f ms) (those f ms) (Each (λ x. f x ≡ true)) (λ e. (e, those_pass f ms)) (λ e. those_pass f ms)

-- where the test holds of none, none is left
those_none : (ms : List Mark) → those (λ m. false) ms ≡ []
those_none [] = refl
those_none (m ∷ ms) = those_none ms

module _ {U V : Type 0} where
  -- those marks are marks
  marks_those : (root : PNode U V) (f : Mark → Bool) (from : ℕ) (ms : List Mark) (given : ℕ) → AreMarks root from ms given → AreMarks root from (those f ms) given
  marks_those root f from [] given h = h
  marks_those root f from (m ∷ ms) given h =
      let rest = marks_those root f (m.ticket + 1) ms given h.3 in
      cond_both (f m) (m ∷ those f ms) (those f ms) (λ z. AreMarks root from z given)
      (λ e. (h.0, h.1, each_those (λ n. same n.range.lo m.range.lo ≡ false) f ms h.2, rest))
      (λ e. from_earlier root (m.ticket + 1) from (those f ms) given (omega (arith, h.0)) rest)

  module _ (means : U → Option V → Option V) where
    -- a step at a place keeps those that outlive it
    kept_answers : (kind : StepKind) (p : List ℕ) (i : ℕ) (r : StepReply) (a b : PTree U V) (ms : List Mark) (given : ℕ) → IsLawful a → AreMarks a.root 0 ms given → Answers means kind p i r a b → AllKept means a b (left_by r (survives kind p i a.root) ms) given
    kept_answers kind p i (Did n) a b ms given l h q =
        let f = survives kind p i a.root in
        let left = marks_those a.root f 0 ms given h in
        let moves = λ (m : Mark) (t : f m ≡ true). step_moves kind p i m a.root b.root (is_root a.shape l.levels a.root l.root) q.others_stay t in (
          moved a.root b.root 0 (those f ms) given left (each_two (λ m. f m ≡ true) (Stands a.root) (Stands b.root) (those f ms) (λ m t s. still_stands m a.root b.root (moves m t) s) (those_pass f ms) (standing a.root 0 (those f ms) given left)),
          each_map (λ m. f m ≡ true) (KeepsContent means a b) (those f ms) (λ m t. still_has means m a b q.shape_kept (moves m t)) (those_pass f ms),
        )
    kept_answers kind p i NotThere a b ms given l h q = kept_same means a b ms given h q.unchanged
    kept_answers kind p i NoRoom a b ms given l h q = kept_same means a b ms given h q.unchanged
    kept_answers kind p i NoMemory a b ms given l h q = kept_same means a b ms given h q.unchanged

    -- a step of the root keeps none
    kept_none : (a b : PTree U V) (ms : List Mark) (given : ℕ) → AreMarks a.root 0 ms given → AllKept means a b (those (λ m. false) ms) given
    kept_none a b ms given h = subst (λ z. AllKept means a b z given) (sym (those_none ms)) (marks_none a.root 0 ms given h, tt)

    kept_up : (p : List ℕ) (i : ℕ) (r : StepReply) (a b : PTree U V) (ms : List Mark) (given : ℕ) → AreMarks a.root 0 ms given → AnswersUp means r a b → AllKept means a b (left_by r (survives RootUp p i a.root) ms) given
    kept_up p i (Did n) a b ms given h q = kept_none a b ms given h
    kept_up p i NotThere a b ms given h q = kept_same means a b ms given h q.unchanged
    kept_up p i NoRoom a b ms given h q = kept_same means a b ms given h q.unchanged
    kept_up p i NoMemory a b ms given h q = kept_same means a b ms given h q.unchanged

    kept_down : (p : List ℕ) (i : ℕ) (r : StepReply) (a b : PTree U V) (ms : List Mark) (given : ℕ) → AreMarks a.root 0 ms given → AnswersDown means r a b → AllKept means a b (left_by r (survives RootDown p i a.root) ms) given
    kept_down p i (Did n) a b ms given h q = kept_none a b ms given h
    kept_down p i NotThere a b ms given h q = kept_same means a b ms given h q.unchanged
    kept_down p i NoRoom a b ms given h q = kept_same means a b ms given h q.unchanged
    kept_down p i NoMemory a b ms given h q = kept_same means a b ms given h q.unchanged

    -- every step keeps those that outlive it
    pub kept_step : (kind : StepKind) (p : List ℕ) (i : ℕ) (r : StepReply) (a b : PTree U V) (ms : List Mark) (given : ℕ) → IsLawful a → AreMarks a.root 0 ms given → StepAnswers means kind p i r a b → AllKept means a b (left_by r (survives kind p i a.root) ms) given
    kept_step FlushInner p i r a b ms given l h q = kept_answers FlushInner p i r a b ms given l h q
    kept_step FlushLeaf p i r a b ms given l h q = kept_answers FlushLeaf p i r a b ms given l h q
    kept_step SplitInner p i r a b ms given l h q = kept_answers SplitInner p i r a b ms given l h q
    kept_step MergeLeaves p i r a b ms given l h q = kept_answers MergeLeaves p i r a b ms given l h q
    kept_step MergeInner p i r a b ms given l h q = kept_answers MergeInner p i r a b ms given l h q
    kept_step RootUp p i r a b ms given l h q = kept_up p i r a b ms given h q
    kept_step RootDown p i r a b ms given l h q = kept_down p i r a b ms given h q
    kept_step DropCovered p i r a b ms given l h q = kept_answers DropCovered p i r a b ms given l h q
