-- Slots that stay what they were, with messages put behind, and what marks keep by that.
use Rattle.std.proofs.Common.{◌≡◌, ℕ, zero, suc, ◌<◌, true, List, ◌++◌, ap, sym, ◌∙◌, subst, arith, Option, None, length-append}
use Rattle.std.proofs.lemmas.List.{take-append-le}
use Rattle.message.specs.declared.msg.Msg.{Msg}
use Rattle.message.specs.Effects.{effects}
use Rattle.message.specs.Cuts.{pieces}
use Rattle.message.proofs.KeyOrder.{both}
use Rattle.node.specs.declared.step.StepKind.{StepKind}
use Rattle.node.specs.Pure.{PNode, leaf, inner, PSlots, none, more, PTree}
use Rattle.node.specs.Lawful.{next_lo}
use Rattle.node.specs.Meaning.{value}
use Rattle.node.specs.Searchable.{IsRoot}
use Rattle.node.specs.Appended.{batches_by_slot, HaveTaken, IsAppended}
use Rattle.node.specs.Grafts.{OfSlot, AtSlot, AtRootSlot, KeepLists, KeepsLists, IsGrafted}
use Rattle.node.specs.Steps.{OthersStay, root_slot, root_width}
use Rattle.node.proofs.Appending.{next_lo-taken}
use Rattle.node.proofs.Grafting.{root_map}
use Rattle.jobs.specs.declared.mark.Mark.{Mark}
use Rattle.jobs.specs.Content.{Content, HasContent}
use Rattle.jobs.specs.Marks.{IsMarked, Stands, KeepsContent, kept_at, kept_numbers, kept_in}
use Rattle.jobs.specs.Survive.{is_outside, keeps_root, number_in, survives}
use Rattle.jobs.proofs.Slots.{root_both, step_other, graft_other, number_in_root}

-- a fact of the mark's slot
abbrev pub OfMark : {U V : Type 0} → Mark → OfSlot U V → Type 0
OfMark {U} {V} m R = (lo : List ℕ) (e : Option (List ℕ)) (ms : List (Msg U V)) (c : PNode U V) → R lo e ms c → lo ≡ m.range.lo

-- a fact that messages put behind do not change
abbrev pub IsStable : {U V : Type 0} → OfSlot U V → Type 0
IsStable {U} {V} R = (lo : List ℕ) (e : Option (List ℕ)) (ms p : List (Msg U V)) (c : PNode U V) → R lo e ms c → R lo e (ms ++ p) c

-- what holds of the mark's slot in a holds of a slot in b
abbrev pub Moves : {U V : Type 0} → Mark → PNode U V → PNode U V → Type 1
Moves {U} {V} m a b = (R : OfSlot U V) → OfMark m R → IsStable R → (i : ℕ) → AtRootSlot R i a → (d : ℕ) × AtRootSlot R d b

module _ {U V : Type 0} where
  -- a mark's slot with more behind is its slot
  marked_stable : (m : Mark) → IsStable (IsMarked {U = U} {V = V} m)
  marked_stable m lo e ms p c h = record { begins = h.begins; ends = h.ends; some = h.some; has = omega (arith, h.has, length-append ms p); inner = h.inner }

  -- and has its content
  content_stable : (means : U → Option V → Option V) (c : Content V) → IsStable (HasContent means c)
  content_stable means c lo e ms p n h = record {
    begins = h.begins;
    ends = h.ends;
    has = omega (arith, h.has, length-append ms p);
    inner = h.inner;
    depth = h.depth;
    same = λ k w. ap (λ z. effects means z k (value means n k)) (take-append-le c.count ms p h.has) ∙ h.same k w;
  }

  -- where its slot moves, a mark stands
  pub still_stands : (m : Mark) (a b : PNode U V) → Moves m a b → Stands a m → Stands b m
  still_stands m a b mv s = mv (IsMarked m) (λ lo e ms c h. h.begins) (marked_stable m) s.0 s.1

  -- and keeps its content
  pub still_has : (means : U → Option V → Option V) (m : Mark) (a b : PTree U V) → b.shape ≡ a.shape → Moves m a.root b.root → KeepsContent means a b m
  still_has means m a b s mv c h = record {
    shape = s ∙ h.shape;
    range = h.range;
    count = h.count;
    slot = mv (HasContent means c) (λ lo e ms n q. q.begins ∙ ap (λ r. r.lo) (sym h.range)) (content_stable means c) h.slot.0 h.slot.1;
  }

  -- ---- append

  -- a slot whose list stays with messages put behind
  at_appended : (means : U → Option V → Option V) (R : OfSlot U V) (ks : List Mark) (lo : List ℕ) → ((b : List ℕ) (e : Option (List ℕ)) (ms : List (Msg U V)) (c : PNode U V) → R b e ms c → b ≡ lo) → IsStable R → 0 < kept_at ks lo → (hi : Option (List ℕ)) (msgs : List (Msg U V)) (ss ts : PSlots U V) → HaveTaken means ss (batches_by_slot hi msgs ss) ts → KeepLists (kept_numbers ks ss) (batches_by_slot hi msgs ss) ss ts → (i : ℕ) → AtSlot R i hi ss → AtSlot R i hi ts
  at_appended means R ks l of st some hi msgs none ts t k i h = absurd h
  at_appended means R ks l of st some hi msgs (more lo old n ss) none t k i h = absurd t
  at_appended means R ks l of st some hi msgs (more lo old n ss) (more lo' new n' ts) t k zero h =
      let next = sym (next_lo-taken means hi hi msgs ss ts t.3) in
      let here = of lo (next_lo hi ss) old n h in
      let list = k.0 (subst (λ z. 0 < kept_at ks z) (sym here) some) in
      let p = pieces lo (next_lo hi ss) msgs in
      let with_more = st lo (next_lo hi ss) old p n h in
      subst (λ z. R z (next_lo hi ts) new n') (sym t.0) (subst (λ z. R lo z new n') next (subst (λ z. R lo (next_lo hi ss) z n') (sym list) (subst (λ z. R lo (next_lo hi ss) (old ++ p) z) (sym t.2) with_more)))
  at_appended means R ks l of st some hi msgs (more lo old n ss) (more lo' new n' ts) t k (suc i) h = at_appended means R ks l of st some hi msgs ss ts t.3 k.1 i h

  -- an append moves a mark's slot, where its list is kept
  pub append_moves : (means : U → Option V → Option V) (ks : List Mark) (m : Mark) (msgs : List (Msg U V)) (a b : PNode U V) → 0 < kept_at ks m.range.lo → IsAppended means msgs a b → KeepsLists (kept_in ks a) msgs a b → Moves m a b
  append_moves means ks m msgs (leaf es) b some t k R of st i h = absurd h
  append_moves means ks m msgs (inner ss) (leaf es) some t k R of st i h = absurd t
  append_moves means ks m msgs (inner ss) (inner ts) some t k R of st i h = (i, at_appended means R ks m.range.lo of st some None msgs ss ts t k i h)

  -- ---- graft

  -- a graft at another slot moves it
  pub graft_moves : (m : Mark) (lo : List ℕ) (T : OfSlot U V) (i count : ℕ) (sub a b : PNode U V) → ((b : List ℕ) (e : Option (List ℕ)) (ms : List (Msg U V)) (c : PNode U V) → T b e ms c → b ≡ lo) → AtRootSlot T i a → (m.range.lo ≡ lo → ⊥) → IsGrafted i count sub a b → Moves m a b
  graft_moves m lo T i count sub a b is at apart g R of st j h =
      graft_other R i count j sub a b g (λ e. root_both R T ⊥ i a (λ l f ms c x y. apart (sym (of l f ms c x) ∙ is l f ms c y)) (subst (λ z. AtRootSlot R z a) e h) at) h

  -- ---- steps

  -- a step that the mark outlives moves its slot
  pub step_moves : (kind : StepKind) (p : List ℕ) (i : ℕ) (m : Mark) (a b : PNode U V) → IsRoot a → OthersStay kind p i a b → survives kind p i a m ≡ true → Moves m a b
  step_moves kind p i m a b r s live R of st j h =
      let out = (both (keeps_root kind) (is_outside (root_slot p i) (root_width kind p) (number_in a m.range.lo)) live).1 in
      let number = number_in_root m.range.lo j a r (root_map R (λ l e ms c. l ≡ m.range.lo) j a of h) in
      step_other R kind p i j a b s (subst (λ z. is_outside (root_slot p i) (root_width kind p) z ≡ true) number out) h
