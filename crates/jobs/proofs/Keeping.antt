-- What calls keep of the marks.
use Rattle.std.proofs.Common.{◌≡◌, ℕ, ◌+◌, ◌<◌, List, [], ◌∷◌, refl, ap, sym, ◌∙◌, subst, arith, Option, Some}
use Rattle.std.specs.Prelude.{OnOk, OnErr, Result, Ok, Err}
use Rattle.message.specs.declared.msg.Msg.{Msg}
use Rattle.message.proofs.Results.{either_way}
use Rattle.node.specs.Pure.{PNode, PTree}
use Rattle.node.specs.Appended.{Appended}
use Rattle.node.specs.Grafts.{KeepsLists, Grafted, AtRootSlot, CanReplace}
use Rattle.jobs.specs.declared.mark.Mark.{Mark}
use Rattle.node.specs.Lawful.{IsLawful, IsLawfulNode}
use Rattle.node.proofs.Placing.{is_root}
use Rattle.node.proofs.Grafting.{root_map}
use Rattle.node.proofs.Sizes.{lawful_depth}
use Rattle.jobs.specs.Content.{HasContent, done_content}
use Rattle.jobs.specs.Job.{PDone, IsSubtree}
use Rattle.jobs.specs.Replies.{IsSlotOf, IsPlaced, IsInstalled, FitsMark}
use Rattle.jobs.specs.Survive.{number_in}
use Rattle.jobs.specs.Marks.{AllKept, PMarked, Each, Stands, AreMarks, MarkHas, KeepsContent, kept_in, kept_at, position, without}
use Rattle.jobs.proofs.Slots.{number_in_root}
use Rattle.jobs.proofs.MarkFacts.{each_map, each_two, standing, moved, kept_some, marks_without, others_apart}
use Rattle.jobs.proofs.Moves.{still_stands, still_has, append_moves, graft_moves}

module _ {U V : Type 0} (means : U → Option V → Option V) where
  -- where the tree stays, so does the content of each mark
  pub contents_stay : (t : PTree U V) (ms : List Mark) → Each (KeepsContent means t t) ms
  contents_stay t [] = tt
  contents_stay t (m ∷ ms) = (λ c h. h, contents_stay t ms)

  -- where nothing changes
  pub kept_same : (a b : PTree U V) (ms : List Mark) (given : ℕ) → AreMarks a.root 0 ms given → b ≡ a → AllKept means a b ms given
  kept_same a b ms given h e = subst (λ t. AllKept means a t ms given) (sym e) (h, contents_stay a ms)

  -- an append that keeps the lists of marked slots
  kept_appended : (msgs : List (Msg U V)) (a b : PTree U V) (ms : List Mark) (given : ℕ) (kept : List ℕ) → AreMarks a.root 0 ms given → kept ≡ kept_in ms a.root → Appended means msgs a b → KeepsLists kept msgs a.root b.root → AllKept means a b ms given
  kept_appended msgs a b ms given kept h e p k =
      let lists = subst (λ z. KeepsLists z msgs a.root b.root) e k in
      let some = kept_some a.root 0 ms given h in
      let moves = λ (m : Mark) (q : 0 < kept_at ms m.range.lo). append_moves means ms m msgs a.root b.root q p.slots lists in (
        moved a.root b.root 0 ms given h (each_two (λ m. 0 < kept_at ms m.range.lo) (Stands a.root) (Stands b.root) ms (λ m q s. still_stands m a.root b.root (moves m q) s) some (standing a.root 0 ms given h)),
        each_map (λ m. 0 < kept_at ms m.range.lo) (KeepsContent means a b) ms (λ m q. still_has means m a b p.shape_kept (moves m q)) some,
      )

  -- the same of an append that may be refused
  pub kept_append : {T X : Type 0} (r : Result T X) (msgs : List (Msg U V)) (a b : PTree U V) (ms : List Mark) (given : ℕ) (kept : List ℕ) → AreMarks a.root 0 ms given → kept ≡ kept_in ms a.root → OnOk r (Appended means msgs a b) → OnOk r (KeepsLists kept msgs a.root b.root) → OnErr r (b ≡ a) → AllKept means a b ms given
  kept_append r msgs a b ms given kept h e ok lists err =
      either_way r (two r (Appended means msgs a b) (KeepsLists kept msgs a.root b.root) ok lists) err (λ q. kept_appended msgs a b ms given kept h e q.0 q.1) (λ q. kept_same a b ms given h q)
    where
      two : {T X : Type 0} (r : Result T X) (A B : Type 0) → OnOk r A → OnOk r B → OnOk r (A × B)
      two (Ok x) A B p q = (p, q)
      two (Err x) A B p q = tt

  -- what was built, at a slot that has its content
  pub placed : (done : PDone U V) (m : Mark) (a : PTree U V) (i : ℕ) → IsSubtree done.shape done.range done.child → IsLawful a → MarkHas means m (done_content means done) a → i ≡ number_in a.root m.range.lo → AtRootSlot (CanReplace means a.shape done.count done.child) i a.root × AtRootSlot (IsSlotOf done) i a.root
  placed done m a i sub l h e =
      let c = done_content means done in
      let begins = root_map (HasContent means c) (λ b f ms n. b ≡ m.range.lo) h.slot.0 a.root (λ b f ms n q. q.begins ∙ ap (λ r. r.lo) (sym h.range)) h.slot.1 in
      let number : h.slot.0 ≡ i = sym (e ∙ number_in_root m.range.lo h.slot.0 a.root (is_root a.shape l.levels a.root l.root) begins) in
      let here : AtRootSlot (HasContent means c) i a.root = subst (λ z. AtRootSlot (HasContent means c) z a.root) number h.slot.1 in (
        root_map (HasContent means c) (CanReplace means a.shape done.count done.child) i a.root (λ lo f ms n q. can lo f ms n q) here,
        root_map (HasContent means c) (IsSlotOf done) i a.root (λ lo f ms n q. (q.begins, q.ends)) here,
      )
    where
      can : (lo : List ℕ) (f : Option (List ℕ)) (ms : List (Msg U V)) (n : PNode U V) → HasContent means (done_content means done) lo f ms n → CanReplace means a.shape done.count done.child lo f ms n
      can lo f ms n q = record {
        has = q.has;
        lawful = λ k w.
            let deep : sub.height + 1 ≡ k + 1 = sym (lawful_depth done.shape done.child sub.height done.range.lo done.range.hi sub.lawful) ∙ sym q.depth ∙ lawful_depth a.shape n k lo f w in
            let even : sub.height ≡ k = omega (arith, deep) in
            subst (λ z. IsLawfulNode z done.child k lo f) (sym h.shape) (subst (λ z. IsLawfulNode done.shape done.child k z f) (sym q.begins) (subst (λ z. IsLawfulNode done.shape done.child k done.range.lo z) (sym q.ends) (subst (λ z. IsLawfulNode done.shape done.child z done.range.lo done.range.hi) even sub.lawful)));
        same = λ k w. sym (q.same k w);
      }

  -- the other marks, where what was built took its place
  pub kept_placed : (done : PDone U V) (a b : PTree U V) (ms : List Mark) (given : ℕ) → AreMarks a.root 0 ms given → FitsMark means done a ms → (i : ℕ) → position done.ticket ms ≡ Some i → IsPlaced means done a b → AllKept means a b (without done.ticket ms) given
  kept_placed done a b ms given h fits i e p =
      let apart = others_apart done.range.lo done.ticket 0 ms a.root given h (each_map (λ m. m.ticket ≡ done.ticket → MarkHas means m (done_content means done) a) (λ m. m.ticket ≡ done.ticket → m.range.lo ≡ done.range.lo) ms (λ m q t. ap (λ r. r.lo) (q t).range) fits) (i, e) in
      let left = marks_without a.root done.ticket 0 ms given h in
      let moves = λ (m : Mark) (q : m.range.lo ≡ done.range.lo → ⊥). graft_moves m done.range.lo (IsSlotOf done) p.number done.count done.child a.root b.root (λ l f xs c z. z.0) p.slot q p.tree.slots in (
        moved a.root b.root 0 (without done.ticket ms) given left (each_two (λ m. m.range.lo ≡ done.range.lo → ⊥) (Stands a.root) (Stands b.root) (without done.ticket ms) (λ m q s. still_stands m a.root b.root (moves m q) s) apart (standing a.root 0 (without done.ticket ms) given left)),
        each_map (λ m. m.range.lo ≡ done.range.lo → ⊥) (KeepsContent means a b) (without done.ticket ms) (λ m q. still_has means m a b p.tree.shape_kept (moves m q)) apart,
      )

  -- the same in the words of the code, which has the value in its parts
  pub is_placed : (parts done : PDone U V) (m : Mark) (a b : PTree U V) (i : ℕ) → parts ≡ done → IsSubtree parts.shape parts.range parts.child → IsLawful a → MarkHas means m (done_content means done) a → i ≡ number_in a.root m.range.lo → Grafted means i parts.count parts.child a b → IsPlaced means done a b
  is_placed parts done m a b i v sub l h e g =
      let here : MarkHas means m (done_content means parts) a = subst (λ (d : PDone U V). MarkHas means m (done_content means d) a) (sym v) h in
      subst (λ (d : PDone U V). IsPlaced means d a b) v (record { number = i; slot = (placed parts m a i sub l here e).1; tree = g })

  -- what an install has done, in the words of the code
  pub is_installed : (done : PDone U V) (a : PTree U V) (ms : List Mark) (given : ℕ) (b : PTree U V) (left : List Mark) (was : PMarked U V) → record { tree = a; marks = ms; given = given } ≡ was → left ≡ without done.ticket ms → IsPlaced means done a b → IsInstalled means done was (record { tree = b; marks = left; given = given })
  is_installed done a ms given b left was v e p = subst (λ (x : PMarked U V). IsInstalled means done x (record { tree = b; marks = left; given = given })) v (record { marks = e; given = refl; placed = p })
