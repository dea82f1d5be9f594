-- What is built of a job.
use Rattle.std.proofs.Common.{◌≡◌, ℕ, ◌≤◌, true, false, List, length, refl, ap, sym, ◌∙◌, subst, arith, Option, None}
use Rattle.pathkey.specs.Keys.{is_below}
use Rattle.pathkey.specs.declared.range.KeyRange.{KeyRange}
use Rattle.message.specs.declared.msg.Msg.{Msg}
use Rattle.message.specs.Ranges.{reaches, within}
use Rattle.message.specs.Effects.{effects}
use Rattle.message.proofs.KeyOrder.{both}
use Rattle.node.specs.declared.shape.Shape.{Shape}
use Rattle.node.specs.Pure.{PNode, leaf, inner, none, more, is_leaf}
use Rattle.node.specs.Lawful.{IsLawfulNode, TouchOnly}
use Rattle.node.specs.Meaning.{value}
use Rattle.node.specs.Subtrees.{IsSameSubtree, StaysSubtree}
use Rattle.node.proofs.Appending.{value-taken, slot_count-taken, starts_at-taken}
use Rattle.node.proofs.Sinking.{lawful-sunk}
use Rattle.node.proofs.Sizes.{lawful_depth}
use Rattle.flush.specs.Sunk.{ConsumedInto}
use Rattle.jobs.specs.Content.{SameContent, job_content, done_content}
use Rattle.jobs.specs.Job.{PJob, IsJob, IsSubtree, EndsLawfully}
use Rattle.jobs.specs.Replies.{IsBuilt}

module _ {U V : Type 0} (means : U → Option V → Option V) (S : Shape) (range : KeyRange) (ms : List (Msg U V)) where
  -- a node that has taken the messages is lawful where it was
  lawful_built : (h : ℕ) (c d : PNode U V) → ConsumedInto means S.pending ms c d → TouchOnly range.lo range.hi ms → IsLawfulNode S c h range.lo range.hi → IsLawfulNode S d h range.lo range.hi
  lawful_built h (leaf es) d t only l = absurd t
  lawful_built h (inner cs) (leaf es) t only l = absurd t
  lawful_built h (inner cs) (inner ds) t only l = (
    l.0,
    subst (λ z. z ≤ S.fanout) (sym (slot_count-taken means None ms cs ds t.0)) l.1,
    t.1,
    starts_at-taken means range.lo None ms cs ds t.0 l.3,
    lawful-sunk means S h range.lo range.hi ms cs ds only t.0 l.4,
  )

  -- and means the messages on what it meant
  value_built : (h : ℕ) (c d : PNode U V) → ConsumedInto means S.pending ms c d → IsLawfulNode S c h range.lo range.hi → (k : List ℕ) → within range.lo range.hi k ≡ true → value means d k ≡ effects means ms k (value means c k)
  value_built h (leaf es) d t l k w = absurd t
  value_built h (inner cs) (leaf es) t l k w = absurd t
  value_built h (inner none) (inner ds) t l k w = absurd l.3
  value_built h (inner (more lp o n ss)) (inner ds) t l k w = value-taken means None ms lp o n ss ds k t.0 (ap (λ z. reaches z k) l.3 ∙ (both (reaches range.lo k) (is_below k range.hi) w).0) refl

  -- what is lawful above the leaves is an inner node
  above_leaves : (h : ℕ) (c d : PNode U V) → is_leaf c ≡ false → IsLawfulNode S c h range.lo range.hi → IsLawfulNode S d h range.lo range.hi → is_leaf d ≡ false
  above_leaves h (leaf es) d e l m = (cc)
  above_leaves h (inner cs) (leaf es) e l m = absurd (omega (arith, l.0, m.0))
  above_leaves h (inner cs) (inner ds) e l m = refl

  module _ (c d e : PNode U V) (gone : ConsumedInto means S.pending ms c d) (stays : StaysSubtree means S range.hi d e) (job : IsJob S range ms c) where
    -- what was built is lawful where the child was, and means what the child with the messages means
    built : IsSameSubtree means S job.subtree.height range.lo range.hi d e
    built = stays job.subtree.height range.lo (lawful_built job.subtree.height c d gone job.only job.subtree.lawful)

    -- so it is a subtree of the range
    pub is_subtree : IsSubtree S range e
    is_subtree = record { inner = above_leaves job.subtree.height c e job.subtree.inner job.subtree.lawful built.lawful; height = job.subtree.height; lawful = built.lawful }

    -- and has the job's content
    same_content : (t : ℕ) → SameContent (job_content means (record { ticket = t; shape = S; range = range; msgs = ms; child = c })) (done_content means (record { ticket = t; shape = S; range = range; count = length ms; child = e }))
    same_content t =
        let h = job.subtree.height in
        record {
          shape = refl;
          range = refl;
          depth = lawful_depth S e h range.lo range.hi built.lawful ∙ sym (lawful_depth S c h range.lo range.hi job.subtree.lawful);
          count = refl;
          value = λ k w. built.same k w ∙ value_built h c d gone job.subtree.lawful k w;
        }

module _ {U V : Type 0} where
  -- the same in the words of the code, with a copy of the range
  pub is_built : (means : U → Option V → Option V) (job : PJob U V) (t : ℕ) (S : Shape) (range copied : KeyRange) (ms : List (Msg U V)) (c d e : PNode U V) (n : ℕ) → record { ticket = t; shape = S; range = range; msgs = ms; child = c } ≡ job → copied ≡ range → n ≡ length ms → ConsumedInto means S.pending ms c d → StaysSubtree means S range.hi d e → IsJob S range ms c → IsBuilt means job (record { ticket = t; shape = S; range = copied; count = n; child = e })
  is_built means job t S range copied ms c d e n v r m g s j =
      let here : IsBuilt means (record { ticket = t; shape = S; range = range; msgs = ms; child = c }) (record { ticket = t; shape = S; range = range; count = length ms; child = e }) = record { ticket = refl; content = same_content means S range ms c d e g s j t; subtree = is_subtree means S range ms c d e g s j } in
      subst (λ (x : PJob U V). IsBuilt means x (record { ticket = t; shape = S; range = copied; count = n; child = e })) v (subst (λ (x : KeyRange). IsBuilt means (record { ticket = t; shape = S; range = range; msgs = ms; child = c }) (record { ticket = t; shape = S; range = x; count = n; child = e })) (sym r) (subst (λ x. IsBuilt means (record { ticket = t; shape = S; range = range; msgs = ms; child = c }) (record { ticket = t; shape = S; range = range; count = x; child = e })) (sym m) here))

  -- what has taken the messages is lawful somewhere up to the range's end
  pub ends_lawfully : (means : U → Option V → Option V) (S : Shape) (range : KeyRange) (ms : List (Msg U V)) (c d : PNode U V) → ConsumedInto means S.pending ms c d → IsJob S range ms c → EndsLawfully S range.hi d
  ends_lawfully means S range ms c d g j = (j.subtree.height, range.lo, lawful_built means S range ms j.subtree.height c d g j.only j.subtree.lawful)

  -- ---- flushes one after the other

  -- what stays a subtree of the same meaning ends lawfully still
  pub stays_lawful : (means : U → Option V → Option V) (S : Shape) (hi : Option (List ℕ)) (a b : PNode U V) → EndsLawfully S hi a → StaysSubtree means S hi a b → EndsLawfully S hi b
  stays_lawful means S hi a b l s = (l.0, l.1, (s l.0 l.1 l.2).lawful)

  -- two changes that keep a subtree keep it together
  pub stays_then : (means : U → Option V → Option V) (S : Shape) (hi : Option (List ℕ)) (a b c : PNode U V) → StaysSubtree means S hi a b → StaysSubtree means S hi b c → StaysSubtree means S hi a c
  stays_then means S hi a b c s t h lo l =
      let p = s h lo l in
      let q = t h lo p.lawful in
      record { lawful = q.lawful; same = λ k w. q.same k w ∙ p.same k w }

  -- a subtree stays one where nothing changes
  pub stays_itself : (means : U → Option V → Option V) (S : Shape) (hi : Option (List ℕ)) (a : PNode U V) → StaysSubtree means S hi a a
  stays_itself means S hi a h lo l = record { lawful = l; same = λ k w. refl }
