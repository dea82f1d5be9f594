-- What was built fits its mark.
use Rattle.std.proofs.Common.{◌≡◌, ◌≤◌, ◌<◌, [], ◌∷◌, List, ℕ, ◌++◌, arith, length, take, Option, ap, sym, ◌∙◌, subst}
use Rattle.message.specs.Ranges.{within}
use Rattle.message.specs.Effects.{effects}
use Rattle.node.specs.Meaning.{value}
use Rattle.node.specs.Pure.{PTree}
use Rattle.node.proofs.Grafting.{root_map}
use Rattle.jobs.specs.declared.mark.Mark.{Mark}
use Rattle.jobs.specs.Content.{Content, SameContent, HasContent, job_content, done_content}
use Rattle.jobs.specs.Job.{PJob}
use Rattle.jobs.specs.Replies.{Fits, KeepsFits, mark_of}
use Rattle.jobs.specs.Marks.{AreMarks, Each, PMarked, MarkHas, KeepsContent}
use Rattle.jobs.specs.Laws.{BuiltLaw, FewerLaw, KeptLaw, MoreLaw, WithoutLaw}
use Rattle.jobs.proofs.MarkFacts.{each_last, each_map, each_two, each_without, below_given}
use Rattle.jobs.proofs.Stepping.{each_those}

module _ {U V : Type 0} (means : U → Option V → Option V) where
  -- the mark's slot has a content that is the same
  has_same : (m : Mark) (c d : Content V) (t : PTree U V) → SameContent c d → MarkHas means m c t → MarkHas means m d t
  has_same m c d t s h = record {
    shape = h.shape ∙ sym s.shape;
    range = h.range ∙ sym s.range;
    count = h.count ∙ sym s.count;
    slot = (
      h.slot.0,
      root_map (HasContent means c) (HasContent means d) h.slot.0 t.root (λ lo e ms n q. record {
        begins = q.begins ∙ ap (λ r. r.lo) (sym s.range);
        ends = q.ends ∙ ap (λ r. r.hi) (sym s.range);
        has = subst (λ z. z ≤ length ms) (sym s.count) q.has;
        inner = q.inner;
        depth = q.depth ∙ sym s.depth;
        same = λ k w. ap (λ z. effects means (take z ms) k (value means n k)) s.count ∙ q.same k w ∙ sym (s.value k (ap (λ z. within z c.range.hi k) (sym q.begins) ∙ ap (λ z. within lo z k) (sym q.ends) ∙ w));
      }) h.slot.1,
    );
  }

  -- what was built of a job fits where the job did
  pub built_fits : BuiltLaw means
  built_fits job done t ms b h = each_map (λ m. m.ticket ≡ job.ticket → MarkHas means m (job_content means job) t) (λ m. m.ticket ≡ done.ticket → MarkHas means m (done_content means done) t) ms (λ m f e. has_same m (job_content means job) (done_content means done) t b.content (f (e ∙ b.ticket))) h

  -- a job fits still where each mark keeps its content
  pub kept_fits : KeptLaw means
  kept_fits ticket c a b ms f k = each_two (λ m. m.ticket ≡ ticket → MarkHas means m c a) (KeepsContent means a b) (λ m. m.ticket ≡ ticket → MarkHas means m c b) ms (λ m g h e. h c (g e)) f k

  -- and where marks are taken away
  pub fewer_fit : FewerLaw means
  fewer_fit ticket c t f ms h = each_those (λ m. m.ticket ≡ ticket → MarkHas means m c t) f ms h

  -- and where the mark of one ticket is taken away
  pub others_fit : WithoutLaw means
  others_fit ticket c t gone ms h = each_without (λ m. m.ticket ≡ ticket → MarkHas means m c t) gone ms h

  -- and where the mark of another ticket comes
  pub more_fit : MoreLaw means
  more_fit ticket c t m [] apart h = ((λ e. absurd (apart e)), tt)
  more_fit ticket c t m (n ∷ ms) apart h = (h.0, more_fit ticket c t m ms apart h.1)

  -- the mark of a new ticket is the only one that has it
  pub fits_new : (job : PJob U V) (a : PTree U V) (ms new : List Mark) (given : ℕ) → AreMarks a.root 0 ms given → job.ticket ≡ given → MarkHas means (mark_of job) (job_content means job) a → new ≡ ms ++ mark_of job ∷ [] → Fits means job.ticket (job_content means job) a new
  fits_new job a ms new given h t has e =
      let P = λ (m : Mark). m.ticket ≡ job.ticket → MarkHas means m (job_content means job) a in
      subst (λ (z : List Mark). Each P z) (sym e) (each_last P ms (mark_of job) (each_map (λ m. m.ticket < given) P ms (λ m lt q. absurd (omega (arith, lt, q, t))) (below_given a.root 0 ms given h)) (λ q. has))

  -- what callers use of a call: marks of before that keep their content
  pub keeps_fits : (a b : PTree U V) (ms new : List Mark) (given more : ℕ) (was : PMarked U V) → record { tree = a; marks = ms; given = given } ≡ was → ((P : Mark → Type 0) → Each P ms → Each P new) → Each (KeepsContent means a b) new → KeepsFits means was (record { tree = b; marks = new; given = more })
  keeps_fits a b ms new given more was v sub k = subst (λ (x : PMarked U V). KeepsFits means x (record { tree = b; marks = new; given = more })) v (λ t c lt f. kept_fits t c a b new (sub (λ m. m.ticket ≡ t → MarkHas means m c a) f) k)

  -- the same where the tree stays
  pub keeps_fits-here : (a : PTree U V) (ms new : List Mark) (given more : ℕ) (was : PMarked U V) → record { tree = a; marks = ms; given = given } ≡ was → ((P : Mark → Type 0) → Each P ms → Each P new) → KeepsFits means was (record { tree = a; marks = new; given = more })
  keeps_fits-here a ms new given more was v sub = subst (λ (x : PMarked U V). KeepsFits means x (record { tree = a; marks = new; given = more })) v (λ t c lt f. sub (λ m. m.ticket ≡ t → MarkHas means m c a) f)

  -- and where a mark under the next ticket comes
  pub keeps_fits-more : (a : PTree U V) (ms new : List Mark) (given more : ℕ) (m : Mark) (was : PMarked U V) → record { tree = a; marks = ms; given = given } ≡ was → new ≡ ms ++ m ∷ [] → m.ticket ≡ given → KeepsFits means was (record { tree = a; marks = new; given = more })
  keeps_fits-more a ms new given more m was v e t = subst (λ (x : PMarked U V). KeepsFits means x (record { tree = a; marks = new; given = more })) v (λ u c lt f. subst (λ z. Each (λ n. n.ticket ≡ u → MarkHas means n c a) z) (sym e) (more_fit u c a m ms (λ q. absurd (omega (arith, lt, q, t))) f))
