-- What the moments of directories add to the outcome of a call.
use Rattle.std.proofs.Common.{◌≡◌, ℕ, List, [], ◌∷◌, true, false, cond, Bool, sym, ap, refl, ◌∙◌}
use Rattle.pathkey.specs.declared.errno.Errno.{Errno}
use Rattle.reference.specs.Tree.{Path, Tree, touched, all_touched}
use Rattle.reference.specs.Calls.{Outcome, is_done, touching, all_touching, changed, parents_of, does}
use Rattle.reference.specs.Shape.{IsMoment, IsTree}
use Rattle.reference.specs.declared.call.Call.{Call}
use Rattle.reference.specs.declared.reply.Reply.{Reply}
use Rattle.reference.specs.declared.reply.Reply.TheVariants.{Done, Fault}
use Rattle.reference.proofs.TreeEdits.{touched_tree}

-- the answer stays
reply_stays : (at : ℕ) (ps : List Path) (o : Outcome) → (all_touching at ps o).1 ≡ o.1
reply_stays at [] o = refl
reply_stays at (p ∷ ps) o = reply_stays at ps (touching at p o)

-- the answer of a call is that of its change
pub reply_is : (at : ℕ) (t : Tree) (c : Call) → (does at t c).1 ≡ (changed at t c).1
unfolding does
reply_is at t c = reply_stays at (parents_of c) (changed at t c)

-- what was done
pub all_done : (at : ℕ) (ps : List Path) (t : Tree) → ◌≡◌ {A = Outcome} (all_touching at ps (t, Done)) (all_touched at t ps, Done)
all_done at [] t = refl
all_done at (p ∷ ps) t = all_done at ps (touched at t p)

-- and what was not
pub all_other : (at : ℕ) (ps : List Path) (o : Outcome) → is_done o.1 ≡ false → all_touching at ps o ≡ o
all_other at [] o h = refl
all_other at (p ∷ ps) o h =
    let stays : touching at p o ≡ o = ap {B = Outcome} (λ (b : Bool). (cond b (touched at o.0 p) o.0, o.1)) h in
    ap (all_touching at ps) stays ∙ all_other at ps o h

-- a call that is done gives its change, and then the moment of its directories
pub done_law : (at : ℕ) (t t' : Tree) (c : Call) → ◌≡◌ {A = Outcome} (does at t c) (t', Done)
    → (u : Tree) × (◌≡◌ {A = Outcome} (changed at t c) (u, Done)) × (t' ≡ all_touched at u (parents_of c))
unfolding does
done_law at t t' c e =
    let o : Outcome = changed at t c in
    let reply : o.1 ≡ Done = sym (reply_is at t c) ∙ ap (λ (z : Outcome). z.1) e in
    let is : o ≡ (o.0, Done) = ap {B = Outcome} (λ (r : Reply). (o.0, r)) reply in
    (o.0, is, ap (λ (z : Outcome). z.0) (sym e ∙ ap (all_touching at (parents_of c)) is ∙ all_done at (parents_of c) o.0))

-- a refusal stays as it is
pub refusal_stays : (at : ℕ) (t : Tree) (c : Call) (e : Errno) → (does at t c).1 ≡ Fault e → does at t c ≡ changed at t c
unfolding does
refusal_stays at t c e h = all_other at (parents_of c) (changed at t c) (ap is_done (sym (reply_is at t c) ∙ h))

-- moments keep a directory tree one
all_tree : (at : ℕ) (ps : List Path) (o : Outcome) → IsMoment at → IsTree o.0 → IsTree (all_touching at ps o).0
all_tree at [] o early is = is
all_tree at (p ∷ ps) o early is = all_tree at ps (touching at p o) early
    (elim (is_done o.1) as (λ b. IsTree (cond b (touched at o.0 p) o.0)) [
      | true ↦ touched_tree at o.0 p early is
      | false ↦ is
    ])

pub does_tree : (at : ℕ) (t : Tree) (c : Call) → IsMoment at → IsTree (changed at t c).0 → IsTree (does at t c).0
unfolding does
does_tree at t c early is = all_tree at (parents_of c) (changed at t c) early is
