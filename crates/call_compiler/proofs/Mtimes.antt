-- What setting an mtime is compiled to, and the mtime of the root after it.
use Rattle.std.proofs.Common.{◌≡◌, ◌≤◌, ℕ, length, [], ◌∷◌, cond, refl, sym, ap, subst, ◌∙◌, arith, Option, None, Some}
use Rattle.std.specs.Prelude.{◌&&◌}
use Rattle.block_index.specs.Means.{blocks}
use Rattle.meta_index.specs.Means.{metadata}
use Rattle.pathkey.specs.Names.{Path, IsPath, is_root}
use Rattle.pathkey.specs.declared.errno.Errno.{Errno}
use Rattle.reference.specs.Calls.{Outcome, is_done, path_fault, unless}
use Rattle.reference.specs.Shape.{IsMoment}
use Rattle.reference.specs.Tree.{Tree, entry_at, moment, touched}
use Rattle.reference.specs.declared.reply.Reply.{Reply}
use Rattle.reference.specs.declared.reply.Reply.TheVariants.{Done, Fault}
use Rattle.reference.proofs.IndexLaws.{touch_law}
use Rattle.call_compiler.specs.Compiled.{Messages, no_messages, touches, MeanTree}
use Rattle.call_compiler.specs.Mtimes.{SetsMtime, mtime_set}
use Rattle.call_compiler.specs.declared.indexes.Indexes.{Indexes}
use Rattle.call_compiler.proofs.Compiling.{After}
use Rattle.call_compiler.proofs.RootMoment.{touched_moment}

-- the outcome by the fault of the path
abbrev outcome_of : Option Errno → ℕ → Tree → Path → Outcome
outcome_of fault at t p = unless t (fault ∷ []) (touched at t p, Done)

-- the root's mtime changes only if it is set at the root itself
pub mtime_moment : (at : ℕ) (t : Tree) (p : Path) → moment (mtime_set at t p).0 ≡ cond (is_done (mtime_set at t p).1 && is_root p) at (moment t)
mtime_moment at t p = by_fault (path_fault (entry_at t p))
  where
    by_fault : (f : Option Errno) → moment (outcome_of f at t p).0 ≡ cond (is_done (outcome_of f at t p).1 && is_root p) at (moment t)
    by_fault None = touched_moment at t p
    by_fault (Some e) = refl

module _ (i : Indexes) (p : Path) (at : ℕ) (reply : Reply) (msgs : Messages) (fault : Option Errno) (found : (t : Tree) → MeanTree i t → fault ≡ path_fault (entry_at t p)) where
  outcome : (t : Tree) → MeanTree i t → mtime_set at t p ≡ outcome_of fault at t p
  outcome t means = ap (λ (f : Option Errno). outcome_of f at t p) (sym (found t means))

  pub mtime_is_refused : (e : Errno) → fault ≡ Some e → reply ≡ Fault e → msgs ≡ no_messages → SetsMtime i p at reply msgs
  mtime_is_refused e is r none = record {
    reply = λ t means. r ∙ sym (ap (λ (o : Outcome). o.1) (refused t means));
    tree = λ t means. subst (λ (x : Messages). After i x (mtime_set at t p).0) (sym none) (subst (λ (u : Tree). After i no_messages u) (sym (ap (λ (o : Outcome). o.0) (refused t means))) means);
    fault = λ f h. none;
    one = subst (λ (x : Messages). (length x.meta ≤ 1) × (x.block ≡ [])) (sym none) (omega arith, refl);
  }
    where
      refused : (t : Tree) → MeanTree i t → ◌≡◌ {A = Outcome} (mtime_set at t p) (t, Fault e)
      refused t means = outcome t means ∙ ap (λ (f : Option Errno). outcome_of f at t p) is

  -- the message that is sent
  abbrev sent : Messages
  sent = record { meta = touches at (p ∷ []); block = [] }

  pub mtime_is_done : fault ≡ None → IsMoment at → IsPath p → reply ≡ Done → msgs ≡ sent → SetsMtime i p at reply msgs
  mtime_is_done is early is_path r m = record {
    reply = λ t means. r ∙ sym (ap (λ (o : Outcome). o.1) (done t means));
    tree = λ t means. subst (λ (x : Messages). After i x (mtime_set at t p).0) (sym m) (subst (λ (u : Tree). After i sent u) (sym (ap (λ (o : Outcome). o.0) (done t means))) (touch_law at t p (metadata i.meta) (blocks i.block) early means is_path));
    fault = λ e h. absurd (cc);
    one = subst (λ (x : Messages). (length x.meta ≤ 1) × (x.block ≡ [])) (sym m) (omega arith, refl);
  }
    where
      done : (t : Tree) → MeanTree i t → ◌≡◌ {A = Outcome} (mtime_set at t p) (touched at t p, Done)
      done t means = outcome t means ∙ ap (λ (f : Option Errno). outcome_of f at t p) is
