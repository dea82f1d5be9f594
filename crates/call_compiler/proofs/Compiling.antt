-- From the reply of the table of calls, and the tree after the messages, to what a call is compiled to.
use Rattle.std.proofs.Common.{◌≡◌, ℕ, List, refl, sym, ap, ◌∙◌, subst, arith, inl}
use Rattle.std.specs.Prelude.{Result, Ok, Err, IfOk}
use Rattle.block_index.specs.Means.{blocks}
use Rattle.block_index.specs.declared.update.BlockUpdate.{BlockUpdate}
use Rattle.message.specs.declared.msg.Msg.{Msg}
use Rattle.meta_index.specs.declared.update.MetaUpdate.{MetaUpdate}
use Rattle.meta_index.specs.Means.{metadata, IsMeantBy}
use Rattle.pathkey.specs.declared.errno.Errno.{Errno}
use Rattle.reference.specs.Tree.{Tree}
use Rattle.reference.specs.Calls.{Outcome, does}
use Rattle.reference.specs.Indexes.{IndexesMean}
use Rattle.reference.specs.declared.call.Call.{Call}
use Rattle.reference.specs.declared.call.Call.TheVariants.{Mkdir, Create, Write, Truncate, Unlink, Rmdir, Rename, Rmtree, Read, Stat as AskStat, Readdir}
use Rattle.reference.specs.declared.reply.Meta.{Meta}
use Rattle.reference.specs.declared.reply.Reply.{Reply}
use Rattle.reference.specs.declared.reply.Reply.TheVariants.{Fault}
use Rattle.reference.proofs.CallTrees.{fault_law}
use Rattle.call_compiler.specs.declared.indexes.Indexes.{Indexes}
use Rattle.call_compiler.specs.Compiled.{Messages, no_messages, metadata_after, blocks_after, MeanTree, Sends, IsCompiled}

-- two clauses on the value of a result as one
pub if_ok_both : {X Y : Type 0} (r : Result X Y) (P Q R : X → Type 0) → ((x : X) → P x → Q x → R x) → IfOk r P → IfOk r Q → IfOk r R
if_ok_both (Ok x) P Q R f p q = f x p q
if_ok_both (Err e) P Q R f p q = q

-- the metadata of the indexes of a tree
pub meta_meant : (i : Indexes) (t : Tree) → MeanTree i t → IsMeantBy t i.meta
meta_meant i t means = record { tree = means.tree; meta = means.meta }

-- every call may send nothing
pub nothing_sent : (i : Indexes) (call : Call) (at : ℕ) → Sends i call at no_messages
nothing_sent i (Mkdir p) at = (omega arith, λ t means dated. omega arith)
nothing_sent i (Create p) at = (omega arith, λ t means dated. omega arith)
nothing_sent i (Write p off w) at = inl refl
nothing_sent i (Truncate p n) at = (omega arith, λ t means short. omega arith, λ t means b there long. refl)
nothing_sent i (Unlink p) at = (omega arith, λ t means empty clear. refl)
nothing_sent i (Rmdir p) at = omega arith
nothing_sent i (Rename o n) at = inl refl
nothing_sent i (Rmtree p) at = omega arith
nothing_sent i (Read p off n) at = refl
nothing_sent i (AskStat p) at = refl
nothing_sent i (Readdir p) at = refl

-- after the messages the indexes abstract to t
abbrev pub After : Indexes → Messages → Tree → Type 0
After i msgs t = IndexesMean t (metadata_after msgs (metadata i.meta)) (blocks_after msgs (blocks i.block))

module _ (i : Indexes) (call : Call) (at : ℕ) (reply : Reply) (msgs : Messages) where
  -- a call that changes nothing and sends nothing
  pub compiled_kept : ((t : Tree) → MeanTree i t → reply ≡ (does at t call).1) → ((t : Tree) → MeanTree i t → (does at t call).0 ≡ t) → msgs ≡ no_messages → IsCompiled i call at reply msgs
  compiled_kept replies keeps none = record {
    reply = replies;
    tree = λ t means. subst (λ (x : Messages). After i x (does at t call).0) (sym none) (subst (λ (u : Tree). After i no_messages u) (sym (keeps t means)) means);
    fault = λ e h. none;
    sends = subst (λ (x : Messages). Sends i call at x) (sym none) (nothing_sent i call at);
  }

  -- a call that fails
  pub compiled_refused : (e : Errno) → ((t : Tree) → MeanTree i t → (does at t call).1 ≡ Fault e) → reply ≡ Fault e → msgs ≡ no_messages → IsCompiled i call at reply msgs
  compiled_refused e refuses r none = compiled_kept (λ t means. r ∙ sym (refuses t means)) (λ t means. fault_law at t call e (refuses t means)) none

  -- a call that succeeds
  pub compiled_done : (answer : Reply) (sent : Messages) → ((e : Errno) → answer ≡ Fault e → ⊥) → ((t : Tree) → MeanTree i t → (does at t call).1 ≡ answer) → ((t : Tree) → MeanTree i t → ◌≡◌ {A = Outcome} (does at t call) ((does at t call).0, answer) → After i sent (does at t call).0) → Sends i call at sent → reply ≡ answer → msgs ≡ sent → IsCompiled i call at reply msgs
  compiled_done answer sent other replies makes few r m = record {
    reply = λ t means. r ∙ sym (replies t means);
    tree = λ t means. subst (λ (x : Messages). After i x (does at t call).0) (sym m) (makes t means (ap (λ (x : Reply). ((does at t call).0, x)) (replies t means)));
    fault = λ e h. absurd (other e (sym r ∙ h));
    sends = subst (λ (x : Messages). Sends i call at x) (sym m) few;
  }

-- messages are their two halves
pub halves : (m n : List (Msg MetaUpdate Meta)) (b d : List (Msg BlockUpdate (List ℕ))) → m ≡ n → b ≡ d → ◌≡◌ {A = Messages} (record { meta = m; block = b }) (record { meta = n; block = d })
halves m n b d h g = ap {B = Messages} (λ (x : List (Msg MetaUpdate Meta)). record { meta = x; block = b }) h ∙ ap {B = Messages} (λ (y : List (Msg BlockUpdate (List ℕ))). record { meta = n; block = y }) g
