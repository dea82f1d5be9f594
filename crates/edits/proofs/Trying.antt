-- An edit of a volume by one call.
use Rattle.std.proofs.Common.{◌≡◌, ◌⊎◌, ⊎_elim, inl, inr, ℕ, [], ◌∷◌, Bool, true, false, Option, Some, None, Result, Ok, Err, sym, refl, ap, ◌∙◌, subst}
use Rattle.call_compiler.specs.Mtimes.{mtime_set}
use Rattle.pathkey.specs.declared.errno.Errno.{Errno}
use Rattle.pathkey.specs.declared.errno.Errno.TheVariants.{ENOMEM}
use Rattle.pathkey.specs.declared.errno.NoMemory.{NoMemory}
use Rattle.pathkey.specs.Names.{Path}
use Rattle.reference.specs.Calls.{Outcome, does, first_fault}
use Rattle.reference.specs.Plant.{faults_of_plant, planted, planted_unless, with_plant}
use Rattle.reference.specs.Reads.{sight}
use Rattle.reference.specs.Tree.{Tree}
use Rattle.reference.specs.Worlds.{Ask, Fits as Answers, Replied, World, next}
use Rattle.reference.specs.declared.call.Call.{Call}
use Rattle.reference.specs.declared.reply.Meta.{Meta}
use Rattle.reference.specs.declared.reply.Reply.{Reply}
use Rattle.reference.specs.declared.reply.Reply.TheVariants.{Done, Fault}
use Rattle.volume.specs.Changes.{Called}
use Rattle.volume.specs.Mtimes.{SetsMtime}
use Rattle.volume.specs.Plants.{Plants}
use Rattle.volume.specs.Typed.{replied}
use Rattle.volume.specs.Volumes.{Means, PVolume}
use Rattle.edits.specs.Applies.{DoesEdits, Performs, Stays}
use Rattle.edits.specs.Edits.{Fits}
use Rattle.edits.specs.Tried.{WhetherDone}
use Rattle.edits.specs.declared.edit.Edit.{Edit}
use Rattle.edits.proofs.Adding.{planting, planting_reply}
use Rattle.edits.proofs.Ways.{CarriesOut, is_fault}

-- a call of which this is the outcome on each tree: the volume then has the outcome's tree, or memory was refused; a fault changes
-- nothing, and snapshots and marks stay
pub record Tries (o : Tree → Outcome) (r : Reply) (old new : PVolume) : Type 0 where
  pub leads : (w : World) → Means old w → ((r ≡ (o w.live).1) × Means new (record w { live = (o w.live).0 })) ⊎ (r ≡ Fault ENOMEM)
  pub refused : (e : Errno) → r ≡ Fault e → new ≡ old
  pub stays : Stays old new

-- ---- the calls

call_leads : (c : Call) (at : ℕ) (w : World) (new : PVolume) (r : Reply) → Answers w (Ask c at) (Replied r) → Means new (next w (Ask c at) (Replied r)) → ((r ≡ (does at w.live c).1) × Means new (record w { live = (does at w.live c).0 })) ⊎ (r ≡ Fault ENOMEM)
call_leads c at w new (Fault ENOMEM) a m = inr refl
call_leads c at w new r (inl e) m = inl ((cc), m)
call_leads c at w new r (inr e) m = inr (cc)

-- a file call
pub call_tries : (c : Call) (at : ℕ) (r : Reply) (old new : PVolume) → Called c at r old new → Tries (λ t. does at t c) r old new
call_tries c at r old new h = record {
  leads = λ w m. let l = h.leads w m in call_leads c at w new r l.0 l.1;
  refused = h.refused;
  stays = record { snapshots = h.snapshots; marks = h.marks; kept = h.kept };
}

-- an mtime that is set
pub mtime_tries : (p : Path) (at : ℕ) (r : Reply) (old new : PVolume) → SetsMtime p at r old new → Tries (λ t. mtime_set at t p) r old new
mtime_tries p at r old new h = record {
  leads = h.leads;
  refused = h.refused;
  stays = record { snapshots = h.snapshots; marks = h.marks; kept = h.kept };
}

-- a refusal to plant an entry changes nothing
planting_refused : (t : Tree) (p : Path) (m : Meta) (e : Errno) → Err e ≡ (planted t p m).1 → (planted t p m).0 ≡ t
planting_refused t p m e = cases (first_fault (faults_of_plant t p m))
  where
    cases : (f : Option Errno) → Err e ≡ (planted_unless t (with_plant t p m) f).1 → (planted_unless t (with_plant t p m) f).0 ≡ t
    cases None h = absurd (cc)
    cases (Some g) h = refl

-- an entry that is planted
pub plant_tries : (p : Path) (m : Meta) (r : Result (Unit {0}) Errno) (old new : PVolume) → Plants p m r old new → Tries (λ t. planting (planted t p m)) (replied (λ _. Done) r) old new
plant_tries p m r old new h = record {
  leads = λ w mw. leads r h w mw;
  refused = refused r h;
  stays = record { snapshots = h.snapshots; marks = h.marks; kept = h.kept };
}
  where
    refused : (r : Result (Unit {0}) Errno) → Plants p m r old new → (e : Errno) → replied (λ _. Done) r ≡ Fault e → new ≡ old
    refused (Ok given) h e f = absurd (cc)
    refused (Err g) h e f = h.refused

    leads : (r : Result (Unit {0}) Errno) → Plants p m r old new → (w : World) → Means old w → ((replied (λ _. Done) r ≡ (planting (planted w.live p m)).1) × Means new (record w { live = (planted w.live p m).0 })) ⊎ (replied (λ _. Done) r ≡ Fault ENOMEM)
    leads (Ok given) h w mw = ⊎_elim
        (λ e. inl (ap planting_reply e, h.means w mw))
        (λ e. absurd (cc))
        (h.answer w mw)
    leads (Err g) h w mw = ⊎_elim
        (λ e. inl (ap planting_reply e, subst (λ (v : PVolume). Means v (record w { live = (planted w.live p m).0 })) (sym h.refused) (subst (λ (x : Tree). Means old (record w { live = x })) (sym (planting_refused w.live p m g e)) mw)))
        (λ e. inr (cc))
        (h.answer w mw)

-- ---- what they do for an edit

-- an edit that does not fit any tree of the volume is not done
pub unfit : (e : Edit) (v : PVolume) → ((w : World) → Means v w → Fits e.change (sight w.live e.path) → ⊥) → Performs e (Ok false) v v
unfit e v h = (refl, λ w m u is. h w m is.fits)

-- a call that was done
done : (e : Edit) (o : Tree → Outcome) (r : Reply) (old new : PVolume) → is_fault r ≡ false → Tries o r old new → ((w : World) → Means old w → CarriesOut e w.live (o w.live)) → DoesEdits (e ∷ []) old new
done e o r old new none h carries = record {
  stays = h.stays;
  means = λ w m. ⊎_elim
      (λ l. let tree = l.1.live.indexes.tree in ((o w.live).0, ((o w.live).0, (carries w m).done (ap is_fault (sym l.0) ∙ none) tree, refl), l.1))
      (λ f. absurd (let z : true ≡ false = ap is_fault (sym f) ∙ none in cc))
      (h.leads w m);
}

-- a call that was refused, not for memory
refused : (e : Edit) (o : Tree → Outcome) (f : Errno) (old new : PVolume) → (f ≡ ENOMEM → ⊥) → Tries o (Fault f) old new → ((w : World) → Means old w → CarriesOut e w.live (o w.live)) → Performs e (Ok false) old new
refused e o f old new other h carries = (
  h.refused f refl,
  λ w m u is. ⊎_elim
      (λ l. let z : true ≡ false = ap is_fault l.0 ∙ (carries w m).possible u is in cc)
      (λ z. other (cc))
      (h.leads w m),
)

-- a call that carries an edit out in each tree of the volume, by what it tells
pub tried : {A : Type 0} (e : Edit) (o : Tree → Outcome) (reply : A → Reply) (r : Result A Errno) (told : Result Bool NoMemory) (old new : PVolume) → ((x : A) → is_fault (reply x) ≡ false)
    → Tries o (replied reply r) old new → ((w : World) → Means old w → CarriesOut e w.live (o w.live)) → WhetherDone r told → Performs e told old new
tried e o reply (Ok x) told old new none h carries tells = subst (λ (z : Result Bool NoMemory). Performs e z old new) (sym tells) (done e o (reply x) old new (none x) h carries)
tried e o reply (Err ENOMEM) (Ok b) old new none h carries tells = absurd (let z : false ≡ true = tells in cc)
tried e o reply (Err ENOMEM) (Err g) old new none h carries tells = h.refused ENOMEM refl
tried e o reply (Err f) told old new none h carries tells = subst (λ (z : Result Bool NoMemory). Performs e z old new) (sym tells) (refused e o f old new (λ z. cc) h carries)
