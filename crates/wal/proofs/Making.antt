-- A change requested from a volume succeeds or fails as it does in each world to which the volume abstracts.
use Rattle.std.proofs.Common.{◌≡◌, ⊎_elim, inl, inr, [], ◌∷◌, false, Bool, cond, refl, ap, sym, subst, ◌∙◌, Some, None, Result, Ok, Err, IfErr, MatchResult, ℕ}
use Rattle.std.specs.Prelude.{◌⊎◌}
use Rattle.pathkey.specs.Names.{Path}
use Rattle.pathkey.specs.declared.errno.Errno.{Errno}
use Rattle.pathkey.specs.declared.errno.Errno.TheVariants.{ENOMEM}
use Rattle.reference.specs.Image.{Text}
use Rattle.reference.specs.Worlds.{World, Event, Ask, TakeSnapshot, DropSnapshot, RestoreSnapshot, Answer, Replied, Settled, Fits, MayLack, is_lack, next, outcome}
use Rattle.reference.specs.declared.reply.Reply.TheVariants.{Done, Count, Data, Stat, Names, Fault}
use Rattle.reference.specs.declared.reply.Reply.{Reply}
use Rattle.edits.specs.Applies.{Applied}
use Rattle.volume.specs.Mtimes.{Sets, SetsMtime, with_mtime}
use Rattle.volume.specs.Typed.{replied}
use Rattle.volume.specs.Volumes.{PVolume, Means}
use Rattle.wal.specs.declared.wal_entry.WalEntry.{WalEntry}
use Rattle.wal.specs.declared.wal_entry.WalEntry.TheVariants.{SetMtime, Edits}
use Rattle.wal.specs.Runs.{AllDone, Does, Effect, Fails, Happens, HasMtime, IsRefused, Leads, Makes, Reaches, effect_in, fault_of}

lack_reported : (w : World) (e : Event) (a : Answer) → MayLack w e a → fault_of a ≡ Some ENOMEM
lack_reported w (Ask c at) a h = ap fault_of h
lack_reported w (TakeSnapshot s) a h = ap fault_of h.0
lack_reported w (DropSnapshot s) a h = absurd h
lack_reported w (RestoreSnapshot s) a h = ap fault_of h.0

no_lack : (a : Answer) → fault_of a ≡ None → is_lack a ≡ false
no_lack (Replied Done) h = refl
no_lack (Replied (Count n)) h = refl
no_lack (Replied (Data b)) h = refl
no_lack (Replied (Stat k n at)) h = refl
no_lack (Replied (Names es)) h = refl
no_lack (Replied (Fault e)) h = cc
no_lack (Settled (Ok u)) h = refl
no_lack (Settled (Err e)) h = cc

-- the answer fits each world to which the volume abstracts; if it is no error, the change succeeds in the world, and the new volume
-- abstracts to the world to which it leads
pub record Answers (c : WalEntry) (a : Answer) (old new : PVolume) : Type 0 where
  pub done : fault_of a ≡ None → Reaches (c ∷ []) old new
  pub refused : (e : Errno) → fault_of a ≡ Some e → IsRefused c e old

reached : (w m : World) (c : WalEntry) (new : PVolume) → Does w c m → Means new m → (v : World) × AllDone w (c ∷ []) v × Means new v
reached w m c new does means = (m, (m, does, refl), means)

-- for a change that is an event of a world
pub answers_from : (c : WalEntry) (event : World → Event) (a : Answer) (old new : PVolume) → ((w : World) → effect_in w c ≡ Happens (event w)) → ((w : World) → Means old w → Fits w (event w) a × Means new (next w (event w) a)) → Answers c a old new
answers_from c event a old new is h = record {
  done = λ good w m.
      let both = h w m in
      let e = event w in
      let told : fault_of (outcome w e).1 ≡ None = ⊎_elim
      (λ (f : a ≡ (outcome w e).1). ap fault_of (sym f) ∙ good)
      (λ (l : MayLack w e a). absurd (let report = lack_reported w e a l in cc))
      both.0 in
      reached w (outcome w e).0 c new
      (subst (λ (x : Effect). Leads w x (outcome w e).0) (sym (is w)) (told, refl))
      (subst (λ (t : Bool). Means new (cond t w (outcome w e).0)) (no_lack a good) both.1);
  refused = λ e bad w m. subst (λ (x : Effect). Fails w x e) (sym (is w)) (a, (h w m).0, bad);
}

-- of an mtime that is set
mtime_answers : (p : Path) (at : ℕ) (r : Reply) (old new : PVolume) → SetsMtime p at r old new → Answers (SetMtime p at) (Replied r) old new
mtime_answers p at r old new sets = record { done = λ good w m. done w good (sets.leads w m); refused = λ e bad w m. refused w e bad (sets.leads w m) }
  where
    done : (w : World) → fault_of (Replied r) ≡ None → Sets p at r new w ⊎ (r ≡ Fault ENOMEM) → (v : World) × AllDone w (SetMtime p at ∷ []) v × Means new v
    done w good (inl h) = reached w (with_mtime p at w) (SetMtime p at) new (ap (λ (q : Reply). fault_of (Replied q)) (sym h.0) ∙ good, refl) h.1
    done w good (inr h) = absurd (let lack : fault_of (Replied r) ≡ Some ENOMEM = ap (λ (q : Reply). fault_of (Replied q)) h in cc)

    refused : (w : World) (e : Errno) → fault_of (Replied r) ≡ Some e → Sets p at r new w ⊎ (r ≡ Fault ENOMEM) → Fails w (HasMtime p at) e
    refused w e bad (inl h) = inl (ap (λ (q : Reply). fault_of (Replied q)) (sym h.0) ∙ bad)
    refused w e bad (inr h) = inr (let lack : fault_of (Replied r) ≡ Some ENOMEM = ap (λ (q : Reply). fault_of (Replied q)) h in cc)

pub settled_makes : (c : WalEntry) (r : Result (Unit {0}) Errno) (old new : PVolume) → Answers c (Settled r) old new → IfErr r (λ _. new ≡ old) → Makes c r old new
settled_makes c (Ok u) old new h kept = h.done refl
settled_makes c (Err e) old new h kept = (kept, h.refused e refl)

pub called_makes : (c : WalEntry) (r : Result (Unit {0}) Errno) (old new : PVolume) → Answers c (Replied (replied (λ _. Done) r)) old new → ((e : Errno) → replied (λ _. Done) r ≡ Fault e → new ≡ old) → Makes c r old new
called_makes c (Ok u) old new h kept = h.done refl
called_makes c (Err e) old new h kept = (kept e refl, h.refused e refl)

-- for a call that returns a number, which is dropped
pub counted_makes : (c : WalEntry) (counted : Result ℕ Errno) (r : Result (Unit {0}) Errno) (old new : PVolume) → MatchResult counted (λ n. r ≡ Ok tt) (λ e. r ≡ Err e)
    → Answers c (Replied (replied (λ n. Count n) counted)) old new → ((e : Errno) → replied (λ n. Count n) counted ≡ Fault e → new ≡ old) → Makes c r old new
counted_makes c (Ok n) r old new report h kept = subst (λ (s : Result (Unit {0}) Errno). Makes c s old new) (sym report) (h.done refl)
counted_makes c (Err e) r old new report h kept = subst (λ (s : Result (Unit {0}) Errno). Makes c s old new) (sym report) (kept e refl, h.refused e refl)

pub mtime_makes : (p : Path) (at : ℕ) (r : Result (Unit {0}) Errno) (old new : PVolume) → SetsMtime p at (replied (λ _. Done) r) old new → Makes (SetMtime p at) r old new
mtime_makes p at r old new sets = called_makes (SetMtime p at) r old new (mtime_answers p at (replied (λ _. Done) r) old new sets) sets.refused

pub edits_made : (text : Text) (old new : PVolume) → Applied text old new → Reaches (Edits text ∷ []) old new
edits_made text old new (es, are, does) = λ w m.
    let done = does.means w m in
    reached w (record w { live = done.0 }) (Edits text) new (es, done.0, are, done.1, refl) done.2
