-- The result of a call that changes a volume: the number of bytes that were written, or the error of a text that was
-- not parsed.
use Rattle.std.proofs.Common.{◌≡◌, ◌⊎◌, ℕ, List, [], ◌∷◌, length, cond, refl, sym, subst, ◌∙◌, Result, Ok, Err, IsOk, inl, inr}
use Rattle.pathkey.specs.Names.{Path}
use Rattle.pathkey.specs.Outcomes.{IsOrLacksMemory}
use Rattle.pathkey.specs.declared.errno.Errno.{Errno}
use Rattle.pathkey.specs.declared.errno.Errno.TheVariants.{ENOMEM}
use Rattle.reference.specs.Calls.{Outcome, bytes_of, changed, does, faults_of_write, is_empty}
use Rattle.reference.specs.Tree.{File, Tree, entry_at, over, with_entry}
use Rattle.reference.specs.Worlds.{World, Ask, Replied, Fits}
use Rattle.reference.specs.declared.call.Call.{Call}
use Rattle.reference.specs.declared.call.Call.TheVariants.{Write}
use Rattle.reference.specs.declared.reply.Reply.{Reply}
use Rattle.reference.specs.declared.reply.Reply.TheVariants.{Count, Fault}
use Rattle.reference.proofs.NoFaults.{unless_holds}
use Rattle.reference.proofs.Touching.{reply_is}
use Rattle.volume.specs.Changes.{Called}
use Rattle.volume.specs.Volumes.{PVolume, IsVolume, live_of}
use Rattle.volume.proofs.Leading.{lacks_call}
use Rattle.ffi_calls.specs.Changes.{Asks, asked}

-- ---- the result of a write is the number of its bytes

-- the replies to a write of bytes: their number, or a fault
abbrev Replies : List ℕ → Reply → Type 0
Replies w r = (r ≡ Count (length w)) ⊎ ((e : Errno) × (r ≡ Fault e))

wrote : (t x : Tree) (w : List ℕ) → Replies w (cond {A = Outcome} (is_empty w) (t, Count 0) (x, Count (length w))).1
wrote t x [] = inl refl
wrote t x (b ∷ w) = inl refl

replies : (at : ℕ) (t : Tree) (p : Path) (off : ℕ) (w : List ℕ) → Replies w (changed at t (Write p off w)).1
unfolding changed
replies at t p off w = unless_holds (λ o. Replies w o.1) t (faults_of_write t p off w) _ (λ e. inr (e, refl)) (λ none. wrote t (with_entry t p (File at (over (bytes_of (entry_at t p)) off w))) w)

counted : (n : ℕ) (w : List ℕ) → Replies w (Count n) → n ≡ length w
counted n w (inl e) = (cc)
counted n w (inr e) = let h : Count n ≡ Fault e.0 = e.1 in absurd (cc)

fitting : (at : ℕ) (w : World) (p : Path) (off n : ℕ) (bytes : List ℕ) → Fits w (Ask (Write p off bytes) at) (Replied (Count n)) → n ≡ length bytes
fitting at w p off n bytes (inl e) =
    let k : Count n ≡ (does at w.live (Write p off bytes)).1 = (cc) in
    counted n bytes (subst (λ x. Replies bytes x) (sym (k ∙ reply_is at w.live (Write p off bytes))) (replies at w.live p off bytes))
fitting at w p off n bytes (inr e) = absurd (cc)

pub written : (p : Path) (off : ℕ) (bytes : List ℕ) (at n : ℕ) (old new : PVolume) → IsVolume old → Called (Write p off bytes) at (Count n) old new → Called (Write p off bytes) at (Count (length bytes)) old new
written p off bytes at n old new v k =
    subst (λ (x : ℕ). Called (Write p off bytes) at (Count x) old new) (fitting at v.world p off n bytes (k.leads v.world v.means).0) k

-- ---- a path that was not parsed, because it is invalid or an allocation failed

-- it is a reply of the call
not_called : (c : Call) (at : ℕ) (v : PVolume) → Called c at (Fault ENOMEM) v v
not_called c at v = lacks_call v c at (live_of v) refl

-- no path was parsed: the text is not a path, or an allocation failed
unread : (call : Path → Call) (at : ℕ) (read answer : Result Path Errno) (e : Errno) (v : PVolume) → IsOrLacksMemory answer read → answer ≡ Err e → Asks (asked call read) at (Err e) v v
unread call at read answer e v (inl is) err = subst (λ (r : Result Path Errno). Asks (asked call r) at (Err e) v v) (sym err ∙ is) (refl, refl)
unread call at read answer e v (inr lacks) err = lacking read lacks.1
  where
    lacking : (r : Result Path Errno) → IsOk r → Asks (asked call r) at (Err e) v v
    lacking (Ok p) some = let same : e ≡ ENOMEM = (cc) in subst (λ (x : Errno). Called (call p) at (Fault x) v v) (sym same) (not_called (call p) at v)
    lacking (Err f) some = absurd (cc)

-- so the call's result is the error of parsing its path
pub not_read : (call : Path → Call) (at : ℕ) (read answer : Result Path Errno) (e : Errno) (outcome : Result (Unit {0}) Errno) (v : PVolume) → IsOrLacksMemory answer read → answer ≡ Err e → outcome ≡ Err e → Asks (asked call read) at outcome v v
not_read call at read answer e outcome v is err same = subst (λ (r : Result (Unit {0}) Errno). Asks (asked call read) at r v v) (sym same) (unread call at read answer e v is err)
