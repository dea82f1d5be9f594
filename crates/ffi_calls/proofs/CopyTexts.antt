-- A copy that is asked for in texts of which one was not read.
use Rattle.std.proofs.Common.{◌≡◌, ℕ, refl, sym, ap, subst, ◌∙◌, Result, Ok, Err, IsOk, inl, inr}
use Rattle.pathkey.specs.Names.{Path}
use Rattle.pathkey.specs.Outcomes.{IsOrLacksMemory}
use Rattle.pathkey.specs.declared.errno.Errno.{Errno}
use Rattle.pathkey.specs.declared.errno.Errno.TheVariants.{ENOMEM}
use Rattle.reference.specs.declared.reply.Reply.TheVariants.{Fault}
use Rattle.volume.specs.Copies.{Copies}
use Rattle.volume.specs.Volumes.{PVolume, live_of}
use Rattle.volume.proofs.CopyCalls.{lacks_copy}
use Rattle.ffi_calls.specs.Copies.{CopiesAt}

-- an allocation failed for a path, where the first text is one
lacking : (p : Path) (off : ℕ) (q : Result Path Errno) (target n at : ℕ) (e : Errno) (v : PVolume) → e ≡ ENOMEM → CopiesAt (Ok p) off q target n at (Err e) v v
lacking p off (Ok q) target n at e v same = subst (λ (x : Errno). Copies p off q target n at (Fault x) v v) (sym same) (lacks_copy v p off q target n at (live_of v) refl)
lacking p off (Err f) target n at e v same = inr (ap (λ (x : Errno). Err x) same, refl)

-- the first text is none, or an allocation for its path failed
pub unread_source : (off : ℕ) (q : Result Path Errno) (target n at : ℕ) (read answer : Result Path Errno) (e : Errno) (v : PVolume) → IsOrLacksMemory answer read → answer ≡ Err e
    → CopiesAt read off q target n at (Err e) v v
unread_source off q target n at read answer e v (inl is) err = subst (λ (r : Result Path Errno). CopiesAt r off q target n at (Err e) v v) (sym err ∙ is) (refl, refl)
unread_source off q target n at read answer e v (inr lacks) err = from read lacks.1
  where
    from : (r : Result Path Errno) → IsOk r → CopiesAt r off q target n at (Err e) v v
    from (Ok p) some = lacking p off q target n at e v (cc)
    from (Err f) some = absurd (cc)

-- so for the second text
unread_second : (p : Path) (off target n at : ℕ) (read answer : Result Path Errno) (e : Errno) (v : PVolume) → IsOrLacksMemory answer read → answer ≡ Err e
    → CopiesAt (Ok p) off read target n at (Err e) v v
unread_second p off target n at read answer e v (inl is) err =
    subst (λ (r : Result Path Errno). CopiesAt (Ok p) off r target n at (Err e) v v) (sym err ∙ is) (inl (refl, refl))
unread_second p off target n at read answer e v (inr lacks) err = lacking p off read target n at e v (cc)

-- the first text is a path, and the second is none, or an allocation for its path failed
pub unread_target : (p : Path) (off target n at : ℕ) (first read answer : Result Path Errno) (e : Errno) (v : PVolume) → IsOrLacksMemory (Ok p) first → IsOrLacksMemory answer read → answer ≡ Err e
    → CopiesAt first off read target n at (Err e) v v
unread_target p off target n at first read answer e v (inl is) other err =
    subst (λ (r : Result Path Errno). CopiesAt r off read target n at (Err e) v v) is (unread_second p off target n at read answer e v other err)
unread_target p off target n at first read answer e v (inr lacks) other err = absurd (let none = lacks.0 in cc)
