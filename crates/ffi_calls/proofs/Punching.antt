-- A hole whose path's text was not parsed.
use Rattle.std.proofs.Common.{◌≡◌, ℕ, refl, sym, subst, ◌∙◌, Result, Ok, Err, IsOk, inl, inr}
use Rattle.pathkey.specs.Names.{Path}
use Rattle.pathkey.specs.Outcomes.{IsOrLacksMemory}
use Rattle.pathkey.specs.declared.errno.Errno.{Errno}
use Rattle.pathkey.specs.declared.errno.Errno.TheVariants.{ENOMEM}
use Rattle.reference.specs.declared.reply.Reply.TheVariants.{Fault}
use Rattle.volume.specs.Holes.{Punches}
use Rattle.volume.specs.Volumes.{PVolume, live_of}
use Rattle.volume.proofs.HoleCalls.{lacks_hole}
use Rattle.ffi_calls.specs.Holes.{PunchesAt}

-- the text is not a path, or an allocation failed
pub unread_hole : (off n at : ℕ) (read answer : Result Path Errno) (e : Errno) (v : PVolume) → IsOrLacksMemory answer read → answer ≡ Err e → PunchesAt read off n at (Err e) v v
unread_hole off n at read answer e v (inl is) err = subst (λ (r : Result Path Errno). PunchesAt r off n at (Err e) v v) (sym err ∙ is) (refl, refl)
unread_hole off n at read answer e v (inr lacks) err = lacking read lacks.1
  where
    lacking : (r : Result Path Errno) → IsOk r → PunchesAt r off n at (Err e) v v
    lacking (Ok p) some = let same : e ≡ ENOMEM = (cc) in subst (λ (x : Errno). Punches p off n at (Fault x) v v) (sym same) (lacks_hole v p off n at (live_of v) refl)
    lacking (Err f) some = absurd (cc)
