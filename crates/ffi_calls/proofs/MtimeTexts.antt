-- An mtime that is to be set at the path of a text that was not read.
use Rattle.std.proofs.Common.{◌≡◌, ℕ, refl, sym, subst, ◌∙◌, Result, Ok, Err, IsOk, inl, inr}
use Rattle.pathkey.specs.Names.{Path}
use Rattle.pathkey.specs.Outcomes.{IsOrLacksMemory}
use Rattle.pathkey.specs.declared.errno.Errno.{Errno}
use Rattle.pathkey.specs.declared.errno.Errno.TheVariants.{ENOMEM}
use Rattle.reference.specs.declared.reply.Reply.TheVariants.{Fault}
use Rattle.volume.specs.Mtimes.{SetsMtime}
use Rattle.volume.specs.Volumes.{PVolume, live_of}
use Rattle.volume.proofs.MtimeCalls.{lacks_mtime}
use Rattle.ffi_calls.specs.Mtimes.{SetsMtimeAt}

-- the text is not a path, or an allocation failed
pub unread_mtime : (at : ℕ) (read answer : Result Path Errno) (e : Errno) (v : PVolume) → IsOrLacksMemory answer read → answer ≡ Err e → SetsMtimeAt read at (Err e) v v
unread_mtime at read answer e v (inl is) err = subst (λ (r : Result Path Errno). SetsMtimeAt r at (Err e) v v) (sym err ∙ is) (refl, refl)
unread_mtime at read answer e v (inr lacks) err = lacking read lacks.1
  where
    lacking : (r : Result Path Errno) → IsOk r → SetsMtimeAt r at (Err e) v v
    lacking (Ok p) some = let same : e ≡ ENOMEM = (cc) in subst (λ (x : Errno). SetsMtime p at (Fault x) v v) (sym same) (lacks_mtime v p at (live_of v) refl)
    lacking (Err f) some = absurd (cc)
