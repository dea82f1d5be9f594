-- Images in buffers.
use Rattle.std.specs.Prelude.{◌≡◌, ℕ, ◌+◌, List, length, Result, Ok, Err}
use Rattle.pathkey.specs.declared.errno.Errno.{Errno}
use Rattle.pathkey.specs.declared.errno.Errno.TheVariants.{ENOMEM}
use Rattle.reference.specs.Image.{Second, image}
use Rattle.reference.specs.Tree.{Tree}
use Rattle.images.specs.Printings.{HandsOver, PPrinting}
use Rattle.volume.specs.Volumes.{MeanRooted}
use Rattle.ffi_calls.specs.Reads.{copied}

-- the result is the number of bytes of the text, and the buffer has it if it fits; or it is ENOMEM, and the buffer is
-- unchanged
abbrev pub Prints : List ℕ → Result ℕ Errno → List ℕ → List ℕ → Type 0
Prints text (Ok n) old new = (n ≡ length text) × (new ≡ copied text old)
Prints text (Err e) old new = (e ≡ ENOMEM) × (new ≡ old)

-- so many more bytes of the image were handed out; or an allocation failed, and the printer and the buffer are unchanged
abbrev pub PrintsOn : PPrinting → Result ℕ Errno → PPrinting → List ℕ → List ℕ → Type 0
PrintsOn p (Ok n) q old new = (q ≡ record p { done = p.done + n }) × ((t : Tree) → MeanRooted p.tree t → HandsOver (image Second t) p.done n old new)
PrintsOn p (Err e) q old new = (e ≡ ENOMEM) × (q ≡ p) × (new ≡ old)
