-- Edits between two trees of a volume, on their way out.
use Rattle.std.specs.Prelude.{◌≡◌, ℕ, List, None, Result, Ok, Err}
use Rattle.delta.specs.Printers.{HandsOn, PEdits}
use Rattle.pathkey.specs.declared.errno.Errno.{Errno}
use Rattle.pathkey.specs.declared.errno.Errno.TheVariants.{ENOMEM}
use Rattle.reference.specs.Tree.{Tree}
use Rattle.reference.specs.Worlds.{World}
use Rattle.volume.specs.Volumes.{MeanRooted}
use Rattle.volume.specs.declared.fs_root.FsRoot.{FsRoot}
use Rattle.ffi_calls.specs.Differences.{NamesTree}

-- these roots are those of the tree that a text names
abbrev pub IsNamed : List ℕ → World → FsRoot → Type 0
IsNamed name w root = (t : Tree) × NamesTree name w t × MeanRooted root t

-- a printer of the edits between the trees that two texts name, which printed nothing and handed out nothing so far
pub record BeginsBetween (old new : List ℕ) (w : World) (p : PEdits) : Type 0 where
  pub from : IsNamed old w p.from
  pub to : IsNamed new w p.to
  pub text : p.text ≡ None
  pub handed : p.handed ≡ 0

-- so many more bytes of the edits were handed out; or an allocation failed, and the printer and the buffer are unchanged
abbrev pub HandsEditsOn : PEdits → Result ℕ Errno → PEdits → List ℕ → List ℕ → Type 0
HandsEditsOn p (Ok n) q old new = HandsOn p n q old new
HandsEditsOn p (Err e) q old new = (e ≡ ENOMEM) × (q ≡ p) × (new ≡ old)
