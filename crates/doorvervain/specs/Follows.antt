-- Borrows of what handles hold.
use base.Fml.{Fml}
use denote.Ref.{MutBor}
use denote.Follow.{follows}
use Rattle.volume.specs.declared.fs_root.FsRoot.{FsRoot}
use Rattle.volume.specs.Volumes.{PVolume}
use Rattle.volume.specs.contracts.volume.Volume.{the_row as volume_row}
use Rattle.volume.specs.contracts.frozen.Frozen.{the_row as frozen_row}
use Rattle.delta.specs.Printers.{PEdits}
use Rattle.delta.specs.contracts.edits_printer.EditsPrinter.{the_row as edits_row}
use Rattle.images.specs.Printings.{PPrinting}
use Rattle.images.specs.contracts.printing.ImagePrinter.{the_row as printing_row}
use Rattle.images.specs.declared.loader.ImageLoader.{ImageLoader}
use Rattle.images.specs.contracts.loader.ImageLoader.{the_row as loading_row}
use Rattle.doorvervain.specs.declared.handle.VolumeHandle.{VolumeHandle}
use Rattle.doorvervain.specs.declared.handle.FrozenHandle.{FrozenHandle}
use Rattle.doorvervain.specs.declared.handle.PrinterHandle.{PrinterHandle}
use Rattle.doorvervain.specs.declared.handle.LoaderHandle.{LoaderHandle}
use Rattle.doorvervain.specs.declared.handle.EditsHandle.{EditsHandle}
use Rattle.doorvervain.specs.contracts.handle.VolumeHandle.{the_row as handle_row}
use Rattle.doorvervain.specs.contracts.handle.FrozenHandle.{the_row as frozen_handle_row}
use Rattle.doorvervain.specs.contracts.handle.PrinterHandle.{the_row as printing_handle_row}
use Rattle.doorvervain.specs.contracts.handle.LoaderHandle.{the_row as loading_handle_row}
use Rattle.doorvervain.specs.contracts.handle.EditsHandle.{the_row as edits_handle_row}

-- the handle once its volume is v
abbrev pub with_volume : VolumeHandle → PVolume → VolumeHandle
with_volume h v = record h { volume = v }

-- once the borrow r ends, the handle behind b owns the last volume written through r
abbrev pub handle_follows : MutBor VolumeHandle → MutBor PVolume → Fml
handle_follows b r = follows handle_row volume_row b.ghost_name r.ghost_name (with_volume b.now)

-- the handle once its tree is i
abbrev pub with_tree : FrozenHandle → FsRoot → FrozenHandle
with_tree h i = record h { tree = i }

-- once the borrow r ends, the handle behind b owns the last tree written through r
abbrev pub frozen_follows : MutBor FrozenHandle → MutBor FsRoot → Fml
frozen_follows b r = follows frozen_handle_row frozen_row b.ghost_name r.ghost_name (with_tree b.now)

-- the handle once its printing is p
abbrev pub with_printing : PrinterHandle → PPrinting → PrinterHandle
with_printing h p = record h { printing = p }

-- once the borrow r ends, the handle behind b owns the last printer written through r
abbrev pub printing_follows : MutBor PrinterHandle → MutBor PPrinting → Fml
printing_follows b r = follows printing_handle_row printing_row b.ghost_name r.ghost_name (with_printing b.now)

-- the handle once its loading is l
abbrev pub with_loading : LoaderHandle → ImageLoader → LoaderHandle
with_loading h l = record h { loading = l }

-- once the borrow r ends, the handle behind b owns the last loader written through r
abbrev pub loading_follows : MutBor LoaderHandle → MutBor ImageLoader → Fml
loading_follows b r = follows loading_handle_row loading_row b.ghost_name r.ghost_name (with_loading b.now)

-- the handle once its printer of edits is p
abbrev pub with_edits : EditsHandle → PEdits → EditsHandle
with_edits h p = record h { edits = p }

-- once the borrow r ends, the handle behind b owns the last printer written through r
abbrev pub edits_follows : MutBor EditsHandle → MutBor PEdits → Fml
edits_follows b r = follows edits_handle_row edits_row b.ghost_name r.ghost_name (with_edits b.now)
