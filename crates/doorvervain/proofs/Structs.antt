-- The handles and the places for them, by their two fields.
use Rattle.doorvervain.proofs.Steps.{refl}
use Rattle.volume.specs.contracts.volume.Volume.{the_row as volume_row}
use Rattle.volume.specs.contracts.frozen.Frozen.{the_row as frozen_row}
use Rattle.delta.specs.contracts.edits_printer.EditsPrinter.{the_row as edits_row}
use Rattle.images.specs.contracts.printing.ImagePrinter.{the_row as printing_row}
use Rattle.images.specs.contracts.loader.ImageLoader.{the_row as loading_row}
use Rattle.doorvervain.specs.contracts.handle.VolumeHandle as VolumeHandle
use Rattle.doorvervain.specs.contracts.handle.FrozenHandle as FrozenHandle
use Rattle.doorvervain.specs.contracts.handle.PrinterHandle as PrinterHandle
use Rattle.doorvervain.specs.contracts.handle.LoaderHandle as LoaderHandle
use Rattle.doorvervain.specs.contracts.handle.EditsHandle as EditsHandle
use Rattle.doorvervain.specs.contracts.place.VolumeOut as VolumeOut
use Rattle.doorvervain.specs.contracts.place.FrozenOut as FrozenOut
use Rattle.doorvervain.specs.contracts.place.PrinterOut as PrinterOut
use Rattle.doorvervain.specs.contracts.place.LoaderOut as LoaderOut
use Rattle.doorvervain.specs.contracts.place.EditsOut as EditsOut
use Rattle.doorvervain.proofs.Handles.{Handle, Out}

abbrev pub volume_handle : Handle
volume_handle = record { X = volume_row; P = record { name = VolumeHandle.struct.name; D = VolumeHandle.struct.D; at = λ h. h.at; held = λ h. h.volume; make = λ p v. record { at = p; volume = v }; eta = λ d. refl; beta = λ v g. refl; held_is = λ p v. refl; codes = VolumeHandle.the_codes } }

abbrev pub frozen_handle : Handle
frozen_handle = record { X = frozen_row; P = record { name = FrozenHandle.struct.name; D = FrozenHandle.struct.D; at = λ h. h.at; held = λ h. h.tree; make = λ p v. record { at = p; tree = v }; eta = λ d. refl; beta = λ v g. refl; held_is = λ p v. refl; codes = FrozenHandle.the_codes } }

abbrev pub printer_handle : Handle
printer_handle = record { X = printing_row; P = record { name = PrinterHandle.struct.name; D = PrinterHandle.struct.D; at = λ h. h.at; held = λ h. h.printing; make = λ p v. record { at = p; printing = v }; eta = λ d. refl; beta = λ v g. refl; held_is = λ p v. refl; codes = PrinterHandle.the_codes } }

abbrev pub loader_handle : Handle
loader_handle = record { X = loading_row; P = record { name = LoaderHandle.struct.name; D = LoaderHandle.struct.D; at = λ h. h.at; held = λ h. h.loading; make = λ p v. record { at = p; loading = v }; eta = λ d. refl; beta = λ v g. refl; held_is = λ p v. refl; codes = LoaderHandle.the_codes } }

abbrev pub edits_handle : Handle
edits_handle = record { X = edits_row; P = record { name = EditsHandle.struct.name; D = EditsHandle.struct.D; at = λ h. h.at; held = λ h. h.edits; make = λ p v. record { at = p; edits = v }; eta = λ d. refl; beta = λ v g. refl; held_is = λ p v. refl; codes = EditsHandle.the_codes } }

abbrev pub volume_out : Out
volume_out = record { X = volume_row; P = record { name = VolumeOut.struct.name; D = VolumeOut.struct.D; at = λ h. h.at; held = λ h. h.given; make = λ p v. record { at = p; given = v }; eta = λ d. refl; beta = λ v g. refl; held_is = λ p v. refl; codes = VolumeOut.the_codes } }

abbrev pub frozen_out : Out
frozen_out = record { X = frozen_row; P = record { name = FrozenOut.struct.name; D = FrozenOut.struct.D; at = λ h. h.at; held = λ h. h.given; make = λ p v. record { at = p; given = v }; eta = λ d. refl; beta = λ v g. refl; held_is = λ p v. refl; codes = FrozenOut.the_codes } }

abbrev pub printer_out : Out
printer_out = record { X = printing_row; P = record { name = PrinterOut.struct.name; D = PrinterOut.struct.D; at = λ h. h.at; held = λ h. h.given; make = λ p v. record { at = p; given = v }; eta = λ d. refl; beta = λ v g. refl; held_is = λ p v. refl; codes = PrinterOut.the_codes } }

abbrev pub loader_out : Out
loader_out = record { X = loading_row; P = record { name = LoaderOut.struct.name; D = LoaderOut.struct.D; at = λ h. h.at; held = λ h. h.given; make = λ p v. record { at = p; given = v }; eta = λ d. refl; beta = λ v g. refl; held_is = λ p v. refl; codes = LoaderOut.the_codes } }

abbrev pub edits_out : Out
edits_out = record { X = edits_row; P = record { name = EditsOut.struct.name; D = EditsOut.struct.D; at = λ h. h.at; held = λ h. h.given; make = λ p v. record { at = p; given = v }; eta = λ d. refl; beta = λ v g. refl; held_is = λ p v. refl; codes = EditsOut.the_codes } }
