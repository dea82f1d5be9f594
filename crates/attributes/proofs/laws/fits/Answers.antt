use Rattle.attributes.specs.Places.{record_dir, record_path}
use Rattle.attributes.proofs.PlaceFacts.{fits_from_path, path_from_fits, plain_mirror, plain_record}
use Rattle.attributes.proofs.laws.fits.Goals as goal

pub returns : goal.returns
returns c = λ p h. (
  (path_from_fits (record_dir p) (plain_mirror p h.names), fits_from_path (record_dir p)),
  (path_from_fits (record_path p) (plain_record p h.names), fits_from_path (record_path p)),
)
