use Rattle.attributes.proofs.PlaceFacts.{mirrored_once, recorded_once}
use Rattle.attributes.proofs.laws.one_to_one.Goals as goal

pub returns-clause-record_dir : goal.returns-clause-record_dir
returns-clause-record_dir c = λ p q e. mirrored_once p q (cc)

pub returns-clause-record_path : goal.returns-clause-record_path
returns-clause-record_path c = λ p q e. recorded_once p q (cc)
