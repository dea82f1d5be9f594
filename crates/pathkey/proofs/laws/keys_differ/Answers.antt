use Rattle.pathkey.proofs.KeyFacts.{enc_law, block_key_law, block_key_injective}
use Rattle.pathkey.proofs.laws.keys_differ.Goals as goal

pub returns : goal.returns
returns c = record { paths = enc_law; path_and_block = block_key_law; blocks = block_key_injective }
