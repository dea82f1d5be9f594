use Rattle.pathkey.proofs.KeyFacts.{block_in_blocks, block_in_blocks_from, path_not_in_blocks}
use Rattle.pathkey.proofs.laws.blocks.Goals as goal

pub returns : goal.returns
returns c = record {
  blocks = λ p q a i u v ha hi. (block_in_blocks p q a i u v ha hi, block_in_blocks_from p q a i ha hi);
  no_path = path_not_in_blocks;
}
