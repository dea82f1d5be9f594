use Rattle.pathkey.proofs.KeyFacts.{path_in_subtree, path_in_subtree_from, block_in_subtree, block_in_subtree_from}
use Rattle.pathkey.proofs.laws.subtrees.Goals as goal

pub returns : goal.returns
returns c = record {
  paths = λ p q u v. (path_in_subtree p q u v, λ below. path_in_subtree_from p q below.0 below.1);
  blocks = λ p q i u v. (block_in_subtree p q i u v, λ below. block_in_subtree_from p q below.0 i below.1);
}
