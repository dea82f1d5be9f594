use Rattle.reference.proofs.Sight.{one_tree, blocked_law, missing_law, child_law}
use Rattle.reference.proofs.Edits.{look_sighted}
use Rattle.reference.proofs.Listings.{listing_law}
use Rattle.reference.proofs.laws.trees.sight.Goals as goal

pub returns-clause-one_tree : goal.returns-clause-one_tree
returns-clause-one_tree c = one_tree

pub returns-clause-sight : goal.returns-clause-sight
returns-clause-sight c = look_sighted

pub returns-clause-blocked : goal.returns-clause-blocked
returns-clause-blocked c = blocked_law

pub returns-clause-missing : goal.returns-clause-missing
returns-clause-missing c = missing_law

pub returns-clause-child : goal.returns-clause-child
returns-clause-child c = child_law

pub returns-clause-listing : goal.returns-clause-listing
returns-clause-listing c = listing_law
