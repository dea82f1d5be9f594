use Rattle.reference.proofs.IndexLaws.{touch_law, mkdir_law, create_law, write_law, truncate_law, lengthen_law, unlink_law, rmdir_law, rmtree_law, rename_law}
use Rattle.reference.proofs.laws.indexes.calls_on_indexes.Goals as goal

pub returns-clause-touch : goal.returns-clause-touch
returns-clause-touch c = touch_law

pub returns-clause-mkdir : goal.returns-clause-mkdir
returns-clause-mkdir c = mkdir_law

pub returns-clause-create : goal.returns-clause-create
returns-clause-create c = create_law

pub returns-clause-write : goal.returns-clause-write
returns-clause-write c = write_law

pub returns-clause-truncate : goal.returns-clause-truncate
returns-clause-truncate c = truncate_law

pub returns-clause-lengthen : goal.returns-clause-lengthen
returns-clause-lengthen c = lengthen_law

pub returns-clause-unlink : goal.returns-clause-unlink
returns-clause-unlink c = unlink_law

pub returns-clause-rmdir : goal.returns-clause-rmdir
returns-clause-rmdir c = rmdir_law

pub returns-clause-rmtree : goal.returns-clause-rmtree
returns-clause-rmtree c = rmtree_law

pub returns-clause-rename : goal.returns-clause-rename
returns-clause-rename c = rename_law
