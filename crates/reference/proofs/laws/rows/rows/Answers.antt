use Rattle.std.proofs.Common.{refl}
use Rattle.reference.specs.Calls.{changed, does}
use Rattle.reference.proofs.GreatestRow.{at_the_greatest_file}
use Rattle.reference.proofs.ImageRows.{empty_image, cut_and_lengthened_image, moments_in_images}
use Rattle.reference.proofs.SnapshotRows.{snapshot_keeps_its_tree, snapshot_is_read, snapshot_names}
use Rattle.reference.proofs.laws.rows.rows.Goals as goal

pub returns-clause-new_directory : goal.returns-clause-new_directory
unfolding does changed
returns-clause-new_directory c = refl

pub returns-clause-prefix_faults : goal.returns-clause-prefix_faults
unfolding does changed
returns-clause-prefix_faults c = refl

pub returns-clause-subtree_is_not_sibling : goal.returns-clause-subtree_is_not_sibling
unfolding does changed
returns-clause-subtree_is_not_sibling c = refl

pub returns-clause-gap_reads_as_zeros : goal.returns-clause-gap_reads_as_zeros
unfolding does changed
returns-clause-gap_reads_as_zeros c = refl

pub returns-clause-cut_and_lengthened : goal.returns-clause-cut_and_lengthened
unfolding does changed
returns-clause-cut_and_lengthened c = refl

pub returns-clause-rename_below_itself : goal.returns-clause-rename_below_itself
unfolding does changed
returns-clause-rename_below_itself c = refl

pub returns-clause-rename_onto_directories : goal.returns-clause-rename_onto_directories
unfolding does changed
returns-clause-rename_onto_directories c = refl

pub returns-clause-rename_onto_ancestors : goal.returns-clause-rename_onto_ancestors
unfolding does changed
returns-clause-rename_onto_ancestors c = refl

pub returns-clause-too_deep_to_rename : goal.returns-clause-too_deep_to_rename
unfolding does changed
returns-clause-too_deep_to_rename c = refl

pub returns-clause-replaced_file : goal.returns-clause-replaced_file
unfolding does changed
returns-clause-replaced_file c = refl

pub returns-clause-faults_of_each_kind : goal.returns-clause-faults_of_each_kind
unfolding does changed
returns-clause-faults_of_each_kind c = refl

pub returns-clause-moments_of_calls : goal.returns-clause-moments_of_calls
unfolding does changed
returns-clause-moments_of_calls c = refl

pub returns-clause-moments_of_rename : goal.returns-clause-moments_of_rename
unfolding does changed
returns-clause-moments_of_rename c = refl

pub returns-clause-moments_that_stay : goal.returns-clause-moments_that_stay
unfolding does changed
returns-clause-moments_that_stay c = refl

pub returns-clause-moments_in_images : goal.returns-clause-moments_in_images
returns-clause-moments_in_images c = moments_in_images

pub returns-clause-names_at_the_limit : goal.returns-clause-names_at_the_limit
unfolding does changed
returns-clause-names_at_the_limit c = refl

pub returns-clause-snapshot_keeps_its_tree : goal.returns-clause-snapshot_keeps_its_tree
returns-clause-snapshot_keeps_its_tree c = snapshot_keeps_its_tree

pub returns-clause-snapshot_is_read : goal.returns-clause-snapshot_is_read
returns-clause-snapshot_is_read c = snapshot_is_read

pub returns-clause-empty_image : goal.returns-clause-empty_image
returns-clause-empty_image c = empty_image

pub returns-clause-cut_and_lengthened_image : goal.returns-clause-cut_and_lengthened_image
returns-clause-cut_and_lengthened_image c = cut_and_lengthened_image

pub returns-clause-at_the_greatest_file : goal.returns-clause-at_the_greatest_file
returns-clause-at_the_greatest_file c = at_the_greatest_file

pub returns-clause-snapshot_names : goal.returns-clause-snapshot_names
returns-clause-snapshot_names c = snapshot_names
