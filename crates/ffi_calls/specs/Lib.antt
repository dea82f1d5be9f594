-- What the calls of texts and bytes promise.
pub mod Changes
pub mod Copies
pub mod Differences
pub mod Edits
pub mod Filling
pub mod Holes
pub mod Images
pub mod Mtimes
pub mod Reads
pub mod Snapshots
pub mod Upkeep
