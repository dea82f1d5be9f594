-- What the exports say.
pub mod Held
pub mod Follows
pub mod Numbers
pub mod Reads
pub mod Changes
pub mod Holes
pub mod Log
pub mod Handed
pub mod Differences
pub mod Edits
