mod Behind
mod Cuts
mod Entries
mod Joins
mod Kept
mod Lifts
mod Nearest
pub mod Parts
mod Searching
mod Spans
pub mod Striding
mod TableFacts
