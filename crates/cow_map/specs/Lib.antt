pub mod Changes
pub mod Moves
pub mod Places
pub mod CowMap
pub mod Searching
pub mod Spans
pub mod Striding
