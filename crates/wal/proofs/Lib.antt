pub mod Cuts
pub mod Changes
pub mod Bodies
pub mod Logs
pub mod Making
pub mod Leading
pub mod Reaching
pub mod Replaying
mod Reading
mod Adding
mod Spelling
mod Telling
mod Splitting
