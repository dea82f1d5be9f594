pub mod Deltas
pub mod Texts
pub mod Patching
pub mod Walks
pub mod Applies
pub mod Changed
pub mod Printers
