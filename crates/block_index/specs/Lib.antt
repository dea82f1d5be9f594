pub mod Patches
pub mod BlockBytes
pub mod Updates
pub mod Changed
pub mod Means
pub mod Read
pub mod Layers
