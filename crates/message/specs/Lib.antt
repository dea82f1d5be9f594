pub mod Ranges
pub mod Effects
pub mod Cuts
pub mod Oldest
pub mod Resolution
pub mod Stretches
pub mod PointKeys
