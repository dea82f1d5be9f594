pub mod Pairs
pub mod Stretches
pub mod Laws
pub mod Merging
pub mod Sizes
