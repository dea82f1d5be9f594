pub mod Sunk
pub mod Leaf
pub mod Merge
pub mod Heaviest
