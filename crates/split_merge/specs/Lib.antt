pub mod SplitNode
pub mod Merged
pub mod Raised
pub mod Swept
pub mod Lowered
