pub mod InnerSplit
pub mod Splittable
pub mod Mergeable
pub mod Merging
pub mod RootUp
pub mod Covered
pub mod RootDown
pub mod Gathering
