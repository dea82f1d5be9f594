pub mod Disjoint
pub mod Ends
