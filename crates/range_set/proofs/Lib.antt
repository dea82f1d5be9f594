pub mod Ends
pub mod Last
pub mod Widening
pub mod Splicing
pub mod Sides
pub mod Stretching
