pub mod Image
pub mod ImageLines
pub mod Loads
pub mod Spots
pub mod Printings
pub mod Taken
