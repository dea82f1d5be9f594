pub mod Updates
pub mod Means
pub mod Below
pub mod Asked
pub mod Listing
