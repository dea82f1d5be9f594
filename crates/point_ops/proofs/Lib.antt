pub mod Counting
pub mod Laying
pub mod Nearby
pub mod Parting
pub mod Updates
