pub mod Lines
pub mod Values
pub mod Texts
pub mod Parts
pub mod Held
