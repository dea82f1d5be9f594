pub mod Edits
pub mod Lines
pub mod Guesses
pub mod Applies
pub mod Applying
pub mod Between
pub mod Tried
