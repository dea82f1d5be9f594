pub mod ImageEntries
pub mod ImageLineFacts
pub mod LoadFacts
pub mod LoadCutting
pub mod ImageBlocks
pub mod WholeLines
mod Spots
mod Printed
mod TakenFacts
