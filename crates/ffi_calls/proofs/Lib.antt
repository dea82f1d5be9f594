-- Lemmas of the calls of texts and bytes.
pub mod Asking
pub mod Fronts
pub mod Laying
pub mod Looking
pub mod OfFiles
pub mod Punching
pub mod CopyTexts
pub mod MtimeTexts
pub mod Differing
