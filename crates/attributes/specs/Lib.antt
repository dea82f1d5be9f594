-- The paths of attribute records and their texts.
pub mod Places
pub mod Laws
pub mod Attributes
pub mod Text
pub mod Packed
pub mod RawAttributes
pub mod Buffers
