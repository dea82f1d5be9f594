pub mod PlaceFacts
pub mod PrintFacts
pub mod ReadFacts
pub mod PackFacts
