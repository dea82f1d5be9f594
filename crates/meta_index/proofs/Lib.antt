pub mod Climbing
pub mod Parents
pub mod BelowPath
pub mod ChildOrder
pub mod Listed
pub mod Steps
pub mod Fresh
pub mod Spending
