pub mod Changes
pub mod PointOps
pub mod KeyOps
