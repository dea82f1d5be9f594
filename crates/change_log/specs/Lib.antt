pub mod Touched
pub mod KeyLogs
pub mod Codes
pub mod Snapshots
