pub mod Keys
pub mod Noting
pub mod Known
pub mod Restoring
pub mod Results
