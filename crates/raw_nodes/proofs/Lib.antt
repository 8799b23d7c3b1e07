pub mod Counts
pub mod Free
