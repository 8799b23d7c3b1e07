pub mod KnownFiles
pub mod Deterministic
