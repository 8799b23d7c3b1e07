pub mod Blocks
mod Crosses
pub mod Maps
pub mod Places
pub mod Rows
pub mod Sharing
pub mod Steps
pub mod Tuples
