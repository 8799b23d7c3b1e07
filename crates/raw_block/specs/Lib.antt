pub mod BlockLends
pub mod Blocks
pub mod Lends
pub mod Maps
pub mod Ownership
