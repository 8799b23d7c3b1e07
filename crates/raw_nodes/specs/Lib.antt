pub mod Free
pub mod Links
pub mod Loads
pub mod Nodes
