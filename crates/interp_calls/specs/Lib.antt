pub mod Delivery
pub mod Begun
pub mod Handed
pub mod NamedBelow
pub mod Pieces
pub mod Prelude
pub mod Filled
