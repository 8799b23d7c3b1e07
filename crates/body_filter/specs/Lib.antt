pub mod Bodies
pub mod BodyCalls
pub mod Filtered
pub mod Feeding
pub mod Prelude
