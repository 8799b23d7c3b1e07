pub mod Transfers
pub mod Counted
pub mod Texts
