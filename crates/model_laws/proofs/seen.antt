-- What each instance of a chain sees is an open run of it.
pub mod Reach
pub mod Settle
pub mod Seen
pub mod Touched
pub mod Left
pub mod InPlace
pub mod Handed
pub mod Handing
pub mod Returning
pub mod Resuming
pub mod Went
pub mod Idle
pub mod Calling
pub mod Events
pub mod Safe
