-- The lifetime theorem for one instance by itself: its open runs have no fault.
pub mod Examples
pub mod Calls
pub mod Given
pub mod Spared
pub mod Means
pub mod Starts
pub mod Beside
pub mod Executes
pub mod Safe
