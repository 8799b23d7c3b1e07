-- Open runs of one instance: the proofs of what each move keeps.
pub mod Turns
pub mod Beside
pub mod Spared
pub mod Kept
pub mod Passing
pub mod Homes
pub mod KeptHomes
