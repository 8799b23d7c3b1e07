pub mod Store
pub mod OnlyLists
pub mod Files
pub mod Reads
pub mod House
pub mod Due
pub mod Visits
pub mod Prelude
