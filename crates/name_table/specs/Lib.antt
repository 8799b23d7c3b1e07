pub mod Hashing
pub mod NameTable
