pub mod Args
pub mod Words
pub mod Spelling
pub mod Names
pub mod Program
pub mod SeqLends
pub mod Tables
