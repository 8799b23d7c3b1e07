pub mod Written
pub mod Tables
