pub mod Bytes
pub mod Numbers
pub mod Quoted
pub mod Writes
pub mod TextLines
pub mod LineReading
pub mod QuotedTexts
