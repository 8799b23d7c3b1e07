pub use Rattle.module_commands.specs.TextAnswers
pub use Rattle.author_text.specs.Places
pub mod FilterAnswers
pub mod FilterReads
pub mod Settings
pub mod Stops
pub mod Prelude
