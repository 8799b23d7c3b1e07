pub mod LocalSteps
pub mod OnlyAsked
pub mod Prelude
pub mod ByteRounds
pub mod Traces
pub mod Automata
