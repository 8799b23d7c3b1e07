-- The words that the clauses of this crate's code share, from where they are defined.
pub use Rattle.byte_streams.specs.Counted.{reads_left, source_of}
pub use Rattle.author_text.specs.Places.{HasPlace}
pub use Rattle.life_check.specs.Slim.{Accepts}
pub use Rattle.module_commands.specs.StreamFaults.{TellsOfReader, TellsOfWriter}
pub use Rattle.module_commands.specs.Streams.{Writes, WritesText}
pub use Rattle.module_commands.specs.TextAnswers.{IsOutputFront}
pub use Rattle.script_text.specs.Replies.{line}
pub use Rattle.filter_files.specs.FilterAnswers.{IsCompileOutput, IsFaultOf, internal_line, place_line, TellsSetting, TellsInternal}
