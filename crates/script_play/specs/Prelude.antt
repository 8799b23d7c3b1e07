-- The words that the clauses of this crate's code share, from where they are defined.
pub use Rattle.byte_streams.specs.Counted.{reads_left, source_of}
pub use Rattle.byte_text.specs.TextLines.{lines_of}
pub use Rattle.run_model.specs.Worlds.{World}
pub use Rattle.script_text.specs.Heads.{ScriptHead, no_head, seen_part}
pub use Rattle.script_text.specs.Parts.{codes_of, refused_in}
pub use Rattle.module_commands.specs.StreamFaults.{TellsOfReader, TellsOfWriter}
pub use Rattle.module_commands.specs.Streams.{Writes}
pub use Rattle.bucket_kinds.specs.Device.{is_there}
pub use Rattle.module_run.specs.Happened.{refusal_of}
pub use Rattle.filter_chain.specs.Hosting.{IsHosting, done_answer, step_answer}
pub use Rattle.filter_chain.specs.Safe.{GoesWell, IsSafe}
pub use Rattle.script_play.specs.OneText.{IsOnlyTextFor}
pub use Rattle.script_play.specs.Players.{HasBegun, TakesOneLine, MayBeginCommands}
pub use Rattle.script_play.specs.Playing.{EndsLines, PlaysBytes, PlaysEnd, PlaysLines}
pub use Rattle.script_play.specs.Plays.{is_due, is_fault, reply_of}
pub use Rattle.script_play.specs.Serving.{MakesReady}
pub use Rattle.script_play.specs.Sessions.{EndsOn, IsAt, IsSession, IsMemHostAlive, IsServed, TakesOn, TakesOne, device}
pub use Rattle.script_play.specs.Written.{AnswersLinesRead, ScriptBegins, HasNoLf, IsCutOf, IsFrontOf, IsWrittenFor, PlaysLine, Reading, Stage}
pub use Rattle.script_play.specs.Written.{TakesAll, TakesAt, first_view, is_over}
