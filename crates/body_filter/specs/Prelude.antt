-- The words that the clauses of this crate's code share, from where they are defined.
pub use Rattle.byte_streams.specs.Counted.{reads_left, source_of}
pub use Rattle.module_code.specs.Program.{Program}
pub use Rattle.run_model.specs.Worlds.{World}
pub use Rattle.run_model.specs.declared.event.Event.TheVariants.{Begin, Bring}
pub use Rattle.run_model.specs.declared.event.Piece.TheVariants.{Heap}
pub use Rattle.module_run.specs.Happened.{refusal_of}
pub use Rattle.filter_chain.specs.Hosting.{IsHosting, done_answer, files_of, output_in}
pub use Rattle.filter_chain.specs.HostViews.{HostView}
pub use Rattle.filter_chain.specs.Led.{IsAlive, Refines}
pub use Rattle.filter_chain.specs.Safe.{IsSafe, IsUnfaulted}
pub use Rattle.module_commands.specs.StreamFaults.{TellsOfReader, TellsOfWriter}
pub use Rattle.module_commands.specs.Streams.{Writes, WritesText}
pub use Rattle.body_filter.specs.Bodies.{brings_bytes}
pub use Rattle.body_filter.specs.BodyCalls.{RunsOut, RunsOutUnless, failure_of, faulted}
pub use Rattle.body_filter.specs.Feeding.{FeedsBody, PutsCall, PutsEnd, PutsOut, TriesCall}
pub use Rattle.body_filter.specs.Filtered.{IsFiltered, IsFilteredUpTo, body_end}
