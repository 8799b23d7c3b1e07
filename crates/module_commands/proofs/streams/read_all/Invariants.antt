use Rattle.std.proofs.Common.{◌≡◌, ◌+◌}
use Rattle.std.specs.Io.KnownBytes.{Consumes}
use Rattle.byte_streams.specs.Counted.{reads_left, source_of}
use Rattle.module_commands.proofs.streams.read_all.Given as goal

-- what was read is the text so far, each read was counted, and none failed
abbrev pub invariant-loop : goal.invariant-loop
invariant-loop g l =
    Consumes (g.R.Source.remaining (source_of l.fn.reader)) (g.R.Source.remaining (source_of l.reader)) l.text.items
    × (reads_left l.reader + l.counter ≡ reads_left l.fn.reader)
    × (g.R.Source.failed (source_of l.reader) ≡ g.R.Source.failed (source_of l.fn.reader))
