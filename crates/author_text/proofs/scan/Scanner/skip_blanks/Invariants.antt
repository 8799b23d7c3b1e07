use Rattle.std.proofs.Common.{◌≡◌, ◌+◌, ◌≤◌, length, None}
use Rattle.author_text.specs.Reading.{KeepsFault, fault_of}
use Rattle.author_text.specs.Scanning.{JudgesText}
use Rattle.author_text.specs.TextTokens.{tokens_behind}
use Rattle.author_text.proofs.scan.Scanner.skip_blanks.Given as goal

abbrev pub invariant-loop : goal.invariant-loop
invariant-loop l = record {
  kept : KeepsFault l.fn.self.faults l.self.faults;
  passed : (fault_of l.fn.self.faults) ≡ None → JudgesText l.self.faults l.fn.self.rest.now (tokens_behind 0 l.fn.self.rest.now ≡ tokens_behind 0 l.self.rest.now);
  shorter : length l.self.rest.now + l.counter ≤ length l.fn.self.rest.now;
}
