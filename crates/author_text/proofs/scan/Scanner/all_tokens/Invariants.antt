use Rattle.std.proofs.Common.{◌≡◌, None}
use Rattle.author_text.specs.Reading.{KeepsFault, fault_of}
use Rattle.author_text.specs.Scanning.{FindsSoFar, JudgesText}
use Rattle.author_text.proofs.scan.Scanner.all_tokens.Given as goal

abbrev pub invariant-loop : goal.invariant-loop
invariant-loop l = record {
  kept : KeepsFault l.fn.self.faults l.self.faults;
  passed : (fault_of l.fn.self.faults) ≡ None → JudgesText l.self.faults l.fn.self.rest.now (FindsSoFar l.fn.found.items l.found.items l.fn.self.rest.now l.self.rest.now l.counter);
}
