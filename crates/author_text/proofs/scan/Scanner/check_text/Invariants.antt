use Rattle.std.proofs.Common.{◌≡◌, ◌+◌, ◌≤◌, ◌⊎◌, length, true, false}
use Rattle.std.specs.Prelude.{is_some}
use Rattle.author_text.specs.Reading.{KeepsFault, fault_of}
use Rattle.author_text.specs.Scanning.{is_clean}
use Rattle.author_text.proofs.scan.Scanner.check_text.Given as goal

abbrev pub invariant-loop : goal.invariant-loop
invariant-loop l = record {
  kept : KeepsFault l.fn.self.faults l.self.faults;
  rest : l.self.rest.now ≡ l.fn.self.rest.now;
  state : ((l.self.faults ≡ l.fn.self.faults) × (is_clean 0 l.text ≡ is_clean 0 l.rest)) ⊎ ((is_some (fault_of l.self.faults) ≡ true) × (is_clean 0 l.text ≡ false));
  shorter : length l.rest + l.counter ≤ length l.text;
}
