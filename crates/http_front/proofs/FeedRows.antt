-- The worked brigades and calls, computed.
use Rattle.std.proofs.Common.{refl}
use Rattle.run_model.specs.declared.event.Cause.TheVariants as cause
use Rattle.http_message.specs.declared.failure.Failure.TheVariants as failure
use Rattle.http_front.specs.FeedRows.{CallRows, FileRows, broken}
use Rattle.http_front.specs.Requests.{brigades_from, brigades_of}
use Rattle.http_front.specs.Rows.{failed}
use Rattle.http_front.proofs.Rows.{same_outcome}

pub file_rows : FileRows
unfolding brigades_of brigades_from
file_rows = record { empty = refl; small = refl; full = refl; large = refl; head = refl }

pub call_rows : CallRows
call_rows = record {
  succeeded = refl;
  fail = refl;
  budget = refl;
  after_fail = λ budget chain number old o new ends. same_outcome o (failed failure.Filter) ends.0.0 ends.0.1 ends.0.2;
  after_break = λ budget chain number old o new ends. (same_outcome o (failed (broken cause.OutOfSteps)) ends.0.0 ends.0.1 ends.0.2, ends.1);
  not_there = refl;
  not_opened = refl;
}
