-- What was read so far and what is left are all, and as many bytes are asked for at once as some reads take.
use Rattle.std.proofs.Common.{◌≡◌, ◌+◌, ◌-◌, ◌≤◌, length, drop}
use Rattle.bucket_kinds.specs.Device.{SomeWentWell}
use Rattle.interp_calls.specs.Delivery.{HasFront}
use Rattle.interp_calls.specs.Filled.{text}
use Rattle.interp_calls.proofs.Delivering.{RangeSoFar}
use Rattle.interp_calls.proofs.Spans.{SpanOf}
use Rattle.interp_calls.proofs.output.add_range.Given as goal

abbrev pub invariant-loop-count : goal.invariant-loop-count
invariant-loop-count g l = record {
  within : l.count ≤ l.len;
  front : HasFront (text l.fn.out) (text l.out);
  went : SomeWentWell (g.F.Files.device l.fn.files) (g.F.Files.device l.files);
  open_files : (g.F.Files.device l.files).numbered ≡ (g.F.Files.device l.fn.files).numbered;
  read : RangeSoFar (g.F.Files.device l.fn.files) (g.F.Files.device l.files) l.file l.start l.len l.count (drop (length (text l.fn.out)) (text l.out));
  span : SpanOf (g.F.Files.device l.files) l.limit;
  size : length l.out.block ≡ length l.fn.out.block;
  low : l.fn.out.end ≤ l.out.end;
  high : l.out.end ≤ l.fn.out.end + l.count;
  still : l.len ≡ 0 → g.F.Files.device l.files ≡ g.F.Files.device l.fn.files;
}

abbrev pub decreases-loop-count : goal.decreases-loop-count
decreases-loop-count g l = l.len - l.count + l.limit
