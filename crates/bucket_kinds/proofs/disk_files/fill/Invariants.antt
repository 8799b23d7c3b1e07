use Rattle.std.proofs.Common.{◌≤◌, ◌-◌, length}
use Rattle.bucket_kinds.proofs.disk_files.fill.Given as goal

abbrev pub invariant-loop-filled : goal.invariant-loop-filled
invariant-loop-filled g l = l.filled ≤ length l.buffer

abbrev pub decreases-loop-filled : goal.decreases-loop-filled
decreases-loop-filled g l = length l.initial.buffer - l.filled
