use Rattle.std.proofs.Common.{◌≡◌, length, ◌-◌, ◌≤◌, take}
use Rattle.std.specs.Io.KnownBytes.{Appends}
use Rattle.byte_text.proofs.writer.put_all.Given as goal

-- what was written is the text up to here, and no write failed
abbrev pub invariant-loop-at : goal.invariant-loop-at
invariant-loop-at g l = record {
  within : l.at ≤ length l.text;
  wrote : Appends (g.W.Write.contents l.fn.out.writer) (g.W.Write.contents l.out.writer) (take l.at l.text);
  sound : l.out.has_failed ≡ l.fn.out.has_failed;
}

abbrev pub decreases-loop-at : goal.decreases-loop-at
decreases-loop-at g l = length l.text - l.at
