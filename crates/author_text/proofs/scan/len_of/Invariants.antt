use Rattle.std.proofs.Common.{◌≡◌, ◌+◌, drop}
use Rattle.std.specs.List.{prefix_len}
use Rattle.author_text.specs.Scanning.{is_of}
use Rattle.author_text.proofs.scan.len_of.Given as goal

abbrev pub invariant-loop-at : goal.invariant-loop-at
invariant-loop-at l = prefix_len (is_of l.class) l.text ≡ l.at + prefix_len (is_of l.class) (drop l.at l.text)
