use Rattle.std.proofs.Common.{◌≡◌, ◌+◌, ◌≤◌, ◌++◌, length}
use Rattle.author_text.specs.Escapes.{spelled_bytes}
use Rattle.author_text.proofs.escape.push_bytes.Given as goal

abbrev pub invariant-loop : goal.invariant-loop
invariant-loop l = record {
  read : l.bytes.items ++ spelled_bytes 0 l.rest ≡ l.fn.bytes.items ++ spelled_bytes 0 l.text;
  shorter : length l.rest + l.counter ≤ length l.text;
}
