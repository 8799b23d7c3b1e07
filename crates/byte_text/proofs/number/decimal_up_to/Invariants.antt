use Rattle.std.proofs.Common.{◌≡◌, ◌+◌, ◌≤◌, drop}
use Rattle.byte_text.specs.Numbers.{decimal_from}
use Rattle.byte_text.proofs.number.decimal_up_to.Given as goal

-- the digits that are left go on with the number so far
abbrev pub invariant-loop-byte : goal.invariant-loop-byte
invariant-loop-byte l = record {
  read : decimal_from (l.most + 1) l.value (drop l.byte-index l.token) ≡ decimal_from (l.most + 1) 0 l.token;
  within : l.value ≤ l.most;
}
