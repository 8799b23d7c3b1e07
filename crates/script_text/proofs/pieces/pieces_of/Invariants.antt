use Rattle.std.proofs.Common.{◌≡◌, ◌-◌, ◌≤◌, [], length, drop}
use Rattle.script_text.specs.Pieces.{pieces_from}
use Rattle.script_text.proofs.pieces.pieces_of.Given as goal

-- the bytes that are left go on with the pieces so far
abbrev pub invariant-loop : goal.invariant-loop
invariant-loop l =
    (l.at ≤ length l.bytes) × (pieces_from (length l.bytes - l.counter) l.pieces (drop l.at l.bytes) ≡ pieces_from (length l.bytes) [] l.bytes)
