use Rattle.std.proofs.Common.{◌≡◌, ◌≤◌, ◌++◌, drop, length, take}
use Rattle.byte_text.specs.Quoted.{spelled_all}
use Rattle.byte_text.proofs.quoted.extend_escaped.Given as goal

-- the bytes so far were added
abbrev pub invariant-loop-i : goal.invariant-loop-i
invariant-loop-i l =
    (l.out.items ++ spelled_all (drop l.i l.text) ≡ l.fn.out.items ++ spelled_all l.text)
    × (take (length l.fn.out.items) l.out.items ≡ l.fn.out.items) × (length l.fn.out.items ≤ length l.out.items)
