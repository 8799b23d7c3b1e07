use Rattle.std.proofs.Common.{◌≡◌, ◌≤◌, ◌++◌, length, take}
use Rattle.byte_text.specs.Quoted.{spelled_all}
use Rattle.byte_text.proofs.quoted.extend_spelled.Given as goal

-- what was added, and what the rest of the text adds
abbrev pub invariant-loop-rest : goal.invariant-loop-rest
invariant-loop-rest l =
    (l.out.items ++ spelled_all l.rest ≡ l.fn.out.items ++ spelled_all l.text)
    × (take (length l.fn.out.items) l.out.items ≡ l.fn.out.items) × (length l.fn.out.items ≤ length l.out.items)

abbrev pub decreases-loop-rest : goal.decreases-loop-rest
decreases-loop-rest l = length l.rest
