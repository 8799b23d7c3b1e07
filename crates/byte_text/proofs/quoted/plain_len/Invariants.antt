use Rattle.std.proofs.Common.{◌≡◌, ◌++◌, drop, take}
use Rattle.byte_text.specs.Quoted.{spelled_all}
use Rattle.byte_text.proofs.quoted.plain_len.Given as goal

-- the bytes so far are written as they are
abbrev pub invariant-loop-i : goal.invariant-loop-i
invariant-loop-i l = spelled_all l.text ≡ take l.i l.text ++ spelled_all (drop l.i l.text)
