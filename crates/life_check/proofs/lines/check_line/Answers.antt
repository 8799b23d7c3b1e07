-- A state has the module's variables, and an instruction that it stands before.
use Rattle.std.proofs.Common.{◌≡◌, None, ap, sym, ◌∙◌, slice_get}
use Rattle.life_state.specs.Seen.{seen, seen_some}
use Rattle.life_check.specs.Slim.{meant, handed_next}
use Rattle.life_check.proofs.Meant.{meant_declared, handed_none, none_stands}
use Rattle.life_check.proofs.lines.check_line.Goals as goal

pub next_meant-requires-clause-handed : goal.next_meant-requires-clause-handed
next_meant-requires-clause-handed c =
    let p = c.args.code.now in
    let none : (meant p c.args.cert.now).at c.args.pc ≡ None = sym c.requires.here ∙ ap seen_some c.in-None.is in
    sym (ap (handed_next p (slice_get p.code c.args.pc)) none ∙ handed_none p (slice_get p.code c.args.pc))

pub returns-in-None-clause-passes : goal.returns-in-None-clause-passes
returns-in-None-clause-passes c = none_stands c.args.code.now (meant c.args.code.now c.args.cert.now) c.args.pc (sym c.requires.here ∙ ap seen_some c.in-None.is)

pub check_state-requires-clause-declared : goal.check_state-requires-clause-declared
check_state-requires-clause-declared c =
    meant_declared c.args.code.now c.args.cert.now c.requires.proper c.requires.shape c.requires.formed c.args.pc (seen c.in-Some.state) (sym c.requires.here ∙ ap seen_some c.in-Some.is)

pub check_state-requires-clause-stands : goal.check_state-requires-clause-stands
check_state-requires-clause-stands c = sym c.requires.here ∙ ap seen_some c.in-Some.is
