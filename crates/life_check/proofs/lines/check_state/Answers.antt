-- The instruction's rule, and what it leads to.
use Rattle.std.proofs.Common.{Err, ap, sym}
use Rattle.life_state.specs.Seen.{seen, seen_edges}
use Rattle.life_check.specs.declared.refusal.Rule.TheVariants.{May}
use Rattle.life_check.specs.Slim.{meant}
use Rattle.life_check.specs.Typed.{refusal, step_refusal}
use Rattle.life_check.proofs.Meant.{handed_is}
use Rattle.life_check.proofs.TypedLaws.{told}
use Rattle.life_check.proofs.lines.check_state.Goals as goal

pub returns-in-Err-clause-refused : goal.returns-in-Err-clause-refused
returns-in-Err-clause-refused c =
    let p = c.args.code.now in
    let m = meant p c.args.cert.now in
    let s = seen c.args.state.now in
    told p m c.args.pc s (Err (refusal c.args.pc (May c.in-Err.kind))) c.requires.stands c.requires.inside
    (λ i here. ap (step_refusal p m c.args.pc i s) (sym (c.in-Err.ensures i here)))

pub next_meant-next-requires-clause-handed : goal.next_meant-next-requires-clause-handed
next_meant-next-requires-clause-handed c =
    let p = c.args.code.now in
    handed_is p c.args.pc (seen c.args.state.now) ((meant p c.args.cert.now).at c.args.pc) (seen_edges c.in-Ok.edges) c.requires.inside c.requires.stands c.in-Ok.ensures
