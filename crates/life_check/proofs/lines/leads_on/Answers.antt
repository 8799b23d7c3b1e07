-- What an instruction names is a head.
use Rattle.std.proofs.Common.{◌≡◌, Some, unwrap_or, ap, sym, ◌∙◌}
use Rattle.module_code.specs.declared.instr.Instr.{Instr}
use Rattle.module_code.specs.Program.{target}
use Rattle.life_state.specs.Seen.{seen_some, seen_edges}
use Rattle.life_check.specs.Seen.{seen_cert}
use Rattle.life_check.specs.Slim.{meant}
use Rattle.life_check.proofs.Meant.{meant_head, leads_is}
use Rattle.life_check.proofs.Targets.{target_head}
use Rattle.life_check.proofs.lines.leads_on.Goals as goal

some_is : {x y : Instr} → Some x ≡ Some y → x ≡ y
some_is e = cc

pub returns : goal.returns
returns c = λ i here.
    let p = c.args.code.now in
    let s = c.args.cert.now in
    let same : c.at.result ≡ i = some_is (sym c.at.ensures.value ∙ here) in
    let named = c.target.ensures ∙ ap (λ (j : Instr). unwrap_or (target j) 0) same in
    let jump = c.state-jump.ensures ∙ (ap (seen_cert s).at named ∙ sym (meant_head p s (unwrap_or (target i) 0) (target_head p c.args.pc i here c.requires.inside))) in
    leads_is (meant p s) c.args.pc i (seen_edges c.args.edges.now) c.flows.result c.flows-2.result (seen_some c.args.next)
    (seen_some c.state-jump.result) c.flows.ensures c.flows-2.ensures c.requires.next jump
