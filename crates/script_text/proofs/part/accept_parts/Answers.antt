use Rattle.std.proofs.Common.{map, subst, ◌∙◌, rules}
use Rattle.life_check.specs.Accepted.{IsChainRefusal}
use Rattle.script_text.specs.Certified.{AreCertified}
use Rattle.script_text.specs.Heads.{seen_part}
use Rattle.script_text.proofs.PartLaws.{none_refused, refused_with}
use Rattle.script_text.proofs.part.accept_parts.Goals as goal

pub returns-in-Ok-accept_chain-clause-accepted : goal.returns-in-Ok-accept_chain-clause-accepted
returns-in-Ok-accept_chain-clause-accepted c =
    let xs = map seen_part c.args.parts.items in
    let are : AreCertified c.in-Ok.pairs.items xs = search rules in
    (c.in-Ok-accept_chain.ensures.chain ∙ are.codes, none_refused c.in-Ok.pairs.items xs are c.in-Ok-accept_chain.ensures.accepts, c.in-Ok-accept_chain.ensures.safe)

pub returns-in-Err-At-clause-refused : goal.returns-in-Err-At-clause-refused
returns-in-Err-At-clause-refused c =
    let xs = map seen_part c.args.parts.items in
    let are : AreCertified c.in-Ok.pairs.items xs = search rules in
    refused_with c.in-Ok.pairs.items xs c.in-Err-At.index c.in-Err-At.refusal are (subst (IsChainRefusal c.in-Ok.pairs.items) c.in-Err-At.field-0-is c.in-Err-At.ensures.refused)
