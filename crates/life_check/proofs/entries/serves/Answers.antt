-- The first instruction of `main` is a head.
use Rattle.std.proofs.Common.{◌≡◌, ap, ◌∙◌, rules}
use Rattle.life_check.specs.Seen.{seen_cert}
use Rattle.life_check.specs.Typed.{main_from, serves}
use Rattle.life_check.proofs.Meant.{flows_meant, meant_ready}
use Rattle.life_check.proofs.Targets.{head_at_main}
use Rattle.life_check.proofs.entries.serves.Goals as goal

pub returns : goal.returns
returns c =
    let given : c.flows.result ≡ serves c.args.code.now (seen_cert c.args.cert.now) = search rules in
    given ∙ flows_meant c.args.code.now c.args.cert.now _ _ _ (ap main_from (meant_ready c.args.code.now c.args.cert.now)) (head_at_main c.args.code.now)
