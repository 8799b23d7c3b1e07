-- The first instruction of `init` is a head.
use Rattle.std.proofs.Common.{◌≡◌, ◌∙◌, rules}
use Rattle.life_check.specs.Seen.{seen_cert}
use Rattle.life_check.specs.Typed.{inits}
use Rattle.life_check.proofs.Meant.{flows_meant, meant_idle}
use Rattle.life_check.proofs.Targets.{head_at_init}
use Rattle.life_check.proofs.entries.inits.Goals as goal

pub returns : goal.returns
returns c =
    let given : c.flows.result ≡ inits c.args.code.now (seen_cert c.args.cert.now) = search rules in
    given ∙ flows_meant c.args.code.now c.args.cert.now _ _ _ (meant_idle c.args.code.now c.args.cert.now) (head_at_init c.args.code.now)
