-- The first instruction is a head.
use Rattle.std.proofs.Common.{◌≡◌, length, ap, sym, ◌∙◌, refl, rules}
use Rattle.life_state.specs.Rules.{at_open}
use Rattle.life_check.specs.Seen.{seen_cert}
use Rattle.life_check.specs.Typed.{is_below, opens}
use Rattle.life_check.proofs.Meant.{meant_head}
use Rattle.life_check.proofs.Targets.{first_head}
use Rattle.life_check.proofs.entries.opens.Goals as goal

pub returns-clause-value : goal.returns-clause-value
returns-clause-value c =
    let p = c.args.code.now in
    let given : c.is_below.result ≡ opens p (seen_cert c.args.cert.now) = search rules in
    given ∙ ap (is_below (at_open (length p.pools) (length p.brigades))) (sym (meant_head p c.args.cert.now 0 (first_head p 0 refl)))
