use Rattle.std.proofs.Common.{sym, subst, All}
use Rattle.life_check.specs.Accepted.{IsChecked, IsCheckedChain}
use Rattle.model_laws.specs.OpenRuns.{InstancesAreSafe}
use Rattle.life_check.proofs.Accepting.{all_safe, checked_chain}
use Rattle.life_check.proofs.chain.accept_chain.Goals as goal
use Rattle.model_laws.proofs.seen.Safe.{safe_modules_make_safe_chains}

pub invariant_of-result : goal.invariant_of-result
invariant_of-result c =
    subst IsCheckedChain (sym c.in_ok-modules.ensures)
    (checked_chain c.args.parts.items c.requires.some c.requires.few (subst (All IsChecked) c.as_slice.ensures.value c.in_ok-check_parts.ensures.checked))

pub returns-clause-instances : goal.returns-clause-instances
returns-clause-instances c =
    subst (All InstancesAreSafe) (sym c.in_ok-modules.ensures) (all_safe c.args.parts.items (subst (All IsChecked) c.as_slice.ensures.value c.in_ok-check_parts.ensures.checked))

-- by the clause on instances
pub returns-clause-safe : goal.returns-clause-safe
returns-clause-safe c =
    safe_modules_make_safe_chains c.in_ok-modules.modules.items
    (subst IsCheckedChain (sym c.in_ok-modules.ensures)
    (checked_chain c.args.parts.items c.requires.some c.requires.few (subst (All IsChecked) c.as_slice.ensures.value c.in_ok-check_parts.ensures.checked))).chained
    (returns-clause-instances c)
