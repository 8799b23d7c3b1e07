use Rattle.std.proofs.Common.{subst}
use Rattle.life_check.specs.ChainTheorem.{ChainNeverFaults}
use Rattle.life_check.proofs.SafeChains.{checked_never_faults}
use Rattle.life_check.proofs.chain.CheckedChain.modules.Goals as goal

pub returns-clause-safe : goal.returns-clause-safe
returns-clause-safe c = subst ChainNeverFaults c.self.view_is (checked_never_faults c.self.inside.modules.items c.self.invariant)
