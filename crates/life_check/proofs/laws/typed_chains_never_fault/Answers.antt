use Rattle.life_check.proofs.SafeChains.{typed_chain_never_faults}
use Rattle.life_check.proofs.laws.typed_chains_never_fault.Goals as goal

pub returns : goal.returns
returns c = typed_chain_never_faults
