use Rattle.model_laws.proofs.seen.Safe.{safe_modules_make_safe_chains}
use Rattle.model_laws.proofs.laws.safe_modules_make_safe_chains.Goals as goal

pub returns : goal.returns
returns c = safe_modules_make_safe_chains
