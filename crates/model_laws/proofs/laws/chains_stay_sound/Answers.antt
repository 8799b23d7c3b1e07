use Rattle.model_laws.proofs.chains.TopNames.{top_keeps_names}
use Rattle.model_laws.proofs.chains.Buckets.{top_keeps_buckets}
use Rattle.model_laws.proofs.chains.TopPools.{top_keeps_pools}
use Rattle.model_laws.proofs.chains.TopCalls.{top_keeps_calls}
use Rattle.model_laws.proofs.chains.Raised.{top_raises_names}
use Rattle.model_laws.proofs.laws.chains_stay_sound.Goals as goal

pub returns-clause-names : goal.returns-clause-names
returns-clause-names c = top_keeps_names

pub returns-clause-buckets : goal.returns-clause-buckets
returns-clause-buckets c = top_keeps_buckets

pub returns-clause-pools : goal.returns-clause-pools
returns-clause-pools c = top_keeps_pools

pub returns-clause-calls : goal.returns-clause-calls
returns-clause-calls c = top_keeps_calls

pub returns-clause-rises : goal.returns-clause-rises
returns-clause-rises c = top_raises_names
