-- Brigades are registered with their pools in each connection with a chain, in every run.
use Rattle.model_laws.specs.Registered.{IsMadeInOne, AreRegistered}
use Rattle.run_model.specs.Chains.{Connection, Common, pools_of}
use Rattle.run_model.specs.Worlds.{World}
use Rattle.model_laws.specs.KeptInRuns.{OfConnections}

-- Each live brigade of all instances stands once with its pool, and no other brigade stands with a pool of the connection.
abbrev pub ChainRegistered : Common → Connection → Type 0
ChainRegistered g c = AreRegistered (IsMadeInOne c.instances) (pools_of g c)

abbrev pub WorldRegistered : World → Type 0
WorldRegistered = OfConnections ChainRegistered
