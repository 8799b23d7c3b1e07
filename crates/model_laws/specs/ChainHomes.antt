-- Homes of buckets that have not ended are alive in each connection with a chain, in every run.
use Rattle.std.specs.Prelude.{◌≡◌, ◌⊎◌, ℕ, true, List, [], ◌∷◌}
use Rattle.run_model.specs.declared.bucket.NamedBucket.{NamedBucket}
use Rattle.run_model.specs.Pools.{is_live}
use Rattle.model_laws.specs.Laws.{MatchHome}
use Rattle.run_model.specs.Chains.{Frame, Connection, Common, pools_of}
use Rattle.run_model.specs.Worlds.{World}
use Rattle.model_laws.specs.KeptInRuns.{OfConnections}
use Rattle.model_laws.specs.ChainFiles.{OfEachBucket}

-- the call of this name runs or waits
unfoldable pub IsCalled : List Frame → ℕ → Type 0
IsCalled [] n = ⊥
IsCalled (f ∷ fs) n = (f.call.name ≡ n) ⊎ IsCalled fs n

-- A home that is a call is one of the stack, one that is a pool is a live one.
abbrev pub HomeIsAlive : Common → Connection → NamedBucket → Type 0
HomeIsAlive g c x = MatchHome x.bucket.home (IsCalled c.stack) (λ n. is_live (pools_of g c) n ≡ true)

-- So is the home of each bucket, where it has not ended.
abbrev pub ChainHomes : Common → Connection → Type 0
ChainHomes g c = OfEachBucket (HomeIsAlive g c) c

abbrev pub WorldHomes : World → Type 0
WorldHomes = OfConnections ChainHomes
