-- A session that is made.
use Rattle.std.specs.Prelude.{◌≡◌, ℕ, List, []}
use Rattle.run_model.specs.Worlds.{new_world}
use Rattle.filter_chain.specs.Hosting.{budget_of, chain_of}
use Rattle.host_lib.specs.Does.{SessionStandsFor, pieces_of}
use Rattle.host_lib.specs.Texts.{IsChainOf}
use Rattle.host_lib.specs.declared.loading.TextLengths.{TextLengths}
use Rattle.host_lib.specs.declared.session.HostSession.{HostSession}

-- It stands for a new world, on the chain of the texts, with this budget; no connection has pieces.
pub record IsNewSession (texts : List ℕ) (lengths : List TextLengths) (budget : ℕ) (s : HostSession) : Type 0 where
  pub world : SessionStandsFor s (new_world 1)
  pub chain : IsChainOf texts lengths (chain_of s.host)
  pub budgeted : budget_of s.host ≡ budget
  pub pieceless : (n : ℕ) → pieces_of s n ≡ []
