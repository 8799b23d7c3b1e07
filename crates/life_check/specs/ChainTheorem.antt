-- The lifetime theorem for chains: where each module of a chain is typed, no run of any number of connections answers a fault.
use Rattle.std.specs.Prelude.{ℕ, ◌<◌, List, length}
use Rattle.module_code.specs.Program.{Program, IsModule}
use Rattle.run_model.specs.Chains.{module_at, IsChain}
use Rattle.model_laws.specs.OpenRuns.{InstancesAreSafe}
pub use Rattle.model_laws.specs.SafeChains.{IsNoFault, ChainNeverFaults}
unfoldable pub use Rattle.model_laws.specs.SafeChains.{NoFaults}
use Rattle.life_check.specs.Certificates.{Certificate, AllBounded}
use Rattle.life_check.specs.Typed.{IsTyped}

-- Each module is typed with its certificate. (The states of code are bounded.)
abbrev pub AllTyped : List Program → (ℕ → Certificate) → Type 0
AllTyped chain certs = (k : ℕ) → k < length chain → AllBounded (certs k) × IsTyped (module_at chain k) (certs k)

abbrev pub TypedChainNeverFaults : Type 0
TypedChainNeverFaults = (chain : List Program) (certs : ℕ → Certificate) → IsChain chain → AllTyped chain certs → ChainNeverFaults chain

-- Each module that is typed with a certificate is safe by itself, beside filters that nobody checked.
abbrev pub TypedModulesAreSafe : Type 0
TypedModulesAreSafe = (p : Program) (cert : Certificate) → IsModule p → AllBounded cert → IsTyped p cert → InstancesAreSafe p
