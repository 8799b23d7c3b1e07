-- When a chain is accepted: each module with its certificate.
use Rattle.std.specs.Prelude.{◌≡◌, ℕ, ◌≤◌, List, length, map, take, All, Some, slice_get}
use Rattle.module_code.specs.Program.{Program, IsModule}
use Rattle.run_model.specs.Chains.{IsChain}
use Rattle.life_check.specs.declared.cert.Cert.{Cert}
use Rattle.life_check.specs.declared.refusal.ChainRefusal.{ChainRefusal}
use Rattle.life_check.specs.declared.refusal.ChainRefusal.TheVariants.{At, NoMemory}
use Rattle.life_check.specs.Certificates.{Certificate, AllBounded}
use Rattle.life_check.specs.ChainTheorem.{AllTyped}
use Rattle.life_check.specs.Slim.{meant, cert_refusal, Accepts}

-- a module with its certificate
abbrev pub CertifiedModule : Type 0
CertifiedModule = Program × Cert

abbrev pub modules_of : List CertifiedModule → List Program
modules_of parts = map (λ (x : CertifiedModule). x.0) parts

abbrev pub IsAccepted : CertifiedModule → Type 0
IsAccepted x = Accepts x.0 x.1

-- The module at the index is refused, as the first; or all are accepted.
abbrev pub IsChainRefusal : List CertifiedModule → ChainRefusal → Type 0
IsChainRefusal parts (At index refusal) = (x : CertifiedModule) × (slice_get parts index ≡ Some x) × (cert_refusal x.0 x.1 ≡ Some refusal) × All IsAccepted (take index parts)
IsChainRefusal parts NoMemory = All IsAccepted parts

-- what is known of a module that was accepted
pub record IsChecked (x : CertifiedModule) : Type 0 where
  pub proper : IsModule x.0
  pub bounded : AllBounded (meant x.0 x.1)
  pub accepts : Accepts x.0 x.1

-- a chain of modules, 1 to 16, each of them typed with some certificate
pub record IsCheckedChain (chain : List Program) : Type 0 where
  pub chained : IsChain chain
  pub few : length chain ≤ 16
  pub certs : ℕ → Certificate
  pub typed : AllTyped chain certs
