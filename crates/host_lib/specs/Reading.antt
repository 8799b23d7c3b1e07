-- Why one text of a chain is refused.
use Rattle.std.specs.Prelude.{◌≡◌, ◌≢◌, ℕ, List, [], Err}
use Rattle.module_lang.specs.FirstFault.{IsReadAs}
use Rattle.module_lang.specs.declared.refusal.AsmRefusal.TheVariants as asm
use Rattle.life_cert.specs.Reading.{IsReported}
use Rattle.life_cert.specs.declared.refusal.CertRefusal.TheVariants as cert
use Rattle.host_lib.specs.declared.loading.LoadRefusal.{LoadRefusal}
use Rattle.host_lib.specs.declared.loading.LoadRefusal.TheVariants as refusal

abbrev pub IsModuleRefused : ℕ → List ℕ → LoadRefusal → Type 0
IsModuleRefused k text (refusal.NoModule index line code) = (index ≡ k) × IsReadAs text (Err (asm.Fault line code))
IsModuleRefused k text refusal.NoMemory = Unit {0}
IsModuleRefused k text e = ⊥

abbrev pub IsCertRefused : ℕ → List ℕ → LoadRefusal → Type 0
IsCertRefused k text (refusal.NoCert index line code) = (index ≡ k) × (text ≢ []) × IsReported text (cert.Fault line code)
IsCertRefused k text refusal.NoMemory = Unit {0}
IsCertRefused k text e = ⊥
