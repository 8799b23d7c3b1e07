-- Why a certificate is not carried over to version 2.
use Rattle.std.specs.Prelude.{◌≡◌, true, false, Some}
use Rattle.module_code.specs.Program.{Program}
use Rattle.life_check.specs.declared.cert.Cert.{Cert}
use Rattle.life_check.specs.Slim.{cert_refusal}
use Rattle.life_check.specs.Typed.{refusal}
use Rattle.life_cert.specs.declared.refusal.UpgradeRefusal.{UpgradeRefusal}
use Rattle.life_cert.specs.declared.refusal.UpgradeRefusal.TheVariants.{Already, At}
use Rattle.life_cert.specs.CertText.{is_two}

-- it is of version 2 already, or it is not, and this is the first refusal of the check
abbrev pub IsUpgradeRefusal : Program → Cert → UpgradeRefusal → Type 0
IsUpgradeRefusal p c Already = is_two c.version ≡ true
IsUpgradeRefusal p c (At pc rule) = (is_two c.version ≡ false) × (cert_refusal p c ≡ Some (refusal pc rule))
