-- The codes of faults.
use Rattle.std.specs.Prelude.{ℕ}
use Rattle.life_cert.specs.declared.refusal.CertCode.{CertCode}
use Rattle.life_cert.specs.declared.refusal.CertCode.TheVariants as code

-- the number of a code
abbrev pub code_number : CertCode → ℕ
code_number code.BadByte = 1
code_number code.NotDue = 2
code_number code.NotState = 3
