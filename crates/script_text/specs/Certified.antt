-- The modules of a script, each with the certificate that is given, or else made.
use Rattle.std.specs.Prelude.{◌≡◌, List, map, Option, None, Some}
use Rattle.life_check.specs.Accepted.{CertifiedModule, modules_of}
use Rattle.life_check.specs.Slim.{cert_refusal}
use Rattle.life_check.specs.declared.refusal.CheckRefusal.{CheckRefusal}
use Rattle.script_text.specs.declared.part.Certified.{Certified}
use Rattle.script_text.specs.declared.part.Certified.TheVariants as certified
use Rattle.script_text.specs.Heads.{ScriptPart}
use Rattle.script_text.specs.Parts.{codes_of, first_from, refusal_of, unmade}

-- why a module is refused with its certificate
abbrev pub refusal_with : CertifiedModule → Option CheckRefusal
refusal_with x = cert_refusal x.0 x.1

-- This is its certificate; or this is why none can be made.
abbrev pub HasCertificate : ScriptPart → Certified → Type 0
HasCertificate x (certified.With c) = (unmade x ≡ None) × (cert_refusal x.code c ≡ refusal_of x)
HasCertificate x (certified.Refused r) = unmade x ≡ Some r

-- Each module has its certificate.
pub record AreCertified (pairs : List CertifiedModule) (parts : List ScriptPart) : Type 0 where
  pub codes : modules_of pairs ≡ codes_of parts
  pub refusals : map refusal_with pairs ≡ map refusal_of parts
  pub made : first_from 0 (map unmade parts) ≡ None
