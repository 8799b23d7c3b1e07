-- What a module text and a certificate text are, for the command `serve`.
use Rattle.std.specs.Prelude.{◌≡◌, List, ℕ, Some, Result, Ok, Err}
use Rattle.module_code.specs.Program.{Program}
use Rattle.module_lang.specs.FirstFault.{IsReadAs}
use Rattle.module_lang.specs.declared.refusal.AsmRefusal.{AsmRefusal}
use Rattle.life_cert.specs.Reading.{IsCertText, IsReported}
use Rattle.life_cert.specs.declared.refusal.CertRefusal.{CertRefusal}
use Rattle.life_check.specs.Seen.{seen_cert}
use Rattle.life_check.specs.declared.cert.Cert.{Cert}
use Rattle.module_commands.specs.declared.loading.Loaded.{Loaded}
use Rattle.module_commands.specs.declared.loading.Loaded.TheVariants as loaded
use Rattle.script_text.specs.Heads.{seen_part}
use Rattle.module_commands.specs.TextAnswers.{TellsAsmFault, TellsCertFault}

-- a module, and a certificate text: the certificate, or the line of its first fault
abbrev pub IsLoadedWith : List ℕ → Program → Loaded → Type 0
IsLoadedWith certificate p (loaded.Part x) =
    (c : Cert) × IsCertText certificate c.version c.slim (seen_cert c) × (seen_part x ≡ record { code = p; cert = Some c })
IsLoadedWith certificate p (loaded.Refused a) = (r : CertRefusal) × IsReported certificate r × TellsCertFault r a.text.items a.ended

abbrev pub IsLoadedOf : List ℕ → Result Program AsmRefusal → Loaded → Type 0
IsLoadedOf certificate (Ok p) l = IsLoadedWith certificate p l
IsLoadedOf certificate (Err r) (loaded.Part x) = ⊥
IsLoadedOf certificate (Err r) (loaded.Refused a) = TellsAsmFault r a.text.items a.ended

-- two texts: a module with its certificate, or the line of the first fault
abbrev pub IsLoaded : List ℕ → List ℕ → Loaded → Type 0
IsLoaded text certificate l = (m : Result Program AsmRefusal) × IsReadAs text m × IsLoadedOf certificate m l
