-- What the commands answer that are given texts.
use Rattle.std.specs.Prelude.{◌≡◌, ℕ, Bool, true, false, List, ◌++◌, ◌⊎◌, codes, Some, Result, Ok, Err}
use Rattle.module_code.specs.Program.{Program}
use Rattle.module_lang.specs.Codes.{code_number}
use Rattle.module_lang.specs.FirstFault.{IsReadAs}
use Rattle.module_lang.specs.Printing.{printed}
use Rattle.module_lang.specs.declared.refusal.AsmRefusal.{AsmRefusal}
use Rattle.module_lang.specs.declared.refusal.AsmRefusal.TheVariants as asm
use Rattle.life_check.specs.declared.refusal.CheckRefusal.{CheckRefusal}
use Rattle.life_check.specs.Certificates.{Certificate}
use Rattle.life_check.specs.Seen.{seen_cert}
use Rattle.life_check.specs.Slim.{slim_of, cert_refusal, Accepts}
use Rattle.life_check.specs.Versions.{version_two}
use Rattle.life_check.specs.declared.cert.Cert.{Cert}
use Rattle.life_check.specs.declared.version.CertVersion.{CertVersion}
use Rattle.life_check.specs.declared.version.CertVersion.TheVariants as version
use Rattle.life_check.specs.Typed.{IsTyped, first_refusal}
use Rattle.life_cert.specs.CertText.{cert_text}
use Rattle.life_cert.specs.Rounds.{made}
use Rattle.life_cert.specs.Codes.{code_number as cert_code}
use Rattle.life_cert.specs.Reading.{IsCertText, IsReported}
use Rattle.life_cert.specs.declared.refusal.CertRefusal.{CertRefusal}
use Rattle.life_cert.specs.declared.refusal.CertRefusal.TheVariants as cert
use Rattle.module_commands.specs.declared.cert_answer.CertTask.{CertTask}
use Rattle.module_commands.specs.declared.cert_answer.CertTask.TheVariants as task
use Rattle.module_commands.specs.declared.ended.Ended.{Ended}
use Rattle.module_commands.specs.declared.ended.Ended.TheVariants as ended
use Rattle.script_text.specs.Replies.{asm_line, line}
use Rattle.script_text.specs.Refusals.{cert_line, refused_at_line, accepted_line}

-- the text is written, and the command is refused or done
abbrev pub OutputSpec : Type 1
OutputSpec = List ℕ → Ended → Type 0

-- why a text is no module
abbrev pub TellsAsmFault : AsmRefusal → OutputSpec
TellsAsmFault (asm.Fault n c) out e = (out ≡ asm_line n (code_number c)) × (e ≡ ended.Refused)
TellsAsmFault asm.NoMemory out e = ⊥

-- what is answered of a module, or of a text that is none
abbrev pub IsAnswerOf : (Program → OutputSpec) → Result Program AsmRefusal → OutputSpec
IsAnswerOf answer (Ok p) out e = answer p out e
IsAnswerOf answer (Err r) out e = TellsAsmFault r out e

-- what is answered to a text: it is a module by the grammar, or has a first fault
abbrev pub IsOutputFor : (Program → OutputSpec) → List ℕ → OutputSpec
IsOutputFor answer text out e = (m : Result Program AsmRefusal) × IsReadAs text m × IsAnswerOf answer m out e

-- the module as it is printed
abbrev pub IsModuleText : Program → OutputSpec
IsModuleText p out e = (out ≡ printed p) × (e ≡ ended.Done)

-- what `assemble` answers to a text
abbrev pub IsAssembled : List ℕ → OutputSpec
IsAssembled text out e = IsOutputFor IsModuleText text out e

-- the front of an answer
abbrev pub IsOutputFront : OutputSpec → List ℕ → Type 0
IsOutputFront P out = (more : List ℕ) × (e : Ended) × P (out ++ more) e

-- the first refusal of a certificate
abbrev pub TellsRefusal : CheckRefusal → OutputSpec
TellsRefusal r out e = (out ≡ refused_at_line r.pc r.rule) × (e ≡ ended.Refused)

-- the states that are printed: those of the rounds, or their slim form
abbrev pub made_form : Bool → Program → Certificate
made_form false p = made p
made_form true p = slim_of p (made p)

-- the certificate of the rounds, which the module is typed with, or what it is first refused for
abbrev pub IsCertification : Bool → Program → OutputSpec
IsCertification slim p out e =
    (IsTyped p (made p) × (out ≡ cert_text (version_two p) slim (made_form slim p)) × (e ≡ ended.Done))
    ⊎ ((r : CheckRefusal) × (first_refusal p (made p) ≡ Some r) × TellsRefusal r out e)

-- what `certify` answers to a text
abbrev pub IsCertified : Bool → List ℕ → OutputSpec
IsCertified slim text out e = IsOutputFor (IsCertification slim) text out e

-- this text, where the module is accepted with a certificate, or the first refusal
abbrev pub IsAcceptedAs : List ℕ → Program → Cert → OutputSpec
IsAcceptedAs text p c out e =
    (Accepts p c × (out ≡ text) × (e ≡ ended.Done))
    ⊎ ((r : CheckRefusal) × (cert_refusal p c ≡ Some r) × TellsRefusal r out e)

-- whether the module is accepted with a certificate, or the first refusal
abbrev pub IsVerdict : Program → Cert → OutputSpec
IsVerdict p c out e = IsAcceptedAs accepted_line p c out e

abbrev pub already_line : List ℕ
already_line = line (codes "already version 2")

-- The same states in version 2, where a certificate of version 1 is accepted, or the first refusal. One of version 2 is told to be so.
abbrev pub IsUpgradeFrom : CertVersion → Program → Cert → OutputSpec
IsUpgradeFrom version.One p c out e = IsAcceptedAs (cert_text (version_two p) c.slim (seen_cert c)) p c out e
IsUpgradeFrom (version.Two pools brigades code) p c out e = (out ≡ already_line) × (e ≡ ended.Refused)

abbrev pub IsUpgrade : Program → Cert → OutputSpec
IsUpgrade p c out e = IsUpgradeFrom c.version p c out e

-- what is answered of a module and a certificate
abbrev pub IsAnswerFor : CertTask → Program → Cert → OutputSpec
IsAnswerFor task.Check p c out e = IsVerdict p c out e
IsAnswerFor task.Upgrade p c out e = IsUpgrade p c out e

-- the first fault of a certificate text
abbrev pub TellsCertFault : CertRefusal → OutputSpec
TellsCertFault (cert.Fault n c) out e = (out ≡ cert_line n (cert_code c)) × (e ≡ ended.Refused)
TellsCertFault cert.NoMemory out e = ⊥

-- what is answered of a module and a certificate text
abbrev pub IsAnswerWith : CertTask → List ℕ → Program → OutputSpec
IsAnswerWith task text p out e =
    ((c : Cert) × IsCertText text c.version c.slim (seen_cert c) × IsAnswerFor task p c out e)
    ⊎ ((r : CertRefusal) × IsReported text r × TellsCertFault r out e)

-- what is answered to a module text and a certificate text
abbrev pub IsTaskOutput : CertTask → List ℕ → List ℕ → OutputSpec
IsTaskOutput task certificate text out e = IsOutputFor (IsAnswerWith task certificate) text out e

-- what `check` answers
abbrev pub IsCheckOutput : List ℕ → List ℕ → OutputSpec
IsCheckOutput certificate text out e = IsTaskOutput task.Check certificate text out e

-- what `upgrade` answers
abbrev pub IsUpgradeOutput : List ℕ → List ℕ → OutputSpec
IsUpgradeOutput certificate text out e = IsTaskOutput task.Upgrade certificate text out e
