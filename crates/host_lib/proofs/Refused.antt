-- Why the texts of a module are refused.
use Rattle.std.proofs.Common.{◌≡◌, ◌==◌, ℕ, Bool, true, false, List, [], ◌∷◌, length, Result, Ok, Err, inl, refl, sym, ap, ◌∙◌, subst}
use Rattle.module_code.specs.Program.{Program}
use Rattle.module_lang.specs.FirstFault.{IsReadAs}
use Rattle.module_lang.specs.declared.refusal.AsmRefusal.{AsmRefusal}
use Rattle.module_lang.specs.declared.refusal.AsmRefusal.TheVariants as asm
use Rattle.life_cert.specs.Reading.{IsReported}
use Rattle.life_cert.specs.declared.refusal.CertRefusal.{CertRefusal}
use Rattle.life_cert.specs.declared.refusal.CertRefusal.TheVariants as cert
use Rattle.script_text.specs.Heads.{ScriptPart, seen_part}
use Rattle.script_text.specs.declared.part.ScriptModule.{ScriptModule}
use Rattle.std.specs.Prelude.{IfErr, IfOk}
use Rattle.host_lib.specs.declared.loading.TextLengths.{TextLengths}
use Rattle.host_lib.specs.declared.loading.LoadRefusal.{LoadRefusal}
use Rattle.host_lib.specs.declared.loading.LoadRefusal.TheVariants as refusal
use Rattle.host_lib.specs.Reading.{IsCertRefused, IsModuleRefused}
use Rattle.host_lib.specs.Texts.{AreFront, IsCertOf, IsFirstRefusedText, IsPartOf, IsRefusedAt, IsTextRefused, IsTextsAt, PartText}

abbrev err : AsmRefusal → Result Program AsmRefusal
err e = Err e

abbrev ReadsAsFault : List ℕ → AsmRefusal → Type 0
ReadsAsFault text e = (err e ≡ err asm.NoMemory → ⊥) → IsReadAs text (err e)

pub module_fault : (k : ℕ) (text : List ℕ) (e : AsmRefusal) (line : ℕ) (code : _) → e ≡ asm.Fault line code → ReadsAsFault text e → IsModuleRefused k text (refusal.NoModule k line code)
module_fault k text e line code is reads = (refl, (subst (ReadsAsFault text) is reads) (λ bad. cc))

empty_not : (text : List ℕ) (b : Bool) → b ≡ (length text == 0) → b ≡ false → text ≡ [] → ⊥
empty_not text b is off e = (let whole : b ≡ true = is ∙ ap (λ (xs : List ℕ). length xs == 0) e in let bad : true ≡ false = sym whole ∙ off in cc)

pub cert_fault : (k : ℕ) (text : List ℕ) (b : Bool) (e : CertRefusal) (line : ℕ) (code : _) → b ≡ (length text == 0) → b ≡ false → e ≡ cert.Fault line code → IsReported text e
    → IsCertRefused k text (refusal.NoCert k line code)
cert_fault k text b e line code empty off is told = (refl, empty_not text b empty off, subst (IsReported text) is told)

pub module_refused_at : (k : ℕ) (text cert : List ℕ) (e : LoadRefusal) → IsModuleRefused k text e → IsRefusedAt k (0, text, cert) e
module_refused_at k text cert (refusal.NoModule index line code) h = (h.0, refl, h.1)
module_refused_at k text cert refusal.NoMemory h = tt
module_refused_at k text cert refusal.NoChain h = absurd h
module_refused_at k text cert (refusal.NoCert index line code) h = absurd h
module_refused_at k text cert (refusal.NotSafe index why) h = absurd h
module_refused_at k text cert (refusal.NoFilter index fault) h = absurd h
module_refused_at k text cert (refusal.NoSetting fault) h = absurd h
module_refused_at k text cert (refusal.NoKind index) h = absurd h

pub cert_refused_at : (k : ℕ) (text cert : List ℕ) (p : Program) (e : LoadRefusal) → IsReadAs text (Ok p) → IsCertRefused k cert e → IsRefusedAt k (0, text, cert) e
cert_refused_at k text cert p (refusal.NoCert index line code) reads h = (h.0, refl, (p, reads), h.1, h.2)
cert_refused_at k text cert p refusal.NoMemory reads h = tt
cert_refused_at k text cert p refusal.NoChain reads h = absurd h
cert_refused_at k text cert p (refusal.NoModule index line code) reads h = absurd h
cert_refused_at k text cert p (refusal.NotSafe index why) reads h = absurd h
cert_refused_at k text cert p (refusal.NoFilter index fault) reads h = absurd h
cert_refused_at k text cert p (refusal.NoSetting fault) reads h = absurd h
cert_refused_at k text cert p (refusal.NoKind index) reads h = absurd h

-- The first refusal, where the texts before it are read.
pub first_refused : (texts : List ℕ) (lengths : List TextLengths) (parts : List ScriptPart) (k : ℕ) (t : PartText) (e : LoadRefusal) → length parts ≡ k → AreFront texts lengths parts
    → IsTextsAt texts lengths k t → IsRefusedAt k t e → IsTextRefused texts lengths e
first_refused texts lengths parts k t (refusal.NoModule index line code) count front at why =
    (parts, count ∙ sym why.0, front, (t, subst (λ (n : ℕ). IsTextsAt texts lengths n t) (sym why.0) at, (refl, why.1, why.2)))
first_refused texts lengths parts k t (refusal.NoCert index line code) count front at why =
    (parts, count ∙ sym why.0, front, (t, subst (λ (n : ℕ). IsTextsAt texts lengths n t) (sym why.0) at, (refl, why.1, why.2, why.3, why.4)))
first_refused texts lengths parts k t (refusal.NoFilter index fault) count front at why =
    (parts, count ∙ sym why.0, front, (t, subst (λ (n : ℕ). IsTextsAt texts lengths n t) (sym why.0) at, (refl, why.1, why.2)))
first_refused texts lengths parts k t (refusal.NoKind index) count front at why =
    (parts, count ∙ sym why.0, front, (t, subst (λ (n : ℕ). IsTextsAt texts lengths n t) (sym why.0) at, (refl, why.1)))
first_refused texts lengths parts k t refusal.NoMemory count front at why = tt
first_refused texts lengths parts k t refusal.NoChain count front at why = absurd why
first_refused texts lengths parts k t (refusal.NotSafe index r) count front at why = absurd why
first_refused texts lengths parts k t (refusal.NoSetting fault) count front at why = absurd why

pub part_read : (text cert : List ℕ) (p : Program) (r : Result ScriptModule LoadRefusal) → IsReadAs text (Ok p) → IfOk r (λ x. (x.code ≡ p) × IsCertOf cert x.cert)
    → IfOk r (λ x. IsPartOf (0, text, cert) (seen_part x))
part_read text cert p (Ok x) reads h = inl (refl, subst (λ (q : Program). IsReadAs text (Ok q)) (sym h.0) reads, h.1)
part_read text cert p (Err e) reads h = h

pub part_not : (k : ℕ) (text cert : List ℕ) (p : Program) (r : Result ScriptModule LoadRefusal) → IsReadAs text (Ok p) → IfErr r (IsCertRefused k cert) → IfErr r (IsRefusedAt k (0, text, cert))
part_not k text cert p (Ok x) reads h = h
part_not k text cert p (Err e) reads h = cert_refused_at k text cert p e reads h
