-- A text has one first fault, or is a certificate's.
use Rattle.std.proofs.Common.{◌≡◌, ℕ, ◌<◌, Bool, true, false, ◌||◌, not, List, [], length, take, Result, Ok, Err, refl, sym, ap, subst, arith}
use Rattle.std.specs.Prelude.{IfErr, IfOk, nat_lt, eqb}
use Rattle.std.proofs.lemmas.Bool.{lt-ltb}
use Rattle.byte_text.specs.TextLines.{lines_from, rest_from}
use Rattle.life_check.specs.declared.cert.Cert.{Cert}
use Rattle.life_check.specs.Seen.{seen_cert}
use Rattle.life_cert.specs.declared.refusal.CertCode.{CertCode}
use Rattle.life_cert.specs.declared.refusal.CertCode.TheVariants as code
use Rattle.life_cert.specs.declared.refusal.CertRefusal.{CertRefusal}
use Rattle.life_cert.specs.declared.refusal.CertRefusal.TheVariants.{Fault, NoMemory}
use Rattle.life_cert.specs.Codes.{code_number}
use Rattle.life_cert.specs.Reading.{AnswersFault, CertLinesHaveCode, HasCertLineCode, IsCertText, IsReported, IsToldBy, IsToldOf, at_begin, goes_on, more_than}
use Rattle.life_cert.proofs.OneCert.{read_again, seen_writable}
use Rattle.life_cert.proofs.PrintedCert.{no_fault}
use Rattle.life_cert.proofs.SaidLaws.{TellStates}

same_code : (c d : CertCode) → code_number c ≡ code_number d → c ≡ d
same_code code.BadByte code.BadByte is = refl
same_code code.BadByte code.NotDue is = absurd (cc)
same_code code.BadByte code.NotState is = absurd (cc)
same_code code.NotDue code.BadByte is = absurd (cc)
same_code code.NotDue code.NotDue is = refl
same_code code.NotDue code.NotState is = absurd (cc)
same_code code.NotState code.BadByte is = absurd (cc)
same_code code.NotState code.NotDue is = absurd (cc)
same_code code.NotState code.NotState is = refl

-- two faults that are the first of one text are the same
one_fault : (text : List ℕ) (n m : ℕ) (c d : CertCode) → IsReported text (Fault n c) → IsReported text (Fault m d) → (n ≡ m) × (c ≡ d)
one_fault text n m c d x y =
    let low = x.line m d y.fits in
    let high = y.line n c x.fits in
    let same : n ≡ m = omega (arith, low, high) in
    let one = x.lowest d (subst (λ (k : ℕ). HasCertLineCode text k d) (sym same) y.fits) in
    let two = y.lowest c (subst (λ (k : ℕ). HasCertLineCode text k c) same x.fits) in
    (same, same_code c d (omega (arith, one, two)))

-- a text that is answered by what it is, is answered by its first fault, where it has one
pub first_answered : TellStates → (text : List ℕ) (r : Result Cert CertRefusal) → IfOk r (λ x. IsCertText text x.version x.slim (seen_cert x)) → IfErr r (λ e. IsReported text e)
    → (n : ℕ) (c : CertCode) → IsReported text (Fault n c) → AnswersFault n c r
first_answered tell text (Ok x) is told n c first =
    no_fault tell text x.version x.slim (seen_cert x) n c (record { writable = seen_writable x is.sound; named = is.named; whole = is.whole }) first.fits
first_answered tell text (Err (Fault m d)) is told n c first = one_fault text m n d c told first
first_answered tell text (Err NoMemory) is told n c first = tt

-- as the reader of lines answers a short text
pub first_short : TellStates → (text : List ℕ) (r : Result Cert CertRefusal) → IfOk r (λ x. (false ≡ false) × IsCertText text x.version x.slim (seen_cert x)) → IfErr r (λ e. IsReported text e)
    → (n : ℕ) (c : CertCode) → IsReported text (Fault n c) → AnswersFault n c r
first_short tell text (Ok x) is told n c first = first_answered tell text (Ok x) is.1 told n c first
first_short tell text (Err e) is told n c first = first_answered tell text (Err e) is told n c first

-- A text that is too long goes on.
told_long : (text : List ℕ) (e : CertRefusal) → 4194304 < length text → IsToldOf true (take 4194304 text) e → IsReported text e
told_long text e long h =
    let cut = take 4194304 text in
    let yes : nat_lt 4194304 (length text) ≡ true = lt-ltb 4194304 (length text) long in
    let on : more_than true (rest_from [] cut) ≡ goes_on text = ap (λ (b : Bool). b || not (eqb (length (rest_from [] cut)) 0)) (sym yes) in
    subst (λ (b : Bool). IsToldBy (CertLinesHaveCode b at_begin 1 (lines_from [] cut)) e) on h

-- and a long one
pub first_long : TellStates → (text : List ℕ) (r : Result Cert CertRefusal) → 4194304 < length text → IfOk r (λ x. (true ≡ false) × IsCertText (take 4194304 text) x.version x.slim (seen_cert x))
    → IfErr r (λ e. IsToldOf true (take 4194304 text) e) → (n : ℕ) (c : CertCode) → IsReported text (Fault n c) → AnswersFault n c r
first_long tell text (Ok x) long is told n c first = let no = is.0 in absurd (cc no)
first_long tell text (Err e) long is told n c first = first_answered tell text (Err e) tt (told_long text e long told) n c first
