-- Laws on what stands in a script before its commands.
use Rattle.std.proofs.Common.{◌≡◌, ℕ, ◌+◌, List, [], ◌∷◌, ◌++◌, map, Some, Ok, Err, refl, ap, sym, subst, ◌∙◌}
use Rattle.std.proofs.lemmas.List.{map-append, append-nil}
use Rattle.life_check.specs.Seen.{seen_cert}
use Rattle.life_check.specs.declared.cert.Cert.{Cert}
use Rattle.life_cert.specs.Codes.{code_number}
use Rattle.life_cert.specs.Reading.{IsCertText, IsReported}
use Rattle.life_cert.specs.declared.refusal.CertCode.{CertCode}
use Rattle.life_cert.specs.declared.refusal.CertRefusal.TheVariants as cert
use Rattle.script_text.specs.declared.part.ScriptModule.{ScriptModule}
use Rattle.script_text.specs.declared.texts.HeadPlace.TheVariants as place
use Rattle.script_text.specs.declared.texts.LineTaken.TheVariants as taken
use Rattle.script_text.specs.Heads.{ScriptPart, ScriptHead, seen_part, with_cert, EndsCert, TellsMore}
use Rattle.script_text.specs.Refusals.{cert_line}

with_cert_last : (c : Cert) (xs : List ScriptPart) (x : ScriptPart) → with_cert c (xs ++ x ∷ []) ≡ xs ++ (record x { cert = Some c }) ∷ []
unfolding with_cert
with_cert_last c [] x = refl
with_cert_last c (y ∷ []) x = refl
with_cert_last c (y ∷ (z ∷ zs)) x = ap (λ l. y ∷ l) (with_cert_last c (z ∷ zs) x)

shown : (c : Cert) (p q : ScriptModule) → q.code ≡ p.code → q.cert ≡ Some c → seen_part q ≡ (record (seen_part p) { cert = Some c })
shown c p q same given =
    ap (λ x. let s : ScriptPart = record { code = x; cert = q.cert } in s) same ∙ ap (λ o. let s : ScriptPart = record { code = p.code; cert = o } in s) given

-- The last module was taken out, and put back with a certificate.
pub given_last : (c : Cert) (mid old new : List ScriptModule) (p q : ScriptModule) → old ≡ mid ++ p ∷ [] → new ≡ mid ++ q ∷ [] → q.code ≡ p.code → q.cert ≡ Some c
    → map seen_part new ≡ with_cert c (map seen_part old)
given_last c mid old new p q was is same given =
    ap (map seen_part) is ∙ map-append seen_part mid (q ∷ []) ∙ ap (λ x. map seen_part mid ++ x ∷ []) (shown c p q same given)
    ∙ sym (with_cert_last c (map seen_part mid) (seen_part p)) ∙ ap (with_cert c) (sym (map-append seen_part mid (p ∷ [])))
    ∙ ap (λ l. with_cert c (map seen_part l)) (sym was)

pub given_none : (c : Cert) (old new : List ScriptModule) → old ≡ [] → new ≡ old → map seen_part new ≡ with_cert c (map seen_part old)
unfolding with_cert
given_none c old new none same = ap (map seen_part) (same ∙ none) ∙ ap (λ l. with_cert c (map seen_part l)) (sym none)

-- The first fault of a certificate text is told.
pub cert_over : (h new : ScriptHead) (n m k : ℕ) (c : CertCode) (old text read : List ℕ) → read ≡ h.text → IsReported read (cert.Fault n c) → m ≡ n → k ≡ code_number c
    → text ≡ old ++ cert_line (h.before + m) k → TellsMore old text (λ told. EndsCert h taken.Over told new)
cert_over h new n m k c old text read is told same number written = (
  cert_line (h.before + m) k,
  written,
  (
    Err (cert.Fault n c),
    subst (λ x. IsReported x (cert.Fault n c)) is told,
    (refl, ap (λ x. cert_line (h.before + x) k) same ∙ ap (cert_line (h.before + n)) number),
  ),
)

-- A certificate text was read, and the last module has its certificate.
pub cert_taken : (h : ScriptHead) (c : Cert) (old read cleared : List ℕ) (parts : List ScriptPart) → read ≡ h.text → IsCertText read c.version c.slim (seen_cert c) → parts ≡ with_cert c h.parts
    → cleared ≡ [] → TellsMore old old (λ told. EndsCert h taken.More told (record h { parts = parts; text = cleared; place = place.BehindCert }))
cert_taken h c old read cleared parts is right given none =
    let made : List ScriptPart → List ℕ → ScriptHead = λ ps x. record h { parts = ps; text = x; place = place.BehindCert } in
    ([], sym (append-nil old), (Ok c, subst (λ x. IsCertText x c.version c.slim (seen_cert c)) is right, (refl, refl, ap (λ ps. made ps cleared) given ∙ ap (made (with_cert c h.parts)) none)))
