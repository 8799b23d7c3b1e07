-- Fronts of an answer to a text.
use Rattle.std.proofs.Common.{◌≡◌, ◌∙◌, ℕ, List, ◌++◌, take, drop, Option, Some, None, IfSome, Result, Ok, Err, IfOk, inl, inr, sym, subst, ap}
use Rattle.std.proofs.lemmas.List.{take-append-drop, append-nil}
use Rattle.std.specs.Io.KnownBytes.{Appends, Consumes, IsAtEnd}
use Rattle.module_code.specs.Program.{Program}
use Rattle.life_check.specs.Seen.{seen_cert}
use Rattle.life_check.specs.declared.cert.Cert.{Cert}
use Rattle.life_cert.specs.Reading.{IsCertText, IsReported}
use Rattle.life_cert.specs.declared.refusal.CertRefusal.{CertRefusal}
use Rattle.module_commands.specs.declared.answer.CommandOutput.{CommandOutput}
use Rattle.module_commands.specs.declared.cert_answer.CertTask.{CertTask}
use Rattle.module_commands.specs.declared.ended.Ended.{Ended}
use Rattle.module_commands.specs.declared.fault.PlayFault.{PlayFault}
use Rattle.module_commands.specs.declared.fault.PlayFault.TheVariants as fault
use Rattle.module_commands.specs.Streams.{Writes, WritesText}
use Rattle.module_commands.specs.TextAnswers.{IsAnswerFor, IsAnswerWith, IsOutputFront, TellsCertFault}

front_of : (P : List ℕ → Ended → Type 0) (out : List ℕ) (e : Ended) (n : ℕ) → P out e → IsOutputFront P (take n out)
front_of P out e n is =
    let Q : List ℕ → Type 0 = λ t. P t e in
    (drop n out, e, subst Q (sym (take-append-drop n out)) is)

-- What a reader gave up to its end is all that it had.
pub writes_all : (P : List ℕ → List ℕ → Type 0) (old rest w v : Option (List ℕ)) (script read : List ℕ) → Consumes old rest read → IsAtEnd rest → script ≡ read
    → ((text : List ℕ) × P script text × Appends w v text) → Writes old w v P
writes_all P None rest w v script read c e same t = tt
writes_all P (Some xs) None w v script read c e same t = absurd c
writes_all P (Some xs) (Some ys) w v script read c e same (text, is, appends) =
    let Q : List ℕ → Type 0 = λ s. P s text in
    (text, subst Q (same ∙ sym (append-nil read) ∙ ap (λ l. read ++ l) (sym e) ∙ sym c) is, appends)

-- Where the writer failed, what it took is a front of the answer to all that the reader had.
pub writes_front : (P : List ℕ → List ℕ → Ended → Type 0) (old rest w v : Option (List ℕ)) (script read out : List ℕ) (e : Ended) (r : Result Ended PlayFault) → Consumes old rest read
    → IsAtEnd rest → script ≡ read → P script out e → WritesText w v out r → r ≡ Err fault.Write → Writes old w v (λ text out. IsOutputFront (P text) out)
writes_front P old rest w v script read out e r taken end same is front failed =
    let Q : Result Ended PlayFault → Type 0 = λ x. WritesText w v out x in
    let f : Q (Err fault.Write) = subst Q failed front in
    writes_all (λ text out. IsOutputFront (P text) out) old rest w v script read taken end same (take f.0 out, front_of (P script) out e f.0 is, f.2)

-- Where the writer took all, it is the answer to all that the reader had.
pub writes_answer : (P : List ℕ → List ℕ → Ended → Type 0) (old rest w v : Option (List ℕ)) (script read out : List ℕ) (e : Ended) (r : Result Ended PlayFault) → Consumes old rest read
    → IsAtEnd rest → script ≡ read → P script out e → IfOk r (λ x. x ≡ e) → WritesText w v out r → IfOk r (λ x. Writes old w v (λ text t. P text t x))
writes_answer P old rest w v script read out e (Ok x) taken end same is told appends =
    let Q : Ended → Type 0 = λ y. P script out y in
    writes_all (λ text t. P text t x) old rest w v script read taken end same (out, subst Q (sym told) is, appends)
writes_answer P old rest w v script read out e (Err f) taken end same is told wrote = tt

-- The same of two readers, of which the second is known where this is.
pub writes_second : (P : List ℕ → List ℕ → List ℕ → Ended → Type 0) (second old rest w v : Option (List ℕ)) (script read out : List ℕ) (e : Ended) (r : Result Ended PlayFault)
    → Consumes old rest read → IsAtEnd rest → script ≡ read → IfSome second (λ s. P s script out e) → IfOk r (λ x. x ≡ e) → WritesText w v out r
    → IfOk r (λ x. IfSome second (λ s. Writes old w v (λ text t. P s text t x)))
writes_second P None old rest w v script read out e (Ok x) taken end same is told wrote = tt
writes_second P None old rest w v script read out e (Err f) taken end same is told wrote = tt
writes_second P (Some s) old rest w v script read out e (Ok x) taken end same is told wrote =
    writes_answer (P s) old rest w v script read out e (Ok x) taken end same is told wrote
writes_second P (Some s) old rest w v script read out e (Err f) taken end same is told wrote = tt

pub writes_second_front : (P : List ℕ → List ℕ → List ℕ → Ended → Type 0) (second old rest w v : Option (List ℕ)) (script read out : List ℕ) (e : Ended) (r : Result Ended PlayFault)
    → Consumes old rest read → IsAtEnd rest → script ≡ read → IfSome second (λ s. P s script out e) → WritesText w v out r → r ≡ Err fault.Write
    → IfSome second (λ s. Writes old w v (λ text t. IsOutputFront (P s text) t))
writes_second_front P None old rest w v script read out e r taken end same is front failed = tt
writes_second_front P (Some s) old rest w v script read out e r taken end same is front failed =
    writes_front (P s) old rest w v script read out e r taken end same is front failed

-- What is true of the bytes that a reader gave up to its end is true of all that it had.
pub of_all : (P : List ℕ → Type 0) (old rest : Option (List ℕ)) (text read : List ℕ) → Consumes old rest read → IsAtEnd rest → text ≡ read → P text → IfSome old P
of_all P None rest text read taken end same is = tt
of_all P (Some xs) None text read taken end same is = absurd taken
of_all P (Some xs) (Some ys) text read taken end same is =
    subst P (same ∙ sym (append-nil read) ∙ ap (λ l. read ++ l) (sym end) ∙ sym taken) is

-- What is true of all texts is true of the one that is known.
pub of_any : (P : List ℕ → Type 0) (known : Option (List ℕ)) → ((t : List ℕ) → P t) → IfSome known P
of_any P None all = tt
of_any P (Some xs) all = all xs

-- The fault of a certificate text is what is answered of it and any module.
pub tells_cert_fault : {E : Type 0} (task : CertTask) (q : Result CommandOutput E) (text : List ℕ) (p : Program) (r : CertRefusal) → IsReported text r
    → IfOk q (λ a. TellsCertFault r a.text.items a.ended) → IfOk q (λ a. IsAnswerWith task text p a.text.items a.ended)
tells_cert_fault task (Ok a) text p r told tells = inr (r, told, tells)
tells_cert_fault task (Err e) text p r told tells = tt

-- What is answered of a certificate is what is answered of its text.
pub tells_answer : {E : Type 0} (task : CertTask) (q : Result CommandOutput E) (text : List ℕ) (p : Program) (c : Cert) → IsCertText text c.version c.slim (seen_cert c)
    → IfOk q (λ a. IsAnswerFor task p c a.text.items a.ended) → IfOk q (λ a. IsAnswerWith task text p a.text.items a.ended)
tells_answer task (Ok a) text p c is tells = inl (c, is, tells)
tells_answer task (Err e) text p c is tells = tt
