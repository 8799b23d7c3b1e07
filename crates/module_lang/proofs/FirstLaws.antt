-- The fault that is told is the first one, and the first one is told.
use Rattle.std.proofs.Common.{◌≡◌, ◌≢◌, ℕ, ltb, List, [], length, take, Option, Some, None, Result, Ok, Err, inl, inr, refl, sym, ◌∙◌, subst, arith}
use Rattle.module_lang.specs.Assembling.{assembling, draft_read, program_of}
use Rattle.module_lang.specs.Codes.{Gives, ◌>>=◌}
use Rattle.module_lang.specs.Drafts.{empty_draft}
use Rattle.module_lang.specs.FirstFault.{HasLineCode, HasModuleCode, IsFirst, IsFirstFault, IsReadAs, draft_of, goes_on, lines_of}
use Rattle.module_code.specs.Program.{Program}
use Rattle.module_lang.specs.declared.handler.LineFault.{LineFault}
use Rattle.module_lang.specs.declared.refusal.AsmRefusal.{AsmRefusal}
use Rattle.module_lang.specs.declared.refusal.AsmRefusal.TheVariants.{Fault, NoMemory}
use Rattle.module_lang.specs.declared.refusal.Code.{Code}
use Rattle.module_lang.proofs.FirstOf.{TellsFirst}
use Rattle.module_lang.proofs.FoundWhole.{text_found}
use Rattle.module_lang.proofs.HandlerFaults.{draft_fault, draft_tells, program_is}
use Rattle.module_lang.proofs.LineFaults.{same_code}
use Rattle.module_lang.proofs.LineOrder.{blank_ordered}
use Rattle.module_lang.proofs.TextAgain.{text_again}
use Rattle.module_lang.proofs.TextFaults.{lines_ordered, lines_tell, or_fault, read_is, text_fault}

-- what a computed answer says of the first fault
abbrev SaysFirst : List ℕ → Result Program AsmRefusal → Type 0
SaysFirst text (Ok p) = (n : ℕ) (c : Code) → IsFirstFault text n c → ⊥
SaysFirst text (Err (Fault n c)) = IsFirstFault text n c
SaysFirst text (Err NoMemory) = ⊥

judged : (text : List ℕ) → SaysFirst text (assembling text)
unfolding assembling draft_read
judged text = subst (λ r. SaysFirst text (r >>= λ d. program_of d)) (sym (read_is (take 1048576 text) (ltb 1048576 (length text)) empty_draft 1 []))
    (by lines refl (lines_tell (goes_on text) empty_draft 1 (lines_of text)))
  where
    lines : Option LineFault
    lines = text_fault (goes_on text) empty_draft 1 (lines_of text)

    module_judged : ((n : ℕ) (c : Code) → HasLineCode text n c → ⊥) → (f : Option LineFault) (p : Program) → TellsFirst f (HasModuleCode text) → SaysFirst text (or_fault f p)
    module_judged none (Some f) p t = inr (none, t)
    module_judged none None p t = first
      where
        first : (n : ℕ) (c : Code) → IsFirstFault text n c → ⊥
        first n c (inl x) = none n c x.holds
        first n c (inr x) = t n c x.1.holds

    by : (f : Option LineFault) → lines ≡ f → TellsFirst f (HasLineCode text) → SaysFirst text (or_fault f (draft_of text) >>= λ d. program_of d)
    by (Some f) q t = inl t
    by None q t =
        let o = lines_ordered (goes_on text) empty_draft 1 (lines_of text) q blank_ordered in
        let p = program_is (draft_of text) in
        subst (SaysFirst text) (sym p.1) (module_judged t (draft_fault (draft_of text)) p.0 (draft_tells o.0 (draft_of text) o.2 o.1))

module_none : (text : List ℕ) (m : Program) → assembling text ≡ Ok m → (n : ℕ) (c : Code) → IsFirstFault text n c → ⊥
module_none text m h = subst (SaysFirst text) h (judged text)

fault_first : (text : List ℕ) (n : ℕ) (c : Code) → assembling text ≡ Err (Fault n c) → IsFirstFault text n c
fault_first text n c h = subst (SaysFirst text) h (judged text)

-- there is one first fault
same_first : (P : ℕ → Code → Type 0) (n m : ℕ) (c e : Code) → IsFirst P n c → IsFirst P m e → (n ≡ m) × (c ≡ e)
same_first P n m c e x y =
    let a = x.line m e y.holds in
    let b = y.line n c x.holds in
    let q : n ≡ m = omega (arith, a, b) in
    let u = x.lowest e (subst (λ k. P k e) (sym q) y.holds) in
    let v = y.lowest c (subst (λ k. P k c) q x.holds) in
    (q, same_code c e (omega (arith, u, v)))

one_first : (text : List ℕ) (n m : ℕ) (c e : Code) → IsFirstFault text n c → IsFirstFault text m e → (n ≡ m) × (c ≡ e)
one_first text n m c e (inl x) (inl y) = same_first (HasLineCode text) n m c e x y
one_first text n m c e (inl x) (inr y) = absurd (y.0 n c x.holds)
one_first text n m c e (inr x) (inl y) = absurd (x.0 m e y.holds)
one_first text n m c e (inr x) (inr y) = same_first (HasModuleCode text) n m c e x.1 y.1

-- a text is a module, or has a first fault
pub reads_some : (text : List ℕ) → (r : Result Program AsmRefusal) × IsReadAs text r
reads_some text = by (assembling text) refl (judged text)
  where
    by : (r : Result Program AsmRefusal) → assembling text ≡ r → SaysFirst text r → (s : Result Program AsmRefusal) × IsReadAs text s
    by (Ok p) q j = (Ok p, text_found text p q)
    by (Err (Fault n c)) q j = (Err (Fault n c), j)
    by (Err NoMemory) q j = absurd j

-- an answer says what the text is, or there was no memory
pub answer_reads : (text : List ℕ) (r : Result Program AsmRefusal) → Gives (λ m. m) r (assembling text) → r ≢ Err NoMemory → IsReadAs text r
answer_reads text (Ok m) h some = text_found text m h
answer_reads text (Err NoMemory) h some = absurd (some refl)
answer_reads text (Err (Fault n c)) h some = fault_first text n c h

-- what a text is is answered, or there was no memory
pub reads_told : (text : List ℕ) (r s : Result Program AsmRefusal) → Gives (λ m. m) r (assembling text) → IsReadAs text s → Gives (λ m. m) r s
reads_told text r (Ok p) h x = rw (text_again text p x) at h
reads_told text r (Err NoMemory) h x = absurd x
reads_told text (Ok m) (Err (Fault n c)) h x = absurd (module_none text m h n c x)
reads_told text (Err NoMemory) (Err (Fault n c)) h x = tt
reads_told text (Err (Fault m e)) (Err (Fault n c)) h x = let s = one_first text n m c e x (fault_first text m e h) in rw (s.0, s.1) refl

-- a text is one module, or has one first fault
pub reads_once : (text : List ℕ) (r s : Result Program AsmRefusal) → IsReadAs text r → IsReadAs text s → r ≡ s
reads_once text (Ok p) (Ok q) x y = sym (text_again text p x) ∙ text_again text q y
reads_once text (Ok p) (Err (Fault n c)) x y = absurd (module_none text p (text_again text p x) n c y)
reads_once text (Ok p) (Err NoMemory) x y = absurd y
reads_once text (Err (Fault n c)) (Ok p) x y = absurd (module_none text p (text_again text p y) n c x)
reads_once text (Err (Fault n c)) (Err (Fault m e)) x y = let s = one_first text n m c e x y in rw (s.0, s.1) refl
reads_once text (Err (Fault n c)) (Err NoMemory) x y = absurd y
reads_once text (Err NoMemory) s x y = absurd x
