-- The first fault of lines that are looked through in order.
use Rattle.std.proofs.Common.{◌≡◌, ℕ, ◌<◌, ◌≤◌, Bool, true, false, cond, leb, Option, Some, None, inl, inr, ◌⊎◌, Result, Ok, Err, refl, arith}
use Rattle.std.proofs.lemmas.Bool.{leb-false, leb-true}
use Rattle.module_lang.specs.Codes.{code_number}
use Rattle.module_lang.specs.FirstFault.{IsFirst}
use Rattle.module_code.specs.Args.{or_else}
use Rattle.module_lang.specs.Handlers.{fault, sooner}
use Rattle.module_lang.specs.declared.handler.LineFault.{LineFault}
use Rattle.module_lang.specs.declared.refusal.Code.{Code}
use Rattle.module_lang.proofs.LineFaults.{Judges, told, told_judges}

-- what is told is the first line with a code and its lowest, and nothing is told where no line has one
abbrev pub TellsFirst : Option LineFault → (ℕ → Code → Type 0) → Type 0
TellsFirst None P = (m : ℕ) (c : Code) → P m c → ⊥
TellsFirst (Some f) P = IsFirst P f.line f.code

pub tells_same : (o : Option LineFault) (P Q : ℕ → Code → Type 0) → ((m : ℕ) (c : Code) → P m c → Q m c) → ((m : ℕ) (c : Code) → Q m c → P m c) → TellsFirst o P → TellsFirst o Q
tells_same None P Q f g t = λ m c h. t m c (g m c h)
tells_same (Some x) P Q f g t = record { holds = f x.line x.code t.holds; line = λ m c h. t.line m c (g m c h); lowest = λ c h. t.lowest c (g x.line c h) }

-- a line with some codes, and the lines behind it
abbrev pub Here : ℕ → (Code → Bool) → (ℕ → Code → Type 0) → ℕ → Code → Type 0
Here n p P m c = ((m ≡ n) × (p c ≡ true)) ⊎ P m c

abbrev pub or_later : ℕ → Result (Unit {0}) Code → Option LineFault → Option LineFault
or_later n (Err c) o = fault n c
or_later n (Ok u) o = o

pub tells_here : (n : ℕ) (p : Code → Bool) (P : ℕ → Code → Type 0) (o : Option LineFault) → ((m : ℕ) (c : Code) → P m c → n < m) → TellsFirst o P → TellsFirst (or_later n (told p) o) (Here n p P)
tells_here n p P o low t = judged (told p) (told_judges p)
  where
    later : (o : Option LineFault) → ((c : Code) → p c ≡ true → ⊥) → TellsFirst o P → TellsFirst o (Here n p P)
    later o none = tells_same o P (Here n p P) (λ m c h. inr h) behind
      where
        behind : (m : ℕ) (c : Code) → Here n p P m c → P m c
        behind m c (inl h) = absurd (none c h.1)
        behind m c (inr h) = h

    judged : (r : Result (Unit {0}) Code) → Judges r p → TellsFirst (or_later n r o) (Here n p P)
    judged (Ok u) j = later o j t
    judged (Err c) j = record { holds = inl (refl, j.0); line = first; lowest = lowest }
      where
        first : (m : ℕ) (e : Code) → Here n p P m e → n ≤ m
        first m e (inl h) = let x = h.0 in omega (arith, x)
        first m e (inr h) = let x = low m e h in omega (arith, x)

        lowest : (e : Code) → Here n p P n e → code_number c ≤ code_number e
        lowest e (inl h) = j.1 e h.1
        lowest e (inr h) = let x = low n e h in absurd (omega (arith, x))

-- the sooner of two, where at one line the first has the lower code
pub tells_sooner : (a b : Option LineFault) (P Q : ℕ → Code → Type 0) → ((m : ℕ) (c e : Code) → P m c → Q m e → code_number c ≤ code_number e) → TellsFirst a P → TellsFirst b Q
    → TellsFirst (sooner a b) (λ m c. P m c ⊎ Q m c)
tells_sooner None b P Q tie s t = tells_same b Q (λ m c. P m c ⊎ Q m c) (λ m c h. inr h) right t
  where
    right : (m : ℕ) (c : Code) → P m c ⊎ Q m c → Q m c
    right m c (inl h) = absurd (s m c h)
    right m c (inr h) = h
tells_sooner (Some x) None P Q tie s t = tells_same (Some x) P (λ m c. P m c ⊎ Q m c) (λ m c h. inl h) left s
  where
    left : (m : ℕ) (c : Code) → P m c ⊎ Q m c → P m c
    left m c (inl h) = h
    left m c (inr h) = absurd (t m c h)
tells_sooner (Some x) (Some y) P Q tie s t = by (leb x.line y.line) refl
  where
    first : x.line ≤ y.line → IsFirst (λ m c. P m c ⊎ Q m c) x.line x.code
    first le = record { holds = inl s.holds; line = line; lowest = lowest }
      where
        line : (m : ℕ) (c : Code) → P m c ⊎ Q m c → x.line ≤ m
        line m c (inl h) = s.line m c h
        line m c (inr h) = let z = t.line m c h in omega (arith, z, le)

        lowest : (c : Code) → P x.line c ⊎ Q x.line c → code_number x.code ≤ code_number c
        lowest c (inl h) = s.lowest c h
        lowest c (inr h) = tie x.line x.code c s.holds h

    second : y.line < x.line → IsFirst (λ m c. P m c ⊎ Q m c) y.line y.code
    second lt = record { holds = inr t.holds; line = line; lowest = lowest }
      where
        line : (m : ℕ) (c : Code) → P m c ⊎ Q m c → y.line ≤ m
        line m c (inl h) = let z = s.line m c h in omega (arith, z, lt)
        line m c (inr h) = t.line m c h

        lowest : (c : Code) → P y.line c ⊎ Q y.line c → code_number y.code ≤ code_number c
        lowest c (inl h) = let z = s.line y.line c h in absurd (omega (arith, z, lt))
        lowest c (inr h) = t.lowest c h

    by : (b : Bool) → leb x.line y.line ≡ b → TellsFirst (cond b (Some x) (Some y)) (λ m c. P m c ⊎ Q m c)
    by true q = first (leb-true x.line y.line q)
    by false q = second (leb-false x.line y.line q)

-- one part of the lines and then another
pub tells_else : (a b : Option LineFault) (P Q : ℕ → Code → Type 0) (k : ℕ) → ((m : ℕ) (c : Code) → P m c → m < k) → ((m : ℕ) (c : Code) → Q m c → k ≤ m) → TellsFirst a P → TellsFirst b Q
    → TellsFirst (or_else a b) (λ m c. P m c ⊎ Q m c)
tells_else None b P Q k low high s t = tells_same b Q (λ m c. P m c ⊎ Q m c) (λ m c h. inr h) right t
  where
    right : (m : ℕ) (c : Code) → P m c ⊎ Q m c → Q m c
    right m c (inl h) = absurd (s m c h)
    right m c (inr h) = h
tells_else (Some x) b P Q k low high s t = record { holds = inl s.holds; line = line; lowest = lowest }
  where
    here : x.line < k
    here = low x.line x.code s.holds

    line : (m : ℕ) (c : Code) → P m c ⊎ Q m c → x.line ≤ m
    line m c (inl h) = s.line m c h
    line m c (inr h) = let z = high m c h in let y = here in omega (arith, y, z)

    lowest : (c : Code) → P x.line c ⊎ Q x.line c → code_number x.code ≤ code_number c
    lowest c (inl h) = s.lowest c h
    lowest c (inr h) = let z = high x.line c h in let y = here in absurd (omega (arith, y, z))
