-- The labels and instructions of the handlers are judged as the codes fit them.
use Rattle.std.proofs.Common.{◌≡◌, ℕ, ◌+◌, ◌<◌, ◌≤◌, Bool, true, false, cond, leb, List, [], ◌∷◌, ◌++◌, length, map, Option, Some, None, inl, inr, ◌⊎◌, Ok, Err, refl, subst, arith}
use Rattle.module_lang.specs.Assembling.{is_end, program_of}
use Rattle.module_lang.specs.Codes.{◌>>=◌, code_number}
use Rattle.module_lang.specs.FirstFault.{DraftHasCode, HandlerHasCode, LabelsHaveCode, StepsHaveCode, header_has_code, label_has_code, step_has_code}
use Rattle.module_code.specs.Args.{or_else}
use Rattle.module_lang.specs.Handlers.{code_or_fault, ends_open, fault, handler_fault, handler_resolved, is_lost, is_named, jump_fault, label_fault, sooner, step_code}
use Rattle.module_code.specs.Program.{Program, program}
use Rattle.module_lang.specs.declared.draft.Draft.{Draft}
use Rattle.module_lang.specs.declared.draft.HandlerLines.{HandlerLines}
use Rattle.module_lang.specs.declared.draft.Label.{Label}
use Rattle.module_code.specs.declared.part.Part.{Part}
use Rattle.module_code.specs.declared.part.Part.TheVariants as part
use Rattle.module_lang.specs.declared.draft.DraftStep.{DraftStep}
use Rattle.module_lang.specs.declared.handler.LineFault.{LineFault}
use Rattle.module_code.specs.declared.instr.Instr.{Instr}
use Rattle.module_lang.specs.declared.refusal.Code.{Code}
use Rattle.module_lang.specs.declared.refusal.Code.TheVariants as code
use Rattle.module_lang.proofs.FirstOf.{TellsFirst, or_later, tells_else, tells_here, tells_sooner}
use Rattle.module_lang.proofs.LineOrder.{HasLines, IsOrdered, Ordered, LinesRise, rises_le}
use Rattle.module_lang.proofs.TextFaults.{or_fault}

abbrev label_line : Label → ℕ
label_line l = l.line

abbrev step_line : DraftStep → ℕ
step_line s = s.line

labels_within : (before : List Label) (count k n : ℕ) (ls : List Label) (m : ℕ) (c : Code) → LinesRise label_line k n ls → LabelsHaveCode before count ls m c → (k ≤ m) × (m < n)
labels_within before count k n [] m c r h = absurd h
labels_within before count k n (l ∷ ls) m c r (inl h) = let x = h.0 in let y = r.0 in let z = rises_le label_line (l.line + 1) n ls r.1 in (omega (arith, x, y), omega (arith, x, z))
labels_within before count k n (l ∷ ls) m c r (inr h) = let x = labels_within (before ++ l ∷ []) count (l.line + 1) n ls m c r.1 h in let y = r.0 in let z = x.0 in (omega (arith, y, z), x.1)

steps_within : (labels : List Label) (k n : ℕ) (ss : List DraftStep) (m : ℕ) (c : Code) → LinesRise step_line k n ss → StepsHaveCode labels ss m c → (k ≤ m) × (m < n)
steps_within labels k n [] m c r h = absurd h
steps_within labels k n (s ∷ ss) m c r (inl h) = let x = h.0 in let y = r.0 in let z = rises_le step_line (s.line + 1) n ss r.1 in (omega (arith, x, y), omega (arith, x, z))
steps_within labels k n (s ∷ ss) m c r (inr h) = let x = steps_within labels (s.line + 1) n ss m c r.1 h in let y = r.0 in let z = x.0 in (omega (arith, y, z), x.1)

labels_tell : (before : List Label) (count k n : ℕ) (ls : List Label) → LinesRise label_line k n ls → TellsFirst (label_fault before count ls) (LabelsHaveCode before count ls)
labels_tell before count k n [] r = λ m c h. h
labels_tell before count k n (l ∷ ls) r =
    subst (λ o. TellsFirst o (LabelsHaveCode before count (l ∷ ls))) (same (is_named l.name before) (leb count l.place) (label_fault (before ++ l ∷ []) count ls))
    (tells_here l.line (label_has_code before count l) (LabelsHaveCode (before ++ l ∷ []) count ls) (label_fault (before ++ l ∷ []) count ls)
    (λ m c h. let x = (labels_within (before ++ l ∷ []) count (l.line + 1) n ls m c r.1 h).0 in omega (arith, x)) (labels_tell (before ++ l ∷ []) count (l.line + 1) n ls r.1))
  where
    same : (a b : Bool) (o : Option LineFault)
        → or_later l.line (cond a (Err code.DoubledLabel) (cond b (Err code.LostLabel) (Ok tt))) o ≡ cond a (fault l.line code.DoubledLabel) (cond b (fault l.line code.LostLabel) o)
    same true b o = refl
    same false true o = refl
    same false false o = refl

steps_tell : (labels : List Label) (k n : ℕ) (ss : List DraftStep) → LinesRise step_line k n ss → TellsFirst (jump_fault labels ss) (StepsHaveCode labels ss)
steps_tell labels k n [] r = λ m c h. h
steps_tell labels k n (s ∷ ss) r =
    subst (λ o. TellsFirst o (StepsHaveCode labels (s ∷ ss))) (same (is_lost labels s.operands) (jump_fault labels ss)) (tells_here s.line (step_has_code labels s) (StepsHaveCode labels ss)
    (jump_fault labels ss) (λ m c h. let x = (steps_within labels (s.line + 1) n ss m c r.1 h).0 in omega (arith, x)) (steps_tell labels (s.line + 1) n ss r.1))
  where
    same : (a : Bool) (o : Option LineFault) → or_later s.line (cond a (Err code.LostLabel) (Ok tt)) o ≡ cond a (fault s.line code.LostLabel) o
    same true o = refl
    same false o = refl

-- a label has no higher code than an instruction
label_low : (before : List Label) (count : ℕ) (ls : List Label) (m : ℕ) (c : Code) → LabelsHaveCode before count ls m c → code_number c ≤ 8
label_low before count [] m c h = absurd h
label_low before count (l ∷ ls) m c (inr h) = label_low (before ++ l ∷ []) count ls m c h
label_low before count (l ∷ ls) m c (inl h) = by c h.1
  where
    by : (c : Code) → label_has_code before count l c ≡ true → code_number c ≤ 8
    by code.DoubledLabel e = omega arith
    by code.LostLabel e = omega arith
    by _ e = absurd (cc e)

step_high : (labels : List Label) (ss : List DraftStep) (m : ℕ) (c : Code) → StepsHaveCode labels ss m c → 8 ≤ code_number c
step_high labels [] m c h = absurd h
step_high labels (s ∷ ss) m c (inr h) = step_high labels ss m c h
step_high labels (s ∷ ss) m c (inl h) = by c h.1
  where
    by : (c : Code) → step_has_code labels s c ≡ true → 8 ≤ code_number c
    by code.LostLabel e = omega arith
    by _ e = absurd (cc e)

module _ (before : List Label) (n : ℕ) (h : HandlerLines) (o : HasLines n h) where
  abbrev Labels : ℕ → Code → Type 0
  Labels m c = LabelsHaveCode before (length h.steps) h.labels m c

  abbrev FaultSteps : ℕ → Code → Type 0
  FaultSteps m c = StepsHaveCode h.labels h.steps m c

  inner_within : (m : ℕ) (c : Code) → Labels m c ⊎ FaultSteps m c → (h.line + 1 ≤ m) × (m < n)
  inner_within m c (inl x) = labels_within before (length h.steps) (h.line + 1) n h.labels m c o.labels x
  inner_within m c (inr x) = steps_within h.labels (h.line + 1) n h.steps m c o.steps x

  handler_within : (m : ℕ) (c : Code) → HandlerHasCode before h m c → (h.line ≤ m) × (m < n)
  handler_within m c (inl x) = let e = x.0 in let z = rises_le label_line (h.line + 1) n h.labels o.labels in (omega (arith, e), omega (arith, e, z))
  handler_within m c (inr x) = let y = inner_within m c x in let z = y.0 in (omega (arith, z), y.1)

  inner_tells : TellsFirst (sooner (label_fault before (length h.steps) h.labels) (jump_fault h.labels h.steps)) (λ m c. Labels m c ⊎ FaultSteps m c)
  inner_tells = tells_sooner _ _ Labels FaultSteps (λ m c e x y. let a = label_low before (length h.steps) h.labels m c x in let b = step_high h.labels h.steps m e y in omega (arith, a, b))
      (labels_tell before (length h.steps) (h.line + 1) n h.labels o.labels) (steps_tell h.labels (h.line + 1) n h.steps o.steps)

  handler_tells : TellsFirst (handler_fault before h) (HandlerHasCode before h)
  unfolding handler_fault
  handler_tells =
      subst (λ x. TellsFirst x (HandlerHasCode before h)) (same (ends_open h.steps) (sooner (label_fault before (length h.steps) h.labels) (jump_fault h.labels h.steps)))
      (tells_here h.line (header_has_code h) (λ m c. Labels m c ⊎ FaultSteps m c) (sooner (label_fault before (length h.steps) h.labels) (jump_fault h.labels h.steps))
      (λ m c x. let z = (inner_within m c x).0 in omega (arith, z)) inner_tells)
    where
      same : (a : Bool) (x : Option LineFault) → or_later h.line (cond a (Err code.OpenEnd) (Ok tt)) x ≡ cond a (fault h.line code.OpenEnd) x
      same true x = refl
      same false x = refl

-- the first line of a module that has a code which the module shows
abbrev pub draft_fault : Draft → Option LineFault
draft_fault d =
    or_else (handler_fault [] d.open) (or_else (handler_fault d.open.labels d.init) (handler_fault (d.open.labels ++ d.init.labels) d.main))

pub draft_tells : (k : ℕ) (d : Draft) → is_end d.part ≡ true → IsOrdered k d → TellsFirst (draft_fault d) (DraftHasCode d)
draft_tells k d e o = in_part d.part e o
  where
    ordered : HasLines d.init.line d.open → HasLines d.main.line d.init → (n : ℕ) → HasLines n d.main → TellsFirst (draft_fault d) (DraftHasCode d)
    ordered a b n c =
        tells_else _ _ (HandlerHasCode [] d.open) (λ m e. HandlerHasCode d.open.labels d.init m e ⊎ HandlerHasCode (d.open.labels ++ d.init.labels) d.main m e) d.init.line
        (λ m e x. (handler_within [] d.init.line d.open a m e x).1) behind (handler_tells [] d.init.line d.open a) (tells_else _ _ (HandlerHasCode d.open.labels d.init)
        (HandlerHasCode (d.open.labels ++ d.init.labels) d.main) d.main.line (λ m e x. (handler_within d.open.labels d.main.line d.init b m e x).1) (λ m e x.
        (handler_within (d.open.labels ++ d.init.labels) n d.main c m e x).0) (handler_tells d.open.labels d.main.line d.init b) (handler_tells (d.open.labels ++ d.init.labels) n d.main c))
      where
        behind : (m : ℕ) (e : Code) → HandlerHasCode d.open.labels d.init m e ⊎ HandlerHasCode (d.open.labels ++ d.init.labels) d.main m e → d.init.line ≤ m
        behind m e (inl x) = (handler_within d.open.labels d.main.line d.init b m e x).0
        behind m e (inr x) = let y = (handler_within (d.open.labels ++ d.init.labels) n d.main c m e x).0 in let z = rises_le label_line (d.init.line + 1) d.main.line d.init.labels b.labels in
            omega (arith, y, z)

    in_part : (p : Part) → is_end p ≡ true → Ordered p k d → TellsFirst (draft_fault d) (DraftHasCode d)
    in_part part.End q x = ordered x.0 x.1 x.2.0 x.2.1
    in_part _ q x = absurd (cc q)

-- the module of a draft, or that fault
pub program_is : (d : Draft) → (p : Program) × (program_of d ≡ or_fault (draft_fault d) p)
unfolding program_of handler_resolved
program_is d = by (handler_fault [] d.open) (handler_fault d.open.labels d.init) (handler_fault (d.open.labels ++ d.init.labels) d.main)
  where
    code1 : List Instr
    code1 = map (step_code 0 d.open.labels) d.open.steps

    code2 : List Instr
    code2 = code1 ++ map (step_code (length code1) d.init.labels) d.init.steps

    code3 : List Instr
    code3 = code2 ++ map (step_code (length code2) d.main.labels) d.main.steps

    made : Program
    made = program d.pools d.brigades d.texts code3 (length code1) (length code2)

    by : (a b c : Option LineFault) → (p : Program) × ((code_or_fault a code1 >>= λ x. code_or_fault b (x ++ map (step_code (length x) d.init.labels) d.init.steps) >>= λ y. code_or_fault c
        (y ++ map (step_code (length y) d.main.labels) d.main.steps) >>= λ z. Ok (program d.pools d.brigades d.texts z (length x) (length y))) ≡ or_fault (or_else a (or_else b c)) p)
    by (Some f) b c = (made, refl)
    by None (Some f) c = (made, refl)
    by None None (Some f) = (made, refl)
    by None None None = (made, refl)
