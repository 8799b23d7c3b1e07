-- A text of a module is read as it.
use Rattle.std.proofs.Common.{◌≡◌, ℕ, zero, suc, ◌+◌, ◌-◌, ◌<◌, ◌≤◌, Bool, true, false, cond, List, [], ◌∷◌, ◌++◌, length, map, Option, Some, None, inl, inr, Ok, refl, sym, ◌∙◌, ap, arith}
use Rattle.std.specs.Prelude.{IfSome, slice_get, option_map}
use Rattle.std.proofs.lemmas.Option.{slice_get-map, slice_get_within}
use Rattle.module_lang.specs.Handlers.{handler_fault, handler_resolved, ends_open, last_goes_on, jump_fault, is_lost, is_missing, label_of, target_place, step_code, op_instr}
use Rattle.module_lang.specs.Labels.{place_of}
use Rattle.module_code.specs.Words.{op_goes_on}
use Rattle.module_lang.specs.Lines.{has_text, misplaced}
use Rattle.module_code.specs.Names.{is_name}
use Rattle.module_code.specs.Program.{Program, IsHandler, IsModule, fits, goes_on, target, text_of_instr}
use Rattle.module_code.specs.Args.{op_of}
use Rattle.module_code.specs.Spelling.{operands_of}
use Rattle.module_lang.specs.Texts.{CodeLine, label, step, instrs, labels_from, AreDistinct, AreSpelled, IsAimed, IsCode, IsLabel}
use Rattle.module_lang.specs.declared.draft.HandlerLines.{HandlerLines}
use Rattle.module_lang.specs.declared.draft.Label.{Label}
use Rattle.module_code.specs.declared.part.Part.{Part}
use Rattle.module_lang.specs.declared.draft.DraftStep.{DraftStep}
use Rattle.module_code.specs.declared.instr.Instr.{Instr}
use Rattle.module_code.specs.declared.operand.Operands.{Operands}
use Rattle.module_code.specs.declared.word.Op.{Op}
use Rattle.module_lang.proofs.ArgLaws.{instr_again, label_target}
use Rattle.module_lang.proofs.BodyLaws.{AreRight, Matches, bare, bares, steps-length, written}
use Rattle.module_lang.proofs.LabelLaws.{HaveLabelNames, Marked, HaveThoseNames, labels_right, marked_from, names_of, place_again}
use Rattle.module_lang.proofs.SliceLaws.{front_item, back_item}
use Rattle.module_lang.proofs.SpellingLaws.{padded, text_len}

distinct_back : (bs xs : List (List ℕ × ℕ)) → AreDistinct (bs ++ xs) → AreDistinct xs
distinct_back [] xs d = d
distinct_back (b ∷ bs) xs d = distinct_back bs xs d.1

-- what is known of the labels of a handler
record AreHandled (n : ℕ) (labels : List Label) (xs : List (List ℕ × ℕ)) : Type 0 where
  marked : Marked n labels xs
  named : HaveLabelNames xs
  distinct : AreDistinct xs

lost_none : (n : ℕ) (labels : List Label) (xs : List (List ℕ × ℕ)) (name : List ℕ) (t : ℕ) → AreHandled n labels xs → IsLabel name t xs → is_missing labels (Some (padded name)) ≡ false
unfolding place_of
lost_none n labels xs name t h l = let z = place_again None name t n labels xs h.marked h.named h.distinct l in rw z.2 refl

found_again : (n : ℕ) (labels : List Label) (xs : List (List ℕ × ℕ)) (name : List ℕ) (t : ℕ) → AreHandled n labels xs → IsLabel name t xs → n + target_place labels (Some (padded name)) ≡ t
unfolding place_of
found_again n labels xs name t h l = let z = place_again None name t n labels xs h.marked h.named h.distinct l in rw z.2 (sym z.1)

step_kept : (n : ℕ) (labels : List Label) (xs : List (List ℕ × ℕ)) (i : Instr) (name : List ℕ) (k : ℕ) → AreHandled n labels xs → IfSome (target i) (λ t. IsLabel name t xs)
    → is_lost labels (operands_of i (padded name) k) ≡ false
step_kept n labels xs i name k h a = ap (is_missing labels) (label_target i (padded name) k) ∙ by_target (target i) a
  where
    by_target : (o : Option ℕ) → IfSome o (λ t. IsLabel name t xs) → is_missing labels (option_map (λ _. padded name) o) ≡ false
    by_target None h = refl
    by_target (Some t) l = lost_none n labels xs name t h l

instr_made : (n : ℕ) (labels : List Label) (xs : List (List ℕ × ℕ)) (i : Instr) (name : List ℕ) (k x : ℕ) → AreHandled n labels xs → IfSome (target i) (λ t. IsLabel name t xs)
    → IfSome (text_of_instr i) (λ t. x ≡ t) → op_instr (op_of i) (operands_of i (padded name) k) x (n + target_place labels (label_of (operands_of i (padded name) k))) ≡ i
instr_made n labels xs i name k x h a w = instr_again i (padded name) k x _ (by_target (target i) (label_target i (padded name) k) a) w
  where
    o : Operands
    o = operands_of i (padded name) k

    by_target : (y : Option ℕ) → label_of o ≡ option_map (λ _. padded name) y → IfSome y (λ t. IsLabel name t xs) → IfSome y (λ t. n + target_place labels (label_of o) ≡ t)
    by_target None e l = tt
    by_target (Some t) e l = ap (λ z. n + target_place labels z) e ∙ found_again n labels xs name t h l

number_of : (b : Bool) (x : ℕ) (o : Option ℕ) → cond b (Some x) None ≡ o → IfSome o (λ t. x ≡ t)
number_of b x None e = tt
number_of true x (Some t) e = cc e
number_of false x (Some t) e = absurd (cc e)

steps_right : (p : Program) (n : ℕ) (labels : List Label) (xs : List (List ℕ × ℕ)) → AreHandled n labels xs → (body : List CodeLine) (steps : List DraftStep) → map bare steps ≡ bares p body
    → IsAimed xs body → (jump_fault labels steps ≡ None) × (map (step_code n labels) steps ≡ instrs body)
unfolding step_code
steps_right p n labels xs h [] [] e a = (refl, refl)
steps_right p n labels xs h [] (s ∷ ss) e a = absurd (cc e)
steps_right p n labels xs h (label x ∷ body) steps e a = steps_right p n labels xs h body steps e a
steps_right p n labels xs h (step i x w ∷ body) [] e a = absurd (cc e)
steps_right p n labels xs h (step i x w ∷ body) (s ∷ ss) e a =
    let k = text_len p (text_of_instr i) in
    let first : bare s ≡ written p i x = cc e in
    let rest : map bare ss ≡ bares p body = cc e in
    let os : s.operands ≡ operands_of i (padded x) k = ap (λ (z : Op × Operands × Option ℕ). z.1) first in
    let number = number_of (has_text s.operands) s.text (text_of_instr i) (ap (λ (z : Op × Operands × Option ℕ). z.2) first) in
    let more = steps_right p n labels xs h body ss rest a.1 in
    let lost : is_lost labels s.operands ≡ false = ap (is_lost labels) os ∙ step_kept n labels xs i x k h a.0 in
    let made : op_instr s.op s.operands s.text (n + target_place labels (label_of s.operands)) ≡ i =
    ap (λ (z : Op × Operands × Option ℕ). op_instr z.0 z.1 s.text (n + target_place labels (label_of z.1))) first ∙ instr_made n labels xs i x k s.text h a.0 number in
    (rw lost more.0, ap (λ y. y ∷ map (step_code n labels) ss) made ∙ ap (λ ys. i ∷ ys) more.1)

bares-get : (p : Program) (body : List CodeLine) (k : ℕ) (i : Instr) → slice_get (instrs body) k ≡ Some i → (o : Operands × Option ℕ) × (slice_get (bares p body) k ≡ Some (op_of i, o.0, o.1))
bares-get p [] k i e = absurd (cc e)
bares-get p (label x ∷ body) k i e = bares-get p body k i e
bares-get p (step j x w ∷ body) zero i e =
    let s : j ≡ i = cc e in
    let o = operands_of j (padded x) (text_len p (text_of_instr j)) in
    ((o, text_of_instr j), ap (λ y. Some (op_of y, o, text_of_instr j)) s)
bares-get p (step j x w ∷ body) (suc k) i e = bares-get p body k i e

bare_op : (o : Option DraftStep) (i : Op) (os : Operands) (t : Option ℕ) → option_map bare o ≡ Some (i, os, t) → last_goes_on o ≡ op_goes_on i
bare_op None i os t e = absurd (cc e)
bare_op (Some s) i os t e = let first : bare s ≡ (i, os, t) = cc e in ap (λ (z : Op × Operands × Option ℕ). op_goes_on z.0) first

ends_again : (p : Program) (body : List CodeLine) (h : HandlerLines) (i : Instr) → Matches p body h → slice_get (instrs body) (length (instrs body) - 1) ≡ Some i → goes_on i ≡ false
    → ends_open h.steps ≡ false
ends_again p body h i m e g =
    let size = steps-length p body h m in
    let b = bares-get p body (length (instrs body) - 1) i e in
    let at : option_map bare (slice_get h.steps (length h.steps - 1)) ≡ Some (op_of i, b.0.0, b.0.1) =
    sym (slice_get-map bare h.steps (length h.steps - 1)) ∙ ap (λ x. slice_get x (length h.steps - 1)) m.steps ∙ ap (λ n. slice_get (bares p body) (n - 1)) size ∙ b.1 in
    bare_op (slice_get h.steps (length h.steps - 1)) (op_of i) b.0.0 b.0.1 at ∙ g

-- a handler that is spelled is resolved as its instructions
pub resolve_again : (p : Program) (before : List Label) (bs : List (List ℕ × ℕ)) (h : HandlerLines) (code : List Instr) (body : List CodeLine) → HaveThoseNames before bs → HaveLabelNames bs
    → Matches p body h
    → IsCode p (length code) body → AreDistinct (bs ++ labels_from (length code) body) → ends_open h.steps ≡ false → handler_resolved before h code ≡ Ok (code ++ instrs body)
unfolding handler_resolved handler_fault
resolve_again p before bs h code body b v m r d e =
    let n = length code in
    let xs = labels_from n body in
    let marked = marked_from n 0 n body h.labels (omega arith) m.labels in
    let handled : AreHandled n h.labels xs = record { marked = marked; named = names_of (n + length (instrs body)) xs r.labels; distinct = distinct_back bs xs d } in
    let size = steps-length p body h m in
    let labels = labels_right before h.labels bs xs n (length h.steps) b v marked (rw size r.labels) d in
    let steps = steps_right p n h.labels xs handled body h.steps m.steps r.aimed in
    rw (e, labels, steps.0) (ap (λ x. Ok (code ++ x)) steps.1)

named_label : (name : List ℕ) (t : ℕ) (xs : List (List ℕ × ℕ)) → HaveLabelNames xs → IsLabel name t xs → is_name name ≡ true
named_label name t [] v h = absurd h
named_label name t (x ∷ xs) v (inl e) = ap is_name (sym e.0) ∙ v.0
named_label name t (x ∷ xs) v (inr e) = named_label name t xs v.1 e

named_target : (o : Option ℕ) (name : List ℕ) (xs : List (List ℕ × ℕ)) → HaveLabelNames xs → IfSome o (λ t. IsLabel name t xs) → IfSome o (λ _. is_name name ≡ true)
named_target None name xs v h = tt
named_target (Some t) name xs v h = named_label name t xs v h

pub right_from : (p : Program) (q : Part) (all : List (List ℕ × ℕ)) → HaveLabelNames all → (n : ℕ) (body : List CodeLine)
    → ((j : ℕ) (i : Instr) → slice_get (instrs body) j ≡ Some i → (fits p i ≡ true)
    × (misplaced q p.pools p.brigades (op_of i) (operands_of i [] 0) ≡ false)) → HaveLabelNames (labels_from n body) → IsAimed all body → AreSpelled p body → AreRight p q body
right_from p q all v n [] f names a w = tt
right_from p q all v n (label x ∷ body) f names a w = (names.0, right_from p q all v n body f names.1 a w)
right_from p q all v n (step i x s ∷ body) f names a w =
    let z = f 0 i refl in
    ((z.0, z.1, named_target (target i) x all v a.0, w.0), right_from p q all v (n + 1) body (λ j y e. f (suc j) y e) names a.1 w.1)

-- the instructions of a handler of a module
pub part_right : (p : Program) (q : Part) (from to : ℕ) (front mid back : List Instr) → IsModule p → IsHandler p q from to → p.code ≡ front ++ (mid ++ back) → length front ≡ from
    → from + length mid ≡ to → (j : ℕ) (i : Instr) → slice_get mid j ≡ Some i → (fits p i ≡ true) × (misplaced q p.pools p.brigades (op_of i) (operands_of i [] 0) ≡ false)
part_right p q from to front mid back s h whole low high j i e =
    let lt = slice_get_within mid j i e in
    let near : length front ≤ from + j = omega arith in
    let off : from + j - length front ≡ j = omega arith in
    let at : slice_get p.code (from + j) ≡ Some i =
    ap (λ x. slice_get x (from + j)) whole ∙ back_item front (mid ++ back) (from + j) near ∙ ap (slice_get (mid ++ back)) off ∙ front_item mid back j lt ∙ e in
    ((s.placed (from + j) i at).fit, (h.inside (from + j) i (omega arith) (omega arith) at).allowed)

-- the last instruction of a handler of a module
pub part_ends : (p : Program) (q : Part) (from to : ℕ) (front : List Instr) (body : List CodeLine) (back : List Instr) (x : HandlerLines) → IsHandler p q from to
    → p.code ≡ front ++ (instrs body ++ back) → length front ≡ from → from + length (instrs body) ≡ to → Matches p body x → ends_open x.steps ≡ false
part_ends p q from to front body back x h whole low high m =
    let mid = instrs body in
    let some = h.some in
    let k = length mid - 1 in
    let lt : k < length mid = omega arith in
    let near : length front ≤ to - 1 = omega arith in
    let off : to - 1 - length front ≡ k = omega arith in
    let at : slice_get p.code (to - 1) ≡ slice_get mid k =
    ap (λ y. slice_get y (to - 1)) whole ∙ back_item front (mid ++ back) (to - 1) near ∙ ap (slice_get (mid ++ back)) off ∙ front_item mid back k lt in
    last (slice_get mid k) refl at
  where
    last : (o : Option Instr) → slice_get (instrs body) (length (instrs body) - 1) ≡ o → slice_get p.code (to - 1) ≡ o → ends_open x.steps ≡ false
    last None e at = absurd (none_at (instrs body) (length (instrs body) - 1) (let some = h.some in omega arith) e)
      where
        none_at : (is : List Instr) (k : ℕ) → k < length is → slice_get is k ≡ None → ⊥
        none_at [] k lt e = absurd (omega arith)
        none_at (i ∷ is) zero lt e = cc e
        none_at (i ∷ is) (suc k) lt e = none_at is k (omega arith) e
    last (Some i) e at = ends_again p body x i m e (h.ends i at)
