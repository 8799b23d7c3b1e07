-- A draft whose handlers have no fault gives a module.
use Rattle.std.proofs.Common.{◌≡◌, ℕ, ◌+◌, ◌-◌, ◌<◌, ◌≤◌, Bool, true, false, ◌&&◌, ◌||◌, not, cond, eqb, leb, nat_lt, List, [], ◌∷◌, ◌++◌, length, map, length-append, append_assoc, append-nil, inl}
use Rattle.std.proofs.Common.{inr, ◌⊎◌, Ok, Option, Some, None, refl, sym, ◌∙◌, ap, subst, arith}
use Rattle.std.specs.Prelude.{All, slice_get, IfSome, is_some, unwrap_or, option_map, filter_map}
use Rattle.std.proofs.lemmas.Bool.{and_parts, or_parts, ltb-true, lt-ltb, leb-false, ne_eqb, cases_lt}
use Rattle.std.specs.List.{range_with_len}
use Rattle.std.proofs.lemmas.List.{length-map}
use Rattle.std.proofs.lemmas.List.Elements.{filter_map-append}
use Rattle.std.proofs.lemmas.Option.{slice_get-map, slice_get_within}
use Rattle.module_lang.specs.Entries.{IsDraft, IsDraftStep, step_numbers, step_text}
use Rattle.module_lang.specs.Handlers.{handler_fault, handler_resolved, code_or_fault, ends_open, last_goes_on, sooner, fault, label_fault, jump_fault, is_lost, is_missing, arg_in, args_in, label_of}
use Rattle.module_lang.specs.Handlers.{place_from, target_place, step_code, op_instr, operand_index, is_named}
use Rattle.module_lang.specs.Labels.{place_of}
use Rattle.module_code.specs.Words.{op_goes_on, op_kinds}
use Rattle.module_lang.specs.Lines.{are_declared, has_equal_brigades, is_declared, is_text_operand, misplaced, same_brigade, has_text, place_is_declared}
use Rattle.module_lang.specs.Operands.{IsOfKinds, of_kind, operand_kind_is_text}
use Rattle.module_code.specs.Program.{Program, program, IsHandler, IsInside, IsModule, IsPlaced, all_of, apart, fit_tests, fits, goes_on, target, tests, text_of_instr}
use Rattle.module_code.specs.Args.{op_of}
use Rattle.module_code.specs.Spelling.{operands_of}
use Rattle.module_code.specs.declared.arg.Args.{Args}
use Rattle.module_lang.specs.declared.draft.Draft.{Draft}
use Rattle.module_lang.specs.declared.draft.HandlerLines.{HandlerLines}
use Rattle.module_lang.specs.declared.draft.Label.{Label}
use Rattle.module_code.specs.declared.part.Part.{Part}
use Rattle.module_code.specs.declared.part.Part.TheVariants as part
use Rattle.module_lang.specs.declared.draft.DraftStep.{DraftStep}
use Rattle.module_lang.specs.declared.handler.LineFault.{LineFault}
use Rattle.module_code.specs.declared.instr.Instr.{Instr}
use Rattle.module_code.specs.declared.instr.Instr.TheVariants as instr
use Rattle.module_code.specs.declared.instr.PoolRef.{PoolRef}
use Rattle.module_code.specs.declared.instr.PoolRef.TheVariants as pool
use Rattle.module_code.specs.declared.instr.Value.TheVariants as value
use Rattle.module_code.specs.declared.operand.Operand.{Operand}
use Rattle.module_code.specs.declared.operand.Operand.TheVariants as operand
use Rattle.module_code.specs.declared.operand.Operands.{Operands}
use Rattle.module_lang.specs.declared.refusal.Code.TheVariants as codes
use Rattle.module_code.specs.declared.word.OperandKind.{OperandKind}
use Rattle.module_code.specs.declared.word.OperandKind.TheVariants as kind
use Rattle.module_code.specs.declared.word.Op.{Op}
use Rattle.module_code.specs.declared.word.Op.TheVariants as op
use Rattle.module_lang.proofs.ArgLaws.{args_of_read, parts_in, target_moved}
use Rattle.module_lang.proofs.DraftLaws.{has_text_of}
use Rattle.module_code.proofs.FitLaws.{Every, parts_fit}
use Rattle.module_lang.proofs.HandlerLaws.{place_from-below}
use Rattle.byte_text.proofs.ListLaws.{AllBelow, all_cons, all_head, all_tail, below_back, below_front, numbers_below, range_below}
use Rattle.module_lang.proofs.OperandLaws.{shape, brigade_is, source_is}
use Rattle.module_lang.proofs.SliceLaws.{front_item, back_item, item_of}

-- what is known of a handler that was resolved
pub record IsResolved (before : List Label) (h : HandlerLines) (code after : List Instr) : Type 0 where
  pub whole : after ≡ code ++ map (step_code (length code) h.labels) h.steps
  pub closed : ends_open h.steps ≡ false
  pub labels : label_fault before (length h.steps) h.labels ≡ None
  pub jumps : jump_fault h.labels h.steps ≡ None

sooner_none : (a b : Option LineFault) → sooner a b ≡ None → (a ≡ None) × (b ≡ None)
sooner_none None None h = (refl, refl)
sooner_none None (Some y) h = absurd (cc h)
sooner_none (Some x) None h = absurd (cc h)
sooner_none (Some x) (Some y) h = absurd (never (leb x.line y.line) h)
  where
    never : (b : Bool) → cond b (Some x) (Some y) ≡ None → ⊥
    never true h = cc h
    never false h = cc h

pub resolved : (before : List Label) (h : HandlerLines) (code after : List Instr) → handler_resolved before h code ≡ Ok after → IsResolved before h code after
unfolding handler_resolved handler_fault
resolved before h code after e = open_end (ends_open h.steps) refl e
  where
    whole : List Instr
    whole = code ++ map (step_code (length code) h.labels) h.steps

    other : (f : Option LineFault) → f ≡ sooner (label_fault before (length h.steps) h.labels) (jump_fault h.labels h.steps) → ends_open h.steps ≡ false
        → code_or_fault f (code ++ map (step_code (length code) h.labels) h.steps) ≡ Ok after → IsResolved before h code after
    other (Some f) q c e = absurd (cc e)
    other None q c e =
        let n = sooner_none (label_fault before (length h.steps) h.labels) (jump_fault h.labels h.steps) (sym q) in
        record { whole = cc e; closed = c; labels = n.0; jumps = n.1 }

    open_end : (b : Bool) → ends_open h.steps ≡ b → code_or_fault (cond b (fault h.line codes.OpenEnd) (sooner (label_fault before (length h.steps) h.labels) (jump_fault h.labels h.steps)))
        (code ++ map (step_code (length code) h.labels) h.steps) ≡ Ok after → IsResolved before h code after
    open_end true q e = absurd (cc e)
    open_end false q e = other (sooner (label_fault before (length h.steps) h.labels) (jump_fault h.labels h.steps)) refl q e

-- no label stands behind the last instruction
pub labels_below : (before : List Label) (n : ℕ) (ls : List Label) → label_fault before n ls ≡ None → All (λ l. l.place < n) ls
labels_below before n [] h = λ k d lt. absurd (omega arith)
labels_below before n (l ∷ ls) h = named (is_named l.name before) (labels_below (before ++ l ∷ []) n ls) h
  where
    lost : (label_fault (before ++ l ∷ []) n ls ≡ None → All (λ x. x.place < n) ls) → (b : Bool) → leb n l.place ≡ b
        → cond b (fault l.line codes.LostLabel) (label_fault (before ++ l ∷ []) n ls) ≡ None → All (λ x. x.place < n) (l ∷ ls)
    lost rest true q h = absurd (cc h)
    lost rest false q h = all_cons (λ x. x.place < n) l ls (leb-false n l.place q) (rest h)

    named : (b : Bool) → (label_fault (before ++ l ∷ []) n ls ≡ None → All (λ x. x.place < n) ls)
        → cond b (fault l.line codes.DoubledLabel) (cond (leb n l.place) (fault l.line codes.LostLabel) (label_fault (before ++ l ∷ []) n ls)) ≡ None → All (λ x. x.place < n) (l ∷ ls)
    named true rest h = absurd (cc h)
    named false rest h = lost rest (leb n l.place) refl h

-- each label that is named is there
jumps_found : (ls : List Label) (ss : List DraftStep) → jump_fault ls ss ≡ None → All (λ s. is_lost ls s.operands ≡ false) ss
jumps_found ls [] h = λ k d lt. absurd (omega arith)
jumps_found ls (s ∷ ss) h = lost (is_lost ls s.operands) (jumps_found ls ss) refl h
  where
    lost : (b : Bool) → (jump_fault ls ss ≡ None → All (λ x. is_lost ls x.operands ≡ false) ss) → is_lost ls s.operands ≡ b → cond b (fault s.line codes.LostLabel) (jump_fault ls ss) ≡ None
        → All (λ x. is_lost ls x.operands ≡ false) (s ∷ ss)
    lost true rest q h = absurd (cc h)
    lost false rest q h = all_cons (λ x. is_lost ls x.operands ≡ false) s ss q (rest h)

found_below : (ls : List Label) (n : ℕ) (name : Option (List ℕ)) → All (λ l. l.place < n) ls → 0 < n → is_missing ls name ≡ false → target_place ls name < n
unfolding place_of
found_below ls n None all some h = some
found_below ls n (Some name) all some h = found (place_from None name ls) refl h
  where
    found : (o : Option ℕ) → place_from None name ls ≡ o → not (is_some o) ≡ false → unwrap_or o 0 < n
    found None q h = absurd (cc h)
    found (Some p) q h = place_from-below n None name ls (λ x e. absurd (cc e)) all p q

in_range : (i : Op) (o : Operands) (x t from to : ℕ) → from ≤ t → t < to → IfSome (target (op_instr i o x t)) (λ y. (from ≤ y) × (y < to))
in_range i o x t from to low high = subst (λ y. IfSome y (λ u. (from ≤ u) × (u < to))) (sym (target_moved i o x t)) (by_target (target (op_instr i o x 0)))
  where
    by_target : (y : Option ℕ) → IfSome (option_map (λ _. t) y) (λ u. (from ≤ u) × (u < to))
    by_target None = tt
    by_target (Some u) = (low, high)

same_op : (i : Op) (o : Operands) (x t : ℕ) → i ≡ op_of (op_instr i o x t)
same_op i o x t = ap (λ (z : Op × Args). z.0) (sym (parts_in i o x t))

pub own_text : (i : Op) (o : Operands) (x t : ℕ) → text_of_instr (op_instr i o x t) ≡ cond (is_some (text_of_instr (op_instr i o x t))) (Some x) None
own_text op.PCreate o x t = refl
own_text _ o x t = refl

text_same : (i : Op) (o : Operands) (x t : ℕ) → IsOfKinds (op_kinds i) o → text_of_instr (op_instr i o x t) ≡ cond (has_text o) (Some x) None
text_same i o x t k =
    let f = shape i o x t k in
    own_text i o x t ∙ ap (λ b. cond b (Some x) None) (sym (ap has_text f.same ∙ has_text_of (op_instr i o x t) f.name f.len))

-- the name of a label and the length of a text matter to no handler
pub unnamed : (q : Part) (ps bs : List PoolRef) (i : Instr) (n : List ℕ) (k : ℕ) → misplaced q ps bs (op_of i) (operands_of i n k) ≡ misplaced q ps bs (op_of i) (operands_of i [] 0)
unnamed q ps bs (instr.PCreate x) n k = refl
unnamed q ps bs _ n k = refl

is_allowed : (q : Part) (ps bs : List PoolRef) (i : Op) (o : Operands) (x t : ℕ) → IsOfKinds (op_kinds i) o → misplaced q ps bs i o ≡ false
    → misplaced q ps bs (op_of (op_instr i o x t)) (operands_of (op_instr i o x t) [] 0) ≡ false
is_allowed q ps bs i o x t k h =
    let form = shape i o x t k in
    let made = op_instr i o x t in
    sym (unnamed q ps bs made form.name form.len) ∙ sym (ap (λ y. misplaced q ps bs y (operands_of made form.name form.len)) (same_op i o x t)) ∙ sym (ap (misplaced q ps bs i) form.same) ∙ h

own_brigade : (n b : ℕ) → b < 8 → (nat_lt b n || (eqb b 8)) ≡ true → nat_lt b n ≡ true
own_brigade n b low h = declared (nat_lt b n) (eqb b 8) (ne_eqb b 8 (λ e. omega arith)) h
  where
    declared : (x y : Bool) → y ≡ false → (x || y) ≡ true → x ≡ true
    declared true y e h = refl
    declared false true e h = absurd (cc e)
    declared false false e h = absurd (cc h)

same_brigades : (a b : Operand) → a ≡ operand.Brigade (operand_index a) → b ≡ operand.Brigade (operand_index b) → same_brigade a b ≡ false → eqb (operand_index a) (operand_index b) ≡ false
same_brigades (operand.Brigade x) (operand.Brigade y) p q h = h
same_brigades (operand.Brigade x) _ p q h = absurd (cc q)
same_brigades _ b p q h = absurd (cc p)

pub brigade_below : (x : Operand) → of_kind kind.Brigade x ≡ true → operand_index x < 8
brigade_below (operand.Brigade b) h = ltb-true b 8 h
brigade_below _ h = absurd (cc h)

-- the tests of an operand that was read
one_fits : (p : Program) (k : OperandKind) (o : Operand) (x t : ℕ) → of_kind k o ≡ true → is_declared (length p.pools) (length p.brigades) o ≡ true
    → (operand_kind_is_text k ≡ true → x < length p.texts) → Every (tests p (arg_in k o x t))
one_fits p kind.Nothing o x t h d w = tt
one_fits p kind.One o x t h d w = tt
one_fits p kind.Ending o x t h d w = tt
one_fits p kind.Label o x t h d w = tt
one_fits p kind.Text o x t h d w = (lt-ltb x (length p.texts) (w refl), tt)
one_fits p kind.Place (operand.Place q) x t h d w = (d, tt)
one_fits p kind.Pool (operand.Place (pool.Own i)) x t h d w = (d, tt)
one_fits p kind.Brigade (operand.Brigade b) x t h d w = (own_brigade (length p.brigades) b (ltb-true b 8 h) d, tt)
one_fits p kind.Source (operand.Brigade b) x t h d w = (d, tt)
one_fits p kind.Variable (operand.Place (pool.Own i)) x t h d w = (d, tt)
one_fits p kind.Variable (operand.Brigade b) x t h d w = (own_brigade (length p.brigades) b (ltb-true b 8 h) d, tt)
one_fits p kind.Number (operand.Value (value.Number i)) x t h d w = (h, tt)
one_fits p kind.Value (operand.Value v) x t h d w = (h, tt)
one_fits p kind.Cursor (operand.Cursor i) x t h d w = (h, tt)
one_fits p kind.KindTest (operand.KindTest k) x t h d w = tt
one_fits p _ _ x t h d w = absurd (cc h)

-- two operands that were read are not one brigade
pair_fits : (k l : OperandKind) (a b : Operand) (x t : ℕ) → of_kind k a ≡ true → of_kind l b ≡ true → same_brigade a b ≡ false → Every (apart (arg_in k a x t) (arg_in l b x t))
pair_fits kind.Brigade kind.Brigade a b x t p q h = (rw (same_brigades a b (brigade_is a p) (brigade_is b q) h) refl, tt)
pair_fits kind.Brigade kind.Source a b x t p q h = (rw (same_brigades a b (brigade_is a p) (source_is b q) h) refl, tt)
pair_fits kind.Source kind.Brigade a b x t p q h = (rw (same_brigades a b (source_is a p) (brigade_is b q) h) refl, tt)
pair_fits kind.Source kind.Source a b x t p q h = (rw (same_brigades a b (source_is a p) (source_is b q) h) refl, tt)
pair_fits _ _ a b x t p q h = tt

text_there : (k : OperandKind) (o : Operand) → of_kind k o ≡ true → operand_kind_is_text k ≡ true → is_text_operand o ≡ true
text_there kind.Text (operand.Text n) h t = refl
text_there kind.Text _ h t = absurd (cc h)
text_there _ o h t = absurd (cc t)

-- the operands of an instruction that was read are declared, its brigades differ, and its text is one of the module
fit : (p : Program) (i : Op) (o : Operands) (x t : ℕ) → IsOfKinds (op_kinds i) o → are_declared (length p.pools) (length p.brigades) o ≡ true → has_equal_brigades o ≡ false
    → (has_text o ≡ true → x < length p.texts) → fits p (op_instr i o x t) ≡ true
fit p i o x t h d a w =
    let k = op_kinds i in
    let declared = is_declared (length p.pools) (length p.brigades) in
    let d1 = and_parts (declared o.first && declared o.second && declared o.third) (declared o.fourth) d in
    let d2 = and_parts (declared o.first && declared o.second) (declared o.third) d1.0 in
    let d3 = and_parts (declared o.first) (declared o.second) d2.0 in
    let a1 = or_parts (same_brigade o.first o.second || same_brigade o.first o.third) (same_brigade o.second o.third) a in
    let a2 = or_parts (same_brigade o.first o.second) (same_brigade o.first o.third) a1.0 in
    ap (λ y. all_of (fit_tests p y)) (args_of_read i o x t) ∙ parts_fit p (args_in k o x t) (record {
      first = one_fits p k.first o.first x t h.first d3.0 (λ e. w (rw (text_there k.first o.first h.first e) refl));
      second = one_fits p k.second o.second x t h.second d3.1
          (λ e. w (second_text (is_text_operand o.first) (is_text_operand o.second) (is_text_operand o.third) (is_text_operand o.fourth) (text_there k.second o.second h.second e)));
      third = one_fits p k.third o.third x t h.third d2.1
          (λ e. w (third_text (is_text_operand o.first || is_text_operand o.second) (is_text_operand o.third) (is_text_operand o.fourth) (text_there k.third o.third h.third e)));
      fourth = one_fits p k.fourth o.fourth x t h.fourth d1.1
          (λ e. w (or_last (is_text_operand o.first || is_text_operand o.second || is_text_operand o.third) (is_text_operand o.fourth) (text_there k.fourth o.fourth h.fourth e)));
      one_two = pair_fits k.first k.second o.first o.second x t h.first h.second a2.0;
      one_three = pair_fits k.first k.third o.first o.third x t h.first h.third a2.1;
      two_three = pair_fits k.second k.third o.second o.third x t h.second h.third a1.1;
    })
  where
    or_last : (a b : Bool) → b ≡ true → (a || b) ≡ true
    or_last true b e = refl
    or_last false b e = e

    third_text : (a b c : Bool) → b ≡ true → (a || b || c) ≡ true
    third_text a b c e = rw (or_last a b e) refl

    second_text : (a b c d : Bool) → b ≡ true → (a || b || c || d) ≡ true
    second_text a b c d e = rw (or_last a b e) refl

number_low : (b : Bool) (x n : ℕ) → IfSome (cond b (Some x) None) (λ t. t < n) → b ≡ true → x < n
number_low true x n h e = h
number_low false x n h e = absurd (cc e)

-- the texts of the code of a handler are those of its lines
code_numbers : (base : ℕ) (ls : List Label) (ps bs : List PoolRef) (q : Part) (steps : List DraftStep) → All (IsDraftStep ps bs q) steps
    → filter_map text_of_instr (map (step_code base ls) steps) ≡ step_numbers steps
unfolding step_code
code_numbers base ls ps bs q [] h = refl
code_numbers base ls ps bs q (s ∷ ss) h =
    let first = all_head (IsDraftStep ps bs q) s ss h in
    rw (text_same s.op s.operands s.text (base + target_place ls (label_of s.operands)) first.kinds, code_numbers base ls ps bs q ss (all_tail (IsDraftStep ps bs q) s ss h)) refl

-- the code of a handler, item by item
step_at : (g : DraftStep → Instr) (h : HandlerLines) (code after rest : List Instr) (pc : ℕ) (i : Instr) → after ≡ code ++ map g h.steps → length code ≤ pc → pc < length after
    → slice_get (after ++ rest) pc ≡ Some i → (s : DraftStep) × (slice_get h.steps (pc - length code) ≡ Some s) × (g s ≡ i)
step_at g h code after rest pc i whole low high e =
    let front = front_item after rest pc high in
    let back = back_item code (map g h.steps) pc low in
    let mapped = slice_get-map g h.steps (pc - length code) in
    mapped_some (slice_get h.steps (pc - length code)) refl (sym mapped ∙ sym back ∙ ap (λ x. slice_get x pc) (sym whole) ∙ sym front ∙ e)
  where
    mapped_some : (o : Option DraftStep) → slice_get h.steps (pc - length code) ≡ o → option_map g o ≡ Some i → (s : DraftStep) × (slice_get h.steps (pc - length code) ≡ Some s) × (g s ≡ i)
    mapped_some None q h = absurd (cc h)
    mapped_some (Some s) q h = (s, q, cc h)

-- a handler of the program, and that its instructions fit
record IsPart (p : Program) (q : Part) (from to : ℕ) : Type 0 where
  handler : IsHandler p q from to
  fitting : (pc : ℕ) (i : Instr) → from ≤ pc → pc < to → slice_get p.code pc ≡ Some i → fits p i ≡ true

-- the last instruction of a handler that does not end open
closed_last : (steps : List DraftStep) → ends_open steps ≡ false → (s : DraftStep) × (slice_get steps (length steps - 1) ≡ Some s) × (op_goes_on s.op ≡ false)
closed_last steps h = last (slice_get steps (length steps - 1)) refl h
  where
    last : (o : Option DraftStep) → slice_get steps (length steps - 1) ≡ o → last_goes_on o ≡ false → (s : DraftStep) × (slice_get steps (length steps - 1) ≡ Some s) × (op_goes_on s.op ≡ false)
    last None q h = absurd (cc h)
    last (Some s) q h = (s, q, h)

part_of : (p : Program) (q : Part) (h : HandlerLines) (before : List Label) (code after rest : List Instr) → p.code ≡ after ++ rest → IsResolved before h code after
    → All (IsDraftStep p.pools p.brigades q) h.steps → All (λ s. IfSome (step_text s) (λ t. t < length p.texts)) h.steps → IsPart p q (length code) (length after)
unfolding step_code
part_of p q h before code after rest whole r all numbers =
    let g = step_code (length code) h.labels in
    let n = length h.steps in
    let size : length after ≡ length code + n = ap length r.whole ∙ length-append code (map g h.steps) ∙ ap (λ x. length code + x) (length-map h.steps g) in
    let last = closed_last h.steps r.closed in
    let some = slice_get_within h.steps (n - 1) last.0 last.1 in
    let below = labels_below before n h.labels r.labels in
    let found = jumps_found h.labels h.steps r.jumps in
    let at = λ (pc : ℕ) (i : Instr) (low : length code ≤ pc) (high : pc < length after) (e : slice_get p.code pc ≡ Some i). step_at g h code after rest pc i r.whole low high
    (ap (λ x. slice_get x pc) (sym whole) ∙ e) in
    record {
      handler = record {
        some = omega arith;
        ends = λ i e.
            let low : length code ≤ length after - 1 = omega arith in
            let high : length after - 1 < length after = omega arith in
            let s = at (length after - 1) i low high e in
            let k : length after - 1 - length code ≡ n - 1 = omega arith in
            let same : last.0 ≡ s.0 = let a : Some last.0 ≡ Some s.0 = sym last.1 ∙ ap (slice_get h.steps) (sym k) ∙ s.1 in cc a in
            ap goes_on (sym s.2) ∙ sym (ap op_goes_on (same_op s.0.op s.0.operands s.0.text (length code + target_place h.labels (label_of s.0.operands))))
            ∙ ap (λ (x : DraftStep). op_goes_on x.op) (sym same) ∙ last.2;
        inside = λ pc i low high e.
            let s = at pc i low high e in
            let fine = item_of (IsDraftStep p.pools p.brigades q) h.steps (pc - length code) s.0 all s.1 in
            let there = item_of (λ x. is_lost h.labels x.operands ≡ false) h.steps (pc - length code) s.0 found s.1 in
            let t = length code + target_place h.labels (label_of s.0.operands) in
            let near = found_below h.labels n (label_of s.0.operands) below (omega arith) there in
            subst (λ x. IsInside p q (length code) (length after) x) s.2 (record {
              target = in_range s.0.op s.0.operands s.0.text t (length code) (length after) (omega arith) (omega arith);
              allowed = is_allowed q p.pools p.brigades s.0.op s.0.operands s.0.text t fine.kinds fine.allowed;
            });
      };
      fitting = λ pc i low high e.
          let s = at pc i low high e in
          let fine = item_of (IsDraftStep p.pools p.brigades q) h.steps (pc - length code) s.0 all s.1 in
          let low = item_of (λ x. IfSome (step_text x) (λ t. t < length p.texts)) h.steps (pc - length code) s.0 numbers s.1 in
          subst (λ x. fits p x ≡ true) s.2 (fit p s.0.op s.0.operands s.0.text (length code + target_place h.labels (label_of s.0.operands)) fine.kinds fine.declared fine.apart
          (number_low (has_text s.0.operands) s.0.text (length p.texts) low));
    }

-- within a handler, an instruction leads to instructions
placed_in : (p : Program) (q : Part) (from to pc : ℕ) (i : Instr) → IsPart p q from to → to ≤ length p.code → from ≤ pc → pc < to → slice_get p.code pc ≡ Some i → IsPlaced p pc i
placed_in p q from to pc i part size low high e = record {
  fit = part.fitting pc i low high e;
  jump = weaker (target i) (part.handler.inside pc i low high e).target;
  next = λ on. later (cases_lt (pc + 1) to) on;
}
  where
    weaker : (o : Option ℕ) → IfSome o (λ t. (from ≤ t) × (t < to)) → IfSome o (λ t. t < length p.code)
    weaker None h = tt
    weaker (Some t) h = let lt = h.1 in omega arith

    later : (pc + 1 < to) ⊎ (to ≤ pc + 1) → goes_on i ≡ true → pc + 1 < length p.code
    later (inl lt) on = omega arith
    later (inr ge) on =
        let last : to - 1 ≡ pc = omega arith in
        absurd (cc (sym on ∙ part.handler.ends i (ap (slice_get p.code) last ∙ e)))

-- the parts of a program that is made of three handlers
module_of_parts : (p : Program) → IsPart p part.Open 0 p.init → IsPart p part.Init p.init p.main → IsPart p part.Main p.main (length p.code) → length p.code ≤ 1024 → length p.brigades ≤ 8
    → length p.pools ≤ 8 → ((k : ℕ) (q : PoolRef) → slice_get p.pools k ≡ Some q → place_is_declared k q ≡ true) → ((k : ℕ) (q : PoolRef) → slice_get p.brigades k ≡ Some q
    → place_is_declared (length p.pools) q ≡ true) → filter_map text_of_instr p.code ≡ range_with_len 0 (length p.texts) → length p.texts ≤ 64 → All (λ t. length t ≤ 255) p.texts
    → All (λ t. All (λ b. b < 256) t) p.texts → IsModule p
module_of_parts p a b c size brigades pools parents homes texts few short bytes =
    let one = a.handler.some in
    let two = b.handler.some in
    let three = c.handler.some in
    record {
      placed = λ pc i e. in_part pc i e (slice_get_within p.code pc i e) (cases_lt pc p.init) (cases_lt pc p.main) (omega arith) (omega arith);
      size = size;
      brigades = brigades;
      opens = omega arith;
      inits = omega arith;
      mains = three;
      pools = pools;
      parents = parents;
      homes = homes;
      texts = texts;
      few = few;
      short = short;
      bytes = bytes;
      opening = a.handler;
      initial = b.handler;
      serving = c.handler;
    }
  where
    in_part : (pc : ℕ) (i : Instr) → slice_get p.code pc ≡ Some i → pc < length p.code → (pc < p.init) ⊎ (p.init ≤ pc) → (pc < p.main) ⊎ (p.main ≤ pc) → p.init ≤ length p.code
        → p.main ≤ length p.code → IsPlaced p pc i
    in_part pc i e lt (inl x) y low high = placed_in p part.Open 0 p.init pc i a low (omega arith) x e
    in_part pc i e lt (inr x) (inl y) low high = placed_in p part.Init p.init p.main pc i b high x y e
    in_part pc i e lt (inr x) (inr y) low high = placed_in p part.Main p.main (length p.code) pc i c (omega arith) y lt e

-- a draft whose handlers are resolved gives a module
pub module_of : (d : Draft) (start a b c : List Instr) → start ≡ [] → IsDraft d → handler_resolved [] d.open start ≡ Ok a → handler_resolved d.open.labels d.init a ≡ Ok b
    → handler_resolved (d.open.labels ++ d.init.labels) d.main b ≡ Ok c → IsModule (program d.pools d.brigades d.texts c (length a) (length b))
module_of d start a b c none s p q r =
    let first = resolved [] d.open start a p in
    let second = resolved d.open.labels d.init a b q in
    let third = resolved (d.open.labels ++ d.init.labels) d.main b c r in
    let m = program d.pools d.brigades d.texts c (length a) (length b) in
    let tail_b = map (step_code (length a) d.init.labels) d.init.steps in
    let tail_c = map (step_code (length b) d.main.labels) d.main.steps in
    let whole_a : c ≡ a ++ (tail_b ++ tail_c) = third.whole ∙ ap (λ x. x ++ tail_c) second.whole ∙ append_assoc a tail_b tail_c in
    let whole_c : c ≡ c ++ [] = sym (append-nil c) in
    let size_a : length a ≡ length d.open.steps =
    ap length first.whole ∙ ap (λ x. length (x ++ map (step_code (length x) d.open.labels) d.open.steps)) none ∙ length-map d.open.steps (step_code 0 d.open.labels) in
    let size_b : length b ≡ length a + length d.init.steps = ap length second.whole ∙ length-append a tail_b ∙ ap (λ x. length a + x) (length-map d.init.steps (step_code (length a) d.init.labels)) in
    let size_c : length c ≡ length b + length d.main.steps = ap length third.whole ∙ length-append b tail_c ∙ ap (λ x. length b + x) (length-map d.main.steps (step_code (length b) d.main.labels)) in
    let n = length d.texts in
    let na = step_numbers d.open.steps in
    let nb = step_numbers d.init.steps in
    let nc = step_numbers d.main.steps in
    let all : AllBelow n (na ++ (nb ++ nc)) = subst (λ x. AllBelow n x) (sym s.texts) (range_below 0 n n (omega arith)) in
    let low_a = numbers_below step_text n d.open.steps (below_front n na (nb ++ nc) all) in
    let low_bc = below_back n na (nb ++ nc) all in
    let low_b = numbers_below step_text n d.init.steps (below_front n nb nc low_bc) in
    let low_c = numbers_below step_text n d.main.steps (below_back n nb nc low_bc) in
    let is_a : filter_map text_of_instr a ≡ na = ap (λ x. filter_map text_of_instr x) (first.whole ∙ ap (λ x. x ++ map (step_code (length x) d.open.labels) d.open.steps) none)
    ∙ code_numbers 0 d.open.labels d.pools d.brigades part.Open d.open.steps s.opening in
    let is_b = code_numbers (length a) d.init.labels d.pools d.brigades part.Init d.init.steps s.init in
    let is_c = code_numbers (length b) d.main.labels d.pools d.brigades part.Main d.main.steps s.main in
    let texts : filter_map text_of_instr c ≡ range_with_len 0 n = ap (λ x. filter_map text_of_instr x) whole_a ∙ filter_map-append text_of_instr a (tail_b ++ tail_c)
    ∙ ap (λ x. filter_map text_of_instr a ++ x) (filter_map-append text_of_instr tail_b tail_c) ∙ rw (is_a, is_b, is_c) s.texts in
    let part_a = part_of m part.Open d.open [] start a (tail_b ++ tail_c) whole_a first s.opening low_a in
    let part_b = part_of m part.Init d.init d.open.labels a b tail_c third.whole second s.init low_b in
    let part_c = part_of m part.Main d.main (d.open.labels ++ d.init.labels) b c [] whole_c third s.main low_c in
    let zero : length start ≡ 0 = ap length none in
    module_of_parts m (rw zero at part_a) part_b part_c (omega (arith, s.count)) s.brigades s.pools s.parents s.homes texts s.few s.short s.bytes
