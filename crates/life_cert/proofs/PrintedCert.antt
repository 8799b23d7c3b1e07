-- The text of a certificate: its lines, of which none has a fault.
use Rattle.std.proofs.Common.{◌≡◌, ℕ, zero, suc, ◌+◌, ◌^◌, ◌<◌, ◌≤◌, Bool, true, false, ◌&&◌, ◌||◌, not, cond, if◌then◌else◌, List, [], ◌∷◌, ◌++◌, length, take, codes, decimal, Option, Some, None, refl, sym, ap}
use Rattle.std.proofs.Common.{subst, ◌∙◌, append_assoc, append-nil, arith, inl, inr, eqb, ne_eqb}
use Rattle.std.specs.Prelude.{nat_eq, nat_lt, IfSome}
use Rattle.std.specs.List.{list_all}
use Rattle.std.specs.Cmp.Lexicographic.{pointwise}
use Rattle.std.proofs.lemmas.Bool.{le-leb, le-ltb, ltb-false, ltb-true}
use Rattle.std.proofs.lemmas.List.{take_all}
use Rattle.byte_text.specs.Bytes.{after_token, all_printable, begins, is_printable}
use Rattle.byte_text.specs.Numbers.{constant_of}
use Rattle.byte_text.specs.TextLines.{lines_from, rest_from}
use Rattle.module_lang.specs.Texts.{joined}
use Rattle.byte_text.proofs.NumberLaws.{constant_again, decimal_begins, decimal_without}
use Rattle.module_lang.proofs.SpellingLaws.{after_again, token_again}
use Rattle.life_state.specs.Form.{IsFormed}
use Rattle.life_state.specs.States.{State}
use Rattle.life_state.proofs.Tests.{split2}
use Rattle.life_check.specs.Certificates.{Certificate}
use Rattle.life_cert.specs.declared.due.Due.TheVariants as due
use Rattle.life_cert.specs.declared.due.CertLine.{CertLine}
use Rattle.life_cert.specs.declared.due.CertLine.TheVariants as line
use Rattle.life_cert.specs.declared.refusal.CertCode.{CertCode}
use Rattle.life_cert.specs.declared.refusal.CertCode.TheVariants as code
use Rattle.life_cert.specs.StateText.{each}
use Rattle.life_check.specs.declared.version.CertVersion.{CertVersion}
use Rattle.life_check.specs.declared.version.CertVersion.TheVariants as version
use Rattle.life_check.specs.Versions.{is_in_range}
use Rattle.byte_text.specs.Numbers.{decimal_below}
use Rattle.life_cert.specs.CertText.{first_line, vars_line, code_line, between_line, cert_text, earlier, first_with, is_two, pc_line, said, said_by, said_line, state_or_none}
use Rattle.life_cert.specs.Reading.{Before, HasCertLineCode, HasState, IsPrinted, IsSaid, IsWritable, CertLinesHaveCode, at_begin, due_line, goes_on, is_over, left_by, with_said}
use Rattle.life_cert.specs.Drafts.{SaysState, told_below, told_so_far}
use Rattle.life_cert.proofs.RepeatLaws.{found_at, none_told}
use Rattle.life_cert.proofs.SaidLaws.{TellStates, is_said, left_said}
use Rattle.life_cert.proofs.DraftLaws.{right}
use Rattle.life_cert.proofs.PrintedStates.{IsClean, both, decimal_clean, plain, state_clean}
use Rattle.life_cert.proofs.TextLengths.{printed_is_short, range_there}

-- The lines.
abbrev pub more_lines : ℕ → Option (List ℕ) → List (List ℕ) → List (List ℕ)
more_lines pc None ls = ls
more_lines pc (Some text) ls = (decimal pc ++ (32 ∷ text)) ∷ ls

abbrev pub pc_lines : Bool → (ℕ → Option State) → ℕ → ℕ → List (List ℕ)
pc_lines two at pc zero = codes "end" ∷ []
pc_lines two at pc (suc n) = more_lines pc (said two at pc (at pc)) (pc_lines two at (pc + 1) n)

-- the first line
abbrev pub head_line : Bool → Bool → List ℕ
head_line false false = codes "cert 1"
head_line false true = codes "slim 1"
head_line true false = codes "cert 2 full"
head_line true true = codes "cert 2 slim"

-- the shape, in front of these lines
abbrev pub with_shape : CertVersion → List (List ℕ) → List (List ℕ)
with_shape version.One ls = ls
with_shape (version.Two p b n) ls = (codes "vars" ++ (32 ∷ (decimal p ++ (32 ∷ decimal b)))) ∷ ((codes "code" ++ (32 ∷ decimal n)) ∷ ls)

abbrev pub state_lines : Bool → Certificate → List (List ℕ)
state_lines two c = (codes "idle" ++ (32 ∷ state_or_none c.idle)) ∷ ((codes "ready" ++ (32 ∷ state_or_none c.ready)) ∷ pc_lines two c.at 0 c.lines)

abbrev pub cert_lines : CertVersion → Bool → Certificate → List (List ℕ)
cert_lines v slim c = head_line (is_two v) slim ∷ with_shape v (state_lines (is_two v) c)

lines_joined : (two : Bool) (at : ℕ → Option State) (pc n : ℕ) → joined (pc_lines two at pc n) ≡ each pc n (pc_line two at) ++ codes "end\n"
unfolding each
lines_joined two at pc zero = refl
lines_joined two at pc (suc n) = by (said two at pc (at pc)) (lines_joined two at (pc + 1) n)
  where
    rest : List ℕ
    rest = each (pc + 1) n (pc_line two at)

    by : (o : Option (List ℕ)) → joined (pc_lines two at (pc + 1) n) ≡ rest ++ codes "end\n" → joined (more_lines pc o (pc_lines two at (pc + 1) n)) ≡ (said_line pc o ++ rest) ++ codes "end\n"
    by None others = others
    by (Some text) others =
        let line = decimal pc ++ (32 ∷ text) in
        let same : said_line pc (Some text) ≡ line ++ 10 ∷ [] = sym (append_assoc (decimal pc) (32 ∷ text) (10 ∷ [])) in
        ap (λ t. line ++ 10 ∷ t) others
        ∙ sym (append_assoc (said_line pc (Some text)) rest (codes "end\n") ∙ ap (λ t. t ++ (rest ++ codes "end\n")) same ∙ append_assoc line (10 ∷ []) (rest ++ codes "end\n"))

head_concat : (two slim : Bool) (x y : List ℕ) → x ≡ y → head_line two slim ++ (10 ∷ x) ≡ first_line two slim ++ y
head_concat false false x y e = ap (λ t. codes "cert 1\n" ++ t) e
head_concat false true x y e = ap (λ t. codes "slim 1\n" ++ t) e
head_concat true false x y e = ap (λ t. codes "cert 2 full\n" ++ t) e
head_concat true true x y e = ap (λ t. codes "cert 2 slim\n" ++ t) e

shape_joined : (v : CertVersion) (ls : List (List ℕ)) (y : List ℕ) → joined ls ≡ y → joined (with_shape v ls) ≡ (vars_line v ++ code_line v) ++ y
shape_joined version.One ls y e = e
shape_joined (version.Two p b n) ls y e =
    let vars = codes "vars" ++ (32 ∷ (decimal p ++ (32 ∷ decimal b))) in
    let code = codes "code" ++ (32 ∷ decimal n) in
    let first : vars ++ 10 ∷ [] ≡ vars_line (version.Two p b n) = ap (λ t. codes "vars " ++ t) (append_assoc (decimal p) (32 ∷ decimal b) (10 ∷ [])) in
    ap (λ t. vars ++ 10 ∷ (code ++ 10 ∷ t)) e
    ∙ sym (append_assoc vars (10 ∷ []) (code ++ 10 ∷ y))
    ∙ ap (λ t. t ++ (code ++ 10 ∷ y)) first
    ∙ ap (λ t. vars_line (version.Two p b n) ++ t) (sym (append_assoc code (10 ∷ []) y))
    ∙ sym (append_assoc (vars_line (version.Two p b n)) (code_line (version.Two p b n)) y)

states_joined : (two : Bool) (c : Certificate) → joined (state_lines two c) ≡ between_line (codes "idle ") c.idle ++ (between_line (codes "ready ") c.ready ++ (each 0 c.lines (pc_line two c.at) ++ codes "end\n"))
states_joined two c =
    let i = state_or_none c.idle in
    let r = state_or_none c.ready in
    let ls = joined (pc_lines two c.at 0 c.lines) in
    ap (λ t. codes "idle " ++ (i ++ 10 ∷ (codes "ready " ++ (r ++ 10 ∷ t)))) (lines_joined two c.at 0 c.lines)
    ∙ ap (λ t. codes "idle " ++ (i ++ 10 ∷ (codes "ready " ++ t))) (sym (append_assoc r (codes "\n") (each 0 c.lines (pc_line two c.at) ++ codes "end\n")))
    ∙ ap (λ t. codes "idle " ++ t) (sym (append_assoc i (codes "\n") (between_line (codes "ready ") c.ready ++ (each 0 c.lines (pc_line two c.at) ++ codes "end\n"))))

pub cert_joined : (v : CertVersion) (slim : Bool) (c : Certificate) → joined (cert_lines v slim c) ≡ cert_text v slim c
unfolding cert_text
cert_joined v slim c =
    let rest = between_line (codes "idle ") c.idle ++ (between_line (codes "ready ") c.ready ++ (each 0 c.lines (pc_line (is_two v) c.at) ++ codes "end\n")) in
    head_concat (is_two v) slim (joined (with_shape v (state_lines (is_two v) c))) ((vars_line v ++ code_line v) ++ rest) (shape_joined v (state_lines (is_two v) c) rest (states_joined (is_two v) c))
    ∙ sym (append_assoc (first_line (is_two v) slim) (vars_line v ++ code_line v) rest)

abbrev pub AreClean : List (List ℕ) → Type 0
AreClean [] = Unit {0}
AreClean (l ∷ ls) = IsClean l × AreClean ls

-- Lines that are joined are found again.
one_line : (cur l rest : List ℕ) → list_all is_printable l ≡ true → (lines_from cur (l ++ 10 ∷ rest) ≡ (cur ++ l) ∷ lines_from [] rest) × (rest_from cur (l ++ 10 ∷ rest) ≡ rest_from [] rest)
one_line cur [] rest h = (ap (λ x. x ∷ lines_from [] rest) (sym (append-nil cur)), refl)
one_line cur (b ∷ bs) rest h =
    let a = split2 (is_printable b) (list_all is_printable bs) h in
    let apart : eqb b 10 ≡ false = ne_eqb b 10 (λ e. absurd (cc (sym a.0 ∙ ap is_printable e))) in
    let more = one_line (cur ++ b ∷ []) bs rest a.1 in (
      ap (λ (x : Bool). cond x (cur ∷ lines_from [] (bs ++ 10 ∷ rest)) (lines_from (cur ++ b ∷ []) (bs ++ 10 ∷ rest))) apart ∙ more.0 ∙ ap (λ x. x ∷ lines_from [] rest) (append_assoc cur (b ∷ []) bs),
      ap (λ (x : Bool). cond x (rest_from [] (bs ++ 10 ∷ rest)) (rest_from (cur ++ b ∷ []) (bs ++ 10 ∷ rest))) apart ∙ more.1,
    )

lines_found : (ls : List (List ℕ)) → AreClean ls → (lines_from [] (joined ls) ≡ ls) × (rest_from [] (joined ls) ≡ [])
lines_found [] h = (refl, refl)
lines_found (l ∷ ls) h =
    let one = one_line [] l (joined ls) h.0.clean in
    let more = lines_found ls h.1 in
    (one.0 ∙ ap (λ x. l ∷ x) more.0, one.1 ∙ more.1)

or_none_clean : (o : Option State) → IfSome o IsFormed → IsClean (state_or_none o)
or_none_clean None h = plain (codes "none") refl
or_none_clean (Some s) h = state_clean s h

-- the instruction of a state has a number below 1024
low_pc : (c : Certificate) (h : IsWritable c) (pc : ℕ) (s : State) → c.at pc ≡ Some s → pc < 1024
low_pc c h pc s e = by (nat_lt pc 1024) refl
  where
    by : (x : Bool) → nat_lt pc 1024 ≡ x → pc < 1024
    by true k = ltb-true pc 1024 k
    by false k = let gone = h.few pc (ltb-false pc 1024 k) in absurd (cc (gone, e))

head_clean : (two slim : Bool) → IsClean (head_line two slim)
head_clean false false = plain (codes "cert 1") refl
head_clean false true = plain (codes "slim 1") refl
head_clean true false = plain (codes "cert 2 full") refl
head_clean true true = plain (codes "cert 2 slim") refl

small_clean : (n : ℕ) → n ≤ 1024 → IsClean (decimal n)
small_clean n low = decimal_clean n (omega (arith, low))

vars_clean : (p b : ℕ) → p ≤ 8 → b ≤ 8 → IsClean (codes "vars" ++ (32 ∷ (decimal p ++ (32 ∷ decimal b))))
vars_clean p b low few =
    both (codes "vars ") (decimal p ++ (32 ∷ decimal b)) (plain (codes "vars ") refl)
    (both (decimal p) (32 ∷ decimal b) (small_clean p (omega (arith, low))) (both (codes " ") (decimal b) (plain (codes " ") refl) (small_clean b (omega (arith, few)))))

code_clean : (n : ℕ) → n ≤ 1024 → IsClean (codes "code" ++ (32 ∷ decimal n))
code_clean n low = both (codes "code ") (decimal n) (plain (codes "code ") refl) (small_clean n low)

said_clean : (m : Option ℕ) (at : ℕ → Option State) (pc : ℕ) (s : State) → first_with at pc s ≡ m → pc < 1024 → IsFormed s → IsClean (said_by m s)
said_clean None at pc s e low f = state_clean s f
said_clean (Some m) at pc s e low f =
    let found = found_at at pc s m e in
    let below = found.below in
    both (codes "same ") (decimal m) (plain (codes "same ") refl) (small_clean m (omega (arith, below, low)))

earlier_clean : (two : Bool) (at : ℕ → Option State) (pc : ℕ) (s : State) → pc < 1024 → IsFormed s → IsClean (said_by (earlier two at pc s) s)
earlier_clean true at pc s low f = said_clean (first_with at pc s) at pc s refl low f
earlier_clean false at pc s low f = state_clean s f

line_clean : (pc : ℕ) (text : List ℕ) → pc < 1024 → IsClean text → IsClean (decimal pc ++ (32 ∷ text))
line_clean pc text low h = both (decimal pc) (32 ∷ text) (small_clean pc (omega (arith, low))) (both (codes " ") text (plain (codes " ") refl) h)

module _ (two : Bool) (c : Certificate) (h : IsWritable c) where
  pcs_clean : (pc n : ℕ) → AreClean (pc_lines two c.at pc n)
  pcs_clean pc zero = (plain (codes "end") refl, tt)
  pcs_clean pc (suc n) = by (c.at pc) refl (h.at pc) (pcs_clean (pc + 1) n)
    where
      by : (o : Option State) → c.at pc ≡ o → IfSome o IsFormed → AreClean (pc_lines two c.at (pc + 1) n) → AreClean (more_lines pc (said two c.at pc o) (pc_lines two c.at (pc + 1) n))
      by None e formed others = others
      by (Some s) e formed others =
          let low = low_pc c h pc s e in
          (line_clean pc (said_by (earlier two c.at pc s) s) low (earlier_clean two c.at pc s low formed), others)

  states_clean : AreClean (state_lines two c)
  states_clean = (
    both (codes "idle ") (state_or_none c.idle) (plain (codes "idle ") refl) (or_none_clean c.idle h.idle),
    (both (codes "ready ") (state_or_none c.ready) (plain (codes "ready ") refl) (or_none_clean c.ready h.ready), pcs_clean 0 c.lines),
  )

shape_clean : (v : CertVersion) (ls : List (List ℕ)) → is_in_range v ≡ true → AreClean ls → AreClean (with_shape v ls)
shape_clean version.One ls named others = others
shape_clean (version.Two p b n) ls named others = let low = range_there p b n named in (vars_clean p b low.0 low.1, (code_clean n low.3, others))

pub lines_clean : (v : CertVersion) (slim : Bool) (c : Certificate) → is_in_range v ≡ true → IsWritable c → AreClean (cert_lines v slim c)
lines_clean v slim c named h = (head_clean (is_two v) slim, shape_clean v (state_lines (is_two v) c) named (states_clean (is_two v) c h))

-- No line of these has a fault, where the lines before leave this.
abbrev pub LinesFaultless : Before → List (List ℕ) → Type 0
LinesFaultless w ls = (n m : ℕ) (k : CertCode) → CertLinesHaveCode false w n ls m k → ⊥

no_faults : (w : Before) (l : List ℕ) (ls : List (List ℕ)) (x : CertLine) → IsClean l → due_line w.due l ≡ Some x → HasState w x (after_token l) → LinesFaultless (left_by w (Some x) (after_token l)) ls
    → LinesFaultless w (l ∷ ls)
unfolding all_printable
no_faults w l ls x clean is has more n m k (inl f) = right w l x clean.clean is has k f.1
no_faults w l ls x clean is has more n m k (inr f) =
    more (n + 1) m k (subst (λ (u : Before). CertLinesHaveCode false u (n + 1) ls m k) (ap (λ (o : Option CertLine). left_by w o (after_token l)) is) f)

none_after : (w : Before) → w.due ≡ due.Nothing → LinesFaultless w []
none_after w at n m code.BadByte h = cc (h.1)
none_after w at n m code.NotDue h = let over : is_over w.due ≡ true = ap is_over at in cc (h.1, over)
none_after w at n m code.NotState h = h.1

-- a line that begins with a number is not `end`
not_end : (ds r : List ℕ) → begins 101 ds ≡ false → pointwise nat_eq (ds ++ (32 ∷ r)) (codes "end") ≡ false
not_end [] r h = refl
not_end (d ∷ ds) r h = ap (λ (b : Bool). b && pointwise nat_eq (ds ++ (32 ∷ r)) (codes "nd")) h

head_due : (two slim : Bool) → due_line due.Header (head_line two slim) ≡ Some (line.Header two slim)
unfolding due_line
head_due false false = refl
head_due false true = refl
head_due true false = refl
head_due true true = refl

number_again : (k : ℕ) → k < 2 ^ 32 → decimal_below (2 ^ 32) (decimal k) ≡ Some k
unfolding constant_of
number_again k low = constant_again k low

vars_due_there : (p b : ℕ) → p ≤ 8 → b ≤ 8 → due_line due.Vars (codes "vars" ++ (32 ∷ (decimal p ++ (32 ∷ decimal b)))) ≡ Some (line.Vars p b)
unfolding due_line
vars_due_there p b low few =
    let small : p < 2 ^ 32 = omega (arith, low) in
    let few_small : b < 2 ^ 32 = omega (arith, few) in
    let r = decimal p ++ (32 ∷ decimal b) in
    let word = token_again (codes "vars") (32 ∷ r) refl refl in
    let behind = after_again (codes "vars") (32 ∷ r) refl refl in
    let first = token_again (decimal p) (32 ∷ decimal b) (decimal_without 32 p refl small) refl in
    let second = after_again (decimal p) (32 ∷ decimal b) (decimal_without 32 p refl small) refl in
    rw (word, behind, first, second, number_again p small, number_again b few_small, le-leb p 8 low, le-leb b 8 few) refl

code_due_there : (n : ℕ) → 1 ≤ n → n ≤ 1024 → due_line due.Code (codes "code" ++ (32 ∷ decimal n)) ≡ Some (line.Code n)
unfolding due_line
code_due_there n some few =
    let small : n < 2 ^ 32 = omega (arith, few) in
    let word = token_again (codes "code") (32 ∷ decimal n) refl refl in
    let behind = after_again (codes "code") (32 ∷ decimal n) refl refl in
    rw (word, behind, number_again n small, le-leb 1 n some, le-leb n 1024 few) refl

pc_is_due : (next pc : ℕ) (r : List ℕ) → next ≤ pc → pc < 1024 → due_line (due.States next) (decimal pc ++ (32 ∷ r)) ≡ Some (line.Instruction pc)
unfolding due_line constant_of
pc_is_due next pc r low high =
    let small : pc < 2 ^ 32 = omega (arith, high) in
    let token_is = token_again (decimal pc) (32 ∷ r) (decimal_without 32 pc refl small) refl in
    rw (not_end (decimal pc) r (decimal_begins 101 pc refl small), token_is, constant_again pc small, le-leb next pc low, le-leb pc 1023 (omega (arith, high))) refl

-- what the lines below a number leave
abbrev before_pc : Bool → (ℕ → Option State) → ℕ → ℕ → Before
before_pc two at next pc = record { due = due.States next; two = two; states = if two then told_below at pc else [] }

module _ (tell : TellStates) (two : Bool) (c : Certificate) (h : IsWritable c) where
  -- the lines below a number, as a certificate
  abbrev below : ℕ → Certificate
  below pc = record { idle = c.idle; ready = c.ready; at = c.at; lines = pc }

  pcs_right : (next pc n : ℕ) → next ≤ pc → LinesFaultless (before_pc two c.at next pc) (pc_lines two c.at pc n)
  unfolding due_line
  pcs_right next pc zero low =
      no_faults (before_pc two c.at next pc) (codes "end") [] line.End (plain (codes "end") refl) refl tt (none_after (left_by (before_pc two c.at next pc) (Some line.End) (after_token (codes "end"))) refl)
  pcs_right next pc (suc n) low = by (c.at pc) refl (h.at pc) (pcs_right next (pc + 1) n (omega (arith, low))) (pcs_right (pc + 1) (pc + 1) n (omega arith))
    where
      by : (o : Option State) → c.at pc ≡ o → IfSome o IsFormed → LinesFaultless (before_pc two c.at next (pc + 1)) (pc_lines two c.at (pc + 1) n)
          → LinesFaultless (before_pc two c.at (pc + 1) (pc + 1)) (pc_lines two c.at (pc + 1) n) → LinesFaultless (before_pc two c.at next pc) (more_lines pc (said two c.at pc o) (pc_lines two c.at (pc + 1) n))
      by None e formed same others =
          let none : told_below c.at (pc + 1) ≡ told_below c.at pc = none_told c.at pc 1 (λ k from to. (let at : k ≡ pc = omega (arith, from, to) in ap c.at at ∙ e)) in
          subst (λ (xs : List (ℕ × List ℕ)). LinesFaultless (record { due = due.States next; two = two; states = if two then xs else [] }) (pc_lines two c.at (pc + 1) n)) none same
      by (Some s) e formed same others =
          let high = low_pc c h pc s e in
          let text = said_by (earlier two c.at pc s) s in
          let w = before_pc two c.at next pc in
          let rest_is : after_token (decimal pc ++ (32 ∷ text)) ≡ 32 ∷ text = after_again (decimal pc) (32 ∷ text) (decimal_without 32 pc refl (omega (arith, high))) refl in
          let says : SaysState two (below pc) (32 ∷ text) s = (formed, refl) in
          let has : IsSaid two (told_so_far two (below pc)) (after_token (decimal pc ++ (32 ∷ text))) =
          subst (λ (t : List ℕ). IsSaid two (told_so_far two (below pc)) t) (sym rest_is) (is_said tell (below pc) h.at two (32 ∷ text) s says) in
          let left : (if two then told_below c.at (pc + 1) else []) ≡ with_said two pc (after_token (decimal pc ++ (32 ∷ text))) (told_so_far two (below pc)) =
          left_said tell (below pc) h.at two pc (32 ∷ text) s c.at says e refl refl ∙ ap (λ (t : List ℕ). with_said two pc t (told_so_far two (below pc))) (sym rest_is) in
          no_faults w (decimal pc ++ (32 ∷ text)) (pc_lines two c.at (pc + 1) n) (line.Instruction pc) (line_clean pc text high (earlier_clean two c.at pc s high formed)) (pc_is_due next pc text low high) has
          (subst (λ (xs : List (ℕ × List ℕ)). LinesFaultless (record { due = due.States (pc + 1); two = two; states = xs }) (pc_lines two c.at (pc + 1) n)) left others)

  abbrev at_idle : Before
  at_idle = record { due = due.Idle; two = two; states = [] }

  abbrev at_ready : Before
  at_ready = record { due = due.Ready; two = two; states = [] }

  none_below : (b : Bool) → (if b then told_below c.at 0 else []) ≡ []
  unfolding told_below
  none_below true = refl
  none_below false = refl

  states_right : LinesFaultless at_idle (state_lines two c)
  unfolding due_line
  states_right =
      let i = state_or_none c.idle in
      let r = state_or_none c.ready in
      let idle_is : due_line due.Idle (codes "idle" ++ (32 ∷ i)) ≡ Some line.Idle = rw (token_again (codes "idle") (32 ∷ i) refl refl) refl in
      let ready_is : due_line due.Ready (codes "ready" ++ (32 ∷ r)) ≡ Some line.Ready = rw (token_again (codes "ready") (32 ∷ r) refl refl) refl in
      let clean = states_clean two c h in
      let third = pc_lines two c.at 0 c.lines in
      let second = (codes "ready" ++ (32 ∷ r)) ∷ third in
      no_faults at_idle (codes "idle" ++ (32 ∷ i)) second line.Idle clean.0 idle_is (c.idle, (h.idle, after_again (codes "idle") (32 ∷ i) refl refl))
      (no_faults at_ready (codes "ready" ++ (32 ∷ r)) third line.Ready clean.1.0 ready_is (c.ready, (h.ready, after_again (codes "ready") (32 ∷ r) refl refl))
      (subst (λ (xs : List (ℕ × List ℕ)). LinesFaultless (record { due = due.States 0; two = two; states = xs }) third) (none_below two) (pcs_right 0 0 c.lines (omega arith))))

lines_right : (tell : TellStates) (v : CertVersion) (slim : Bool) (c : Certificate) → is_in_range v ≡ true → IsWritable c → LinesFaultless at_begin (cert_lines v slim c)
lines_right tell version.One slim c named h =
    no_faults at_begin (head_line false slim) (state_lines false c) (line.Header false slim) (head_clean false slim) (head_due false slim) tt (states_right tell false c h)
lines_right tell (version.Two p b n) slim c named h =
    let low = range_there p b n named in
    let vars = codes "vars" ++ (32 ∷ (decimal p ++ (32 ∷ decimal b))) in
    let code = codes "code" ++ (32 ∷ decimal n) in
    let third = state_lines true c in
    no_faults at_begin (head_line true slim) (vars ∷ (code ∷ third)) (line.Header true slim) (head_clean true slim) (head_due true slim) tt
    (no_faults (record { due = due.Vars; two = true; states = [] }) vars (code ∷ third) (line.Vars p b) (vars_clean p b low.0 low.1) (vars_due_there p b low.0 low.1) tt
    (no_faults (record { due = due.Code; two = true; states = [] }) code third (line.Code n) (code_clean n low.3) (code_due_there n low.2 low.3) tt (states_right tell true c h)))

-- What was printed has no fault.
pub no_fault : TellStates → (text : List ℕ) (v : CertVersion) (slim : Bool) (c : Certificate) (n : ℕ) (k : CertCode) → IsPrinted text v slim c → HasCertLineCode text n k → ⊥
no_fault tell text v slim c n k p f =
    let small = printed_is_short text v slim c p in
    let cut : take 4194304 text ≡ joined (cert_lines v slim c) = take_all 4194304 text small ∙ p.whole ∙ sym (cert_joined v slim c) in
    let found = lines_found (cert_lines v slim c) (lines_clean v slim c p.named p.writable) in
    let lines : lines_from [] (take 4194304 text) ≡ cert_lines v slim c = ap (λ t. lines_from [] t) cut ∙ found.0 in
    let over : goes_on text ≡ false =
    ap (λ (r : List ℕ). nat_lt 4194304 (length text) || not (eqb (length r) 0)) (ap (λ t. rest_from [] t) cut ∙ found.1) ∙ ap (λ (b : Bool). b || false) (le-ltb 4194304 (length text) small) in
    lines_right tell v slim c p.named p.writable 1 n k
    (subst (λ (b : Bool). CertLinesHaveCode b at_begin 1 (cert_lines v slim c) n k) over (subst (λ (ls : List (List ℕ)). CertLinesHaveCode (goes_on text) at_begin 1 ls n k) lines f))
