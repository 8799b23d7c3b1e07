-- What one more line of a certificate text adds.
use Rattle.std.proofs.Common.{◌≡◌, ℕ, ◌+◌, ◌^◌, ◌<◌, ◌≤◌, Bool, true, false, ◌&&◌, List, [], ◌∷◌, ◌++◌, length, replicate, codes, decimal, Option, Some, None, refl, sym, ap, subst, ◌∙◌, append_assoc}
use Rattle.std.proofs.Common.{append-nil, ap₂, arith, cond, drop, eqb, if◌then◌else◌, length-append, not, suc}
use Rattle.std.proofs.lemmas.List.{length-replicate}
use Rattle.std.specs.Prelude.{nat_eq, nat_le, slice_get}
use Rattle.std.specs.Cmp.Lexicographic.{pointwise, same_text}
use Rattle.std.proofs.lemmas.Bool.{eqb-true, leb-true}
use Rattle.byte_text.specs.Bytes.{after_token, all_printable, tail, token, token_len}
use Rattle.byte_text.specs.Numbers.{constant_of, decimal_below}
use Rattle.module_lang.proofs.InverseLaws.{tokens}
use Rattle.module_lang.proofs.SpellingLaws.{Stops}
use Rattle.byte_text.proofs.NumberLaws.{constant_found}
use Rattle.life_state.specs.declared.state.State as code
use Rattle.life_state.specs.Seen.{seen, seen_some}
use Rattle.life_state.specs.States.{State}
use Rattle.life_check.specs.declared.version.CertVersion.{CertVersion}
use Rattle.life_check.specs.declared.version.CertVersion.TheVariants as version
use Rattle.life_check.specs.Certificates.{Certificate}
use Rattle.life_check.specs.Seen.{seen_line}
use Rattle.life_cert.specs.declared.draft.CertDraft.{CertDraft}
use Rattle.life_cert.specs.declared.due.Due.{Due}
use Rattle.life_cert.specs.declared.due.Due.TheVariants as due
use Rattle.life_cert.specs.declared.due.CertLine.{CertLine}
use Rattle.life_cert.specs.declared.due.CertLine.TheVariants as line
use Rattle.life_cert.specs.declared.refusal.CertCode.{CertCode}
use Rattle.life_cert.specs.declared.refusal.CertCode.TheVariants as code_of
use Rattle.life_cert.specs.StateText.{each}
use Rattle.life_cert.specs.CertText.{first_line, vars_line, code_line, head_lines, between_line, cert_text, earlier, is_two, pc_line, said, said_by, said_line, state_or_none}
use Rattle.life_cert.specs.Reading.{Before, header, due_after, due_line, end_or_pc, pc_due, vars, vars_due, count, count_due, where_due, HasCode, HasState, IsStateOrNone}
use Rattle.life_cert.specs.Reading.{LacksState, left_by, states_after, two_after}
use Rattle.life_cert.specs.Drafts.{Counts, IsLineAdded, IsCertDraft, Names, SaysState, before, begun_version, seen_draft, text_so_far, told_below, told_so_far, with_count, with_vars}
use Rattle.life_cert.proofs.Lines.{each_more_line, more_before, more_last, more_none}
use Rattle.life_cert.proofs.SaidLaws.{TellStates, earlier_behind, left_said, line_same, told_behind}

-- What is known of a line that is due.
abbrev pub DueFound : Due → List ℕ → CertLine → Type 0
DueFound d l (line.Header two slim) = (d ≡ due.Header) × (l ++ 10 ∷ [] ≡ first_line two slim)
DueFound d l (line.Vars p b) = (d ≡ due.Vars) × (p ≤ 8) × (b ≤ 8) × (l ++ 10 ∷ [] ≡ vars_line (version.Two p b 1))
DueFound d l (line.Code n) = (d ≡ due.Code) × (1 ≤ n) × (n ≤ 1024) × (l ++ 10 ∷ [] ≡ code_line (version.Two 0 0 n))
DueFound d l line.Idle = (d ≡ due.Idle) × (l ≡ codes "idle" ++ after_token l)
DueFound d l line.Ready = (d ≡ due.Ready) × (l ≡ codes "ready" ++ after_token l)
DueFound d l (line.Instruction pc) = (next : ℕ) × ((d ≡ due.States next) × (next ≤ pc) × (pc < 1024) × (l ≡ decimal pc ++ after_token l))
DueFound d l line.End = (next : ℕ) × ((d ≡ due.States next) × (l ≡ codes "end"))

due_there : (b : Bool) (x y : CertLine) → where_due b x ≡ Some y → (b ≡ true) × (x ≡ y)
due_there true x y h = (refl, cc h)
due_there false x y h = cc h

word_there : (l w : List ℕ) → pointwise nat_eq (token l) w ≡ true → l ≡ w ++ after_token l
word_there l w h = tokens l ∙ ap (λ t. t ++ after_token l) (same_text (token l) w (sym h))

and_there : (a b : Bool) → (a && b) ≡ true → (a ≡ true) × (b ≡ true)
and_there true b h = (refl, h)
and_there false b h = cc h

pc_there : (next : ℕ) (l : List ℕ) (o : Option ℕ) (x : CertLine) → decimal_below (2 ^ 32) (token l) ≡ o → pc_due next o ≡ Some x → DueFound (due.States next) l x
unfolding constant_of
pc_there next l None x e h = cc h
pc_there next l (Some pc) x e h =
    let is = due_there (nat_le next pc && nat_le pc 1023) (line.Instruction pc) x h in
    let both = and_there (nat_le next pc) (nat_le pc 1023) is.0 in
    let low = leb-true next pc both.0 in
    let high = leb-true pc 1023 both.1 in
    let word : l ≡ decimal pc ++ after_token l = tokens l ∙ ap (λ t. t ++ after_token l) (constant_found (token l) pc e).0 in
    subst (DueFound (due.States next) l) is.1 (next, (refl, low, omega (arith, high), word))

end_there : (next : ℕ) (l : List ℕ) (b : Bool) (x : CertLine) → pointwise nat_eq l (codes "end") ≡ b → end_or_pc next l ≡ Some x → DueFound (due.States next) l x
end_there next l true x e h =
    let is : Some line.End ≡ Some x = rw e at h in
    let end : line.End ≡ x = cc is in
    subst (DueFound (due.States next) l) end (next, (refl, same_text l (codes "end") (sym e)))
end_there next l false x e h = pc_there next l (decimal_below (2 ^ 32) (token l)) x refl (rw e at h)

head_is : (l word : List ℕ) (two slim : Bool) (x : CertLine) → word ++ 10 ∷ [] ≡ first_line two slim → pointwise nat_eq l word ≡ true → line.Header two slim ≡ x → DueFound due.Header l x
head_is l word two slim x text e is = subst (DueFound due.Header l) is (refl, ap (λ t. t ++ 10 ∷ []) (same_text l word (sym e)) ∙ text)

head_there : (l : List ℕ) (a b c : Bool) (x : CertLine) → pointwise nat_eq l (codes "slim 1") ≡ a → pointwise nat_eq l (codes "cert 2 full") ≡ b → pointwise nat_eq l (codes "cert 2 slim") ≡ c
    → header l ≡ Some x → DueFound due.Header l x
head_there l true b c x p q r h =
    let is : Some (line.Header false true) ≡ Some x = rw p at h in
    head_is l (codes "slim 1") false true x refl p (cc is)
head_there l false true c x p q r h =
    let is : Some (line.Header true false) ≡ Some x = rw (p, q) at h in
    head_is l (codes "cert 2 full") true false x refl q (cc is)
head_there l false false true x p q r h =
    let is : Some (line.Header true true) ≡ Some x = rw (p, q, r) at h in
    head_is l (codes "cert 2 slim") true true x refl r (cc is)
head_there l false false false x p q r h =
    let is = due_there (pointwise nat_eq l (codes "cert 1")) (line.Header false false) x (rw (p, q, r) at h) in
    head_is l (codes "cert 1") false false x refl is.0 is.1

-- what follows a token is nothing, or begins with a space
after_stops : (l : List ℕ) → Stops (after_token l)
unfolding after_token
after_stops [] = tt
after_stops (b ∷ bs) = by (eqb b 32) refl (after_stops bs)
  where
    by : (x : Bool) → eqb b 32 ≡ x → Stops (drop (token_len bs) bs) → Stops (drop (cond (not x) (1 + token_len bs) 0) (b ∷ bs))
    by true e more = eqb-true b 32 e
    by false e more = let one : 1 + token_len bs ≡ suc (token_len bs) = omega arith in subst (λ (n : ℕ). Stops (drop n (b ∷ bs))) (sym one) more

no_number : (k : ℕ) → decimal_below (2 ^ 32) (token []) ≡ Some k → ⊥
unfolding token decimal_below
no_number k h = cc h

no_number_alone : (k : ℕ) → decimal_below (2 ^ 32) [] ≡ Some k → ⊥
unfolding decimal_below
no_number_alone k h = cc h

space_there : (r : List ℕ) → Stops r → (tail r ≡ [] → ⊥) → r ≡ 32 ∷ tail r
space_there [] s h = absurd (h refl)
space_there (b ∷ bs) s h = ap (λ (x : ℕ). x ∷ bs) s

number_is : (t : List ℕ) (k : ℕ) → decimal_below (2 ^ 32) t ≡ Some k → t ≡ decimal k
unfolding constant_of
number_is t k e = (constant_found t k e).0

vars_there : (l : List ℕ) (b : Bool) (x : CertLine) → pointwise nat_eq (token l) (codes "vars") ≡ b → vars l ≡ Some x → DueFound due.Vars l x
vars_there l false x e h = let none : None ≡ Some x = rw e at h in cc none
vars_there l true x e h = by (decimal_below (2 ^ 32) (token (tail (after_token l)))) refl (decimal_below (2 ^ 32) (tail (after_token (tail (after_token l))))) refl (rw e at h)
  where
    r : List ℕ
    r = tail (after_token l)

    by : (o : Option ℕ) → decimal_below (2 ^ 32) (token r) ≡ o → (q : Option ℕ) → decimal_below (2 ^ 32) (tail (after_token r)) ≡ q → vars_due o q ≡ Some x → DueFound due.Vars l x
    by None p q k i = cc i
    by (Some n) p None k i = cc i
    by (Some n) p (Some m) k i =
        let is = due_there (nat_le n 8 && nat_le m 8) (line.Vars n m) x i in
        let low = and_there (nat_le n 8) (nat_le m 8) is.0 in
        let first : after_token l ≡ 32 ∷ r = space_there (after_token l) (after_stops l) (λ none. no_number n (sym (ap (λ t. decimal_below (2 ^ 32) (token t)) none) ∙ p)) in
        let second : after_token r ≡ 32 ∷ tail (after_token r) = space_there (after_token r) (after_stops r) (λ none. no_number_alone m (sym (ap (decimal_below (2 ^ 32)) none) ∙ k)) in
        let numbers : r ≡ decimal n ++ (32 ∷ decimal m) =
        tokens r ∙ ap₂ (λ (t u : List ℕ). t ++ u) (number_is (token r) n p) (second ∙ ap (λ t. 32 ∷ t) (number_is (tail (after_token r)) m k)) in
        let whole : l ≡ codes "vars " ++ (decimal n ++ (32 ∷ decimal m)) =
        tokens l ∙ ap₂ (λ (t u : List ℕ). t ++ u) (same_text (token l) (codes "vars") (sym e)) (first ∙ ap (λ t. 32 ∷ t) numbers) in
        let text : l ++ 10 ∷ [] ≡ vars_line (version.Two n m 1) =
        ap (λ t. t ++ 10 ∷ []) whole ∙ ap (λ t. codes "vars " ++ t) (append_assoc (decimal n) (32 ∷ decimal m) (10 ∷ [])) in
        subst (DueFound due.Vars l) is.1 (refl, leb-true n 8 low.0, leb-true m 8 low.1, text)

count_there : (l : List ℕ) (b : Bool) (x : CertLine) → pointwise nat_eq (token l) (codes "code") ≡ b → count l ≡ Some x → DueFound due.Code l x
count_there l false x e h = let none : None ≡ Some x = rw e at h in cc none
count_there l true x e h = by (decimal_below (2 ^ 32) (tail (after_token l))) refl (rw e at h)
  where
    by : (o : Option ℕ) → decimal_below (2 ^ 32) (tail (after_token l)) ≡ o → count_due o ≡ Some x → DueFound due.Code l x
    by None p i = cc i
    by (Some n) p i =
        let is = due_there (nat_le 1 n && nat_le n 1024) (line.Code n) x i in
        let low = and_there (nat_le 1 n) (nat_le n 1024) is.0 in
        let first : after_token l ≡ 32 ∷ tail (after_token l) = space_there (after_token l) (after_stops l) (λ none. no_number_alone n (sym (ap (decimal_below (2 ^ 32)) none) ∙ p)) in
        let whole : l ≡ codes "code " ++ decimal n =
        tokens l ∙ ap₂ (λ (t u : List ℕ). t ++ u) (same_text (token l) (codes "code") (sym e)) (first ∙ ap (λ t. 32 ∷ t) (number_is (tail (after_token l)) n p)) in
        subst (DueFound due.Code l) is.1 (refl, leb-true 1 n low.0, leb-true n 1024 low.1, ap (λ t. t ++ 10 ∷ []) whole)

pub found : (d : Due) (l : List ℕ) (x : CertLine) → due_line d l ≡ Some x → DueFound d l x
unfolding due_line
found due.Header l x h = head_there l (pointwise nat_eq l (codes "slim 1")) (pointwise nat_eq l (codes "cert 2 full")) (pointwise nat_eq l (codes "cert 2 slim")) x refl refl refl h
found due.Vars l x h = vars_there l (pointwise nat_eq (token l) (codes "vars")) x refl h
found due.Code l x h = count_there l (pointwise nat_eq (token l) (codes "code")) x refl h
found due.Idle l x h = let is = due_there (pointwise nat_eq (token l) (codes "idle")) line.Idle x h in subst (DueFound due.Idle l) is.1 (refl, word_there l (codes "idle") is.0)
found due.Ready l x h = let is = due_there (pointwise nat_eq (token l) (codes "ready")) line.Ready x h in subst (DueFound due.Ready l) is.1 (refl, word_there l (codes "ready") is.0)
found (due.States next) l x h = end_there next l (pointwise nat_eq l (codes "end")) x refl h
found due.Nothing l x h = cc h

-- no code fits a line that is due and has its state
pub right : (w : Before) (l : List ℕ) (x : CertLine) → all_printable l ≡ true → due_line w.due l ≡ Some x → HasState w x (after_token l) → (c : CertCode) → HasCode w l c → ⊥
right w l x clean is has code_of.BadByte h = cc (clean, h)
right w l x clean is has code_of.NotDue h = cc (is, h)
right w l x clean is has code_of.NotState h = let lacks = subst (λ (o : Option CertLine). LacksState w o (after_token l)) is h in lacks has

before_is : (w v : Before) → w.due ≡ v.due → w.two ≡ v.two → w.states ≡ v.states → w ≡ v
before_is w v due two states = λ i. record { due = due i; two = two i; states = states i }

pub added : (d : CertDraft) (l : List ℕ) (e : CertDraft) (x : CertLine) → all_printable l ≡ true → due_line d.due l ≡ Some x → HasState (before d) x (after_token l) → e.due ≡ due_after x
    → is_two e.version ≡ two_after (is_two d.version) x → told_so_far (is_two e.version) (seen_draft e) ≡ states_after (before d) x (after_token l)
    → text_so_far (due_after x) e.version e.slim (seen_draft e) ≡ text_so_far d.due d.version d.slim (seen_draft d) ++ (l ++ 10 ∷ []) → IsLineAdded d l e
added d l e x clean is has next two states text = record {
  right = right (before d) l x clean is has;
  left = before_is (before e) (left_by (before d) (Some x) (after_token l)) next two states ∙ sym (ap (λ (o : Option CertLine). left_by (before d) o (after_token l)) is);
  text = ap (λ (u : Due). text_so_far u e.version e.slim (seen_draft e)) next ∙ text;
}

-- no line says a state yet
pub none_so_far : (two : Bool) (c : Certificate) → c.lines ≡ 0 → told_so_far two c ≡ []
unfolding told_below
none_so_far true c none = ap (told_below c.at) none
none_so_far false c none = refl

-- The texts, line by line.
abbrev head : CertDraft → List ℕ
head d = head_lines d.version d.slim ++ between_line (codes "idle ") (seen_some d.idle)

abbrev tail_of : CertDraft → List ℕ
tail_of d = each 0 (length d.at.items) (pc_line (is_two d.version) (seen_draft d).at)

pub header_text : (d : CertDraft) (l : List ℕ) (two slim : Bool) (c : Certificate) → d.due ≡ due.Header → l ++ 10 ∷ [] ≡ first_line two slim
    → text_so_far (due_after (line.Header two slim)) (begun_version two) slim c ≡ text_so_far d.due d.version d.slim (seen_draft d) ++ (l ++ 10 ∷ [])
unfolding text_so_far
header_text d l two slim c at is = by two ∙ sym (ap (λ (u : Due). text_so_far u d.version d.slim (seen_draft d) ++ (l ++ 10 ∷ [])) at ∙ is)
  where
    by : (b : Bool) → text_so_far (due_after (line.Header b slim)) (begun_version b) slim c ≡ first_line b slim
    by true = refl
    by false = append-nil (first_line false slim)

pub vars_text : (d : CertDraft) (l : List ℕ) (p b : ℕ) (c : Certificate) → d.due ≡ due.Vars → is_two d.version ≡ true → l ++ 10 ∷ [] ≡ vars_line (version.Two p b 1)
    → text_so_far due.Code (with_vars p b) d.slim c ≡ text_so_far d.due d.version d.slim (seen_draft d) ++ (l ++ 10 ∷ [])
unfolding text_so_far
vars_text d l p b c at two is =
    ap₂ (λ (t u : List ℕ). t ++ u) (sym (ap (λ (x : Bool). first_line x d.slim) two)) (sym is)
    ∙ sym (ap (λ (u : Due). text_so_far u d.version d.slim (seen_draft d) ++ (l ++ 10 ∷ [])) at)

pub count_text : (d : CertDraft) (l : List ℕ) (n : ℕ) (c : Certificate) → d.due ≡ due.Code → is_two d.version ≡ true → l ++ 10 ∷ [] ≡ code_line (version.Two 0 0 n)
    → text_so_far due.Idle (with_count d.version n) d.slim c ≡ text_so_far d.due d.version d.slim (seen_draft d) ++ (l ++ 10 ∷ [])
unfolding text_so_far
count_text d l n c at two is = by d.version refl two ∙ sym (ap (λ (u : Due). text_so_far u d.version d.slim (seen_draft d) ++ (l ++ 10 ∷ [])) at)
  where
    by : (v : CertVersion) → d.version ≡ v → is_two v ≡ true → head_lines (with_count d.version n) d.slim ≡ (first_line (is_two d.version) d.slim ++ vars_line d.version) ++ (l ++ 10 ∷ [])
    by version.One e k = cc k
    by (version.Two p b m) e k =
        ap (λ (v : CertVersion). head_lines (with_count v n) d.slim) e
        ∙ sym (append_assoc (first_line true d.slim) (vars_line (version.Two p b m)) (code_line (version.Two p b n)))
        ∙ ap (λ t. (first_line true d.slim ++ vars_line (version.Two p b m)) ++ t) (sym is)
        ∙ sym (ap (λ (v : CertVersion). (first_line (is_two v) d.slim ++ vars_line v) ++ (l ++ 10 ∷ [])) e)

line_of : (w l : List ℕ) (o : Option State) → l ≡ w ++ after_token l → IsStateOrNone (after_token l) o → l ++ 10 ∷ [] ≡ w ++ (32 ∷ (state_or_none o ++ 10 ∷ []))
line_of w l o is has = ap (λ t. t ++ 10 ∷ []) (is ∙ ap (λ t. w ++ t) has.1) ∙ append_assoc w (32 ∷ state_or_none o) (10 ∷ [])

pub idle_text : (d : CertDraft) (l : List ℕ) (c : Certificate) → d.due ≡ due.Idle → l ≡ codes "idle" ++ after_token l → IsStateOrNone (after_token l) c.idle
    → text_so_far due.Ready d.version d.slim c ≡ text_so_far d.due d.version d.slim (seen_draft d) ++ (l ++ 10 ∷ [])
unfolding text_so_far
idle_text d l c at is has =
    sym (ap (λ (u : Due). text_so_far u d.version d.slim (seen_draft d) ++ (l ++ 10 ∷ [])) at ∙ ap (λ t. head_lines d.version d.slim ++ t) (line_of (codes "idle") l c.idle is has))

pub ready_text : (d : CertDraft) (l : List ℕ) (c : Certificate) → d.due ≡ due.Ready → l ≡ codes "ready" ++ after_token l → IsStateOrNone (after_token l) c.ready → c.idle ≡ seen_some d.idle
    → c.lines ≡ 0 → text_so_far (due.States 0) d.version d.slim c ≡ text_so_far d.due d.version d.slim (seen_draft d) ++ (l ++ 10 ∷ [])
unfolding text_so_far each
ready_text d l c at is has idle none =
    let ready = between_line (codes "ready ") c.ready in
    let lines : ℕ → List ℕ = λ n. each 0 n (pc_line (is_two d.version) c.at) in
    let empty : lines c.lines ≡ [] = ap lines none in
    ap (λ (o : Option State). (head_lines d.version d.slim ++ between_line (codes "idle ") o) ++ (ready ++ lines c.lines)) idle
    ∙ ap (λ t. head d ++ t) (ap (λ t. ready ++ t) empty ∙ append-nil ready)
    ∙ sym (ap (λ (u : Due). text_so_far u d.version d.slim (seen_draft d) ++ (l ++ 10 ∷ [])) at ∙ ap (λ t. head d ++ t) (line_of (codes "ready") l c.ready is has))

regroup : (x r e l : List ℕ) → x ++ (r ++ (e ++ l)) ≡ (x ++ (r ++ e)) ++ l
regroup x r e l = sym (append_assoc x (r ++ e) l ∙ ap (λ t. x ++ t) (append_assoc r e l))

-- A state is added behind lines that have none.
pub record IsAdded (d e : CertDraft) (pc m : ℕ) (s : code.State) : Type 0 where
  pub version : e.version ≡ d.version
  pub slim : e.slim ≡ d.slim
  pub idle : seen_some e.idle ≡ seen_some d.idle
  pub ready : seen_some e.ready ≡ seen_some d.ready
  pub items : e.at.items ≡ (d.at.items ++ replicate m None) ++ Some s ∷ []
  pub long : pc ≡ length d.at.items + m

module _ (d e : CertDraft) (pc m : ℕ) (s : code.State) (h : IsAdded d e pc m s) where
  at_old : (k : ℕ) → k < length d.at.items → (seen_draft e).at k ≡ (seen_draft d).at k
  at_old k low = ap (λ (xs : List (Option code.State)). seen_line (slice_get xs k)) h.items ∙ more_before d.at.items m s k low

  at_none : (k : ℕ) → length d.at.items ≤ k → k < pc → (seen_draft e).at k ≡ None
  at_none k low high = let long = h.long in ap (λ (xs : List (Option code.State)). seen_line (slice_get xs k)) h.items ∙ more_none d.at.items m s k low (omega (arith, high, long))

  pub at_new : (seen_draft e).at pc ≡ Some (seen s)
  at_new = ap (λ (xs : List (Option code.State)). seen_line (slice_get xs pc)) h.items ∙ more_last d.at.items m s pc h.long

  pub count_new : length e.at.items ≡ pc + 1
  count_new =
      let none : Option code.State = None in
      let size : length (d.at.items ++ replicate m none) ≡ length d.at.items + m = length-append d.at.items (replicate m none) ∙ ap (λ (n : ℕ). length d.at.items + n) (length-replicate m none) in
      let long = h.long in
      ap length h.items ∙ length-append (d.at.items ++ replicate m none) (Some s ∷ []) ∙ omega (arith, size, long)

  said_before : earlier (is_two d.version) (seen_draft e).at pc (seen s) ≡ earlier (is_two d.version) (seen_draft d).at (length d.at.items) (seen s)
  said_before = earlier_behind (is_two d.version) (seen_draft d).at (seen_draft e).at (length d.at.items) m pc (seen s) h.long at_old at_none

  pub pc_states : (rest : List ℕ) → TellStates → IsCertDraft d → SaysState (is_two d.version) (seen_draft d) rest (seen s)
      → told_so_far (is_two e.version) (seen_draft e) ≡ states_after (before d) (line.Instruction pc) rest
  pc_states rest tell draft says =
      ap (λ (v : CertVersion). told_so_far (is_two v) (seen_draft e)) h.version
      ∙ ap (λ (n : ℕ). if is_two d.version then told_below (seen_draft e).at n else []) count_new
      ∙ left_said tell (seen_draft d) draft.at (is_two d.version) pc rest (seen s) (seen_draft e).at says at_new said_before
      (told_behind (seen_draft d).at (seen_draft e).at (length d.at.items) m pc h.long at_old at_none)

  pub pc_text : (l : List ℕ) (next : ℕ) → d.due ≡ due.States next → l ≡ decimal pc ++ after_token l → SaysState (is_two d.version) (seen_draft d) (after_token l) (seen s)
      → text_so_far (due.States (pc + 1)) e.version e.slim (seen_draft e) ≡ text_so_far d.due d.version d.slim (seen_draft d) ++ (l ++ 10 ∷ [])
  unfolding text_so_far
  pc_text l next at is says =
      let t = is_two d.version in
      let old = (seen_draft d).at in
      let new = (seen_draft e).at in
      let text = said_by (earlier t old (length d.at.items) (seen s)) (seen s) in
      let whole : l ++ 10 ∷ [] ≡ said_line pc (Some text) = ap (λ x. x ++ 10 ∷ []) (is ∙ ap (λ x. decimal pc ++ x) says.1) ∙ append_assoc (decimal pc) (32 ∷ text) (10 ∷ []) in
      let last : pc_line t new pc ≡ said_line pc (Some text) =
      ap (λ (o : Option State). said_line pc (said t new pc o)) at_new ∙ ap (λ (o : Option ℕ). said_line pc (Some (said_by o (seen s)))) said_before in
      let lines : each 0 (pc + 1) (pc_line t new) ≡ tail_of d ++ (l ++ 10 ∷ []) =
      each_more_line (pc_line t old) (pc_line t new) (length d.at.items) m pc h.long
      (λ i low. line_same t new old i (λ k below. at_old k (omega (arith, low, below))))
      (λ i low high. ap (λ (o : Option State). said_line i (said t new i o)) (at_none i low high))
      ∙ ap (λ x. tail_of d ++ x) (last ∙ sym whole) in
      let r = between_line (codes "ready ") (seen_some d.ready) in
      ap (λ (v : CertVersion). text_so_far (due.States (pc + 1)) v e.slim (seen_draft e)) h.version
      ∙ ap (λ (b : Bool). text_so_far (due.States (pc + 1)) d.version b (seen_draft e)) h.slim
      ∙ ap (λ (o : Option State). (head_lines d.version d.slim ++ between_line (codes "idle ") o) ++ (between_line (codes "ready ") (seen_some e.ready) ++ tail_new t)) h.idle
      ∙ ap (λ (o : Option State). head d ++ (between_line (codes "ready ") o ++ tail_new t)) h.ready
      ∙ ap (λ x. head d ++ (r ++ x)) (ap (λ (n : ℕ). each 0 n (pc_line t new)) count_new ∙ lines)
      ∙ regroup (head d) r (tail_of d) (l ++ 10 ∷ [])
      ∙ sym (ap (λ (u : Due). text_so_far u d.version d.slim (seen_draft d) ++ (l ++ 10 ∷ [])) at)
    where
      tail_new : Bool → List ℕ
      tail_new t = each 0 (length e.at.items) (pc_line t (seen_draft e).at)

pub end_text : (d : CertDraft) (l : List ℕ) (next : ℕ) → d.due ≡ due.States next → l ≡ codes "end"
    → text_so_far due.Nothing d.version d.slim (seen_draft d) ≡ text_so_far d.due d.version d.slim (seen_draft d) ++ (l ++ 10 ∷ [])
unfolding text_so_far cert_text
end_text d l next at is =
    let r = between_line (codes "ready ") (seen_some d.ready) in
    let i = between_line (codes "idle ") (seen_some d.idle) in
    sym (append_assoc (head_lines d.version d.slim) i (r ++ (tail_of d ++ codes "end\n")))
    ∙ regroup (head d) r (tail_of d) (codes "end\n")
    ∙ sym (ap (λ (u : Due). text_so_far u d.version d.slim (seen_draft d) ++ (l ++ 10 ∷ [])) at ∙ ap (λ t. (head d ++ (r ++ tail_of d)) ++ (t ++ 10 ∷ [])) is)

-- The counts of lines, and the version.
pub counts_at : (d : CertDraft) (u : Due) → IsCertDraft d → d.due ≡ u → Counts u (length d.at.items)
counts_at d u h at = subst (λ (v : Due). Counts v (length d.at.items)) at h.counts

pub names_at : (d : CertDraft) (u : Due) → IsCertDraft d → d.due ≡ u → Names u (is_two d.version)
names_at d u h at = subst (λ (v : Due). Names v (is_two d.version)) at h.names
