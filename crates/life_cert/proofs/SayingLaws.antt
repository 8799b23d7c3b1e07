-- Which state a line says, or that it says none.
use Rattle.std.proofs.Common.{◌≡◌, ℕ, ◌^◌, ◌<◌, ◌≤◌, Bool, true, false, List, [], ◌∷◌, ◌++◌, length, codes, decimal, Option, Some, None, is_some, IfSome, refl, sym, ap, subst, ◌∙◌, append-nil, inl, inr, arith}
use Rattle.std.proofs.Common.{eqb}
use Rattle.std.proofs.lemmas.Bool.{eqb-true}
use Rattle.std.proofs.lemmas.Fmt.{decimal_injective}
use Rattle.std.proofs.lemmas.List.{append_cancel_left}
use Rattle.byte_text.specs.Numbers.{constant_of, decimal_below}
use Rattle.byte_text.proofs.NumberLaws.{constant_again, constant_found}
use Rattle.life_state.specs.Form.{IsFormed}
use Rattle.life_state.specs.States.{State}
use Rattle.life_state.proofs.Tests.{split2}
use Rattle.life_check.specs.Certificates.{Certificate}
use Rattle.life_cert.specs.declared.draft.CertDraft.{CertDraft}
use Rattle.life_cert.specs.declared.due.Due.{Due}
use Rattle.life_cert.specs.declared.due.Due.TheVariants as due
use Rattle.life_cert.specs.declared.refusal.CertCode.TheVariants as code
use Rattle.life_cert.specs.declared.refusal.CertRefusal.{CertRefusal}
use Rattle.life_cert.specs.declared.refusal.CertRefusal.TheVariants.{Fault, NoMemory}
use Rattle.life_cert.specs.StateFromText.{behind, past, starts}
use Rattle.life_cert.specs.StateText.{state_text}
use Rattle.life_cert.specs.CertText.{first_with, is_again, said_by}
use Rattle.life_cert.specs.Reading.{IsState, has_number, has_text}
use Rattle.life_cert.specs.Drafts.{Counts, IsCertDraft, IsNoState, IsSameNumber, NoStateIsIn, NoneIsSaid, SaysState, seen_draft, told_below}
use Rattle.life_cert.proofs.OneState.{one_state}
use Rattle.life_cert.proofs.RepeatLaws.{SaysAt, found_stays, is_itself, number_told, text_told}
use Rattle.life_cert.proofs.SaidLaws.{no_same}
use Rattle.life_cert.proofs.StateWords.{past_found}

-- The number behind `same`.

starts_there : (w t : List ℕ) → starts w t ≡ true → t ≡ w ++ behind w t
starts_there [] t h = refl
starts_there (x ∷ xs) [] h = cc h
starts_there (x ∷ xs) (y ∷ ys) h =
    let both = split2 (eqb y x) (starts xs ys) h in
    ap (λ (z : ℕ). z ∷ ys) (eqb-true y x both.0) ∙ ap (λ t. x ∷ t) (starts_there xs ys both.1)

-- it is there
pub same_found : (rest left : List ℕ) (m : ℕ) → starts (codes " same ") rest ≡ true → left ≡ past (codes " same ") rest → decimal_below (2 ^ 32) left ≡ Some m → rest ≡ codes " same " ++ decimal m
unfolding constant_of
same_found rest left m there is number =
    starts_there (codes " same ") rest there
    ∙ ap (λ t. codes " same " ++ t) (sym (past_found (codes " same ") rest there) ∙ sym is ∙ (constant_found left m number).0)

-- another word is there
pub no_same_word : (rest : List ℕ) → starts (codes " same ") rest ≡ false → IsSameNumber rest None
no_same_word rest h = λ m low is. (let there : true ≡ false = sym (ap (starts (codes " same ")) is) ∙ h in cc there)

-- something else stands behind the word
pub no_same_number : (rest left : List ℕ) → starts (codes " same ") rest ≡ true → left ≡ past (codes " same ") rest → decimal_below (2 ^ 32) left ≡ None → IsSameNumber rest None
unfolding constant_of
no_same_number rest left there is none = λ m low same.
    let text : left ≡ decimal m = is ∙ past_found (codes " same ") rest there ∙ ap (behind (codes " same ")) same in
    let no : None ≡ Some m = sym none ∙ ap (decimal_below (2 ^ 32)) text ∙ constant_again m low in
    cc no

-- What is known of a draft.

small_counts : (u : Due) (n : ℕ) → Counts u n → n ≤ 1024
small_counts due.Header n h = omega (arith, h)
small_counts due.Vars n h = omega (arith, h)
small_counts due.Code n h = omega (arith, h)
small_counts due.Idle n h = omega (arith, h)
small_counts due.Ready n h = omega (arith, h)
small_counts (due.States k) n h = let is = h.0 in let few = h.1 in omega (arith, is, few)
small_counts due.Nothing n h = h

pub few_lines : (d : CertDraft) → IsCertDraft d → length d.at.items ≤ 1024
few_lines d h = small_counts d.due (length d.at.items) h.counts

-- no line of this number says a state
pub untold : (at : ℕ → Option State) (n m : ℕ) → (SaysAt at n m → ⊥) → has_number m (told_below at n) ≡ false
untold at n m never = by (has_number m (told_below at n)) refl
  where
    by : (b : Bool) → has_number m (told_below at n) ≡ b → b ≡ false
    by false e = refl
    by true e = absurd (never (number_told at n m e))

-- why a line says none
pub refused_for : (n : ℕ) (A B : Type 0) (e : CertRefusal) → (A → B) → IsNoState n A e → IsNoState n B e
refused_for n A B (Fault m c) more h = (h.0, (h.1.0, more h.1.1))
refused_for n A B NoMemory more h = tt

pub refused_here : (n : ℕ) (A : Type 0) (e : CertRefusal) → e ≡ Fault n code.NotState → A → IsNoState n A e
refused_here n A e is lacks = subst (λ (x : CertRefusal). IsNoState n A x) (sym is) (refl, (refl, lacks))

module _ (d : CertDraft) (h : IsCertDraft d) where
  abbrev c : Certificate
  c = seen_draft d

  -- neither a state nor the number of a line
  pub none_said : (rest : List ℕ) → IsSameNumber rest None → ((s : State) → IsState rest s → has_text rest (told_below c.at c.lines) ≡ false → ⊥) → NoneIsSaid true c rest
  none_said rest other never (inl x) = never x.0 x.1 x.2
  none_said rest other never (inr x) =
      let says = number_told c.at c.lines x.0 x.2 in
      let low = says.below in
      let few = few_lines d h in
      other x.0 (omega (arith, low, few)) x.1

  pub no_state_said : (rest : List ℕ) → IsSameNumber rest None → NoStateIsIn rest → NoneIsSaid true c rest
  no_state_said rest other never = none_said rest other (λ s is new. never (s, is))

  -- the state stands on an earlier line
  pub old_state : (rest : List ℕ) (s : State) (m : ℕ) → IsSameNumber rest None → IsState rest s → first_with c.at c.lines s ≡ Some m → NoneIsSaid true c rest
  old_state rest s m other here found = none_said rest other (λ t is new. (let told : true ≡ false = sym (ap (λ (o : Option ℕ). is_some o) found) ∙ sym (text_told one_state c.at h.at c.lines s here.0)
      ∙ sym (ap (λ x. has_text x (told_below c.at c.lines)) here.1) ∙ new in cc told))

  pub new_said : (rest : List ℕ) (s : State) → IsState rest s → first_with c.at c.lines s ≡ None → SaysState true c rest s
  new_said rest s here none = (here.0, here.1 ∙ sym (ap (λ (o : Option ℕ). codes " " ++ said_by o s) none))

  -- the line of that number says the state
  pub again_said : (rest : List ℕ) (m : ℕ) (s : State) → rest ≡ codes " same " ++ decimal m → m < c.lines → c.at m ≡ Some s → first_with c.at m s ≡ None → SaysState true c rest s
  again_said rest m s text low here first =
      let formed : IsFormed s = subst (λ (o : Option State). IfSome o IsFormed) here (h.at m) in
      let itself = ap (is_again s) here ∙ is_itself s formed in
      (formed, text ∙ sym (ap (λ (o : Option ℕ). codes " " ++ said_by o s) (found_stays c.at m c.lines s first itself low)))

  -- it says none
  pub no_again : (rest : List ℕ) (m : ℕ) → m < 2 ^ 64 → rest ≡ codes " same " ++ decimal m → has_number m (told_below c.at c.lines) ≡ false → NoneIsSaid true c rest
  no_again rest m small text none (inl x) =
      let start : starts (codes " same ") rest ≡ false = ap (starts (codes " same ")) (x.1.1 ∙ sym (ap (λ t. 32 ∷ t) (append-nil (state_text x.0)))) ∙ no_same x.0 [] in
      let there : true ≡ false = sym (ap (starts (codes " same ")) text) ∙ start in
      cc there
  no_again rest m small text none (inr x) =
      let says = number_told c.at c.lines x.0 x.2 in
      let low = says.below in
      let few = few_lines d h in
      let digits : decimal m ≡ decimal x.0 = append_cancel_left (codes " same ") (decimal m) (decimal x.0) (sym text ∙ x.1) in
      let same : m ≡ x.0 = decimal_injective m x.0 (omega (arith, small)) (omega (arith, low, few)) digits in
      let told : has_number m (told_below c.at c.lines) ≡ true = ap (λ (k : ℕ). has_number k (told_below c.at c.lines)) same ∙ x.2 in
      cc (none, told)
