-- Two certificates with one text have the same states: so what was printed is what is read.
use Rattle.std.proofs.Common.{◌≡◌, ℕ, zero, suc, ◌+◌, ◌<◌, ◌≤◌, Bool, true, false, List, [], ◌∷◌, ◌++◌, length, codes, decimal, Option, Some, None, refl, sym, ap, ◌∙◌, append_assoc, arith, ⊎_elim}
use Rattle.std.specs.Prelude.{nat_lt, IfErr, IfOk, IfSome, MatchResult, Result, Ok, Err, slice_get}
use Rattle.std.specs.List.{list_all}
use Rattle.std.proofs.Common.{◌&&◌, ap₂, eqb, not, subst}
use Rattle.std.proofs.lemmas.Bool.{cases_eq, eq-eqb, ltb-false, ltb-true}
use Rattle.std.proofs.lemmas.Fmt.{decimal_injective}
use Rattle.std.proofs.lemmas.List.{append_cancel_left}
use Rattle.std.proofs.lemmas.Option.{slice_get_past}
use Rattle.byte_text.specs.Bytes.{begins, token}
use Rattle.byte_text.proofs.NumberLaws.{decimal_begins, decimal_without}
use Rattle.module_lang.proofs.SpellingLaws.{token_again}
use Rattle.life_state.specs.Form.{IsFormed}
use Rattle.life_state.specs.States.{State}
use Rattle.life_check.specs.Certificates.{Certificate}
use Rattle.life_check.specs.declared.cert.Cert.{Cert}
use Rattle.life_check.specs.Seen.{seen_cert, seen_line}
use Rattle.life_cert.specs.declared.refusal.CertRefusal.{CertRefusal}
use Rattle.life_cert.specs.declared.refusal.CertRefusal.TheVariants.{Fault, NoMemory}
use Rattle.life_cert.specs.StateText.{each, sent_text, state_text}
use Rattle.life_check.specs.declared.version.CertVersion.{CertVersion}
use Rattle.life_check.specs.declared.version.CertVersion.TheVariants as version
use Rattle.life_check.specs.Versions.{is_in_range}
use Rattle.life_cert.specs.StateFromText.{starts}
use Rattle.life_cert.specs.CertText.{first_line, vars_line, code_line, between_line, cert_text, earlier, is_again, is_two, pc_line, said, said_by, said_line, state_or_none}
use Rattle.life_cert.proofs.RepeatLaws.{AllFormed, found_at, same_state}
use Rattle.life_cert.proofs.SaidLaws.{TellStates, no_same}
use Rattle.life_cert.specs.Reading.{HaveSameStates, IsCertificate, IsPrinted, IsCertText, IsReported, IsWritable}
use Rattle.life_cert.proofs.OneState.{read_as, state_back}
use Rattle.life_cert.proofs.PrintedCert.{no_fault}
use Rattle.life_cert.proofs.StateReading.{from_pools, parts}
use Rattle.life_cert.proofs.TextLengths.{all_lines, range_there}

-- A state, or none, before the end of a line.
one_state_line : (s t : State) (m n : List ℕ) → IsFormed s → IsFormed t → state_text s ++ (10 ∷ m) ≡ state_text t ++ (10 ∷ n) → (s ≡ t) × (m ≡ n)
one_state_line s t m n f g e =
    let same : s ≡ t = sym (state_back s f (10 ∷ m) refl) ∙ ap read_as e ∙ state_back t g (10 ∷ n) refl in
    let rest = append_cancel_left (state_text t) (10 ∷ m) (10 ∷ n) (ap (λ (x : State). state_text x ++ (10 ∷ m)) (sym same) ∙ e) in
    (same, cc rest)

no_state_none : (s : State) (m n : List ℕ) → IsFormed s → state_text s ++ (10 ∷ m) ≡ codes "none" ++ n → ⊥
no_state_none s m n f e = by s.sent (sym (parts s f (10 ∷ m) refl) ∙ e)
  where
    by : (b : Bool) → sent_text b ++ from_pools s f (10 ∷ m) refl ≡ codes "none" ++ n → ⊥
    by true k = let e : false ≡ true = ap (begins 110) k in cc e
    by false k = let e : false ≡ true = ap (begins 110) k in cc e

one_or_none : (o p : Option State) (m n : List ℕ) → IfSome o IsFormed → IfSome p IsFormed → state_or_none o ++ (10 ∷ m) ≡ state_or_none p ++ (10 ∷ n) → (o ≡ p) × (m ≡ n)
one_or_none None None m n f g e = (refl, cc (append_cancel_left (codes "none") (10 ∷ m) (10 ∷ n) e))
one_or_none None (Some t) m n f g e = absurd (no_state_none t n (10 ∷ m) g (sym e))
one_or_none (Some s) None m n f g e = absurd (no_state_none s m (10 ∷ n) f e)
one_or_none (Some s) (Some t) m n f g e = let both = one_state_line s t m n f g e in (ap (λ (x : State). (let o : Option State = Some x in o)) both.0, both.1)

one_between : (w : List ℕ) (o p : Option State) (m n : List ℕ) → IfSome o IsFormed → IfSome p IsFormed → between_line w o ++ m ≡ between_line w p ++ n → (o ≡ p) × (m ≡ n)
one_between w o p m n f g e =
    one_or_none o p m n f g (sym (append_assoc (state_or_none o) (codes "\n") m) ∙ append_cancel_left w ((state_or_none o ++ codes "\n") ++ m) ((state_or_none p ++ codes "\n") ++ n)
    (sym (append_assoc w (state_or_none o ++ codes "\n") m) ∙ e ∙ append_assoc w (state_or_none p ++ codes "\n") n) ∙ append_assoc (state_or_none p) (codes "\n") n)

-- The lines of instructions.
abbrev pub pcs : Bool → (ℕ → Option State) → ℕ → ℕ → List ℕ
pcs two at pc n = each pc n (pc_line two at) ++ codes "end\n"

pcs_next : (two : Bool) (at : ℕ → Option State) (pc n : ℕ) → pcs two at pc (suc n) ≡ pc_line two at pc ++ pcs two at (pc + 1) n
unfolding each
pcs_next two at pc n = append_assoc (pc_line two at pc) (each (pc + 1) n (pc_line two at)) (codes "end\n")

some_line : (pc : ℕ) (text m : List ℕ) → said_line pc (Some text) ++ m ≡ decimal pc ++ (32 ∷ (text ++ (10 ∷ m)))
some_line pc text m = append_assoc (decimal pc) (32 ∷ (text ++ codes "\n")) m ∙ ap (λ t. decimal pc ++ (32 ∷ t)) (append_assoc text (codes "\n") m)

-- a number in front of a space tells itself
one_number : (a b : ℕ) (x y : List ℕ) → a < 1024 → b < 1024 → decimal a ++ (32 ∷ x) ≡ decimal b ++ (32 ∷ y) → a ≡ b
one_number a b x y low high e =
    let one = token_again (decimal a) (32 ∷ x) (decimal_without 32 a refl (omega (arith, low))) refl in
    let two = token_again (decimal b) (32 ∷ y) (decimal_without 32 b refl (omega (arith, high))) refl in
    decimal_injective a b (omega (arith, low)) (omega (arith, high)) (sym one ∙ ap token e ∙ two)

-- so does one in front of the end of a line
digits_end : (ds es x y : List ℕ) → list_all (λ b. not (eqb b 10)) ds ≡ true → list_all (λ b. not (eqb b 10)) es ≡ true → ds ++ (10 ∷ x) ≡ es ++ (10 ∷ y) → (ds ≡ es) × (x ≡ y)
digits_end [] [] x y f g e = (refl, cc e)
digits_end [] (b ∷ bs) x y f g e = let same : 10 ≡ b = cc e in let no = eq-eqb b 10 (sym same) in cc (no, g)
digits_end (b ∷ bs) [] x y f g e = let same : b ≡ 10 = cc e in let no = eq-eqb b 10 same in cc (no, f)
digits_end (b ∷ bs) (d ∷ ds) x y f g e =
    let first : b ≡ d = cc e in
    let rest : bs ++ (10 ∷ x) ≡ ds ++ (10 ∷ y) = cc e in
    let more = digits_end bs ds x y (after (eqb b 10) (list_all (λ b. not (eqb b 10)) bs) f) (after (eqb d 10) (list_all (λ b. not (eqb b 10)) ds) g) rest in
    (ap₂ (λ (h : ℕ) (t : List ℕ). h ∷ t) first more.0, more.1)
  where
    after : (p q : Bool) → (not p && q) ≡ true → q ≡ true
    after false q h = h
    after true q h = cc h

one_end : (a b : ℕ) (x y : List ℕ) → a < 1024 → b < 1024 → decimal a ++ (10 ∷ x) ≡ decimal b ++ (10 ∷ y) → (a ≡ b) × (x ≡ y)
one_end a b x y low high e =
    let both = digits_end (decimal a) (decimal b) x y (decimal_without 10 a refl (omega (arith, low))) (decimal_without 10 b refl (omega (arith, high))) e in
    (decimal_injective a b (omega (arith, low)) (omega (arith, high)) both.0, both.1)

no_end : (ds m : List ℕ) → begins 101 ds ≡ false → codes "end\n" ≡ ds ++ (32 ∷ m) → ⊥
no_end [] m h e = let is : true ≡ false = ap (begins 101) e in cc is
no_end (d ∷ ds) m h e = let is : true ≡ begins 101 (d ∷ ds) = ap (begins 101) e in cc (is, h)

last_pcs : (two : Bool) (at : ℕ → Option State) (pc : ℕ) → pcs two at pc 0 ≡ codes "end\n"
unfolding each
last_pcs two at pc = refl

-- the first of the lines has another number
other_number : (k pc : ℕ) (m r : List ℕ) (o : Option (List ℕ)) → k < pc → pc < 1024 → said_line pc o ++ r ≡ decimal k ++ (32 ∷ m) → (r ≡ decimal k ++ (32 ∷ m) → ⊥) → ⊥
other_number k pc m r None low high e others = others e
other_number k pc m r (Some text) low high e others =
    let same = one_number pc k (text ++ (10 ∷ r)) m high (omega (arith, low, high)) (sym (some_line pc text r) ∙ e) in
    omega (arith, same, low)

-- a number that is not there does not begin the lines
no_number : (k : ℕ) (m : List ℕ) (two : Bool) (at : ℕ → Option State) (n pc : ℕ) → k < pc → pc + n ≤ 1024 → pcs two at pc n ≡ decimal k ++ (32 ∷ m) → ⊥
no_number k m two at zero pc low high e = no_end (decimal k) m (decimal_begins 101 k refl (omega (arith, low, high))) (sym (last_pcs two at pc) ∙ e)
no_number k m two at (suc n) pc low high e =
    other_number k pc m (pcs two at (pc + 1) n) (said two at pc (at pc)) low (omega (arith, high)) (sym (pcs_next two at pc n) ∙ e)
    (no_number k m two at n (pc + 1) (omega (arith, low)) (omega (arith, high)))

no_start : (s : State) (x : List ℕ) → starts (codes "same ") (state_text s ++ x) ≡ false
no_start s x = no_same s x

-- the word that stands for a state is not one
no_word : (s : State) (m x y : List ℕ) → state_text s ++ x ≡ (codes "same " ++ m) ++ y → ⊥
no_word s m x y e = let is : false ≡ true = sym (no_start s x) ∙ ap (starts (codes "same ")) e in cc is

-- the line that has the state of this one
said_at : (two : Bool) (at : ℕ → Option State) → AllFormed at → (pc : ℕ) (s : State) (m : ℕ) → IsFormed s → earlier two at pc s ≡ Some m → (m < pc) × (at m ≡ Some s)
said_at false at f pc s m h e = cc e
said_at true at f pc s m h e = let found = found_at at pc s m e in (found.below, there (at m) refl found.again)
  where
    there : (o : Option State) → at m ≡ o → is_again s (at m) ≡ true → at m ≡ Some s
    there None p again = cc (p, again)
    there (Some t) p again =
        let ft : IsFormed t = subst (λ (o : Option State). IfSome o IsFormed) p (f m) in
        let same : s ≡ t = same_state s t h ft (subst (λ (o : Option State). is_again s o ≡ true) p again) in
        p ∙ ap (λ (z : State). (let o : Option State = Some z in o)) (sym same)

module _ (two : Bool) (at bt : ℕ → Option State) (f : AllFormed at) (g : AllFormed bt) where
  -- what is said of two states, where the lines before say the same
  one_said : (pc : ℕ) (s t : State) (a b : Option ℕ) (m r : List ℕ) → pc < 1024 → ((k : ℕ) → k < pc → at k ≡ bt k) → IsFormed s → IsFormed t → earlier two at pc s ≡ a → earlier two bt pc t ≡ b
      → said_by a s ++ (10 ∷ m) ≡ said_by b t ++ (10 ∷ r) → (s ≡ t) × (m ≡ r)
  one_said pc s t None None m r high same h k p q e = one_state_line s t m r h k e
  one_said pc s t None (Some j) m r high same h k p q e = absurd (no_word s (decimal j) (10 ∷ m) (10 ∷ r) e)
  one_said pc s t (Some i) None m r high same h k p q e = absurd (no_word t (decimal i) (10 ∷ r) (10 ∷ m) (sym e))
  one_said pc s t (Some i) (Some j) m r high same h k p q e =
      let at_i = said_at two at f pc s i h p in
      let bt_j = said_at two bt g pc t j k q in
      let low = at_i.0 in
      let low_j = bt_j.0 in
      let rest : decimal i ++ (10 ∷ m) ≡ decimal j ++ (10 ∷ r) = append_cancel_left (codes "same ") (decimal i ++ (10 ∷ m)) (decimal j ++ (10 ∷ r)) e in
      let both = one_end i j m r (omega (arith, low, high)) (omega (arith, low_j, high)) rest in
      let is : Some s ≡ Some t = sym at_i.1 ∙ ap at both.0 ∙ same j low_j ∙ bt_j.1 in
      (cc is, both.1)

  -- the first of the lines, and those behind it
  one_line : (pc n : ℕ) (o p : Option State) → pc + suc n ≤ 1024 → ((k : ℕ) → k < pc → at k ≡ bt k) → IfSome o IsFormed → IfSome p IsFormed
      → said_line pc (said two at pc o) ++ pcs two at (pc + 1) n ≡ said_line pc (said two bt pc p) ++ pcs two bt (pc + 1) n → (o ≡ p) × (pcs two at (pc + 1) n ≡ pcs two bt (pc + 1) n)
  one_line pc n None None high same h k e = (refl, e)
  one_line pc n None (Some t) high same h k e =
      let text = said_by (earlier two bt pc t) t in
      absurd (no_number pc (text ++ (10 ∷ pcs two bt (pc + 1) n)) two at n (pc + 1) (omega arith) (omega (arith, high)) (e ∙ some_line pc text (pcs two bt (pc + 1) n)))
  one_line pc n (Some s) None high same h k e =
      let text = said_by (earlier two at pc s) s in
      absurd (no_number pc (text ++ (10 ∷ pcs two at (pc + 1) n)) two bt n (pc + 1) (omega arith) (omega (arith, high)) (sym e ∙ some_line pc text (pcs two at (pc + 1) n)))
  one_line pc n (Some s) (Some t) high same h k e =
      let m = pcs two at (pc + 1) n in
      let r = pcs two bt (pc + 1) n in
      let x = said_by (earlier two at pc s) s in
      let y = said_by (earlier two bt pc t) t in
      let behind : 32 ∷ (x ++ (10 ∷ m)) ≡ 32 ∷ (y ++ (10 ∷ r)) =
      append_cancel_left (decimal pc) (32 ∷ (x ++ (10 ∷ m))) (32 ∷ (y ++ (10 ∷ r))) (sym (some_line pc x m) ∙ e ∙ some_line pc y r) in
      let both = one_said pc s t (earlier two at pc s) (earlier two bt pc t) m r (omega (arith, high)) same h k refl refl (cc behind) in
      (ap (λ (z : State). (let o : Option State = Some z in o)) both.0, both.1)

  one_each : (n pc : ℕ) → pc + n ≤ 1024 → ((k : ℕ) → k < pc → at k ≡ bt k) → pcs two at pc n ≡ pcs two bt pc n → (i : ℕ) → i < pc + n → at i ≡ bt i
  one_each zero pc high same e i below = same i (omega (arith, below))
  one_each (suc n) pc high same e i below =
      let both = one_line pc n (at pc) (bt pc) (omega (arith, high)) same (f pc) (g pc) (sym (pcs_next two at pc n) ∙ e ∙ pcs_next two bt pc n) in
      one_each n (pc + 1) (omega (arith, high))
      (λ k low. ⊎_elim (λ (is : k ≡ pc). ap at is ∙ both.0 ∙ ap bt (sym is)) (λ (ne : k ≡ pc → ⊥). same k (omega (arith, low, ne))) (cases_eq k pc))
      both.1 i (omega (arith, below))

at_pc : (two : Bool) (c d : Certificate) → IsWritable c → IsWritable d → pcs two c.at 0 1024 ≡ pcs two d.at 0 1024 → (pc : ℕ) (x : Bool) → nat_lt pc 1024 ≡ x → c.at pc ≡ d.at pc
at_pc two c d f g e pc true low = let below = ltb-true pc 1024 low in one_each two c.at d.at f.at g.at 1024 0 (omega arith) (λ k none. absurd (omega (arith, none))) e pc (omega (arith, below))
at_pc two c d f g e pc false high = let past = ltb-false pc 1024 high in f.few pc past ∙ sym (g.few pc past)

-- The first lines tell themselves.

one_first : (a b s t : Bool) (x y : List ℕ) → first_line a s ++ x ≡ first_line b t ++ y → (a ≡ b) × (s ≡ t) × (x ≡ y)
one_first false false false false x y e = (refl, refl, append_cancel_left (codes "cert 1\n") x y e)
one_first false false true true x y e = (refl, refl, append_cancel_left (codes "slim 1\n") x y e)
one_first true true false false x y e = (refl, refl, append_cancel_left (codes "cert 2 full\n") x y e)
one_first true true true true x y e = (refl, refl, append_cancel_left (codes "cert 2 slim\n") x y e)
one_first false false true false x y e = let no : false ≡ true = ap (starts (codes "cert 1")) e in cc no
one_first false false false true x y e = let no : true ≡ false = ap (starts (codes "cert 1")) e in cc no
one_first true true true false x y e = let no : false ≡ true = ap (starts (codes "cert 2 full")) e in cc no
one_first true true false true x y e = let no : true ≡ false = ap (starts (codes "cert 2 full")) e in cc no
one_first false true false false x y e = let no : true ≡ false = ap (starts (codes "cert 1")) e in cc no
one_first false true false true x y e = let no : true ≡ false = ap (starts (codes "cert 1")) e in cc no
one_first false true true false x y e = let no : true ≡ false = ap (starts (codes "slim 1")) e in cc no
one_first false true true true x y e = let no : true ≡ false = ap (starts (codes "slim 1")) e in cc no
one_first true false false false x y e = let no : false ≡ true = ap (starts (codes "cert 1")) e in cc no
one_first true false true false x y e = let no : false ≡ true = ap (starts (codes "cert 1")) e in cc no
one_first true false false true x y e = let no : false ≡ true = ap (starts (codes "slim 1")) e in cc no
one_first true false true true x y e = let no : false ≡ true = ap (starts (codes "slim 1")) e in cc no

one_short : (a b : ℕ) (x y : List ℕ) → a ≤ 1024 → b ≤ 1024 → decimal a ++ (10 ∷ x) ≡ decimal b ++ (10 ∷ y) → (a ≡ b) × (x ≡ y)
one_short a b x y low high e =
    let both = digits_end (decimal a) (decimal b) x y (decimal_without 10 a refl (omega (arith, low))) (decimal_without 10 b refl (omega (arith, high))) e in
    (decimal_injective a b (omega (arith, low)) (omega (arith, high)) both.0, both.1)

-- the shape tells itself
one_shape : (v w : CertVersion) (x y : List ℕ) → is_in_range v ≡ true → is_in_range w ≡ true → is_two v ≡ is_two w → (vars_line v ++ code_line v) ++ x ≡ (vars_line w ++ code_line w) ++ y → (v ≡ w) × (x ≡ y)
one_shape version.One version.One x y h k two e = (refl, e)
one_shape version.One (version.Two p b n) x y h k two e = cc two
one_shape (version.Two p b n) version.One x y h k two e = cc two
one_shape (version.Two p b n) (version.Two q d m) x y h k two e =
    let low = range_there p b n h in
    let high = range_there q d m k in
    let few = low.0 in
    let few_other = high.0 in
    let pools : decimal p ++ (32 ∷ (decimal b ++ (10 ∷ (codes "code " ++ (decimal n ++ (10 ∷ x)))))) ≡ decimal q ++ (32 ∷ (decimal d ++ (10 ∷ (codes "code " ++ (decimal m ++ (10 ∷ y)))))) =
    append_cancel_left (codes "vars ") _ _ (sym (flat p b n x) ∙ e ∙ flat q d m y) in
    let first : p ≡ q = one_number p q _ _ (omega (arith, few)) (omega (arith, few_other)) pools in
    let behind = append_cancel_left (decimal q) _ _ (ap (λ (i : ℕ). decimal i ++ (32 ∷ (decimal b ++ (10 ∷ (codes "code " ++ (decimal n ++ (10 ∷ x))))))) (sym first) ∙ pools) in
    let few_b = low.1 in
    let few_d = high.1 in
    let second = one_short b d _ _ (omega (arith, few_b)) (omega (arith, few_d)) (cc behind) in
    let third = one_short n m x y low.3 high.3 (append_cancel_left (codes "code ") _ _ second.1) in
    (two_is first second.0 third.0, third.1)
  where
    flat : (p b n : ℕ) (x : List ℕ) → (vars_line (version.Two p b n) ++ code_line (version.Two p b n)) ++ x
        ≡ codes "vars " ++ (decimal p ++ (32 ∷ (decimal b ++ (10 ∷ (codes "code " ++ (decimal n ++ (10 ∷ x)))))))
    flat p b n x =
        append_assoc (vars_line (version.Two p b n)) (code_line (version.Two p b n)) x
        ∙ ap (λ t. codes "vars " ++ t) (append_assoc (decimal p) (32 ∷ (decimal b ++ codes "\n")) (code_line (version.Two p b n) ++ x)
        ∙ ap (λ t. decimal p ++ (32 ∷ t)) (append_assoc (decimal b) (codes "\n") (code_line (version.Two p b n) ++ x)
        ∙ ap (λ t. decimal b ++ (10 ∷ (codes "code " ++ t))) (append_assoc (decimal n) (codes "\n") x)))

    two_is : {p b n q d m : ℕ} → p ≡ q → b ≡ d → n ≡ m → version.Two p b n ≡ version.Two q d m
    two_is e f g = λ i. version.Two (e i) (f i) (g i)

pub one_cert : (v w : CertVersion) (s t : Bool) (c d : Certificate) → is_in_range v ≡ true → is_in_range w ≡ true → IsWritable c → IsWritable d → cert_text v s c ≡ cert_text w t d
    → (v ≡ w) × (s ≡ t) × HaveSameStates c d
unfolding cert_text
one_cert v w s t c d named known f g e =
    let ct = each 0 c.lines (pc_line (is_two v) c.at) ++ codes "end\n" in
    let dt = each 0 d.lines (pc_line (is_two w) d.at) ++ codes "end\n" in
    let cr = between_line (codes "ready ") c.ready ++ ct in
    let dr = between_line (codes "ready ") d.ready ++ dt in
    let ci = between_line (codes "idle ") c.idle ++ cr in
    let di = between_line (codes "idle ") d.idle ++ dr in
    let first = one_first (is_two v) (is_two w) s t ((vars_line v ++ code_line v) ++ ci) ((vars_line w ++ code_line w) ++ di)
    (sym (append_assoc (first_line (is_two v) s) (vars_line v ++ code_line v) ci) ∙ e ∙ append_assoc (first_line (is_two w) t) (vars_line w ++ code_line w) di) in
    let shape = one_shape v w ci di named known first.0 first.2 in
    let idle = one_between (codes "idle ") c.idle d.idle cr dr f.idle g.idle shape.1 in
    let ready = one_between (codes "ready ") c.ready d.ready ct dt f.ready g.ready idle.1 in
    let whole : pcs (is_two v) c.at 0 c.lines ≡ pcs (is_two v) d.at 0 d.lines = ready.1 ∙ ap (λ (b : Bool). pcs b d.at 0 d.lines) (sym first.0) in
    let lines : pcs (is_two v) c.at 0 1024 ≡ pcs (is_two v) d.at 0 1024 =
    sym (ap (λ t. t ++ codes "end\n") (all_lines (is_two v) c f)) ∙ whole ∙ ap (λ t. t ++ codes "end\n") (all_lines (is_two v) d g) in
    (shape.0, first.1, record { idle = idle.0; ready = ready.0; at = λ pc. at_pc (is_two v) c d f g lines pc (nat_lt pc 1024) refl })

-- what the reader gives may be printed
pub seen_writable : (r : Cert) → IsCertificate (seen_cert r) → IsWritable (seen_cert r)
seen_writable r h =
    let gone : (pc : ℕ) → length r.at.items ≤ pc → seen_line (slice_get r.at.items pc) ≡ None = λ pc past. ap seen_line (slice_get_past r.at.items pc past) in
    let few = h.few in
    record { idle = h.idle; ready = h.ready; at = h.at; none = gone; few = λ pc high. gone pc (omega (arith, few, high)) }

-- What was printed is read again.
pub read_again : TellStates → (text : List ℕ) (r : Result Cert CertRefusal) → IfOk r (λ x. IsCertText text x.version x.slim (seen_cert x)) → IfErr r (λ e. IsReported text e) → (v : CertVersion) (slim : Bool) (c : Certificate)
    → IsPrinted text v slim c → MatchResult r (λ x. (x.version ≡ v) × (x.slim ≡ slim) × HaveSameStates (seen_cert x) c) (λ e. e ≡ NoMemory)
read_again tell text (Ok x) is told v slim c p = one_cert x.version v x.slim slim (seen_cert x) c is.named p.named (seen_writable x is.sound) p.writable (sym is.whole ∙ p.whole)
read_again tell text (Err (Fault n k)) is told v slim c p = absurd (no_fault tell text v slim c n k p told.fits)
read_again tell text (Err NoMemory) is told v slim c p = refl

-- as the reader of lines tells it
pub read_short : TellStates → (text : List ℕ) (r : Result Cert CertRefusal) → IfOk r (λ x. (false ≡ false) × IsCertText text x.version x.slim (seen_cert x)) → IfErr r (λ e. IsReported text e)
    → (v : CertVersion) (slim : Bool) (c : Certificate) → IsPrinted text v slim c → MatchResult r (λ x. (x.version ≡ v) × (x.slim ≡ slim) × HaveSameStates (seen_cert x) c) (λ e. e ≡ NoMemory)
read_short tell text (Ok x) is told v slim c p = read_again tell text (Ok x) is.1 told v slim c p
read_short tell text (Err e) is told v slim c p = read_again tell text (Err e) is told v slim c p
