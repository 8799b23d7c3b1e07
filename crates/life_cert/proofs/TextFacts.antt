-- The facts that words tell, row by row: those of the state whose words they are.
use Rattle.std.proofs.Common.{◌≡◌, ℕ, zero, suc, ◌+◌, ◌<◌, ◌≤◌, Bool, true, false, ◌&&◌, not, ◌==◌, cond, List, refl, sym, ap, subst, ◌∙◌, arith, inl, inr, ⊎_elim}
use Rattle.std.specs.Prelude.{nat_lt, ◌⊎◌}
use Rattle.std.proofs.Math.Path.{fun_ext}
use Rattle.std.proofs.lemmas.Bool.{cases_eq, eqb-false, lt-ltb, ltb-false, ltb-true}
use Rattle.run_model.specs.Indexed.{upd}
use Rattle.run_model.proofs.Updates.{upd_at, upd_either}
use Rattle.life_state.specs.Build.{with_fact}
use Rattle.life_state.specs.Facts.{is_apart, is_set}
use Rattle.life_state.specs.Form.{IsFormed}
use Rattle.life_state.specs.States.{State}
use Rattle.life_state.proofs.Tests.{and2, not_true, split2, split3}
use Rattle.life_cert.specs.StateFromText.{fact_past, fact_word, fold_each, past_each, row_past, starts, told_fact, told_row}
use Rattle.life_cert.proofs.FactTexts.{is_written}

-- c is at another bucket than d
abbrev pub with_one : (ℕ → ℕ → Bool) → ℕ → ℕ → ℕ → ℕ → Bool
with_one f c d = upd f c (upd (f c) d true)

abbrev pub with_both : (ℕ → ℕ → Bool) → ℕ → ℕ → ℕ → ℕ → Bool
with_both f c d = with_one (with_one f c d) d c

one_kept : (f : ℕ → ℕ → Bool) (c d i j : ℕ) → f i j ≡ true → with_one f c d i j ≡ true
one_kept f c d i j h =
    ⊎_elim
    (λ (k : (i ≡ c) × (with_one f c d i ≡ upd (f c) d true)). ap (λ (g : ℕ → Bool). g j) k.1
    ∙ ⊎_elim (λ (l : (j ≡ d) × (upd (f c) d true j ≡ true)). l.1) (λ (l : (j ≡ d → ⊥) × (upd (f c) d true j ≡ f c j)). l.1 ∙ ap (λ (x : ℕ). f x j) (sym k.0) ∙ h) (upd_either (f c) d j true))
    (λ (k : (i ≡ c → ⊥) × (with_one f c d i ≡ f i)). ap (λ (g : ℕ → Bool). g j) k.1 ∙ h)
    (upd_either f c i (upd (f c) d true))

one_at : (f : ℕ → ℕ → Bool) (c d : ℕ) → with_one f c d c d ≡ true
one_at f c d = ap (λ (g : ℕ → Bool). g d) (upd_at f c (upd (f c) d true)) ∙ upd_at (f c) d true

one_only : (f : ℕ → ℕ → Bool) (c d i j : ℕ) → with_one f c d i j ≡ true → (f i j ≡ true) ⊎ ((i ≡ c) × (j ≡ d))
one_only f c d i j h =
    ⊎_elim
    (λ (k : (i ≡ c) × (with_one f c d i ≡ upd (f c) d true)). let here = sym (ap (λ (g : ℕ → Bool). g j) k.1) ∙ h in
    ⊎_elim (λ (l : (j ≡ d) × (upd (f c) d true j ≡ true)). inr (k.0, l.0)) (λ (l : (j ≡ d → ⊥) × (upd (f c) d true j ≡ f c j)). inl (ap (λ (x : ℕ). f x j) k.0 ∙ sym l.1 ∙ here))
    (upd_either (f c) d j true))
    (λ (k : (i ≡ c → ⊥) × (with_one f c d i ≡ f i)). inl (sym (ap (λ (g : ℕ → Bool). g j) k.1) ∙ h))
    (upd_either f c i (upd (f c) d true))

-- what the words from number d on tell of c, and what the rows from number c on tell
unfoldable pub row_facts : ℕ → ℕ → ℕ → List ℕ → (ℕ → ℕ → Bool) → ℕ → ℕ → Bool
row_facts c d zero t f = f
row_facts c d (suc n) t f = row_facts c (d + 1) n (fact_past c d t) (cond (starts (fact_word c d) t) (with_both f c d) f)

unfoldable pub all_facts : ℕ → ℕ → List ℕ → (ℕ → ℕ → Bool) → ℕ → ℕ → Bool
all_facts c zero t f = f
all_facts c (suc n) t f = all_facts (c + 1) n (row_past c t) (row_facts c 0 9 t f)

-- The states that are told differ in their facts alone.
told_one : (c d : ℕ) (t : List ℕ) (s : State) → told_fact c d t s ≡ record s { facts = cond (starts (fact_word c d) t) (with_both s.facts c d) s.facts }
told_one c d t s = by (starts (fact_word c d) t)
  where
    by : (b : Bool) → cond b (with_fact d c (with_fact c d s)) s ≡ record s { facts = cond b (with_both s.facts c d) s.facts }
    by true = refl
    by false = refl

row_told : (c d n : ℕ) (t : List ℕ) (s : State) → fold_each (told_fact c) (fact_past c) d n t s ≡ record s { facts = row_facts c d n t s.facts }
unfolding fold_each row_facts
row_told c d zero t s = refl
row_told c d (suc n) t s =
    let f = cond (starts (fact_word c d) t) (with_both s.facts c d) s.facts in
    ap (fold_each (told_fact c) (fact_past c) (d + 1) n (fact_past c d t)) (told_one c d t s)
    ∙ row_told c (d + 1) n (fact_past c d t) (record s { facts = f })

pub rows_told : (c n : ℕ) (t : List ℕ) (s : State) → fold_each told_row row_past c n t s ≡ record s { facts = all_facts c n t s.facts }
unfolding fold_each all_facts
rows_told c zero t s = refl
rows_told c (suc n) t s =
    let f = row_facts c 0 9 t s.facts in
    ap (fold_each told_row row_past (c + 1) n (row_past c t)) (row_told c 0 9 t s)
    ∙ rows_told (c + 1) n (row_past c t) (record s { facts = f })

-- Facts stay.
step_kept : (c d i j : ℕ) (b : Bool) (f : ℕ → ℕ → Bool) → f i j ≡ true → cond b (with_both f c d) f i j ≡ true
step_kept c d i j true f h = one_kept (with_one f c d) d c i j (one_kept f c d i j h)
step_kept c d i j false f h = h

row_kept : (c d n i j : ℕ) (t : List ℕ) (f : ℕ → ℕ → Bool) → f i j ≡ true → row_facts c d n t f i j ≡ true
unfolding row_facts
row_kept c d zero i j t f h = h
row_kept c d (suc n) i j t f h =
    let g = cond (starts (fact_word c d) t) (with_both f c d) f in
    row_kept c (d + 1) n i j (fact_past c d t) g (step_kept c d i j (starts (fact_word c d) t) f h)

rows_kept : (c n i j : ℕ) (t : List ℕ) (f : ℕ → ℕ → Bool) → f i j ≡ true → all_facts c n t f i j ≡ true
unfolding all_facts
rows_kept c zero i j t f h = h
rows_kept c (suc n) i j t f h = rows_kept (c + 1) n i j (row_past c t) (row_facts c 0 9 t f) (row_kept c 0 9 i j t f h)

-- what the words of a row say, from number d on, and the rows from number c on
abbrev pub RowSays : State → ℕ → ℕ → ℕ → List ℕ → Type 0
RowSays s c d n t = (i : ℕ) → i < n → starts (fact_word c (d + i)) (past_each (fact_past c) d i t) ≡ is_written s c (d + i)

abbrev pub RowsSay : State → ℕ → ℕ → List ℕ → Type 0
RowsSay s c n t = (i : ℕ) → i < n → RowSays s (c + i) 0 9 (past_each row_past c i t)

row_first : (s : State) (c d n : ℕ) (t : List ℕ) → RowSays s c d (suc n) t → starts (fact_word c d) t ≡ is_written s c d
unfolding past_each
row_first s c d n t h =
    let same : d + 0 ≡ d = omega arith in
    subst (λ (k : ℕ). starts (fact_word c k) t ≡ is_written s c k) same (h 0 (omega arith))

row_others : (s : State) (c d n : ℕ) (t : List ℕ) → RowSays s c d (suc n) t → RowSays s c (d + 1) n (fact_past c d t)
unfolding past_each
row_others s c d n t h i below =
    let same : d + suc i ≡ d + 1 + i = omega arith in
    subst (λ (k : ℕ). starts (fact_word c k) (past_each (fact_past c) (d + 1) i (fact_past c d t)) ≡ is_written s c k) same (h (suc i) (omega (arith, below)))

rows_first : (s : State) (c n : ℕ) (t : List ℕ) → RowsSay s c (suc n) t → RowSays s c 0 9 t
unfolding past_each
rows_first s c n t h = let same : c + 0 ≡ c = omega arith in subst (λ (k : ℕ). RowSays s k 0 9 t) same (h 0 (omega arith))

rows_others : (s : State) (c n : ℕ) (t : List ℕ) → RowsSay s c (suc n) t → RowsSay s (c + 1) n (row_past c t)
unfolding past_each
rows_others s c n t h i below =
    let same : c + suc i ≡ c + 1 + i = omega arith in
    subst (λ (k : ℕ). RowSays s k 0 9 (past_each row_past (c + 1) i (row_past c t))) same (h (suc i) (omega (arith, below)))

-- Each fact that is told is one of the state.
abbrev pub FactsWithin : State → (ℕ → ℕ → Bool) → Type 0
FactsWithin s f = (i j : ℕ) → f i j ≡ true → s.facts i j ≡ true

step_within : (s : State) (f : ℕ → ℕ → Bool) (c d : ℕ) (b : Bool) → IsFormed s → b ≡ is_written s c d → FactsWithin s f → FactsWithin s (cond b (with_both f c d) f)
step_within s f c d false formed is h i j k = h i j k
step_within s f c d true formed is h i j k =
    let one = (split2 (nat_lt c d) (s.facts c d) (sym is)).1 in
    let other = formed.symmetric d c ∙ one in
    ⊎_elim
    (λ (l : with_one f c d i j ≡ true). ⊎_elim (λ (m : f i j ≡ true). h i j m) (λ (m : (i ≡ c) × (j ≡ d)). ap (λ (x : ℕ). s.facts x j) m.0 ∙ ap (s.facts c) m.1 ∙ one) (one_only f c d i j l))
    (λ (m : (i ≡ d) × (j ≡ c)). ap (λ (x : ℕ). s.facts x j) m.0 ∙ ap (s.facts d) m.1 ∙ other)
    (one_only (with_one f c d) d c i j k)

row_within : (s : State) (c d n : ℕ) (t : List ℕ) (f : ℕ → ℕ → Bool) → IsFormed s → RowSays s c d n t → FactsWithin s f → FactsWithin s (row_facts c d n t f)
unfolding row_facts
row_within s c d zero t f formed says h = h
row_within s c d (suc n) t f formed says h =
    let b = starts (fact_word c d) t in
    row_within s c (d + 1) n (fact_past c d t) (cond b (with_both f c d) f) formed (row_others s c d n t says) (step_within s f c d b formed (row_first s c d n t says) h)

rows_within : (s : State) (c n : ℕ) (t : List ℕ) (f : ℕ → ℕ → Bool) → IsFormed s → RowsSay s c n t → FactsWithin s f → FactsWithin s (all_facts c n t f)
unfolding all_facts
rows_within s c zero t f formed says h = h
rows_within s c (suc n) t f formed says h =
    rows_within s (c + 1) n (row_past c t) (row_facts c 0 9 t f) formed (rows_others s c n t says) (row_within s c 0 9 t f formed (rows_first s c n t says) h)

-- Each fact that is written is told, both ways.
record BothWays (f : ℕ → ℕ → Bool) (c d : ℕ) : Type 0 where
  one : f c d ≡ true
  other : f d c ≡ true

row_has : (s : State) (c d n j : ℕ) (t : List ℕ) (f : ℕ → ℕ → Bool) → RowSays s c d n t → d ≤ j → j < d + n → is_written s c j ≡ true → BothWays (row_facts c d n t f) c j
unfolding row_facts
row_has s c d zero j t f says low high w = absurd (omega (arith, low, high))
row_has s c d (suc n) j t f says low high w =
    ⊎_elim
    (λ (e : j ≡ d). first (row_first s c d n t says ∙ ap (is_written s c) (sym e) ∙ w) e)
    (λ (ne : j ≡ d → ⊥). row_has s c (d + 1) n j (fact_past c d t) (cond (starts (fact_word c d) t) (with_both f c d) f) (row_others s c d n t says) (omega (arith, low, ne)) (omega (arith, high)) w)
    (cases_eq j d)
  where
    first : starts (fact_word c d) t ≡ true → j ≡ d → BothWays (row_facts c (d + 1) n (fact_past c d t) (cond (starts (fact_word c d) t) (with_both f c d) f)) c j
    first h e =
        let g = cond (starts (fact_word c d) t) (with_both f c d) f in
        let is : g ≡ with_both f c d = ap (λ (b : Bool). cond b (with_both f c d) f) h in
        let one : g c d ≡ true = ap (λ (k : ℕ → ℕ → Bool). k c d) is ∙ one_kept (with_one f c d) d c c d (one_at f c d) in
        let other : g d c ≡ true = ap (λ (k : ℕ → ℕ → Bool). k d c) is ∙ one_at (with_one f c d) d c in
        subst (λ (k : ℕ). BothWays (row_facts c (d + 1) n (fact_past c d t) g) c k) (sym e) (record {
          one = row_kept c (d + 1) n c d (fact_past c d t) g one;
          other = row_kept c (d + 1) n d c (fact_past c d t) g other;
        })

rows_have : (s : State) (c n i j : ℕ) (t : List ℕ) (f : ℕ → ℕ → Bool) → RowsSay s c n t → c ≤ i → i < c + n → j < 9 → is_written s i j ≡ true → BothWays (all_facts c n t f) i j
unfolding all_facts
rows_have s c zero i j t f says low high below w = absurd (omega (arith, low, high))
rows_have s c (suc n) i j t f says low high below w =
    ⊎_elim
    (λ (e : i ≡ c). first (ap (λ (k : ℕ). is_written s k j) (sym e) ∙ w) e)
    (λ (ne : i ≡ c → ⊥). rows_have s (c + 1) n i j (row_past c t) (row_facts c 0 9 t f) (rows_others s c n t says) (omega (arith, low, ne)) (omega (arith, high)) below w)
    (cases_eq i c)
  where
    first : is_written s c j ≡ true → i ≡ c → BothWays (all_facts (c + 1) n (row_past c t) (row_facts c 0 9 t f)) i j
    first h e =
        let both = row_has s c 0 9 j t f (rows_first s c n t says) (omega arith) (omega (arith, below)) h in
        subst (λ (k : ℕ). BothWays (all_facts (c + 1) n (row_past c t) (row_facts c 0 9 t f)) k j) (sym e) (record {
          one = rows_kept (c + 1) n c j (row_past c t) (row_facts c 0 9 t f) both.one;
          other = rows_kept (c + 1) n j c (row_past c t) (row_facts c 0 9 t f) both.other;
        })

set_below : (s : State) (f : IsFormed s) (c : ℕ) → is_set (s.cursors c) ≡ true → c < 9
set_below s f c e = by (nat_lt c 9) refl
  where
    by : (x : Bool) → nat_lt c 9 ≡ x → c < 9
    by true k = ltb-true c 9 k
    by false k = let no_one : is_set (s.cursors c) ≡ false = ap is_set (f.no_cursors c (ltb-false c 9 k)) in absurd (cc (no_one, e))

both_ways : (a b : Bool) → (a ≡ true → b ≡ true) → (b ≡ true → a ≡ true) → a ≡ b
both_ways true b p q = sym (p refl)
both_ways false true p q = q refl
both_ways false false p q = refl

-- a fact of the state is told
fact_is_told : (s : State) (t : List ℕ) → IsFormed s → RowsSay s 0 9 t → (c d : ℕ) → s.facts c d ≡ true → all_facts 0 9 t (λ i j. false) c d ≡ true
fact_is_told s t f says c d e =
    let all = split2 (not (c == d) && is_set (s.cursors c) && is_set (s.cursors d)) (not (is_apart (s.cursors c) (s.cursors d))) (f.facts c d e) in
    let three = split3 (not (c == d)) (is_set (s.cursors c)) (is_set (s.cursors d)) all.0 in
    by (nat_lt c d) (set_below s f c three.1) (set_below s f d three.2) three.0 refl
  where
    by : (x : Bool) → c < 9 → d < 9 → not (c == d) ≡ true → nat_lt c d ≡ x → all_facts 0 9 t (λ i j. false) c d ≡ true
    by true cs ds ne k = (rows_have s 0 9 c d t (λ i j. false) says (omega arith) (omega (arith, cs)) ds (and2 (nat_lt c d) (s.facts c d) k e)).one
    by false cs ds ne k =
        let high = ltb-false c d k in
        let apart = eqb-false c d (not_true (c == d) ne) in
        let low : d < c = omega (arith, high, apart) in
        (rows_have s 0 9 d c t (λ i j. false) says (omega arith) (omega (arith, ds)) cs (and2 (nat_lt d c) (s.facts d c) (lt-ltb d c low) (f.symmetric d c ∙ e))).other

pub facts_back : (s : State) (t : List ℕ) → IsFormed s → RowsSay s 0 9 t → all_facts 0 9 t (λ i j. false) ≡ s.facts
facts_back s t f says =
    fun_ext (λ c. fun_ext (λ d. both_ways (all_facts 0 9 t (λ i j. false) c d) (s.facts c d) (rows_within s 0 9 t (λ i j. false) f says (λ i j k. cc k) c d) (fact_is_told s t f says c d)))
