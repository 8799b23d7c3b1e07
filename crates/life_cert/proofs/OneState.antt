-- What is read of the text of a state in form is that state: so no two states in form have one text.
use Rattle.std.proofs.Common.{◌≡◌, ℕ, zero, suc, ◌+◌, ◌<◌, ◌≤◌, Bool, true, false, List, [], ◌++◌, codes, refl, sym, ap, subst, ◌∙◌, arith, append-nil, ⊎_elim}
use Rattle.std.specs.Prelude.{nat_lt}
use Rattle.std.proofs.Math.Path.{fun_ext}
use Rattle.std.proofs.lemmas.Bool.{cases_eq, ltb-false, ltb-true}
use Rattle.run_model.specs.Indexed.{upd}
use Rattle.run_model.proofs.Updates.{upd_at, upd_off}
use Rattle.life_state.specs.Build.{with_cursor, with_sent}
use Rattle.life_state.specs.declared.parts.PoolState.{PoolState}
use Rattle.life_state.specs.Form.{IsFormed}
use Rattle.life_state.specs.Rules.{at_open}
use Rattle.life_state.specs.States.{BrigadeKnown, CursorKnown, State, Unset, never_made, only_null, set_brigade, set_pool}
use Rattle.life_cert.specs.StateText.{state_text}
use Rattle.life_cert.specs.StateFromText.{at_pools, brigades_there, cursor_past, cursor_read, fact_past, fact_word, fold_each, in_past, in_read, own_past, own_read, past_brigades, past_cursors}
use Rattle.life_cert.specs.StateFromText.{past_each, past_pools, pool_past, pool_read, pools_there, row_past, starts, told_brigade, told_brigades, told_cursor, told_cursors, told_facts, told_pool}
use Rattle.life_cert.specs.StateFromText.{told_pools}
use Rattle.life_cert.proofs.FactTexts.{is_written}
use Rattle.life_cert.proofs.StateTexts.{IsLineEnd}
use Rattle.life_cert.proofs.StateReading.{brigades_counted, brigades_told, cursors_told, facts_told, from_brigades, from_cursors, from_facts, from_in, from_pools, in_told, parts, pools_counted}
use Rattle.life_cert.proofs.StateReading.{pools_told, sent_told}
use Rattle.life_cert.proofs.TextFacts.{RowsSay, all_facts, facts_back, rows_told}

-- What texts in turn say of their numbers.
unfoldable pub told_each : {A : Type 0} → (ℕ → List ℕ → A) → (ℕ → List ℕ → List ℕ) → ℕ → ℕ → List ℕ → (ℕ → A) → ℕ → A
told_each read p k zero t f = f
told_each read p k (suc n) t f = told_each read p (k + 1) n (p k t) (upd f k (read k t))

told_below : {A : Type 0} (read : ℕ → List ℕ → A) (p : ℕ → List ℕ → List ℕ) (k n : ℕ) (t : List ℕ) (f : ℕ → A) (i : ℕ) → i < k → told_each read p k n t f i ≡ f i
unfolding told_each
told_below read p k zero t f i low = refl
told_below read p k (suc n) t f i low = told_below read p (k + 1) n (p k t) (upd f k (read k t)) i (omega (arith, low)) ∙ upd_off f k i (read k t) (λ e. omega (arith, low, e))

told_above : {A : Type 0} (read : ℕ → List ℕ → A) (p : ℕ → List ℕ → List ℕ) (k n : ℕ) (t : List ℕ) (f : ℕ → A) (i : ℕ) → k + n ≤ i → told_each read p k n t f i ≡ f i
unfolding told_each
told_above read p k zero t f i high = refl
told_above read p k (suc n) t f i high = told_above read p (k + 1) n (p k t) (upd f k (read k t)) i (omega (arith, high)) ∙ upd_off f k i (read k t) (λ e. omega (arith, high, e))

told_at : {A : Type 0} (read : ℕ → List ℕ → A) (p : ℕ → List ℕ → List ℕ) (v : ℕ → A) (k n : ℕ) (t : List ℕ) (f : ℕ → A) → ((i : ℕ) → i < n → read (k + i) (past_each p k i t) ≡ v (k + i)) → (i : ℕ)
    → k ≤ i → i < k + n → told_each read p k n t f i ≡ v i
unfolding told_each past_each
told_at read p v k zero t f says i low high = absurd (omega (arith, low, high))
told_at {A} read p v k (suc n) t f says i low high =
    ⊎_elim
    (λ (e : i ≡ k). ap (told_each read p (k + 1) n (p k t) (upd f k (read k t))) e ∙ told_below read p (k + 1) n (p k t) (upd f k (read k t)) k (omega arith) ∙ upd_at f k (read k t) ∙ here
    ∙ ap v (sym e))
    (λ (ne : i ≡ k → ⊥). told_at read p v (k + 1) n (p k t) (upd f k (read k t)) others i (omega (arith, low, ne)) (omega (arith, high)))
    (cases_eq i k)
  where
    here : read k t ≡ v k
    here = let same : k + 0 ≡ k = omega arith in subst (λ (j : ℕ). read j t ≡ v j) same (says 0 (omega arith))

    others : (j : ℕ) → j < n → read (k + 1 + j) (past_each p (k + 1) j (p k t)) ≡ v (k + 1 + j)
    others j below = let same : k + suc j ≡ k + 1 + j = omega arith in subst (λ (x : ℕ). read x (past_each p (k + 1) j (p k t)) ≡ v x) same (says (suc j) (omega (arith, below)))

-- The states that are told.
pools_fold : (k n : ℕ) (t : List ℕ) (s : State) → fold_each told_pool (λ q. pool_past) k n t s ≡ record s { pools = told_each (λ q. pool_read) (λ q. pool_past) k n t s.pools }
unfolding fold_each told_each
pools_fold k zero t s = refl
pools_fold k (suc n) t s = pools_fold (k + 1) n (pool_past t) (set_pool k (pool_read t) s)

brigades_fold : (k n : ℕ) (t : List ℕ) (s : State) → fold_each told_brigade (λ b. own_past) k n t s ≡ record s { brigades = told_each (λ b. own_read) (λ b. own_past) k n t s.brigades }
unfolding fold_each told_each
brigades_fold k zero t s = refl
brigades_fold k (suc n) t s = brigades_fold (k + 1) n (own_past t) (set_brigade k (own_read t) s)

cursors_fold : (k n : ℕ) (t : List ℕ) (s : State) → fold_each told_cursor cursor_past k n t s ≡ record s { cursors = told_each cursor_read cursor_past k n t s.cursors }
unfolding fold_each told_each
cursors_fold k zero t s = refl
cursors_fold k (suc n) t s = cursors_fold (k + 1) n (cursor_past k t) (with_cursor k (cursor_read k t) s)

-- the state of these parts
unfoldable pub state_of : Bool → ℕ → ℕ → List ℕ → List ℕ → BrigadeKnown → List ℕ → List ℕ → State
state_of sent n m pools brigades brought cursors facts = told_facts facts (told_cursors cursors (set_brigade 8 brought (told_brigades brigades (told_pools pools (with_sent sent (at_open n m))))))

unfoldable pub read_from : Bool → List ℕ → List ℕ → List ℕ → State
read_from sent pools brigades brought = state_of sent (pools_there pools) (brigades_there brigades) pools brigades (in_read brought) (in_past brought) (past_cursors (in_past brought))

unfoldable pub read_as : List ℕ → State
read_as t = read_from (starts (codes "sent=maybe") t) (at_pools t) (past_pools (at_pools t)) (past_brigades (past_pools (at_pools t)))

state_parts : (sent : Bool) (n m : ℕ) (p b : List ℕ) (v : BrigadeKnown) (cs fs : List ℕ) → state_of sent n m p b v cs fs ≡ record {
  pool_count = n;
  brigade_count = m;
  sent = sent;
  pools = told_each (λ q. pool_read) (λ q. pool_past) 0 n p (λ q. only_null);
  brigades = upd (told_each (λ b. own_read) (λ b. own_past) 0 m b (λ b. never_made)) 8 v;
  cursors = told_each cursor_read cursor_past 0 9 cs (λ c. Unset);
  facts = all_facts 0 9 fs (λ c d. false);
}
unfolding state_of
state_parts sent n m p b v cs fs =
    let one = with_sent sent (at_open n m) in
    let two : State = record one { pools = told_each (λ q. pool_read) (λ q. pool_past) 0 n p one.pools } in
    let three : State = record two { brigades = told_each (λ b. own_read) (λ b. own_past) 0 m b two.brigades } in
    let four : State = set_brigade 8 v three in
    let five : State = record four { cursors = told_each cursor_read cursor_past 0 9 cs four.cursors } in
    ap (λ (s : State). told_facts fs (told_cursors cs (set_brigade 8 v (told_brigades b s)))) (pools_fold 0 n p one)
    ∙ ap (λ (s : State). told_facts fs (told_cursors cs (set_brigade 8 v s))) (brigades_fold 0 m b two)
    ∙ ap (told_facts fs) (cursors_fold 0 9 cs four)
    ∙ rows_told 0 9 fs five

module _ (s : State) (formed : IsFormed s) (m : List ℕ) (h : IsLineEnd m) where
  pools_back : (q : ℕ) → told_each (λ i. pool_read) (λ i. pool_past) 0 s.pool_count (from_pools s formed m h) (λ i. only_null) q ≡ s.pools q
  pools_back q = by (nat_lt q s.pool_count) refl
    where
      by : (b : Bool) → nat_lt q s.pool_count ≡ b → told_each (λ i. pool_read) (λ i. pool_past) 0 s.pool_count (from_pools s formed m h) (λ i. only_null) q ≡ s.pools q
      by true e = told_at (λ i. pool_read) (λ i. pool_past) s.pools 0 s.pool_count (from_pools s formed m h) (λ i. only_null) (pools_told s formed m h).says q (omega arith)
          (let low = ltb-true q s.pool_count e in omega (arith, low))
      by false e = let high = ltb-false q s.pool_count e in
          told_above (λ i. pool_read) (λ i. pool_past) 0 s.pool_count (from_pools s formed m h) (λ i. only_null) q (omega (arith, high)) ∙ sym (formed.no_pools q high)

  abbrev brigades_read : ℕ → BrigadeKnown
  brigades_read = told_each (λ i. own_read) (λ i. own_past) 0 s.brigade_count (from_brigades s formed m h) (λ i. never_made)

  brigades_back : (b : ℕ) → upd brigades_read 8 (s.brigades 8) b ≡ s.brigades b
  brigades_back b =
      ⊎_elim
      (λ (e : b ≡ 8). ap (upd brigades_read 8 (s.brigades 8)) e ∙ upd_at brigades_read 8 (s.brigades 8) ∙ ap s.brigades (sym e))
      (λ (ne : b ≡ 8 → ⊥). upd_off brigades_read 8 b (s.brigades 8) ne ∙ by (nat_lt b s.brigade_count) ne refl)
      (cases_eq b 8)
    where
      by : (x : Bool) → (b ≡ 8 → ⊥) → nat_lt b s.brigade_count ≡ x → brigades_read b ≡ s.brigades b
      by true ne e = told_at (λ i. own_read) (λ i. own_past) s.brigades 0 s.brigade_count (from_brigades s formed m h) (λ i. never_made) (brigades_told s formed m h).says b (omega arith)
          (let low = ltb-true b s.brigade_count e in omega (arith, low))
      by false ne e = let high = ltb-false b s.brigade_count e in
          told_above (λ i. own_read) (λ i. own_past) 0 s.brigade_count (from_brigades s formed m h) (λ i. never_made) b (omega (arith, high)) ∙ sym (formed.no_brigades b high ne)

  cursors_back : (c : ℕ) → told_each cursor_read cursor_past 0 9 (from_cursors s formed m h) (λ i. Unset) c ≡ s.cursors c
  cursors_back c = by (nat_lt c 9) refl
    where
      by : (x : Bool) → nat_lt c 9 ≡ x → told_each cursor_read cursor_past 0 9 (from_cursors s formed m h) (λ i. Unset) c ≡ s.cursors c
      by true e = told_at cursor_read cursor_past s.cursors 0 9 (from_cursors s formed m h) (λ i. Unset) (cursors_told s formed m h).says c (omega arith)
          (let low = ltb-true c 9 e in omega (arith, low))
      by false e = let high = ltb-false c 9 e in told_above cursor_read cursor_past 0 9 (from_cursors s formed m h) (λ i. Unset) c (omega (arith, high)) ∙ sym (formed.no_cursors c high)

  rows_say : RowsSay s 0 9 (from_facts s formed m h)
  rows_say i below j inside =
      let same : j ≡ 0 + j = omega arith in
      let t = past_each (fact_past (0 + i)) 0 j (past_each row_past 0 i (from_facts s formed m h)) in
      subst (λ (k : ℕ). starts (fact_word (0 + i) k) t ≡ is_written s (0 + i) k) same ((facts_told s formed m h).says i below j inside)

  parts_back : state_of s.sent s.pool_count s.brigade_count (from_pools s formed m h) (from_brigades s formed m h) (s.brigades 8) (from_cursors s formed m h) (from_facts s formed m h) ≡ s
  parts_back =
      let p = told_each (λ i. pool_read) (λ i. pool_past) 0 s.pool_count (from_pools s formed m h) (λ i. only_null) in
      let b = upd brigades_read 8 (s.brigades 8) in
      let c = told_each cursor_read cursor_past 0 9 (from_cursors s formed m h) (λ i. Unset) in
      let f = all_facts 0 9 (from_facts s formed m h) (λ i j. false) in
      state_parts s.sent s.pool_count s.brigade_count (from_pools s formed m h) (from_brigades s formed m h) (s.brigades 8) (from_cursors s formed m h) (from_facts s formed m h)
      ∙ ap (λ (x : ℕ → PoolState). (let k : State = record s { pools = x; brigades = b; cursors = c; facts = f } in k)) (fun_ext pools_back)
      ∙ ap (λ (x : ℕ → BrigadeKnown). (let k : State = record s { brigades = x; cursors = c; facts = f } in k)) (fun_ext brigades_back)
      ∙ ap (λ (x : ℕ → CursorKnown). (let k : State = record s { cursors = x; facts = f } in k)) (fun_ext cursors_back)
      ∙ ap (λ (x : ℕ → ℕ → Bool). (let k : State = record s { facts = x } in k)) (facts_back s (from_facts s formed m h) formed rows_say)

  pub state_back : read_as (state_text s ++ m) ≡ s
  unfolding read_as read_from
  state_back =
      let t = state_text s ++ m in
      let p = from_pools s formed m h in
      let b = from_brigades s formed m h in
      let i = from_in s formed m h in
      let cs = from_cursors s formed m h in
      let whole = parts s formed m h in
      let one = sent_told s formed m h in
      let n_is = pools_counted s formed m h in
      let m_is = brigades_counted s formed m h in
      let brought = in_told s formed m h in
      ap (λ (x : Bool). read_from x (at_pools t) (past_pools (at_pools t)) (past_brigades (past_pools (at_pools t)))) (ap (starts (codes "sent=maybe")) whole ∙ one.0)
      ∙ ap (λ x. read_from s.sent x (past_pools x) (past_brigades (past_pools x))) (ap (λ x. at_pools x) whole ∙ one.1)
      ∙ ap (λ x. read_from s.sent p x (past_brigades x)) (ap (λ (n : ℕ). past_each (λ q. pool_past) 0 n p) n_is ∙ (pools_told s formed m h).more)
      ∙ ap (read_from s.sent p b) (ap (λ (n : ℕ). past_each (λ q. own_past) 0 n b) m_is ∙ (brigades_told s formed m h).more)
      ∙ ap (λ (n : ℕ). state_of s.sent n (brigades_there b) p b (in_read i) (in_past i) (past_cursors (in_past i))) n_is
      ∙ ap (λ (n : ℕ). state_of s.sent s.pool_count n p b (in_read i) (in_past i) (past_cursors (in_past i))) m_is
      ∙ ap (λ (v : BrigadeKnown). state_of s.sent s.pool_count s.brigade_count p b v (in_past i) (past_cursors (in_past i))) brought.0
      ∙ ap (λ x. state_of s.sent s.pool_count s.brigade_count p b (s.brigades 8) x (past_cursors x)) brought.1
      ∙ ap (state_of s.sent s.pool_count s.brigade_count p b (s.brigades 8) cs) (cursors_told s formed m h).more
      ∙ parts_back

pub one_state : (s t : State) → IsFormed s → IsFormed t → state_text s ≡ state_text t → s ≡ t
one_state s t f g e = sym (state_back s f [] tt) ∙ ap (λ x. read_as (x ++ [])) e ∙ state_back t g [] tt

-- what the code's steps read of the text of a state in form
pub told_back : (s : State) (formed : IsFormed s) (t : List ℕ) → t ≡ state_text s → read_as t ≡ s
told_back s formed t is = ap read_as (is ∙ sym (append-nil (state_text s))) ∙ state_back s formed [] tt

-- the pools leave the number of brigades
pub brigades_stay : (t : List ℕ) (s : State) → (told_pools t s).brigade_count ≡ s.brigade_count
brigades_stay t s = ap (λ (x : State). x.brigade_count) (pools_fold 0 s.pool_count t s)

-- The steps of the code, one after another.
pub steps_read : (t u1 u2 u3 u4 u5 : List ℕ) (sent : Bool) (n m : ℕ) (v : BrigadeKnown) (s1 s2 s3 s4 s5 s6 s7 : State)
    → sent ≡ starts (codes "sent=maybe") t → u1 ≡ at_pools t → n ≡ pools_there u1 → u2 ≡ past_pools u1 → m ≡ brigades_there u2 → u3 ≡ past_brigades u2 → v ≡ in_read u3 → u4 ≡ in_past u3
    → u5 ≡ past_cursors u4
    → s1 ≡ at_open n m → s2 ≡ with_sent sent s1 → s3 ≡ told_pools u1 s2 → s4 ≡ told_brigades u2 s3 → s5 ≡ set_brigade 8 v s4 → s6 ≡ told_cursors u4 s5 → s7 ≡ told_facts u5 s6
    → s7 ≡ read_as t
unfolding read_as read_from state_of
steps_read t u1 u2 u3 u4 u5 sent n m v s1 s2 s3 s4 s5 s6 s7 sent_is u1_is n_is u2_is m_is u3_is v_is u4_is u5_is one two three four five six seven =
    seven ∙ ap (λ (s : State). told_facts u5 s) (six ∙ ap (λ (s : State). told_cursors u4 s)
    (five ∙ ap (λ (s : State). set_brigade 8 v s) (four ∙ ap (λ (s : State). told_brigades u2 s) (three ∙ ap (λ (s : State). told_pools u1 s) (two ∙ ap (λ (s : State). with_sent sent s) one)))))
    ∙ ap (λ x. state_of sent n m u1 u2 v u4 x) u5_is
    ∙ ap (λ x. state_of sent n m u1 u2 v x (past_cursors x)) u4_is
    ∙ ap (λ (x : BrigadeKnown). state_of sent n m u1 u2 x (in_past u3) (past_cursors (in_past u3))) v_is
    ∙ ap (λ (x : ℕ). state_of sent x m u1 u2 (in_read u3) (in_past u3) (past_cursors (in_past u3))) n_is
    ∙ ap (λ (x : ℕ). state_of sent (pools_there u1) x u1 u2 (in_read u3) (in_past u3) (past_cursors (in_past u3))) m_is
    ∙ ap (read_from sent u1 u2) u3_is
    ∙ ap (λ x. read_from sent u1 x (past_brigades x)) u2_is
    ∙ ap (λ x. read_from sent x (past_pools x) (past_brigades (past_pools x))) u1_is
    ∙ ap (λ (x : Bool). read_from x (at_pools t) (past_pools (at_pools t)) (past_brigades (past_pools (at_pools t)))) sent_is
