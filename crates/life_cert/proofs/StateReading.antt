-- Of the text of a state in form, each part is taken as it was written, and what follows is left.
use Rattle.std.proofs.Common.{◌≡◌, ℕ, ◌<◌, Bool, true, false, not, List, [], ◌∷◌, ◌++◌, codes, refl, ap, ◌∙◌, append_assoc, arith, inl, inr}
use Rattle.std.specs.Prelude.{◌⊎◌}
use Rattle.life_state.specs.Form.{IsFormed}
use Rattle.life_state.specs.States.{never_made, is_live_brigade, State}
use Rattle.life_state.proofs.Tests.{not_true, split3}
use Rattle.life_cert.specs.StateText.{brigade_text, cursor_name, cursor_text, each, facts_text, in_text, pool_text, sent_text, state_text}
use Rattle.life_cert.specs.StateFromText.{at_pools, count_each, cursor_past, cursor_read, fact_past, fact_word, in_past, in_read, own_past, own_read, past_each, pool_past, pool_read, row_past, starts}
use Rattle.life_cert.proofs.Taking.{TextEnded, skips}
use Rattle.life_cert.proofs.FactTexts.{EachTaken, cursors_taken, ended_taken, facts_taken, is_written}
use Rattle.life_cert.proofs.VariableTexts.{body, in_taken, own_taken, pool_taken}
use Rattle.life_cert.proofs.StateTexts.{MayFollow, IsLineEnd, counted, cursors_follow, each_keeps, ended_at, facts_follow, facts_free, line_ended, no_space, says_brigade, says_cursor}

abbrev pub cursors_text : State → List ℕ
cursors_text s = each 0 9 (λ c. cursor_text c (s.cursors c))

module _ (s : State) (formed : IsFormed s) (m : List ℕ) (h : IsLineEnd m) where
  abbrev pub from_facts : List ℕ
  from_facts = each 0 9 (facts_text s) ++ m

  abbrev pub from_cursors : List ℕ
  from_cursors = cursors_text s ++ from_facts

  abbrev pub from_in : List ℕ
  from_in = in_text (s.brigades 8) ++ from_cursors

  abbrev pub from_brigades : List ℕ
  from_brigades = each 0 s.brigade_count (λ b. brigade_text b (s.brigades b)) ++ from_in

  abbrev pub from_pools : List ℕ
  from_pools = each 0 s.pool_count (λ q. pool_text q (s.pools q)) ++ from_brigades

  pub parts : state_text s ++ m ≡ sent_text s.sent ++ from_pools
  unfolding state_text
  parts =
      let p = each 0 s.pool_count (λ q. pool_text q (s.pools q)) in
      let b = each 0 s.brigade_count (λ k. brigade_text k (s.brigades k)) in
      let f = each 0 9 (facts_text s) in
      append_assoc (sent_text s.sent) (p ++ (b ++ (in_text (s.brigades 8) ++ (cursors_text s ++ f)))) m
      ∙ ap (λ x. sent_text s.sent ++ x) (append_assoc p (b ++ (in_text (s.brigades 8) ++ (cursors_text s ++ f))) m
      ∙ ap (λ x. p ++ x) (append_assoc b (in_text (s.brigades 8) ++ (cursors_text s ++ f)) m
      ∙ ap (λ x. b ++ x) (append_assoc (in_text (s.brigades 8)) (cursors_text s ++ f) m
      ∙ ap (λ x. in_text (s.brigades 8) ++ x) (append_assoc (cursors_text s) f m))))

  pub sent_told : (starts (codes "sent=maybe") (sent_text s.sent ++ from_pools) ≡ s.sent) × (at_pools (sent_text s.sent ++ from_pools) ≡ from_pools)
  sent_told = by s.sent from_pools
    where
      by : (x : Bool) (r : List ℕ) → (starts (codes "sent=maybe") (sent_text x ++ r) ≡ x) × (at_pools (sent_text x ++ r) ≡ r)
      by true r = (refl, refl)
      by false r = (refl, refl)

  pub cursors_told : EachTaken cursor_past (λ c t. cursor_read c t ≡ s.cursors c) 0 9 from_facts from_cursors
  cursors_told = cursors_taken s.cursors from_facts (λ c. says_cursor s (s.cursors c) formed.pool_count (formed.cursors c)) (λ c below. facts_free s m h c below)

  pub facts_told : EachTaken row_past (λ c t. (d : ℕ) → d < 9 → starts (fact_word c d) (past_each (fact_past c) 0 d t) ≡ is_written s c d) 0 9 m from_facts
  facts_told = facts_taken s m (λ c cs d ds. no_space (body_of c d) m h)
    where
      body_of : ℕ → ℕ → List ℕ
      body_of c d = cursor_name c ++ (33 ∷ cursor_name d)

  ends : (p : ℕ) (w : List ℕ) → MayFollow p w m
  ends p w = record { ended = line_ended m h; free = no_space (p ∷ w) m h }

  in_free : MayFollow 105 (codes "n=") from_cursors
  in_free = cursors_follow 105 (codes "n=") s.cursors from_facts refl refl (facts_follow 105 (codes "n=") s m refl refl (ends 105 (codes "n=")))

  brigades_free : MayFollow 98 [] from_in
  brigades_free =
      let k = cursors_follow 98 [] s.cursors from_facts refl refl (facts_follow 98 [] s m refl refl (ends 98 [])) in
      record {
        ended = ended_at (s.brigades 8).live (codes "in=" ++ body (s.brigades 8)) from_cursors k.ended;
        free = skips (codes " b") (codes " in=" ++ body (s.brigades 8)) (s.brigades 8).live from_cursors refl k.free;
      }

  pools_free : MayFollow 112 [] from_brigades
  pools_free =
      let k = cursors_follow 112 [] s.cursors from_facts refl refl (facts_follow 112 [] s m refl refl (ends 112 [])) in
      let i : MayFollow 112 [] from_in = record {
        ended = ended_at (s.brigades 8).live (codes "in=" ++ body (s.brigades 8)) from_cursors k.ended;
        free = skips (codes " p") (codes " in=" ++ body (s.brigades 8)) (s.brigades 8).live from_cursors refl k.free;
      } in
      each_keeps (MayFollow 112 []) (λ b. brigade_text b (s.brigades b)) 0 s.brigade_count from_in (λ b below r q. record { ended = inl refl; free = refl }) i

  pub in_told : (in_read from_in ≡ s.brigades 8) × (in_past from_in ≡ from_cursors)
  in_told =
      let v = s.brigades 8 in
      let t = in_taken v from_cursors (says_brigade s v formed.pool_count (formed.brigades 8) (formed.homes 8)) (given formed.brought) in_free.ended in_free.free in
      (t.read, t.more)
    where
      given : (s.brigades 8 ≡ never_made) ⊎ (is_live_brigade (s.brigades 8) ≡ true)
          → (s.brigades 8 ≡ never_made) ⊎ (((s.brigades 8).live ≡ true) × ((s.brigades 8).null ≡ false) × ((s.brigades 8).gone ≡ false))
      given (inl e) = inl e
      given (inr e) =
          let three = split3 (s.brigades 8).live (not (s.brigades 8).null) (not (s.brigades 8).gone) e in
          inr (three.0, not_true (s.brigades 8).null three.1, not_true (s.brigades 8).gone three.2)

  pub brigades_told : EachTaken (λ i. own_past) (λ b t. own_read t ≡ s.brigades b) 0 s.brigade_count from_in from_brigades
  brigades_told =
      let few = formed.brigade_count in
      ended_taken (λ b. brigade_text b (s.brigades b)) own_past (λ b t. own_read t ≡ s.brigades b) s.brigade_count from_in
      (λ b r below e. let t = own_taken b (s.brigades b) r (omega (arith, below)) (says_brigade s (s.brigades b) formed.pool_count (formed.brigades b) (formed.homes b)) e in (t.read, t.more))
      (λ b r. inl refl) (omega (arith, few)) brigades_free.ended

  pub brigades_counted : count_each (codes " b") own_past 8 from_brigades ≡ s.brigade_count
  brigades_counted =
      let few = formed.brigade_count in
      counted (codes " b") own_past (λ b. brigade_text b (s.brigades b)) TextEnded (λ b below r e. inl refl)
      (λ b below r e. let t = own_taken b (s.brigades b) r (omega (arith, below)) (says_brigade s (s.brigades b) formed.pool_count (formed.brigades b) (formed.homes b)) e in (t.begins, t.more))
      0 s.brigade_count 8 from_in (omega (arith, few)) few brigades_free.ended brigades_free.free

  pub pools_told : EachTaken (λ i. pool_past) (λ q t. pool_read t ≡ s.pools q) 0 s.pool_count from_brigades from_pools
  pools_told =
      let few = formed.pool_count in
      ended_taken (λ q. pool_text q (s.pools q)) pool_past (λ q t. pool_read t ≡ s.pools q) s.pool_count from_brigades
      (λ q r below e. let t = pool_taken q (s.pools q) r (omega (arith, below)) e in (t.read, t.more)) (λ q r. inl refl) (omega (arith, few)) pools_free.ended

  pub pools_counted : count_each (codes " p") pool_past 8 from_pools ≡ s.pool_count
  pools_counted =
      let few = formed.pool_count in
      counted (codes " p") pool_past (λ q. pool_text q (s.pools q)) TextEnded (λ q below r e. inl refl)
      (λ q below r e. let t = pool_taken q (s.pools q) r (omega (arith, below)) e in (t.begins, t.more))
      0 s.pool_count 8 from_brigades (omega (arith, few)) few pools_free.ended pools_free.free
