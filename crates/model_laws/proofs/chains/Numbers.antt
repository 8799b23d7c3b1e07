-- No connection has the number 0, nor a number past the last.
use Rattle.std.proofs.Common.{◌≡◌, ◌≢◌, ℕ, ◌+◌, ◌^◌, ◌<◌, Some, None, inl, inr, refl, sym, ◌∙◌, ap, arith}
use Rattle.std.proofs.lemmas.Option.{none-some}
use Rattle.run_model.specs.Chains.{Connection, Linked}
use Rattle.run_model.specs.Turns.{opened}
use Rattle.run_model.specs.Worlds.{World, new_world, put_conn}
use Rattle.model_laws.specs.ChainNumbers.{WorldNumbers, EventKeepsNumbers, RunKeepsNumbers}
use Rattle.run_model.specs.Indexed.{upd}
use Rattle.model_laws.proofs.chains.EventCases.{event_cases, run_each}
use Rattle.run_model.proofs.Updates.{upd_either}
use Rattle.model_laws.proofs.StepNames.{not_spent}

-- What changes one connection that is there, or takes it away, makes no other.
put_numbered : (k : ℕ) (c : Connection) (w : World) → w.conns k ≡ Some c → WorldNumbers w → (v : Linked) → WorldNumbers (put_conn k v w)
put_numbered k c w here h v = record { first = vacant 0 h.first; later = λ j lt. vacant j (h.later j lt); limit = h.limit } where
  vacant : (j : ℕ) → w.conns j ≡ None → (put_conn k v w).conns j ≡ None
  vacant j none = elim (upd_either w.conns k j (Some v.1)) [
    | inl at ↦ absurd (none-some c (sym none ∙ ap w.conns at.0 ∙ here))
    | inr off ↦ off.1 ∙ none
  ]

closed_numbered : (k : ℕ) (w : World) → WorldNumbers w → WorldNumbers (record w { conns = upd w.conns k None })
closed_numbered k w h = record { first = gone 0 h.first; later = λ j lt. gone j (h.later j lt); limit = h.limit } where
  gone : (j : ℕ) → w.conns j ≡ None → upd w.conns k None j ≡ None
  gone j none = elim (upd_either w.conns k j None) [ inl at ↦ at.1 | inr off ↦ off.1 ∙ none ]

-- An opening gives out the number after the last.
new_numbered : (v : Linked) (w : World) → w.last + 1 + 1 < 2 ^ 64 → WorldNumbers w → WorldNumbers (put_conn (w.last + 1) v (record w { last = w.last + 1 }))
new_numbered v w limit h = record { first = elsewhere 0 (omega arith) h.first; later = λ j lt. elsewhere j (omega arith) (h.later j (omega arith)); limit = omega arith } where
  elsewhere : (j : ℕ) → j ≢ w.last + 1 → w.conns j ≡ None → (put_conn (w.last + 1) v (record w { last = w.last + 1 })).conns j ≡ None
  elsewhere j differ none = elim (upd_either w.conns (w.last + 1) j (Some v.1)) [ inl at ↦ absurd (differ at.0) | inr off ↦ off.1 ∙ none ]

pub event_keeps_numbers : EventKeepsNumbers
event_keeps_numbers memory budget chain told k e w h = event_cases WorldNumbers memory budget chain told k w h e (record {
  made = λ c v at made. put_numbered k c w at h v;
  opening = λ last pools next. new_numbered (opened chain w.common) w (not_spent (w.last + 1) 1 last) h;
  closing = λ c at. closed_numbered k w h;
})

pub new_numbered_world : (first : ℕ) → WorldNumbers (new_world first)
new_numbered_world first = record { first = refl; later = λ k lt. refl; limit = omega arith }

pub run_keeps_numbers : RunKeepsNumbers
run_keeps_numbers budget chain es answers w run =
    run_each WorldNumbers budget chain (λ memory told k e v h. event_keeps_numbers memory budget chain told k e v h) es answers (new_world run.first) w run.run (new_numbered_world run.first)
