-- Payloads that are killed, by their places.
use Rattle.std.proofs.Common.{◌≡◌, ℕ, Bool, false, List, get_or, remove, sym, ap, ◌∙◌}
use Rattle.std.specs.List.{list_any}
use Rattle.run_model.specs.declared.payload.Payload.{Payload}
use Rattle.run_model.specs.Indexed.{upd}
use Rattle.run_model.specs.Pools.{Pools, Cleanups}
use Rattle.run_model.specs.RunOrder.{killed}
use Rattle.run_model.proofs.Updates.{upd_same}
use Rattle.pool_tree.specs.Payloads.{IsLastAt}
use Rattle.pool_tree.proofs.Refilled.{last_at, last_none}

abbrev refilled_with : Pools Payload → ℕ → List Payload → Pools Payload
refilled_with ps p xs = record ps { payloads = upd ps.payloads p (record (ps.payloads p) { plain = xs }) }

-- the payload at the place of the last that passes the test goes
pub killed_at : (ps : Pools Payload) (p : ℕ) (test : Payload → Bool) (i : ℕ) (y : Payload) → IsLastAt test (ps.payloads p).plain i → y ≡ get_or (ps.payloads p).plain i y
    → refilled_with ps p (remove (ps.payloads p).plain i) ≡ killed p test ps
unfolding killed
killed_at ps p test i y at is = ap (refilled_with ps p) (sym (last_at test (ps.payloads p).plain i y at is).1)

-- none passes
pub killed_none : (ps : Pools Payload) (p : ℕ) (test : Payload → Bool) → list_any test (ps.payloads p).plain ≡ false → ps ≡ killed p test ps
unfolding killed
killed_none ps p test none =
    ap (λ (f : ℕ → Cleanups Payload). record ps { payloads = f }) (sym (upd_same ps.payloads p))
    ∙ ap (refilled_with ps p) (sym (last_none test (ps.payloads p).plain none).1)
