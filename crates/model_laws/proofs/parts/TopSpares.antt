-- An instruction of the call on top leaves the parts of other connections.
use Rattle.std.proofs.Common.{◌≡◌, ◌≢◌, ℕ, ◌+◌, Bool, true, false, cond, List, [], ◌∷◌, None, refl, ap, ◌∙◌}
use Rattle.module_code.specs.Program.{Program}
use Rattle.module_code.specs.declared.instr.Instr.{Instr}
use Rattle.module_code.specs.declared.instr.Instr.TheVariants as instr
use Rattle.module_code.specs.declared.instr.Status.{Status}
use Rattle.run_model.specs.declared.payload.Payload.{Payload}
use Rattle.run_model.specs.Pools.{Pools, Cleanups}
use Rattle.run_model.specs.State.{items_of}
use Rattle.run_model.specs.Effects.{do_return}
use Rattle.run_model.specs.Faults.{fault}
use Rattle.run_model.specs.Steps.{Choice, answer_to}
use Rattle.run_model.specs.Chains.{Frame, Connection, Common, Linked, configuration, is_last, next_place, module_at, pools_of, stepped_in, put_back}
use Rattle.model_laws.specs.Parts.{part, HasPart}
use Rattle.model_laws.specs.PartSteps.{LiesIn}
use Rattle.run_model.specs.Passing.{Reads, delivered, delivered_by, next_called, passed_to, proceeds, returned_from, returned_to}
use Rattle.model_laws.proofs.parts.Spared.{steps_spare}
use Rattle.model_laws.specs.SharedPools.{TopSparesOthers}

-- the part of d is that of these pools, but for the next name
abbrev SamePart : ℕ → Pools Payload → Linked → Type 0
SamePart d ps w = part d (pools_of w.0 w.1) ≡ record (part d ps) { next = w.0.pools }

same_paths : (d : ℕ) (g : Common) (c : Connection) (w : Linked) → w.1.path ≡ c.path → w.1.payloads ≡ c.payloads → SamePart d (pools_of g c) w
unfolding part
same_paths d g c w paths payloads =
    ap (λ (p : ℕ → List ℕ). part d (record { path = p; payloads = w.1.payloads; next = w.0.pools })) paths
    ∙ ap (λ (q : ℕ → Cleanups Payload). part d (record { path = c.path; payloads = q; next = w.0.pools })) payloads

module _ (d : ℕ) (chain : List Program) (reads : Reads) (f : Frame) (rest : List Frame) (g : Common) (c : Connection) where
  delivers : (b l : ℕ) → LiesIn c.conn (configuration g c f) → HasPart (pools_of g c) d → c.conn ≢ d → fault (module_at chain f.of) (configuration g c f) (instr.Pass b l) ≡ None
      → SamePart d (pools_of g c) (delivered_by (module_at chain f.of) reads b (instr.Pass b l) f rest (g, c))
  unfolding delivered_by stepped_in put_back configuration
  delivers b l lies other ne none = steps_spare c.conn d (module_at chain f.of) (record { answer = answer_to (delivered c.out (items_of ((c.instances f.of).brigades b)) reads).1; given = None })
      (instr.Pass b l) (configuration g c f) lies other ne none

  passes : (b : ℕ) → SamePart d (pools_of g c) (passed_to (module_at chain (next_place chain c f.of)) (next_place chain c f.of) b f rest (g, c))
  unfolding passed_to configuration
  passes b = same_paths d g c (passed_to (module_at chain (next_place chain c f.of)) (next_place chain c f.of) b f rest (g, c)) refl refl

  ends : (s : Status) (q : List ℕ) → SamePart d (pools_of g c) (next_called chain s q (put_back (instr.Ret s) f (do_return (configuration g c f)) [] [] (g, c))).1
  unfolding put_back configuration
  ends s [] = same_paths d g c (next_called chain s [] (put_back (instr.Ret s) f (do_return (configuration g c f)) [] [] (g, c))).1 refl refl
  ends s (k ∷ ks) = same_paths d g c (next_called chain s (k ∷ ks) (put_back (instr.Ret s) f (do_return (configuration g c f)) [] [] (g, c))).1 refl refl

  returns : (s : Status) (w : Frame) → SamePart d (pools_of g c) (returned_to (module_at chain w.of) s f w rest (g, c))
  unfolding returned_to put_back configuration
  returns s w = same_paths d g c (returned_to (module_at chain w.of) s f w rest (g, c)) refl refl

  -- any other instruction
  steps_on : (choice : Choice) (i : Instr) → LiesIn c.conn (configuration g c f) → HasPart (pools_of g c) d → c.conn ≢ d → fault (module_at chain f.of) (configuration g c f) i ≡ None
      → SamePart d (pools_of g c) (stepped_in (module_at chain f.of) choice i f rest (g, c))
  unfolding stepped_in put_back configuration
  steps_on choice i lies other ne none = steps_spare c.conn d (module_at chain f.of) choice i (configuration g c f) lies other ne none

pub top_spares : TopSparesOthers
unfolding proceeds returned_from
top_spares d chain reads (instr.Pass b l) f rest g c lies other ne none = by_last (is_last chain c f.of) where
  by_last : (t : Bool) → SamePart d (pools_of g c) (cond t (delivered_by (module_at chain f.of) reads b (instr.Pass b l) f rest (g, c)) (passed_to (module_at chain (next_place chain c f.of)) (next_place chain c f.of) b f rest (g, c)))
  by_last true = delivers d chain reads f rest g c b l lies other ne none
  by_last false = passes d chain reads f rest g c b
top_spares d chain reads (instr.Ret s) f [] g c lies other ne none = ends d chain reads f [] g c s c.queue
top_spares d chain reads (instr.Ret s) f (w ∷ rest) g c lies other ne none = returns d chain reads f rest g c s w
top_spares d chain reads i f rest g c lies other ne none = steps_on d chain reads f rest g c (record { answer = answer_to true; given = reads 0 }) i lies other ne none
