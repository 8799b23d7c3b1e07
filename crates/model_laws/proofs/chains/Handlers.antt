-- Where the calls of a chain begin, and that each stays in its handler.
use Rattle.std.proofs.Common.{◌≡◌, ℕ, ◌+◌, Bool, true, false, cond, List, [], ◌∷◌, None, All, refl, sym, subst}
use Rattle.std.proofs.lemmas.List.Elements.{All-head}
use Rattle.module_code.specs.Program.{Program, IsModule}
use Rattle.module_code.specs.declared.instr.Instr.{Instr}
use Rattle.module_code.specs.declared.instr.Instr.TheVariants as instr
use Rattle.module_code.specs.declared.instr.Status.{Status}
use Rattle.run_model.specs.State.{items_of}
use Rattle.run_model.specs.Effects.{do_return}
use Rattle.run_model.specs.Steps.{Choice, answer_to, current, step}
use Rattle.model_laws.specs.Laws.{is_return}
use Rattle.run_model.specs.Chains.{Frame, Connection, Common, module_at, is_last, next_place, configuration, touched_bucket, put_back, stepped_in, led_to}
use Rattle.run_model.specs.Passing.{Reads, delivered, delivered_by, passed_to, returned_to, next_called, returned_from, proceeds}
use Rattle.run_model.specs.Turns.{all_called, opened, begun}
use Rattle.model_laws.specs.ChainSound.{WaitsAtPass}
use Rattle.model_laws.specs.Handlers.{LiesBetween, CallsBegin, CallsAfter, Stay, GoesOn, Passes, Returns, Follows, Ends, StepStaysInHandler, RunPlacesCalls}
use Rattle.model_laws.proofs.Unchanged.{step_changes_only}
use Rattle.model_laws.proofs.Handlers.{LeadsWhere, code_leads}
use Rattle.model_laws.proofs.chains.Modules.{module_at_proper}
use Rattle.model_laws.proofs.chains.Places.{led, after_leads}
use Rattle.model_laws.proofs.chains.StepCases.{counted_top, steps_so}
use Rattle.model_laws.proofs.chains.WorldKept.{run_keeps_world}

pub calls_begin : CallsBegin
unfolding opened begun all_called
calls_begin chain pieces req g c = (refl, refl, refl)

-- The instruction on top.

module _ (chain : List Program) (proper : (k : ℕ) → IsModule (module_at chain k)) (g : Common) (c : Connection) (f : Frame) where
  stepped_after : (rest : List Frame) (choice : Choice) (i : Instr) → i ≡ current (module_at chain f.of) f.pc → is_return i ≡ false
      → CallsAfter chain g c (f ∷ rest) (stepped_in (module_at chain f.of) choice i f rest (g, c)).1.stack
  unfolding stepped_in put_back configuration
  stepped_after rest choice i is on =
      let o = step (module_at chain f.of) choice i (configuration g c f) in
      GoesOn f (record f { call = o.state.call; pc = led_to o.exit i f.pc }) rest (touched_bucket (configuration g c f) i) (record {
        of = refl;
        name = (step_changes_only (module_at chain f.of) choice i (configuration g c f)).call_name on;
        stays = λ from to code stands.
            led (LiesBetween from to) (module_at chain f.of) choice i (configuration g c f) f.pc on
            (subst (LeadsWhere (LiesBetween from to) f.pc) (sym is) (code_leads (module_at chain f.of) (proper f.of) from to f.pc code stands));
      })

  passed_after : (rest : List Frame) (reads : Reads) (b l : ℕ) (last : Bool) → is_last chain c f.of ≡ last → instr.Pass b l ≡ current (module_at chain f.of) f.pc
      → CallsAfter chain g c (f ∷ rest) (cond last (delivered_by (module_at chain f.of) reads b (instr.Pass b l) f rest (g, c)) (passed_to (module_at chain (next_place chain c f.of)) (next_place chain c f.of) b f rest (g, c))).1.stack
  unfolding delivered_by passed_to
  passed_after rest reads b l true e is = stepped_after rest (record { answer = answer_to (delivered c.out (items_of ((c.instances f.of).brigades b)) reads).1; given = None }) (instr.Pass b l) is refl
  passed_after rest reads b l false e is = Passes f rest e

  ended_after : (s : Status) (queue : List ℕ) → c.queue ≡ queue
      → CallsAfter chain g c (f ∷ []) (next_called chain s queue (put_back (instr.Ret s) f (do_return (configuration g c f)) [] [] (g, c))).1.1.stack
  unfolding put_back configuration
  ended_after s [] is = Ends f is
  ended_after s (k ∷ ks) is = Follows f k ks is

  returned_after : (s : Status) (w : Frame) (rest : List Frame) → WaitsAtPass chain w → CallsAfter chain g c (f ∷ (w ∷ rest)) (returned_to (module_at chain w.of) s f w rest (g, c)).1.stack
  unfolding returned_to put_back configuration
  returned_after s w rest at = Returns f w _ rest (touched_bucket (configuration g c f) (instr.Ret s)) (record {
    of = refl;
    name = refl;
    stays = λ from to code stands.
        after_leads (LiesBetween from to) s (current (module_at chain w.of) w.pc) at.0 at.1 w.pc at.2 (code_leads (module_at chain w.of) (proper w.of) from to w.pc code stands);
  })

  proceeds_after : (rest : List Frame) (reads : Reads) (i : Instr) → i ≡ current (module_at chain f.of) f.pc → All (WaitsAtPass chain) rest
      → CallsAfter chain g c (f ∷ rest) (proceeds chain reads i f rest (g, c)).1.1.stack
  unfolding proceeds returned_from
  proceeds_after rest reads (instr.Pass b l) is waits = passed_after rest reads b l (is_last chain c f.of) refl is
  proceeds_after [] reads (instr.Ret s) is waits = ended_after s c.queue refl
  proceeds_after (w ∷ rest) reads (instr.Ret s) is waits = returned_after s w rest (All-head (WaitsAtPass chain) w rest waits)
  proceeds_after rest reads i is waits = stepped_after rest (record { answer = answer_to true; given = reads 0 }) i is refl

pub step_stays_in_handler : StepStaysInHandler
step_stays_in_handler memory budget chain reads g c chained waits =
    steps_so (λ v. CallsAfter chain g c c.stack v.1.stack) memory budget chain reads g c (Stay c.stack) (λ k. Stay c.stack)
    (λ f rest few ready. subst (λ (fs : List Frame). CallsAfter chain g c fs (counted_top chain reads g c f rest).1.stack) (sym ready.on_top)
    (proceeds_after chain (module_at_proper chain chained) g c f rest reads (current (module_at chain f.of) f.pc) refl (waits f rest ready.on_top)))

pub run_places_calls : RunPlacesCalls
run_places_calls budget chain es answers w k c chained run at = ((run_keeps_world budget chain es answers w chained run).conns k c at).calls.placed
