-- What an instruction of an open run leaves: it has no fault, and what is known of the next one describes what is there.
use Rattle.std.proofs.Common.{◌≡◌, ℕ, ◌+◌, true, false, List, unwrap_or, Option, Some, None, refl, sym, ◌∙◌, subst}
use Rattle.module_code.specs.Program.{Program, IsModule, target}
use Rattle.module_code.specs.declared.instr.Instr.{Instr}
use Rattle.module_code.specs.declared.instr.Instr.TheVariants as instr
use Rattle.module_code.specs.declared.instr.Status.{Status}
use Rattle.module_code.specs.declared.instr.Status.TheVariants.{Success}
use Rattle.run_model.specs.declared.bucket.Home.{Home}
use Rattle.run_model.specs.declared.event.Exit.{Exit}
use Rattle.run_model.specs.declared.event.Exit.TheVariants.{GoOn, Jump, Return}
use Rattle.run_model.specs.declared.fault.FaultKind.{FaultKind}
use Rattle.run_model.specs.Chains.{led_to}
use Rattle.run_model.specs.Effects.{do_pass, do_return, handed_over}
use Rattle.run_model.specs.Faults.{WUsable, WHomes, WSend, usable_fault, fault_want, or_else, fault}
use Rattle.run_model.specs.Pools.{is_in}
use Rattle.run_model.specs.State.{Configuration, pool_view, set_brigade}
use Rattle.run_model.specs.Steps.{Choice, Outcome, step, current}
use Rattle.run_model.proofs.Updates.{upd_at}
use Rattle.run_model.specs.EffectOf.{effect_of}
use Rattle.model_laws.specs.Laws.{ChangesOnly, is_return}
use Rattle.model_laws.specs.OpenRuns.{Phase, Rests, Runs, none_lasts, Standing, ToldOfMove, IsHarmless, executed, Attempts, ExecutesOne, StandsSound}
use Rattle.model_laws.proofs.Handlers.{LeadsWhere}
use Rattle.model_laws.proofs.Unchanged.{step_changes_only}
use Rattle.model_laws.proofs.chains.Places.{led, SameHandler, stays_in_handler}
use Rattle.life_state.specs.Rules.{edges, after_pass, at_return}
use Rattle.life_state.specs.States.{State}
use Rattle.life_state.proofs.Tests.{split2}
use Rattle.life_check.specs.Certificates.{Certificate, AllBounded, IsBoundedSome}
use Rattle.life_check.specs.Meaning.{Covers, NoneLives, Between}
use Rattle.life_check.specs.Soundness.{FitsSome, Lands, MeetsNeeds}
use Rattle.life_check.specs.Typed.{IsTyped, flows, is_below, exits, leads_on}
use Rattle.life_check.proofs.alone.Means.{Lives, InCall, IsCallPlaced, RunFits, WaitFits, PhaseFits, StandsAlone, in_phase, MetAlone, met_in, ready_in}
use Rattle.life_check.proofs.Instructions.{step_lands}
use Rattle.life_check.proofs.Onward.{IsOnward, goes_onward, left_rests}
use Rattle.life_check.proofs.Orders.{greater_fits}
use Rattle.life_check.proofs.Passes.{law_pass, law_ret}
use Rattle.life_check.proofs.Standards.{resting, fits_under, fits_flow, fits_aside}
use Rattle.life_check.proofs.Wants.{both_none}
use Rattle.life_check.proofs.alone.Calls.{handed_live}

resting_bounded : (m : Certificate) → AllBounded m → (req : Option ℕ) → IsBoundedSome (resting m req)
resting_bounded m bounded None = bounded.idle
resting_bounded m bounded (Some n) = bounded.ready

module _ (p : Program) (m : Certificate) (proper : IsModule p) (bounded : AllBounded m) (given : Option (List ℕ)) (s : Standing) (runs : RunFits p m s.lasting s.now) where
  abbrev r : Configuration
  r = s.now

  abbrev lives : Home → Type 0
  lives = Lives s.lasting s.now.shared.req

  abbrev chosen : Choice
  chosen = record { answer = Success; given = given }

  module _ (i : Instr) (is : current p s.now.pc ≡ i) (a : State) (ready : MeetsNeeds (Lives s.lasting s.now.shared.req) p i s.now a)
      (leads : leads_on m s.now.pc i (edges p i a) ≡ true) (leaves : exits p m s.now.pc i a ≡ true) where
    -- An instruction after which the call goes on.

    abbrev stepped : Outcome
    stepped = step p chosen i s.now

    abbrev pc : ℕ
    pc = led_to stepped.exit i s.now.pc

    abbrev after : Configuration
    after = record stepped.state { pc = led_to stepped.exit i s.now.pc }

    changes : ChangesOnly (effect_of i) s.now (step p chosen i s.now).state
    changes = step_changes_only p chosen i s.now

    module _ (on : is_return i ≡ false) where
      place : SameHandler p s.now.pc (led_to (step p chosen i s.now).exit i s.now.pc)
      place = stays_in_handler p s.now.pc _ proper runs.placed.at (λ P at. led P p chosen i s.now s.now.pc on (subst (LeadsWhere P s.now.pc) is at))

      placed : IsCallPlaced p (step p chosen i s.now).state.shared.req (led_to (step p chosen i s.now).exit i s.now.pc)
      placed = subst (λ (req : Option ℕ). IsCallPlaced p req (led_to (step p chosen i s.now).exit i s.now.pc)) (sym changes.req)
          (record { at = place.inside; opening = λ lt. runs.placed.opening (place.opening lt); serving = λ le. runs.placed.serving (place.serving le) })

      -- what an edge says is there
      along : (e : Option State) → StandsSound p (record s { now = after }) → flows e (m.at pc) ≡ true → FitsSome (Covers p (pool_view stepped.state) lives) e stepped.state
          → FitsSome (InCall p s.lasting after) (m.at pc) after
      along e k flow fit =
          subst (λ (req : Option ℕ). FitsSome (Covers p (pool_view after) (Lives s.lasting req)) (m.at pc) after) (sym changes.req)
          (fits_flow p lives (greater_fits {lives = lives}) after e (m.at pc) k.sound k.declared (bounded.at pc) flow
          (fits_aside p lives pc stepped.state.out stepped.state.shared.files e stepped.state fit))

      by_exit : StandsSound p (record s { now = after }) → (x : Exit) → stepped.exit ≡ x → Lands lives p (edges p i a) a x stepped.state → FitsSome (InCall p s.lasting after) (m.at pc) after
      by_exit k GoOn at fit =
          along (edges p i a).next k (subst (λ (y : Exit). flows (edges p i a).next (m.at (led_to y i s.now.pc)) ≡ true) (sym at)
          (split2 (flows (edges p i a).next (m.at (s.now.pc + 1))) (flows (edges p i a).jump (m.at (unwrap_or (target i) 0))) leads).0) fit
      by_exit k Jump at fit =
          along (edges p i a).jump k (subst (λ (y : Exit). flows (edges p i a).jump (m.at (led_to y i s.now.pc)) ≡ true) (sym at)
          (split2 (flows (edges p i a).next (m.at (s.now.pc + 1))) (flows (edges p i a).jump (m.at (unwrap_or (target i) 0))) leads).1) fit
      by_exit k Return at fit = absurd (subst IsOnward at (goes_onward p chosen i s.now on))

      pub goes_stand : StandsSound p (record s { now = after }) → RunFits p m s.lasting after
      goes_stand k = record {
        placed = placed;
        named = subst (λ (n : ℕ). is_in n s.lasting.calls ≡ true) (sym (changes.call_name on)) runs.named;
        fits = by_exit k stepped.exit refl (step_lands lives i p chosen s.now a ready);
      }

  -- A pass.
  pub passes_stand : (b l : ℕ) → current p s.now.pc ≡ instr.Pass b l → (a : State) → MeetsNeeds (Lives s.lasting s.now.shared.req) p (instr.Pass b l) s.now a
      → leads_on m s.now.pc (instr.Pass b l) (edges p (instr.Pass b l) a) ≡ true
      → WaitFits p m s.lasting (do_pass b s.now)
  unfolding set_brigade
  passes_stand b l is a ready leads =
      let usable : usable_fault (s.now.instance.brigades b) ≡ None =
      (both_none (fault_want s.now (WUsable b)) (or_else (fault_want s.now (WHomes b)) (or_else (fault_want s.now (WSend b)) None)) ready.may.faultless).0 in
      let live = handed_live (s.now.instance.brigades b) usable in
      let both = split2 (flows (Some (after_pass b a)) (m.at (s.now.pc + 1))) (flows (Some (after_pass b a)) (m.at l)) leads in
      record {
        placed = runs.placed;
        named = runs.named;
        passes = b;
        to = l;
        at = is;
        handed = live.0;
        passed = (upd_at s.now.instance.brigades b (handed_over (s.now.instance.brigades b)) ∙ live.1, live.2);
        state = after_pass b a;
        fits = law_pass {lives = lives} b l p chosen s.now a ready;
        well = both.0;
        fails = both.1;
      }

  -- A return.
  pub returns_stand : (t : Status) → (a : State) → MeetsNeeds (Lives s.lasting s.now.shared.req) p (instr.Ret t) s.now a → exits p m s.now.pc (instr.Ret t) a ≡ true
      → StandsSound p (record { phase = Rests; lasting = none_lasts; now = do_return s.now }) → FitsSome (Between p (do_return s.now)) (resting m s.now.shared.req) (do_return s.now)
  returns_stand t a ready leaves k =
      fits_under p NoneLives (greater_fits {lives = NoneLives}) (do_return s.now) (at_return a) (resting m s.now.shared.req) k.sound k.declared (resting_bounded m bounded s.now.shared.req)
      (subst (λ (o : Option State). is_below (at_return a) o ≡ true) (left_rests p m s.now.pc s.now.shared.req runs.placed.opening runs.placed.serving) leaves)
      (law_ret {lives = lives} t p chosen s.now a ready)

  -- Any instruction without a fault.

  abbrev KeepsLasting : ToldOfMove × Standing → Type 0
  KeepsLasting x = IsHarmless x.0 × StandsAlone p m x.1

  executed_stand : s.phase ≡ Runs → (i : Instr) → current p s.now.pc ≡ i → (a : State) → MeetsNeeds (Lives s.lasting s.now.shared.req) p i s.now a → leads_on m s.now.pc i (edges p i a) ≡ true
      → exits p m s.now.pc i a ≡ true
      → StandsSound p (executed p given i s).1 → KeepsLasting (executed p given i s)
  unfolding executed
  executed_stand phase (instr.Pass b l) is a ready leads leaves k = (tt, passes_stand b l is a ready leads)
  executed_stand phase (instr.Ret t) is a ready leads leaves k = (tt, returns_stand t a ready leaves k)
  executed_stand phase i is a ready leads leaves k = (
    tt,
    subst (λ (f : Phase). PhaseFits p m f s.lasting (record (step p chosen i s.now).state { pc = led_to (step p chosen i s.now).exit i s.now.pc }))
        (sym phase) (goes_stand i is a ready leads leaves refl k),
  )

module _ (p : Program) (m : Certificate) (proper : IsModule p) (bounded : AllBounded m) (typed : IsTyped p m) where
  attempt_stands : (given : Option (List ℕ)) (s new : Standing) (told : ToldOfMove) → s.phase ≡ Runs → RunFits p m s.lasting s.now → StandsSound p s → StandsSound p new
      → (f : Option FaultKind) → fault p s.now (current p s.now.pc) ≡ f → Attempts f p given s told new → IsHarmless told × StandsAlone p m new
  attempt_stands given s new told phase runs was k None none a =
      let met : MetAlone p m s.lasting s.now = met_in p m s proper typed was runs in
      subst (λ (x : ToldOfMove × Standing). IsHarmless x.0 × StandsAlone p m x.1) a.1
      (executed_stand p m proper bounded given s runs phase (current p s.now.pc) refl met.state (ready_in p m s proper was a.0 met) met.leads met.exits
      (subst (λ (x : ToldOfMove × Standing). StandsSound p x.1) (sym a.1) k))
  attempt_stands given s new told phase runs was k (Some kind) is a =
      absurd (let none : fault p s.now (current p s.now.pc) ≡ None = (met_in p m s proper typed was runs).faultless in let both : Some kind ≡ None = sym is ∙ none in cc)

  pub executes_stand : (given : Option (List ℕ)) (s new : Standing) (told : ToldOfMove) → StandsAlone p m s → ExecutesOne p given s told new → StandsSound p s → StandsSound p new
      → IsHarmless told × StandsAlone p m new
  executes_stand given s new told h e was k = attempt_stands given s new told e.0 (in_phase p m s Runs e.0 h) was k (fault p s.now (current p s.now.pc)) refl e.1
