-- What an open run of an instance reaches, and that a safe instance has no fault there.
use Rattle.std.proofs.Common.{◌≡◌, List, [], ◌∷◌, ◌++◌, Option, Some, None, refl, sym, subst}
use Rattle.module_code.specs.Program.{Program, IsModule}
use Rattle.run_model.specs.declared.fault.FaultKind.{FaultKind}
use Rattle.run_model.specs.Faults.{fault}
use Rattle.run_model.specs.State.{Configuration}
use Rattle.run_model.specs.Steps.{current}
use Rattle.model_laws.specs.OpenRuns.{Due, Runs, Broken, none_lasts, Standing, Move, Execute, ToldOfMove, Faults, Attempts, IsMove, IsOpenRun, IsOpened, IsHarmless, AreHarmless}
use Rattle.model_laws.specs.OpenRuns.{InstancesAreSafe, StandsSound}
use Rattle.model_laws.proofs.alone.Kept.{open_runs_stay_sound}
use Rattle.model_laws.proofs.alone.KeptHomes.{StandsKept, open_runs_keep}

abbrev pub first_standing : Configuration → Standing
first_standing r = record { phase = Due; lasting = none_lasts; now = r }

-- some open run leads there
pub record ReachedAlone (p : Program) (s : Standing) : Type 0 where
  pub first : Configuration
  pub opened : IsOpened first
  pub moves : List Move
  pub told : List ToldOfMove
  pub run : IsOpenRun p (first_standing first) moves told s

run_more : (p : Program) (s mid new : Standing) (moves : List Move) (told : List ToldOfMove) (m : Move) (t : ToldOfMove) → IsOpenRun p s moves told mid → IsMove p mid m t new
    → IsOpenRun p s (moves ++ m ∷ []) (told ++ t ∷ []) new
unfolding IsOpenRun
run_more p s mid new [] [] m t run is = (new, subst (λ (x : Standing). IsMove p x m t new) run is, refl)
run_more p s mid new [] (u ∷ told) m t run is = absurd run
run_more p s mid new (n ∷ moves) [] m t run is = absurd run
run_more p s mid new (n ∷ moves) (u ∷ told) m t run is = (run.0, run.1, run_more p run.0 mid new moves told m t run.2 is)

-- a run goes on by a move
pub go : (p : Program) (s new : Standing) (m : Move) (t : ToldOfMove) → ReachedAlone p s → IsMove p s m t new → ReachedAlone p new
go p s new m t h is = record { first = h.first; opened = h.opened; moves = h.moves ++ m ∷ []; told = h.told ++ t ∷ []; run = run_more p (first_standing h.first) s new h.moves h.told m t h.run is }

last_harmless : (told : List ToldOfMove) (t : ToldOfMove) → AreHarmless (told ++ t ∷ []) → IsHarmless t
unfolding AreHarmless
last_harmless [] t h = h.0
last_harmless (u ∷ told) t h = last_harmless told t h.1

-- A safe instance has no fault.
pub reached_faultless : (p : Program) (s : Standing) → InstancesAreSafe p → ReachedAlone p s → s.phase ≡ Runs → fault p s.now (current p s.now.pc) ≡ None
unfolding IsMove go
reached_faultless p s safe h runs = by_fault (fault p s.now (current p s.now.pc)) refl where
  by_fault : (o : Option FaultKind) → fault p s.now (current p s.now.pc) ≡ o → o ≡ None
  by_fault None is = refl
  by_fault (Some k) is =
      let broken : Standing = record s { phase = Broken } in
      let more = go p s broken (Execute None) (Faults k) h (runs, subst (λ (o : Option FaultKind). Attempts o p None s (Faults k) broken) (sym is) (refl, refl)) in
      absurd (last_harmless h.told (Faults k) (safe more.first more.moves more.told broken more.opened more.run))

pub reached_sound : (p : Program) (s : Standing) → IsModule p → ReachedAlone p s → StandsSound p s
reached_sound p s proper h = open_runs_stay_sound p h.first h.moves h.told s proper h.opened h.run

pub reached_kept : (p : Program) (s : Standing) → IsModule p → ReachedAlone p s → StandsKept p s
reached_kept p s proper h = open_runs_keep p h.first h.moves h.told s proper h.opened h.run
