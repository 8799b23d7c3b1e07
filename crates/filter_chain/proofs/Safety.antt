-- On a chain that was checked no event of a host answers a fault.
use Rattle.std.proofs.Common.{◌≡◌, ℕ, Bool, List, [], ◌∷◌, ◌++◌}
use Rattle.module_code.specs.Program.{Program}
use Rattle.run_model.specs.declared.event.Event.{Event}
use Rattle.run_model.specs.Worlds.{World, Told, Answer, happens, new_world}
use Rattle.model_laws.specs.Reached.{IsReached}
use Rattle.model_laws.proofs.chains.Reached.{world_run_goes_on}
use Rattle.bucket_kinds.specs.Device.{Device}
use Rattle.life_check.specs.ChainTheorem.{ChainNeverFaults, IsNoFault, NoFaults}
use Rattle.filter_chain.specs.Hosting.{Ghosts, Host, Stored, IsHosting, Happens, chain_of, budget_of}
use Rattle.filter_chain.specs.Safe.{IsSafe, ReachedWorldsAnswerNoFault}
use Rattle.filter_chain.specs.HostViews.{host_view}

last_well : (answers : List Answer) (a : Answer) → NoFaults (answers ++ a ∷ []) → IsNoFault a
unfolding NoFaults
last_well [] a well = well.0
last_well (b ∷ answers) a well = last_well answers a well.1

pub event_answers_no_fault : (memory : Bool) (budget : ℕ) (chain : List Program) (told : Told) (number : ℕ) (what : Event) (w new : World) (answer : Answer) → ChainNeverFaults chain
    → IsReached budget chain w
    → happens memory budget chain told number what w ≡ (answer, new) → IsNoFault answer
event_answers_no_fault memory budget chain told number what w new answer never reached is =
    last_well reached.answers answer (never budget (reached.events ++ (number, what) ∷ []) (reached.answers ++ answer ∷ []) new
    (record {
      first = reached.run.first;
      named = reached.run.named;
      given = reached.run.given;
      run = world_run_goes_on memory budget chain told number what (new_world reached.run.first) w new reached.events reached.answers answer reached.run.run is;
    }))

pub reached_worlds_answer_no_fault : ReachedWorldsAnswerNoFault
reached_worlds_answer_no_fault budget chain number what old new answer never reached acts =
    event_answers_no_fault acts.memory budget chain acts.told number what old.world new.world answer never reached acts.is

-- So it is of each call of a host.
pub happens_well : {F R : Type 0} {g : Ghosts R Stored} (d e : Device) (old new : Host F R g) (number : ℕ) (what : Event) (answer : Answer) (w : World) → IsHosting d old w → IsSafe old
    → Happens d e old new number what answer w → IsNoFault answer
unfolding IsHosting
happens_well d e old new number what answer w hosts safe h =
    reached_worlds_answer_no_fault (budget_of old) (chain_of old) number what (host_view w d) (host_view h.to e) answer safe hosts.reached h.acts
