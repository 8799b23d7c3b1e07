-- On a chain no run of which answers a fault, the next instruction of a call has none.
use Rattle.std.proofs.Common.{◌≡◌, ℕ, ◌<◌, nat_le, Bool, true, false, List, ◌∷◌, Option, Some, None, Result, Ok, refl, sym, ◌∙◌, ap, subst, arith}
use Rattle.std.proofs.lemmas.Bool.Decides.{nat_tests}
use Rattle.std.specs.Prelude.{if◌then◌else◌}
use Rattle.module_code.specs.Program.{Program}
use Rattle.run_model.specs.declared.event.Cause.{Cause}
use Rattle.run_model.specs.declared.event.Cause.TheVariants as cause
use Rattle.run_model.specs.declared.event.Event.TheVariants as event
use Rattle.run_model.specs.declared.event.Refusal.{Refusal}
use Rattle.run_model.specs.declared.event.Stepped.{Stepped}
use Rattle.run_model.specs.declared.event.Stepped.TheVariants as stepped
use Rattle.run_model.specs.declared.fault.FaultKind.{FaultKind}
use Rattle.run_model.specs.Chains.{Frame, Connection, Linked}
use Rattle.run_model.specs.declared.payload.Payload.{Payload}
use Rattle.run_model.specs.Pools.{Pools}
use Rattle.run_model.specs.Passing.{Reads}
use Rattle.run_model.specs.Turns.{Failing, broken_by, executed, unless_fault, watched, step_top, step_unless, steps}
use Rattle.run_model.specs.Worlds.{World, Told, Step, happens_on, step_answered}
use Rattle.model_laws.specs.Reached.{IsReached}
use Rattle.model_laws.specs.SharedPools.{LiesOver, over}
use Rattle.model_laws.proofs.parts.Seen.{steps_in_part}
use Rattle.model_laws.proofs.chains.LeftTree.{TreeStands}
use Rattle.bucket_kinds.specs.Device.{Device}
use Rattle.pool_tree.specs.Tree.{map_of}
use Rattle.life_check.specs.ChainTheorem.{ChainNeverFaults}
use Rattle.module_run.specs.declared.conn.Conn.{Conn}
use Rattle.module_run.specs.Proceeding.{StandsFor}
use Rattle.filter_chain.specs.Hosted.{conn_at}
use Rattle.filter_chain.specs.Hosting.{Ghosts, Host, Stored, IsHosting, budget_of, chain_of}
use Rattle.filter_chain.proofs.HostEvents.{lent}
use Rattle.filter_chain.proofs.Hosts.{found, known, stands_for}
use Rattle.module_run.specs.Stepping.{NextIsFaultless, next_at, next_fault}
use Rattle.filter_chain.specs.Safe.{ReachedCallsAreFaultless}
use Rattle.filter_chain.proofs.Safety.{event_answers_no_fault}

no_reads : Reads
no_reads k = None

is_over : (a b : ℕ) → b < a → nat_le a b ≡ false
is_over a b lt = grind (arith, nat_tests)

-- Where the next instruction has a fault, the step answers it.
step_tells : (budget : ℕ) (chain : List Program) (v : Linked) (f : Frame) (rest : List Frame) (kind : FaultKind) → v.1.broken ≡ None → v.1.count < budget → v.1.stack ≡ f ∷ rest
    → next_fault chain v f ≡ Some kind
    → (steps true budget chain no_reads v).0 ≡ Ok (stepped.Fault kind f.of f.pc)
unfolding steps
step_tells budget chain v f rest kind whole left on_top faulty =
    ap (λ (o : Option Cause). (step_unless o true budget chain no_reads v).0) whole
    ∙ (ap (λ (fs : List Frame). (step_top true budget chain no_reads fs v).0) on_top
    ∙ (ap (λ (t : Bool). (if t then broken_by cause.OutOfSteps v else watched true chain no_reads f rest v).0) (is_over budget v.1.count left)
    ∙ ap (λ (o : Option FaultKind). (unless_fault o f v (executed true chain no_reads (next_at chain f) f rest v)).0) faulty))

-- So it has none where no step answers one.
faultless_where : (budget : ℕ) (chain : List Program) (v : Linked) → ((kind : FaultKind) (of pc : ℕ) → (steps true budget chain no_reads v).0 ≡ Ok (stepped.Fault kind of pc) → ⊥)
    → NextIsFaultless budget chain v
faultless_where budget chain v never f rest whole left on_top = by_fault (next_fault chain v f) refl where
  by_fault : (o : Option FaultKind) → next_fault chain v f ≡ o → next_fault chain v f ≡ None
  by_fault None is = is
  by_fault (Some kind) is = absurd (never kind f.of f.pc (step_tells budget chain v f rest kind whole left on_top is))

module _ (budget : ℕ) (chain : List Program) (w : World) (number : ℕ) (c : Connection) (never : ChainNeverFaults chain) (reached : IsReached budget chain w) (at : w.conns number ≡ Some c) where
  told : Told
  told = record { reads = no_reads; opening = Failing }

  no_step_faults : (kind : FaultKind) (of pc : ℕ) → (steps true budget chain no_reads (w.common, c)).0 ≡ Ok (stepped.Fault kind of pc) → ⊥
  unfolding happens_on told
  no_step_faults kind of pc is = answered (steps true budget chain no_reads (w.common, c)) refl is where
    answered : (x : Result Stepped Refusal × Linked) → steps true budget chain no_reads (w.common, c) ≡ x → x.0 ≡ Ok (stepped.Fault kind of pc) → ⊥
    answered (y, left) same fault_is =
        event_answers_no_fault true budget chain told number event.Step w (step_answered number w (Ok (stepped.Fault kind of pc), left)).1 (Step (stepped.Fault kind of pc)) never reached
        (ap (λ (o : Option Connection). happens_on true budget chain told event.Step number o w) at
        ∙ (ap (step_answered number w) same ∙ ap (λ (z : Result Stepped Refusal). step_answered number w (z, left)) fault_is))

  pub call_is_faultless : NextIsFaultless budget chain (w.common, c)
  call_is_faultless = faultless_where budget chain (w.common, c) no_step_faults

  -- So it is over the pools of all.
  pub lent_call_is_faultless : (ps : Pools Payload) → LiesOver ps w.common c → NextIsFaultless budget chain (w.common, over ps c)
  lent_call_is_faultless ps lies =
      faultless_where budget chain (w.common, over ps c)
      (λ kind of pc is. no_step_faults kind of pc (ap (λ (x : Result Stepped Refusal × Linked). x.0) (steps_in_part true budget chain no_reads ps w.common c lies) ∙ is))

pub reached_calls_are_faultless : ReachedCallsAreFaultless
reached_calls_are_faultless budget chain w number c never reached at = call_is_faultless budget chain w number c never reached at

-- Of a host a connection over the tree that all share, by the modules as they were handed on. Where the host is bare, its chain was checked.
module _ {F R : Type 0} {g : Ghosts R Stored} (d : Device) (host : Host F R g) (number : ℕ) (w : World) (hosts : IsHosting d host w) (modules : List Program) (same : modules ≡ chain_of host) where
  never : host.chain.bare ≡ true → ChainNeverFaults (chain_of host)
  unfolding chain_of
  never bare = host.chain.checked bare

  pub is_faultless : (c : Connection) → TreeStands (chain_of host) w (map_of host.tree) number c → host.chain.bare ≡ true
      → NextIsFaultless (budget_of host) modules (w.common, over (map_of host.tree) c)
  unfolding IsHosting
  is_faultless c s bare =
      subst (λ (chain : List Program). NextIsFaultless (budget_of host) chain (w.common, over (map_of host.tree) c)) (sym same)
      (lent_call_is_faultless (budget_of host) (chain_of host) w number c (never bare) hosts.reached s.here (map_of host.tree) s.lies)

  -- What is found at the number can be stepped.
  pub can_step : (conn : Conn) → conn_at host.conns number ≡ Some conn → (v : Linked)
      × (StandsFor modules host.tree host.store d conn v × (host.chain.bare ≡ true → NextIsFaultless (budget_of host) modules v))
  unfolding IsHosting
  can_step conn at =
      let f = found hosts number conn at in
      ((w.common, over (map_of host.tree) f.0), (lent same (stands_for hosts number f.0 f.1 conn f.2), is_faultless f.0 (known hosts number f.0 f.1)))
