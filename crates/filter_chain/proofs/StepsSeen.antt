-- What an event tells and closes over the tree of all it tells and closes in the connection's part.
use Rattle.std.proofs.Common.{◌≡◌, ℕ, Bool, true, List, [], ◌∷◌, Option, Some, None, Result, Ok, Err, refl, sym, ◌∙◌, ap, subst}
use Rattle.std.specs.Prelude.{if◌then◌else◌}
use Rattle.module_code.specs.declared.instr.Instr.{Instr}
use Rattle.module_code.specs.declared.instr.Instr.TheVariants as instr
use Rattle.module_code.specs.declared.instr.PoolRef.TheVariants as pool
use Rattle.module_code.specs.Program.{Program}
use Rattle.bucket_kinds.specs.Device.{Device, Missing}
use Rattle.run_model.specs.declared.event.Cause.{Cause}
use Rattle.run_model.specs.declared.event.Cause.TheVariants as cause
use Rattle.run_model.specs.declared.event.Refusal.{Refusal}
use Rattle.run_model.specs.declared.event.Refusal.TheVariants as refusal
use Rattle.run_model.specs.declared.event.Stepped.{Stepped}
use Rattle.run_model.specs.declared.event.Stepped.TheVariants as stepped
use Rattle.run_model.specs.declared.payload.Payload.{Payload}
use Rattle.run_model.specs.Cursors.{place_of_cursor, holder_of, variable_of}
use Rattle.run_model.specs.Faults.{fault}
use Rattle.run_model.specs.Pools.{Pools, is_under}
use Rattle.run_model.specs.RunOrder.{IsPoolMap, run_order}
use Rattle.run_model.specs.State.{named_at, pool_named}
use Rattle.run_model.specs.Steps.{current}
use Rattle.run_model.specs.Chains.{Frame, Connection, Common, Linked, configuration, module_at, pools_of}
use Rattle.run_model.specs.Passing.{Reads}
use Rattle.run_model.specs.Turns.{steps}
use Rattle.run_model.specs.Worlds.{World}
use Rattle.model_laws.specs.Parts.{part}
use Rattle.model_laws.specs.PartSteps.{LiesIn, linked_in_part}
use Rattle.model_laws.specs.SharedPools.{LiesOver, over}
use Rattle.model_laws.proofs.StepPools.{wanted_pool}
use Rattle.model_laws.proofs.chains.EventTurns.{steps_turn}
use Rattle.model_laws.proofs.chains.LeftTree.{TreeStands, turn_within}
use Rattle.model_laws.proofs.chains.PutBack.{looking}
use Rattle.model_laws.proofs.chains.WorldKept.{AnyLength}
use Rattle.model_laws.proofs.parts.LetGo.{lets_go_alike}
use Rattle.model_laws.proofs.parts.Seen.{its_part}
use Rattle.model_laws.proofs.parts.Steps.{wanted_under}
use Rattle.model_laws.proofs.parts.Within.{StaysWithin}
use Rattle.interp_exec.specs.CarriedOut.{ClosedWith, WereLetGo}
use Rattle.module_run.specs.Proceeding.{TellsClear, TellsReads}
use Rattle.module_run.specs.Stepping.{ClearsAtTop, ClosesStep, TellsAtTop, TellsStep}
use Rattle.filter_chain.proofs.StepCounts.{went_on}

-- What the device tells.

reads_alike : (d e : Device) (chain : List Program) (i : Instr) (f : Frame) (g : Common) (c : Connection) (ps : Pools Payload) (reads : Reads) → TellsReads d e chain i f (g, over ps c) reads
    → TellsReads d e chain i f (g, c) reads
unfolding configuration place_of_cursor holder_of variable_of
reads_alike d e chain (instr.Read x l) f g c ps reads told = told
reads_alike d e chain (instr.Pass b l) f g c ps reads told = told
reads_alike d e chain (instr.Ret s) f g c ps reads told = told
reads_alike d e chain (instr.PClear q) f g c ps reads told = told
reads_alike d e chain (instr.PDestroy q) f g c ps reads told = told
reads_alike d e chain i f g c ps reads told = told

top_alike : (d e : Device) (chain : List Program) (fs : List Frame) (g : Common) (c : Connection) (ps : Pools Payload) (reads : Reads) → TellsAtTop d e chain fs (g, over ps c) reads
    → TellsAtTop d e chain fs (g, c) reads
unfolding TellsAtTop
top_alike d e chain [] g c ps reads told = told
top_alike d e chain (f ∷ rest) g c ps reads told = reads_alike d e chain (current (module_at chain f.of) f.pc) f g c ps reads told

pub tells_alike : (d e : Device) (chain : List Program) (answer : Result Stepped Refusal) (g : Common) (c : Connection) (ps : Pools Payload) (reads : Reads)
    → TellsStep d e chain answer (g, over ps c) reads → TellsStep d e chain answer (g, c) reads
tells_alike d e chain (Ok stepped.Went) g c ps reads told = top_alike d e chain c.stack g c ps reads told
tells_alike d e chain (Ok (stepped.CallEnded s)) g c ps reads told = top_alike d e chain c.stack g c ps reads told
tells_alike d e chain (Ok (stepped.Fault kind of pc)) g c ps reads told = told
tells_alike d e chain (Err r) g c ps reads told = told

-- What is closed.

module _ (ps : Pools Payload) (g : Common) (c : Connection) (l : LiesOver ps g c) where
  abbrev whole : Pools Payload
  whole = pools_of g (over ps c)

  abbrev first : LiesIn c.conn (configuration g (over ps c) (looking 0))
  first = l.lies (looking 0)

  pub own_pools : pools_of g c ≡ part c.conn whole
  unfolding part
  own_pools = ap (λ (v : Linked). pools_of v.0 v.1) (its_part ps g c l)

  -- in its part the same files are let go
  pub let_go_in_part : (d e : Device) (n : ℕ) (v : Linked) → StaysWithin c.conn whole (pools_of v.0 v.1) → IsPoolMap (pools_of v.0 v.1) → is_under whole c.conn n ≡ true
      → WereLetGo d e (run_order whole n) (pools_of v.0 v.1) → WereLetGo d e (run_order (pools_of g c) n) (pools_of (linked_in_part c.conn v).0 (linked_in_part c.conn v).1)
  unfolding configuration part
  let_go_in_part d e n v within formed under closed = subst (λ (qs : Pools Payload). WereLetGo d e (run_order qs n) (part c.conn (pools_of v.0 v.1))) (sym own_pools) (record {
    closed = λ f. closed.closed f ∙ ap (λ (t : Bool). if t then Missing else d.numbered f) (sym (lets_go_alike c.conn n whole (pools_of v.0 v.1) first.has first.files within formed under f));
    others = closed.others;
  })

  pub closed_in_part : (d e : Device) (o : Option ℕ) (v : Linked) → StaysWithin c.conn whole (pools_of v.0 v.1) → IsPoolMap (pools_of v.0 v.1) → ((n : ℕ) → o ≡ Some n → is_under whole c.conn n ≡ true)
      → ClosedWith d e o whole (pools_of v.0 v.1) → ClosedWith d e o (pools_of g c) (pools_of (linked_in_part c.conn v).0 (linked_in_part c.conn v).1)
  closed_in_part d e None v within formed under closed = closed
  closed_in_part d e (Some n) v within formed under closed = let_go_in_part d e n v within formed (under n refl) closed

module _ (budget : ℕ) (chain : List Program) (d e : Device) (w : World) (ps : Pools Payload) (number : ℕ) (c : Connection) (s : TreeStands chain w ps number c) (memory : Bool) (reads : Reads) where
  abbrev before : Linked
  before = (w.common, over ps c)

  abbrev after : Linked
  after = (steps memory budget chain reads before).1

  within : StaysWithin c.conn (pools_of before.0 before.1) (pools_of after.0 after.1)
  within = turn_within chain ps w.common c s.lies after (steps_turn chain AnyLength w.common (over ps c) s.chained memory budget reads)

  clear_alike : IsPoolMap (pools_of after.0 after.1) → (f : Frame) (i : Instr) → fault (module_at chain f.of) (configuration w.common (over ps c) f) i ≡ None → TellsClear d e i f before after
      → TellsClear d e i f (w.common, c) (linked_in_part c.conn after)
  unfolding configuration named_at
  clear_alike formed f (instr.PClear q) none closed =
      closed_in_part ps w.common c s.lies d e (pool_named (configuration w.common c f) (pool.Own q)) after within formed
      (λ n is. wanted_under c.conn (module_at chain f.of) (configuration w.common (over ps c) f) (s.lies.lies f) (pool.Own q)
      (wanted_pool (configuration w.common (over ps c) f) (pool.Own q) None none) n is) closed
  clear_alike formed f (instr.PDestroy q) none closed =
      closed_in_part ps w.common c s.lies d e (pool_named (configuration w.common c f) (pool.Own q)) after within formed
      (λ n is. wanted_under c.conn (module_at chain f.of) (configuration w.common (over ps c) f) (s.lies.lies f) (pool.Own q)
      (wanted_pool (configuration w.common (over ps c) f) (pool.Own q) None none) n is) closed
  clear_alike formed f i none closed = closed

  clears_alike : IsPoolMap (pools_of after.0 after.1) → (steps memory budget chain reads before).0 ≡ Ok stepped.Went → (fs : List Frame) → c.stack ≡ fs → ClearsAtTop d e chain fs before after
      → ClearsAtTop d e chain fs (w.common, c) (linked_in_part c.conn after)
  unfolding ClearsAtTop
  clears_alike formed went [] is closed = closed
  clears_alike formed went (f ∷ rest) is closed = clear_alike formed f (current (module_at chain f.of) f.pc) ((went_on memory chain reads budget w.common (over ps c) went).faultless f rest is) closed

  pub closes_alike : IsPoolMap (pools_of after.0 after.1) → (answer : Result Stepped Refusal) → (steps memory budget chain reads before).0 ≡ answer → ClosesStep d e chain answer before after
      → ClosesStep d e chain answer (w.common, c) (linked_in_part c.conn after)
  closes_alike formed (Ok stepped.Went) is closed = clears_alike formed is c.stack refl closed
  closes_alike formed (Ok (stepped.CallEnded x)) is closed = closed
  closes_alike formed (Ok (stepped.Fault kind of pc)) is closed = closed
  closes_alike formed (Err r) is closed = closed
