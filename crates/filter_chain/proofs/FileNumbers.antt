-- The next number of a file is the same after an event that opens none.
use Rattle.std.proofs.Common.{◌≡◌, ℕ, Bool, List, Option, Some, None, refl, ap}
use Rattle.module_code.specs.Program.{Program}
use Rattle.module_code.specs.declared.instr.Instr.{Instr}
use Rattle.module_code.specs.declared.instr.Instr.TheVariants as instr
use Rattle.module_code.specs.declared.instr.PoolRef.TheVariants as pool
use Rattle.run_model.specs.declared.event.Piece.{Piece}
use Rattle.run_model.specs.Clearing.{run_down}
use Rattle.run_model.specs.Files.{Files}
use Rattle.run_model.specs.State.{Configuration, pool_named, with_pools}
use Rattle.run_model.specs.Steps.{Choice, step, current, pool_cleared, pool_destroyed}
use Rattle.run_model.specs.Chains.{Connection, Common, Linked, module_at, configuration}
use Rattle.run_model.specs.Passing.{Reads}
use Rattle.run_model.specs.Turns.{steps, all_called, begun, begins, brought, brings, ended, ends}
use Rattle.model_laws.proofs.NamedPools.{on_named}
use Rattle.model_laws.proofs.Unchanged.{step_changes_only}
use Rattle.model_laws.proofs.EventAnswers.{unless_so}
use Rattle.model_laws.proofs.chains.Proceeds.{proceeds_so}
use Rattle.model_laws.proofs.chains.StepCases.{steps_so}

abbrev SameNumbers : ℕ → Configuration → Type 0
SameNumbers n s = s.shared.files.next ≡ n

step_file : (p : Program) (choice : Choice) (i : Instr) (r : Configuration) → SameNumbers r.shared.files.next (step p choice i r).state
unfolding with_pools run_down
step_file p choice (instr.PClear q) r = on_named (SameNumbers r.shared.files.next) pool_cleared (pool_named r (pool.Own q)) r refl (λ n e. refl)
step_file p choice (instr.PDestroy q) r = on_named (SameNumbers r.shared.files.next) pool_destroyed (pool_named r (pool.Own q)) r refl (λ n e. refl)
step_file p choice i r = ap (λ (fs : Files). fs.next) ((step_changes_only p choice i r).files refl)

module _ (memory : Bool) (chain : List Program) (g : Common) (c : Connection) where
  abbrev Unchanged : Linked → Type 0
  Unchanged v = v.0.file ≡ g.file

  pub steps_file : (budget : ℕ) (reads : Reads) → Unchanged (steps memory budget chain reads (g, c)).1
  unfolding configuration
  steps_file budget reads =
      steps_so Unchanged memory budget chain reads g c refl (λ k. refl)
      (λ f rest few ready. proceeds_so (λ ps files next req. next ≡ g.file) chain reads (current (module_at chain f.of) f.pc) f rest g c
      (λ choice. step_file (module_at chain f.of) choice (current (module_at chain f.of) f.pc) (configuration g c f)) refl)

  pub begins_file : Unchanged (begins memory chain (g, c)).1
  unfolding begins begun all_called
  begins_file = unless_so Unchanged _ (g, c) (begun chain (g, c)) refl (λ none. refl)

  brought_file : (pieces : List Piece) (req : Option ℕ) → Unchanged (brought chain pieces req (g, c))
  brought_file pieces None = refl
  brought_file pieces (Some req) = refl

  pub brings_file : (pieces : List Piece) → Unchanged (brings memory chain pieces (g, c)).1
  unfolding brings
  brings_file pieces = unless_so Unchanged _ (g, c) (brought chain pieces c.req (g, c)) refl (λ none. brought_file pieces c.req)

  ended_file : (req : Option ℕ) → Unchanged (ended req (g, c))
  unfolding configuration with_pools run_down
  ended_file None = refl
  ended_file (Some req) = refl

  pub ends_file : Unchanged (ends memory (g, c)).1
  unfolding ends
  ends_file = unless_so Unchanged _ (g, c) (ended c.req (g, c)) refl (λ none. ended_file c.req)
