-- Worked certificates, by hand, of the module that passes on what it gets until an EOS was passed, and drops it from then on; and
-- which modules never fault, in chains and beside any filters.
use Rattle.std.specs.Prelude.{◌≡◌, true, false, List, [], ◌∷◌, Option, Some, None, slice_index_or, length}
use Rattle.module_code.specs.Program.{Program}
use Rattle.module_code.specs.declared.instr.Instr.TheVariants as instr
use Rattle.module_code.specs.declared.instr.KindTest.TheVariants.{File}
use Rattle.module_code.specs.declared.instr.PoolRef.TheVariants as pool
use Rattle.module_code.specs.declared.instr.Status.TheVariants.{Success}
use Rattle.model_laws.specs.Examples.{never_creates}
use Rattle.model_laws.specs.OpenRuns.{InstancesAreSafe}
use Rattle.life_state.specs.declared.parts.Contents.TheVariants.{Empty, Any}
use Rattle.life_state.specs.States.{no_homes, holds, passed_on, State}
use Rattle.life_state.specs.Examples.{identity, resting, serving, brought}
use Rattle.life_check.specs.declared.refusal.Rule.TheVariants.{Shape, Entry, Flow, Exit}
use Rattle.life_check.specs.Certificates.{Certificate}
use Rattle.life_check.specs.ChainTheorem.{ChainNeverFaults}
use Rattle.life_check.specs.Typed.{refusal, first_refusal}

abbrev pub given : State → List (Option State) → Certificate
given ready at = record { idle = Some (resting false); ready = Some ready; at = λ pc. slice_index_or at pc None; lines = length at }

-- open, init, and main up to its `pass`
abbrev pub begun : List (Option State) → List (Option State)
begun rest = Some (resting false) ∷ (Some (resting false) ∷ (Some (serving true brought) ∷ (Some (serving false brought) ∷ rest)))

-- main from line 5 on
abbrev pub ended : List (Option State)
ended = Some (serving true brought) ∷ (Some (serving true (holds Empty no_homes)) ∷ (Some (serving true passed_on) ∷ []))

abbrev pub whole : List (Option State)
whole = begun (Some (serving true passed_on) ∷ ended)

pub record IdentityAnswers : Type 0 where
  pub accepted : first_refusal identity (given (resting true) whole) ≡ None
  -- the `pass` leads to line 4
  pub unreached : first_refusal identity (given (resting true) (begun (None ∷ ended))) ≡ Some (refusal 3 Flow)
  -- a passed brigade has no contents: no text says so
  pub out_of_form : first_refusal identity (given (resting true) (begun (Some (serving true (record passed_on { content = Any })) ∷ ended))) ≡ Some (refusal 0 Shape)
  -- after the `pass` an EOS may have been passed
  pub no_eos : first_refusal identity (given (resting false) whole) ≡ Some (refusal 4 Exit)
  -- `open`'s first instruction has no state
  pub empty : first_refusal identity (given (resting true) []) ≡ Some (refusal 0 Entry)
  -- `open` returns, though idle is none
  pub nowhere : first_refusal identity (record (given (resting true) whole) { idle = None }) ≡ Some (refusal 0 Exit)

pub record FaultRows : Type 0 where
  pub passes_on : ChainNeverFaults (identity ∷ [])
  -- `main` cleans a brigade that was never created
  pub cleans_none : ChainNeverFaults (never_creates ∷ []) → ⊥

-- `brigade b0 conn`; open: `bcreate b0`, `ret ok`; main: `first c0 in`, `jend c0 out`, `jkind c0 file keep`, `:out` `ret ok`, `:keep`
-- `unlink c0`, `tail b0 c0`, `ret ok`. It keeps a FILE bucket that comes first.
abbrev pub keeps_a_file : Program
keeps_a_file = record {
  pools = [];
  brigades = pool.Conn ∷ [];
  texts = [];
  code = instr.BCreate 0
      ∷ (instr.Ret Success
      ∷ (instr.Ret Success ∷ (instr.First 0 8 ∷ (instr.JEnd 0 6 ∷ (instr.JKind 0 File 7 ∷ (instr.Ret Success ∷ (instr.Unlink 0 ∷ (instr.Tail 0 0 ∷ (instr.Ret Success ∷ [])))))))));
  init = 2;
  main = 3;
}

-- Beside any filters.
pub record BesideRows : Type 0 where
  pub passes_on : InstancesAreSafe identity
  -- `main` cleans a brigade that was never created
  pub cleans_none : InstancesAreSafe never_creates → ⊥
  -- another filter lends a FILE bucket that lasts as long as a pool of its own
  pub keeps_what_is_lent : InstancesAreSafe keeps_a_file → ⊥
