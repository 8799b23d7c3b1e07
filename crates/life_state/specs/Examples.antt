-- Worked states, by hand. The identity module passes `in` on until an EOS was passed, and cleans it from then on:
-- open: ret ok [0]; init: ret ok [1]; main: jsent 5 [2], pass in 7 [3], ret ok [4], bclean in [5], ret ok [6], ret fail [7].
use Rattle.std.specs.Prelude.{◌≡◌, Bool, true, false, ◌&&◌, [], ◌∷◌, Option, Some, None, Result, Ok, Err}
use Rattle.module_code.specs.declared.instr.Instr.TheVariants as instr
use Rattle.module_code.specs.declared.instr.Status.TheVariants as status
use Rattle.module_code.specs.declared.instr.PoolRef.TheVariants as pool
use Rattle.module_code.specs.Program.{Program, program}
use Rattle.run_model.specs.declared.fault.FaultKind.{FaultKind}
use Rattle.run_model.specs.declared.fault.FaultKind.TheVariants.{F5, F6, F7, F8}
use Rattle.run_model.specs.Indexed.{upd}
use Rattle.run_model.specs.Faults.{wants}
use Rattle.life_state.specs.declared.parts.Contents.TheVariants.{Empty, NoEos, NoLateData}
use Rattle.life_state.specs.declared.parts.Classes.{Classes}
use Rattle.life_state.specs.States.{no_homes, only_call, home_in, BrigadeKnown, holds, passed_on, Unset, Loose, In, InOrEnd, State, set_brigade}
use Rattle.life_state.specs.Order.{leq}
use Rattle.life_state.specs.Rules.{Edges, first_need, rule, after_next, after_bdelete, after_unlink, tail_content, put_in, at_open, at_main, at_return, at_end_of_request}

abbrev pub identity : Program
identity =
    program [] [] []
    (instr.Ret status.Success ∷ (instr.Ret status.Success
    ∷ (instr.JSent 5 ∷ (instr.Pass 8 7 ∷ (instr.Ret status.Success ∷ (instr.BClean 8 ∷ (instr.Ret status.Success ∷ (instr.Ret status.Fail ∷ []))))))))
    1 2

-- between calls: no EOS was passed, or one may have been
abbrev pub resting : Bool → State
resting sent = record (at_open 0 0) { sent = sent }

-- in `main`, where `in` is so
abbrev pub serving : Bool → BrigadeKnown → State
serving sent v = set_brigade 8 v (resting sent)

-- what was brought
abbrev pub brought : BrigadeKnown
brought = holds NoLateData only_call

-- an edge that is there leads to a state below the written one
abbrev pub flows : Option State → Option State → Bool
flows None b = true
flows (Some a) None = false
flows (Some a) (Some b) = leq a b

abbrev pub leads : Result Edges FaultKind → Option State → Option State → Bool
leads (Ok e) next jump = flows e.next next && flows e.jump jump
leads (Err k) next jump = false

-- a return leaves a state below this one
abbrev pub returns : State → State → Bool
returns s rest = leads (rule identity (instr.Ret status.Success) s) None None && leq (at_return s) rest

-- The states of the identity module: each leads to those that follow.
pub record IdentityRows : Type 0 where
  pub opens : leq (at_open 0 0) (resting false) ≡ true
  pub opened : returns (resting false) (resting false) ≡ true
  pub initial : returns (resting false) (resting true) ≡ true
  pub serves : leq (at_main (resting true)) (serving true brought) ≡ true
  pub asks : leads (rule identity (instr.JSent 5) (serving true brought)) (Some (serving false brought)) (Some (serving true brought)) ≡ true
  pub passes : leads (rule identity (instr.Pass 8 7) (serving false brought)) (Some (serving true passed_on)) (Some (serving true passed_on)) ≡ true
  pub cleans : leads (rule identity (instr.BClean 8) (serving true brought)) (Some (serving true (holds Empty no_homes))) None ≡ true
  pub passed : returns (serving true passed_on) (resting true) ≡ true
  pub cleaned : returns (serving true (holds Empty no_homes)) (resting true) ≡ true
  pub ended : leq (at_end_of_request identity (resting true)) (resting false) ≡ true
  -- and nothing smaller: after a pass an EOS may have been passed
  pub no_less : leads (rule identity (instr.Pass 8 7) (serving false brought)) (Some (serving false passed_on)) (Some (serving true passed_on)) ≡ false

abbrev pub some_bytes : Classes
some_bytes = record { bytes = true; flush = false; eos = false }

-- two cursors at buckets of `in`, of which it is written, or not, that they are two
abbrev pub two_cursors : Bool → State
two_cursors told = record (serving false brought) { cursors = upd (upd (λ k. Unset) 0 (In 8 some_bytes)) 1 (In 8 some_bytes); facts = λ c d. told }

abbrev pub need_of : State → Bool → Option FaultKind
need_of s sent = first_need (record s { sent = sent }) (wants identity (instr.Pass 8 7))

-- a cursor at a bucket of `in` and one at what follows it
abbrev pub walked : State
walked = after_next 1 0 (In 8 some_bytes) (record (serving false brought) { cursors = upd (λ k. Unset) 0 (In 8 some_bytes) })

-- a loose bucket and one of the brigade 0
abbrev pub apart : State
apart = record (set_brigade 0 (holds NoEos no_homes) (resting false)) { cursors = upd (upd (λ k. Unset) 0 (Loose some_bytes no_homes)) 1 (In 0 some_bytes) }

-- What else is known of buckets, and needs that fail.
pub record OtherRows : Type 0 where
  -- a destroyed bucket is no other cursor's, where it is not known to be another
  pub alias : (after_bdelete 0 (two_cursors false)).cursors 1 ≡ Unset
  pub other : (after_bdelete 0 (two_cursors true)).cursors 1 ≡ In 8 some_bytes
  pub gone : (after_bdelete 0 (two_cursors true)).cursors 0 ≡ Unset
  pub loose : (after_unlink 0 (two_cursors true)).cursors 0 ≡ Loose some_bytes only_call
  -- the next bucket is another, and stays so where the first is taken out; then their places say it
  pub following : walked.facts 0 1 ≡ true
  pub either_way : walked.facts 1 0 ≡ true
  pub kept_there : (after_unlink 0 walked).cursors 1 ≡ InOrEnd 8 (record { bytes = true; flush = true; eos = true })
  pub implied : (after_unlink 0 walked).facts 0 1 ≡ false
  -- two places become one, and what they implied is written
  pub unwritten : apart.facts 0 1 ≡ false
  pub written : (put_in tail_content 0 0 apart).facts 0 1 ≡ true
  pub joined : ((put_in tail_content 0 0 apart).brigades 0).content ≡ NoEos
  -- data may not follow an EOS that may have been passed
  pub first : need_of (serving false brought) false ≡ None
  pub late : need_of (serving false brought) true ≡ Some F8
  pub empty : need_of (serving false (holds Empty no_homes)) true ≡ None
  pub dead : need_of (serving false (holds NoEos (record no_homes { dead = true }))) false ≡ Some F5
  pub passed : need_of (serving false passed_on) false ≡ Some F7
  -- a return keeps nothing of the call
  pub kept : first_need (set_brigade 0 brought (resting false)) (wants identity (instr.Ret status.Success)) ≡ Some F6
  pub saved : first_need (set_brigade 0 (holds NoLateData (home_in pool.Req)) (resting false)) (wants identity (instr.Ret status.Success)) ≡ None
