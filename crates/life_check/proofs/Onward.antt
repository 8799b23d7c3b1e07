-- Where an instruction leads, and what it may want.
use Rattle.std.proofs.Common.{◌≡◌, ℕ, suc, ◌<◌, ◌≤◌, Bool, true, false, ◌&&◌, ◌||◌, not, nat_lt, cond, List, [], ◌∷◌, Option, Some, None, is_some, Ok, refl, sym, ap, arith}
use Rattle.std.proofs.lemmas.Bool.Decides.{nat_tests}
use Rattle.module_code.specs.Args.{op_of}
use Rattle.module_code.specs.Tables.{misplaced, touches_req, any_touches_req, has_main_only, is_main, under_req}
use Rattle.module_code.specs.Spelling.{operands_of}
use Rattle.module_code.specs.declared.part.Part.TheVariants as part
use Rattle.module_code.specs.declared.instr.Instr.{Instr}
use Rattle.module_code.specs.declared.instr.Instr.TheVariants as instr
use Rattle.module_code.specs.declared.instr.PoolRef.{PoolRef}
use Rattle.module_code.specs.declared.instr.PoolRef.TheVariants as pool
use Rattle.module_code.specs.Program.{Program, pool_of_pool, pool_of_brigade}
use Rattle.run_model.specs.declared.event.Exit.{Exit}
use Rattle.run_model.specs.declared.event.Exit.TheVariants.{GoOn, Jump, Return}
use Rattle.run_model.specs.declared.effect.Branch.{Branch}
use Rattle.run_model.specs.declared.effect.Branch.TheVariants.{ToNext, JumpIf, JumpAlways, EndCall}
use Rattle.run_model.specs.declared.fault.FaultKind.{FaultKind}
use Rattle.run_model.specs.EffectOf.{branch_of}
use Rattle.run_model.specs.Faults.{Want, WPool, wants}
use Rattle.model_laws.specs.Laws.{is_return}
use Rattle.run_model.specs.State.{Configuration}
use Rattle.run_model.specs.Steps.{Choice, step, jumps_if, exit_by, holds}
use Rattle.life_state.specs.Rules.{Edges, need_or}
use Rattle.life_check.specs.Certificates.{Certificate}
use Rattle.life_check.specs.Soundness.{wants_request}
use Rattle.life_check.specs.Typed.{left_by}
use Rattle.life_check.proofs.Standards.{resting}

-- In `open` no instruction wants the request's pool.

first_false : (a b : Bool) → (a || b) ≡ false → a ≡ false
first_false true b h = cc
first_false false b h = refl

second_false : (a b : Bool) → (a || b) ≡ false → b ≡ false
second_false true b h = cc
second_false false b h = h

one_pool : (n : ℕ) (pools : List PoolRef) (d : PoolRef) (rest : List Want) → under_req (suc n) pools d ≡ false → wants_request rest ≡ false → wants_request (WPool d ∷ rest) ≡ true → ⊥
one_pool n pools pool.Conn rest apart none h = cc
one_pool n pools pool.Req rest apart none h = cc
one_pool n pools (pool.Own i) rest apart none h = cc

-- the places of the first two operands do not lie under it
apart_from_req : (p : Program) (i : Instr) → misplaced part.Open p.pools p.brigades (op_of i) (operands_of i [] 0) ≡ false
    → (touches_req p.pools p.brigades (operands_of i [] 0).first ≡ false) × (touches_req p.pools p.brigades (operands_of i [] 0).second ≡ false)
apart_from_req p i h =
    let o = operands_of i [] 0 in
    let t = touches_req p.pools p.brigades in
    let all = second_false (not (is_main part.Open) && has_main_only (op_of i) o) (any_touches_req p.pools p.brigades o) h in
    let three = first_false (t o.first || t o.second || t o.third) (t o.fourth) all in
    let two = first_false (t o.first || t o.second) (t o.third) three in
    (first_false (t o.first) (t o.second) two, second_false (t o.first) (t o.second) two)

pub no_request : (p : Program) (i : Instr) → misplaced part.Open p.pools p.brigades (op_of i) (operands_of i [] 0) ≡ false → wants_request (wants p i) ≡ true → ⊥
unfolding pool_of_pool pool_of_brigade
no_request p (instr.PCreate q) apart h = one_pool 7 p.pools (pool_of_pool p q) _ (apart_from_req p (instr.PCreate q) apart).0 refl h
no_request p (instr.Label q t) apart h = one_pool 8 p.pools q [] (apart_from_req p (instr.Label q t) apart).0 refl h
no_request p (instr.PreLabel q t) apart h = one_pool 8 p.pools q [] (apart_from_req p (instr.PreLabel q t) apart).0 refl h
no_request p (instr.Unlabel q t) apart h = one_pool 8 p.pools q [] (apart_from_req p (instr.Unlabel q t) apart).0 refl h
no_request p (instr.BCreate o) apart h = one_pool 8 p.pools (pool_of_brigade p o) _ (apart_from_req p (instr.BCreate o) apart).0 refl h
no_request p (instr.PoolB c q) apart h = one_pool 8 p.pools q [] (apart_from_req p (instr.PoolB c q) apart).1 refl h
no_request p (instr.Aside c q) apart h = one_pool 8 p.pools q _ (apart_from_req p (instr.Aside c q) apart).1 refl h
no_request p i _ h = cc

-- Exits.

abbrev pub IsOnward : Exit → Type 0
IsOnward GoOn = Unit {0}
IsOnward Jump = Unit {0}
IsOnward Return = ⊥

jumps_on : (b : Bool) → IsOnward (jumps_if b)
jumps_on true = tt
jumps_on false = tt

-- only a return returns
branch_onward : (choice : Choice) (branch : Branch) (r : Configuration) → (branch ≡ EndCall → ⊥) → IsOnward (exit_by choice branch r)
branch_onward choice ToNext r on = tt
branch_onward choice (JumpIf when) r on = jumps_on (holds choice when r)
branch_onward choice JumpAlways r on = tt
branch_onward choice EndCall r on = absurd (on refl)

goes_on_by : (i : Instr) → is_return i ≡ false → branch_of i ≡ EndCall → ⊥
goes_on_by (instr.Ret s) on ends = cc
goes_on_by i on ends = cc

pub goes_onward : (p : Program) (choice : Choice) (i : Instr) (r : Configuration) → is_return i ≡ false → IsOnward (step p choice i r).exit
goes_onward p choice i r on = branch_onward choice (branch_of i) r (goes_on_by i on)

-- What is met, and where it leads.

same_edges : (e x : Edges) → need_or None e ≡ Ok x → e ≡ x
same_edges e x h = cc

pub met_of : (f : Option FaultKind) (e x : Edges) → need_or f e ≡ Ok x → (f ≡ None) × (e ≡ x)
met_of None e x h = (refl, same_edges e x h)
met_of (Some k) e x h = cc

-- what a call leaves is what is known without a request, or in one
pub left_rests : (p : Program) (m : Certificate) (pc : ℕ) (req : Option ℕ) → (pc < p.init → req ≡ None) → (p.init ≤ pc → is_some req ≡ true) → left_by p m pc ≡ resting m req
left_rests p m pc req opening serving = by_test (nat_lt pc p.init) refl where
  less : nat_lt pc p.init ≡ true → pc < p.init
  less h = grind (arith, nat_tests)

  more : nat_lt pc p.init ≡ false → p.init ≤ pc
  more h = grind (arith, nat_tests)

  open_there : (o : Option ℕ) → is_some o ≡ true → m.ready ≡ resting m o
  open_there None h = cc
  open_there (Some n) h = refl

  by_test : (b : Bool) → nat_lt pc p.init ≡ b → cond b m.idle m.ready ≡ resting m req
  by_test true is = ap (resting m) (sym (opening (less is)))
  by_test false is = open_there req (serving (more is))
