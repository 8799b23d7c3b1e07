-- The variable that is looked at decides, or those below it.
use Rattle.std.proofs.Common.{◌≡◌, ℕ, ◌-◌, Bool, true, false, arith, rules}
use Rattle.run_model.specs.State.{is_named}
use Rattle.interp_state.specs.Slots.{slot_at, name_in}
use Rattle.interp_state.proofs.Found.{found_here, found_before, found_none}
use Rattle.interp_checks.proofs.places.slot_of.Goals as goal

pub returns-then-is_called-clause-found : goal.returns-then-is_called-clause-found
returns-then-is_called-clause-found c =
    let test : ℕ → Bool = λ b. is_named (name_in (slot_at c.args.instance.now b)) c.args.name in
    let here : test (c.loop-b.b - 1) ≡ true = search rules in
    found_here c.loop-b.b test _ (omega arith) c.loop-b.invariant here

pub loop-b-preserved : goal.loop-b-preserved
loop-b-preserved c =
    let test : ℕ → Bool = λ b. is_named (name_in (slot_at c.args.instance.now b)) c.args.name in
    let here : test (c.loop-b.b - 1) ≡ false = search rules in
    found_before c.loop-b.b test _ (omega arith) c.loop-b.invariant here

pub returns-clause-found : goal.returns-clause-found
returns-clause-found c = found_none c.loop-b.b (λ b. is_named (name_in (slot_at c.args.instance.now b)) c.args.name) _ (omega arith) c.loop-b.invariant
