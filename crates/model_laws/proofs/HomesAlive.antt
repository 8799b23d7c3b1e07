-- Steps keep homes alive that have not ended.
use Rattle.std.proofs.Common.{◌≡◌, ℕ, ◌<◌, ◌≤◌, false, refl, sym, ◌∙◌, arith}
use Rattle.module_code.specs.declared.instr.Instr.{Instr}
use Rattle.module_code.specs.declared.instr.Instr.TheVariants as instr
use Rattle.module_code.specs.Program.{Program}
use Rattle.run_model.specs.declared.bucket.NamedBucket.{NamedBucket}
use Rattle.run_model.specs.State.{Configuration, items_of}
use Rattle.run_model.specs.Steps.{Choice, step, do_return}
use Rattle.run_model.specs.Sound.{Sound}
use Rattle.model_laws.specs.Laws.{MayExecute, is_return}
use Rattle.model_laws.specs.HomesAlive.{HomesAlive, StepKeepsHomes}
use Rattle.model_laws.proofs.Origins.{HoldsNamed}
use Rattle.model_laws.proofs.EachItem.{each_so}
use Rattle.model_laws.proofs.Unchanged.{step_changes_only}
use Rattle.model_laws.proofs.chains.StepHomes.{AliveAs, home_so, step_alive, return_alive}

-- the call itself, which has a name
abbrev Itself : Configuration → ℕ → Type 0
Itself r n = (n ≡ r.call.name) × (0 < n)

seen : (r : Configuration) → HomesAlive r → HoldsNamed (AliveAs (Itself r) r.shared.pools) r
seen r s = record { brigades = s.brigades; loose = s.loose }

goes_on : (p : Program) (choice : Choice) (i : Instr) (r : Configuration) → is_return i ≡ false → MayExecute p r i → Sound r → 0 < r.call.name → HomesAlive r → HomesAlive (step p choice i r).state
goes_on p choice i r on may sound named s = record {
  brigades = λ b. each_so (AliveAs (Itself r) new.shared.pools) (AliveAs (Itself new) new.shared.pools) as_new (items_of (new.instance.brigades b)) (left.brigades b);
  loose = each_so (AliveAs (Itself r) new.shared.pools) (AliveAs (Itself new) new.shared.pools) as_new new.call.loose left.loose;
  names = let old : 0 < r.shared.next = s.names in let le : r.shared.next ≤ new.shared.next = (step_changes_only p choice i r).names in omega arith;
} where
  new : Configuration
  new = (step p choice i r).state

  left : HoldsNamed (AliveAs (Itself r) new.shared.pools) new
  left = step_alive (Itself r) p choice i r on may sound (refl, named) (seen r s)

  as_new : (x : NamedBucket) → AliveAs (Itself r) new.shared.pools x → AliveAs (Itself new) new.shared.pools x
  as_new x a = home_so (Itself r) (Itself new) new.shared.pools new.shared.pools (λ n is. (is.0 ∙ sym ((step_changes_only p choice i r).call_name on), is.1)) (λ n live. live) x.bucket.home a

pub step_homes : StepKeepsHomes
step_homes p choice (instr.Ret status) r may sound named s =
    let left = return_alive (Itself r) (Itself (do_return r)) r (λ n is ne. absurd (ne is.0)) (seen r s) in
    record { brigades = left.brigades; loose = left.loose; names = s.names }
step_homes p choice i r may sound named s = goes_on p choice i r refl may sound named s
