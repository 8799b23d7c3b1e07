-- A chain of typed modules never faults, since each of them is safe.
use Rattle.std.proofs.Common.{ℕ, suc, List, [], ◌∷◌, All, arith}
use Rattle.std.proofs.lemmas.List.Elements.{All-nil, All-cons, All-tail}
use Rattle.module_code.specs.Program.{Program, IsModule}
use Rattle.run_model.specs.Chains.{module_at, IsChain}
use Rattle.model_laws.specs.OpenRuns.{InstancesAreSafe}
use Rattle.model_laws.proofs.seen.Safe.{safe_modules_make_safe_chains}
use Rattle.life_check.specs.Accepted.{IsCheckedChain}
use Rattle.life_check.specs.Certificates.{Certificate, AllBounded}
use Rattle.life_check.specs.ChainTheorem.{AllTyped, ChainNeverFaults, TypedChainNeverFaults}
use Rattle.life_check.specs.Typed.{IsTyped}
use Rattle.life_check.proofs.alone.Safe.{typed_is_safe}

-- each module of a typed chain is safe by itself
all_safe : (chain : List Program) (certs : ℕ → Certificate) → All IsModule chain → AllTyped chain certs → All InstancesAreSafe chain
unfolding module_at
all_safe [] certs proper typed = All-nil InstancesAreSafe
all_safe (p ∷ ps) certs proper typed =
    let first = typed 0 (omega arith) in
    All-cons InstancesAreSafe p ps (typed_is_safe p (certs 0) (proper 0 p (omega arith)) first.0 first.1)
    (all_safe ps (λ k. certs (suc k)) (All-tail IsModule p ps proper) (λ k lt. typed (suc k) (omega (arith, lt))))

pub typed_chain_never_faults : TypedChainNeverFaults
typed_chain_never_faults chain certs proper typed = safe_modules_make_safe_chains chain proper (all_safe chain certs proper.modules typed)

pub checked_never_faults : (chain : List Program) → IsCheckedChain chain → ChainNeverFaults chain
checked_never_faults chain h = typed_chain_never_faults chain h.certs h.chained h.typed

-- one module alone
alone : (p : Program) → IsModule p → IsChain (p ∷ [])
alone p proper = record { modules = All-cons IsModule p [] proper (All-nil IsModule); some = omega arith }

pub safe_alone_never_faults : (p : Program) → IsModule p → InstancesAreSafe p → ChainNeverFaults (p ∷ [])
safe_alone_never_faults p proper safe = safe_modules_make_safe_chains (p ∷ []) (alone p proper) (All-cons InstancesAreSafe p [] safe (All-nil InstancesAreSafe))

pub typed_alone_never_faults : (p : Program) (m : Certificate) → IsModule p → AllBounded m → IsTyped p m → ChainNeverFaults (p ∷ [])
typed_alone_never_faults p m proper bounded typed = safe_alone_never_faults p proper (typed_is_safe p m proper bounded typed)
