-- By what the check of the chain gives.
use Rattle.std.proofs.Common.{List, Result, Ok, Err, IfOk, sym, ◌∙◌, subst}
use Rattle.module_code.specs.Program.{Program}
use Rattle.run_model.specs.Chains.{IsChain}
use Rattle.life_check.specs.ChainTheorem.{ChainNeverFaults}
use Rattle.filter_chain.proofs.host.Host.checked_at.Goals as goal

if_ok_weaker : {X E : Type 0} {P Q : X → Type 0} (r : Result X E) → ((x : X) → P x → Q x) → IfOk r P → IfOk r Q
if_ok_weaker (Ok x) f p = f x p
if_ok_weaker (Err e) f p = tt

pub begun_at-requires-clause-chain : goal.begun_at-requires-clause-chain
begun_at-requires-clause-chain g c = subst (λ (chain : List Program). IsChain chain) (sym c.into_modules.ensures.value) c.into_modules.ensures.checked.chained

pub begun_at-requires-clause-checked : goal.begun_at-requires-clause-checked
begun_at-requires-clause-checked g c bare = subst (λ (chain : List Program). ChainNeverFaults chain) (sym c.into_modules.ensures.value) c.into_modules.ensures.safe

pub returns-clause-chain : goal.returns-clause-chain
returns-clause-chain g c = if_ok_weaker c.begun_at.result (λ host same. same ∙ c.into_modules.ensures.value) c.begun_at.ensures.chain

pub returns-clause-safe : goal.returns-clause-safe
returns-clause-safe g c = if_ok_weaker c.begun_at.result
    (λ host same. subst (λ (chain : List Program). ChainNeverFaults chain) (sym (same ∙ c.into_modules.ensures.value)) c.into_modules.ensures.safe) c.begun_at.ensures.chain

pub returns-clause-empty : goal.returns-clause-empty
returns-clause-empty g c = c.begun_at.ensures.empty
