-- By a new world.
use Rattle.std.proofs.Common.{◌≡◌, ℕ, ◌+◌, ◌^◌, ◌<◌, Option, Some, None, Result, Ok, Err, refl, sym, ◌∙◌, subst, arith}
use Rattle.run_model.specs.Pools.{planted}
use Rattle.run_model.specs.Worlds.{new_world, tree_below, tree_of}
use Rattle.model_laws.proofs.chains.Reached.{new_is_reached}
use Rattle.brigade_ops.specs.House.{IsHouse}
use Rattle.brigade_ops.proofs.Housed.{house_begins}
use Rattle.brigade_ops.specs.Store.{lists, pool_of, references}
use Rattle.module_run.specs.declared.conn.Conn.{Conn}
use Rattle.filter_chain.specs.Hosting.{IsHosting, IsHostedIf, chain_of, budget_of}
use Rattle.filter_chain.proofs.host.Host.begun_at.Goals as goal

first_tree : (first : ℕ) → planted first ≡ tree_of (new_world first)
unfolding planted tree_below
first_tree first = refl

ok_apart : {X E : Type 0} (x : X) (e : E) → ◌≡◌ {A = Result X E} (Ok x) (Err e) → ⊥
ok_apart x e same = cc

-- a name that is given out is not the last
below : (first : ℕ) → first < 2 ^ 64 → (first ≡ 18446744073709551615 → ⊥) → first + 1 < 2 ^ 64
below first fits last = omega (arith, last)

pub returns-clause-empty : goal.returns-clause-empty
unfolding IsHosting chain_of budget_of
returns-clause-empty g c =
    let store = c.new-3.result in
    let root = c.in_ok-tree.ensures.ok in
    record {
      chained = c.requires.chain;
      reached = new_is_reached c.args.first c.args.limits.budget c.args.modules.items c.requires.named (below c.args.first c.ranges.first.fits (λ is. ok_apart _ _ (c.in_ok-tree.ensures.spent.1 is)));
      last_is = refl;
      pools = root ∙ first_tree c.args.first;
      names = sym c.new-3.ensures.next;
      files = (let lt = g.met.F.Files.numbered c.args.files in omega (arith, lt));
      house = subst (IsHouse store) (sym root) (house_begins (lists store) (pool_of store) (references store) c.args.first c.new-3.ensures.loose c.new-3.ensures.unreferred);
      open_files = λ file more. absurd (omega (arith, more, c.new-3.ensures.unreferred file));
      none = c.new-3.ensures.empty 0;
      conns = λ k. subst (λ (o : Option Conn). IsHostedIf c.args.modules.items c.in_ok-tree.tree store (g.F.Files.device c.args.files) o None) (sym (c.new-2.ensures k)) tt;
      apart = λ j k n a b at. absurd (let none : None ≡ Some a = sym (c.new-2.ensures j) ∙ at in cc);
    }

pub returns-clause-chain : goal.returns-clause-chain
unfolding chain_of
returns-clause-chain g c = refl

pub returns-clause-budget : goal.returns-clause-budget
unfolding budget_of
returns-clause-budget g c = refl

pub returns-clause-spent : goal.returns-clause-spent
returns-clause-spent g c = ((λ ill. absurd (ok_apart _ _ ill)), λ is. absurd (ok_apart _ _ (c.in_ok-tree.ensures.spent.1 is)))
