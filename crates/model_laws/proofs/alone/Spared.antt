-- What the instance does to its own pools spares those of others.
use Rattle.std.proofs.Common.{◌≡◌, ◌⊎◌, ℕ, ◌<◌, Bool, false, ◌||◌, List, [], Some, inl, inr, refl, sym, ◌∙◌, ap, subst, arith, ne_eqb}
use Rattle.std.proofs.lemmas.Option.{same_Some}
use Rattle.module_code.specs.declared.instr.Instr.{Instr}
use Rattle.module_code.specs.declared.instr.Instr.TheVariants as instr
use Rattle.module_code.specs.declared.instr.PoolRef.{PoolRef}
use Rattle.module_code.specs.declared.instr.PoolRef.TheVariants as pool
use Rattle.module_code.specs.Program.{Program, pool_of_pool}
use Rattle.run_model.specs.declared.bucket.PoolVar.{PoolVar}
use Rattle.run_model.specs.declared.bucket.PoolVar.TheVariants as poolvar
use Rattle.run_model.specs.Clearing.{run_down}
use Rattle.run_model.specs.Pools.{is_in, is_under, created}
use Rattle.run_model.specs.Sound.{Sound}
use Rattle.run_model.specs.State.{Configuration, name_in, named_at, pool_named, set_pool, with_pools}
use Rattle.run_model.specs.Steps.{Choice, step, pool_cleared, pool_destroyed}
use Rattle.run_model.proofs.Formed.{formed_older}
use Rattle.run_model.proofs.PoolMap.{created_kept, created_at, cleared_path, cleared_apart, destroyed_path, destroyed_apart, not_under}
use Rattle.run_model.proofs.Updates.{upd_either}
use Rattle.model_laws.specs.Laws.{MayExecute}
use Rattle.model_laws.specs.OpenRuns.{IsOthers}
use Rattle.model_laws.proofs.AsDeclared.{same_live, named_same}
use Rattle.model_laws.proofs.NamedPools.{on_named, made_under_named, own_named, conn_given, req_given}
use Rattle.model_laws.proofs.chains.QuietSteps.{IsQuiet, quiet_step}

made_is : (a b : ℕ) → poolvar.Made a ≡ poolvar.Made b → a ≡ b
made_is a b e = cc

module _ (r : Configuration) (s : Sound r) (m : ℕ) (o : IsOthers r m) where
  low : m < r.shared.pools.next
  low = s.pools.formed.named m o.live

  quiet_others : (new : Configuration) → IsQuiet r new → IsOthers new m
  unfolding is_under
  quiet_others new q = record {
    live = same_live r.shared.pools new.shared.pools m (ap (λ (path : ℕ → List ℕ). path m) q.path) ∙ o.live;
    above = λ k n e. ap (λ (path : ℕ → List ℕ). is_in m (path n)) q.path ∙ o.above k n (sym (named_same r new q.own q.conn q.req k) ∙ e);
    under = λ k n e. ap (λ (path : ℕ → List ℕ). is_in n (path m)) q.path ∙ o.under k n (sym (ap (λ (own : ℕ → PoolVar). own k) q.own) ∙ e);
  }

  -- a pool is made
  named_given : (k : PoolRef) (n : ℕ) → pool_named r k ≡ Some n → n < r.shared.pools.next
  unfolding named_at
  named_given pool.Conn n e = (let lt = conn_given r s.pools in let is : r.shared.conn ≡ n = same_Some r.shared.conn n e in omega arith)
  named_given pool.Req n e = req_given r n e s.pools
  named_given (pool.Own q) n e = (s.pools.own q n (own_named q n r e)).1

  created_others : (k : PoolRef) (parent q : ℕ) → pool_named r k ≡ Some parent → IsOthers (set_pool q (poolvar.Made r.shared.pools.next) (with_pools (created parent r.shared.pools) r)) m
  unfolding set_pool with_pools is_under named_at
  created_others k parent q at =
      let ps = created parent r.shared.pools in
      let next : ℕ = r.shared.pools.next in
      let stays : ps.path m ≡ r.shared.pools.path m = created_kept parent r.shared.pools m low in
      let same : (j : PoolRef) (n : ℕ) → pool_named r j ≡ Some n → is_under ps m n ≡ false = λ j n e. ap (is_in m) (created_kept parent r.shared.pools n (named_given j n e)) ∙ o.above j n e in
      let new : is_under ps m next ≡ false = ap (is_in m) (created_at parent r.shared.pools)
      ∙ (ap (λ (b : Bool). b || is_in m (r.shared.pools.path parent)) (ne_eqb next m (λ e. absurd (omega (arith, e, low)))) ∙ o.above k parent at) in
      let fresh : is_in next (r.shared.pools.path m) ≡ false = not_under next r.shared.pools m (formed_older r.shared.pools s.pools.formed) low in
      record {
        live = same_live r.shared.pools ps m stays ∙ o.live;
        above = λ j n e. by_ref same new j n e;
        under = λ j n e. elim (upd_either r.instance.pools q j (poolvar.Made next)) [
          | inl here ↦ ap (is_in n) stays ∙ subst (λ (x : ℕ). is_in x (r.shared.pools.path m) ≡ false) (made_is next n (sym here.1 ∙ e)) fresh
          | inr there ↦ ap (is_in n) stays ∙ o.under j n (sym there.1 ∙ e)
        ];
      } where
        by_ref : ((j : PoolRef) (n : ℕ) → pool_named r j ≡ Some n → is_under (created parent r.shared.pools) m n ≡ false) → is_under (created parent r.shared.pools) m r.shared.pools.next ≡ false
            → (j : PoolRef) (n : ℕ) → pool_named (set_pool q (poolvar.Made r.shared.pools.next) (with_pools (created parent r.shared.pools) r)) j ≡ Some n
            → is_under (created parent r.shared.pools) m n ≡ false
        by_ref same new pool.Conn n e = same pool.Conn n e
        by_ref same new pool.Req n e = same pool.Req n e
        by_ref same new (pool.Own j) n e = elim (upd_either r.instance.pools q j (poolvar.Made r.shared.pools.next)) [
          | inl here ↦ subst (λ (x : ℕ). is_under (created parent r.shared.pools) m x ≡ false) (same_Some r.shared.pools.next n (sym (ap name_in here.1) ∙ e)) new
          | inr there ↦ same (pool.Own j) n (sym (ap name_in there.1) ∙ e)
        ]

  -- one of its own goes
  gone_others : (new : Configuration) → new.instance.pools ≡ r.instance.pools → new.shared.conn ≡ r.shared.conn → new.shared.req ≡ r.shared.req → new.shared.pools.path m ≡ r.shared.pools.path m
      → ((n : ℕ) → (new.shared.pools.path n ≡ []) ⊎ (new.shared.pools.path n ≡ r.shared.pools.path n)) → IsOthers new m
  unfolding is_under
  gone_others new own conn req stays left = record {
    live = same_live r.shared.pools new.shared.pools m stays ∙ o.live;
    above = λ k n e. elim (left n) [
      | inl gone ↦ ap (is_in m) gone
      | inr same ↦ ap (is_in m) same ∙ o.above k n (sym (named_same r new own conn req k) ∙ e)
    ];
    under = λ k n e. ap (is_in n) stays ∙ o.under k n (sym (ap (λ (pools : ℕ → PoolVar). pools k) own) ∙ e);
  }

  -- any instruction that has no fault
  pub step_others : (p : Program) (choice : Choice) (i : Instr) → MayExecute p r i → IsOthers (step p choice i r).state m
  unfolding run_down with_pools
  step_others p choice (instr.PCreate q) may = made_under_named (λ x. IsOthers x m) p q r o (λ parent e. created_others (pool_of_pool p q) parent q e)
  step_others p choice (instr.PClear q) may = on_named (λ x. IsOthers x m) pool_cleared (pool_named r (pool.Own q)) r o (λ n e.
      gone_others (pool_cleared n r) refl refl refl (cleared_apart n r.shared.pools m (o.under q n (own_named q n r e))).0 (cleared_path n r.shared.pools))
  step_others p choice (instr.PDestroy q) may = on_named (λ x. IsOthers x m) pool_destroyed (pool_named r (pool.Own q)) r o (λ n e.
      gone_others (pool_destroyed n r) refl refl refl (destroyed_apart n r.shared.pools m (o.under q n (own_named q n r e))).0 (destroyed_path n r.shared.pools))
  step_others p choice i may = quiet_others (step p choice i r).state (quiet_step p choice i r refl may)
