-- A connection over a store and a tree in which nothing has changed.
use Rattle.std.proofs.Common.{◌≡◌, ℕ, ◌≤◌, Result, Ok, Err, true, List, Option, None, Some, arith, is_some, refl, sym, ap, subst, ◌∙◌}
use Rattle.std.specs.Prelude.{OnErr}
use Rattle.std.proofs.Math.Path.{fun_ext}
use Rattle.bucket_kinds.specs.Device.{Device}
use Rattle.bucket_ring.specs.declared.names.BucketId.{BucketId}
use Rattle.bucket_ring.specs.declared.rings.Rings.{Ghosts}
use Rattle.module_code.specs.Program.{Program}
use Rattle.run_model.specs.declared.payload.Payload.{Payload}
use Rattle.run_model.specs.Chains.{Linked}
use Rattle.run_model.specs.Pools.{Pools}
use Rattle.run_model.specs.RunOrder.{IsPoolMap}
use Rattle.pool_tree.specs.declared.tree.PoolTree.{PoolTree}
use Rattle.pool_tree.specs.Tree.{map_of}
use Rattle.bucket_kinds.specs.declared.stored.Stored.{Stored}
use Rattle.brigade_ops.specs.declared.store.Brigades.{Brigades}
use Rattle.brigade_ops.specs.House.{AreOpen, IsHouse}
use Rattle.bucket_store.specs.Items.{Items}
use Rattle.brigade_ops.specs.Store.{lists, brigade_of, pool_of, next_name, references}
use Rattle.brigade_ops.proofs.HouseCalls.{house_still}
use Rattle.brigade_ops.proofs.Stores.{brigades, same_brigade}
use Rattle.module_run.specs.declared.conn.Conn.{Conn}
use Rattle.module_run.specs.Conns.{IsSeenAs}
use Rattle.module_run.specs.Proceeding.{LeftAs}
use Rattle.module_run.specs.Stacked.{IsStacked, StackedOver}

none_under : (o : Option ℕ) → ((p : ℕ) → o ≡ Some p → ⊥) → o ≡ None
none_under None never = refl
none_under (Some p) never = absurd (never p refl)

module _ {R : Type 0} {g : Ghosts R Stored} where
  -- what lies on a pool is there
  pub off_pools : (store : Brigades R g) (ps : Pools Payload) → IsHouse store ps → (n : ℕ) → (is_some (lists store n) ≡ true → ⊥) → pool_of store n ≡ None
  off_pools store ps house n gone = none_under (pool_of store n) (λ p on. gone (house.there n p on))

  pub next_off_pools : (store : Brigades R g) (ps : Pools Payload) → IsHouse store ps → pool_of store (next_name store) ≡ None
  next_off_pools store ps house = off_pools store ps house (next_name store) (λ there. let lt = brigades store (next_name store) there in omega (arith, lt))

  pub later_off_pools : (store : Brigades R g) (ps : Pools Payload) → IsHouse store ps → (n : ℕ) → next_name store ≤ n → pool_of store n ≡ None
  later_off_pools store ps house n later = off_pools store ps house n (λ there. let lt = brigades store n there in omega (arith, lt, later))

  module _ (old new : Brigades R g) (same : (n : ℕ) → lists new n ≡ lists old n) (next : next_name new ≡ next_name old) (pools : pool_of new ≡ pool_of old) where
    pub stacked_same : (chain : List Program) (c : Conn) → IsStacked chain old c → IsStacked chain new c
    stacked_same chain c stacked =
        subst (λ (at : BucketId → Option ℕ). StackedOver chain at (lists new) (pool_of new) (next_name new) c) (sym (fun_ext (same_brigade old new same)))
        (subst (λ (rings : ℕ → Option Items). StackedOver chain (brigade_of old) rings (pool_of new) (next_name new) c) (sym (fun_ext same))
        (subst (λ (on : ℕ → Option ℕ). StackedOver chain (brigade_of old) (lists old) on (next_name new) c) (sym pools)
        (subst (λ (n : ℕ). StackedOver chain (brigade_of old) (lists old) (pool_of old) n c) (sym next) stacked)))

    pub left_same : (chain : List Program) (tree newer : PoolTree Payload) (d : Device) (c : Conn) (v : Linked) → map_of newer ≡ map_of tree → references new ≡ references old
        → LeftAs chain tree old d c v → LeftAs chain newer new d c v
    left_same chain tree newer d c v map refs left = record {
      seen = subst (λ (ps : Pools Payload). IsSeenAs ps (lists new) (next_name new) c v) (sym map)
          (subst (λ (rings : ℕ → Option Items). IsSeenAs (map_of tree) rings (next_name new) c v) (sym (fun_ext same))
          (subst (λ (n : ℕ). IsSeenAs (map_of tree) (lists old) n c v) (sym next) left.seen));
      opens = left.opens;
      formed = subst IsPoolMap (sym map) left.formed;
      house = subst (λ (ps : Pools Payload). IsHouse new ps) (sym map) (house_still old new (map_of tree) pools refs left.house (λ n. ap is_some (same n)));
      references = subst (λ (f : ℕ → ℕ). AreOpen f d) (sym refs) left.references;
      none = same 0 ∙ left.none;
      stacked = stacked_same chain c left.stacked;
    }

-- what holds of an error where it holds
pub on_err : {X E : Type 0} (x : Result X E) (P : Type 0) → P → OnErr x P
on_err (Ok y) P p = tt
on_err (Err e) P p = p
