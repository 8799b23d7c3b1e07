-- What a module clears is its own.
use Rattle.std.proofs.Common.{◌≡◌, ◌≢◌, ℕ, false, not, cond, List, [], ◌∷◌, map, Option, Some, None, inl, inr, refl, sym, ◌∙◌, ap}
use Rattle.std.proofs.lemmas.Bool.Decides.{eqb_tells}
use Rattle.std.proofs.lemmas.List.{map-id}
use Rattle.module_code.specs.declared.instr.Instr.{Instr}
use Rattle.module_code.specs.declared.instr.Instr.TheVariants as instr
use Rattle.module_code.specs.declared.instr.PoolRef.TheVariants as pool
use Rattle.module_code.specs.Program.{Program, pool_of_brigade}
use Rattle.run_model.specs.declared.bucket.Brigade.{Brigade}
use Rattle.run_model.specs.declared.bucket.BrigadeVar.TheVariants as var
use Rattle.run_model.specs.declared.bucket.NamedBucket.{NamedBucket}
use Rattle.run_model.specs.declared.bucket.PoolVar.TheVariants as poolvar
use Rattle.run_model.specs.Pools.{is_live, is_under, is_empty}
use Rattle.run_model.specs.Buckets.{cleared_bucket}
use Rattle.run_model.specs.Clearing.{is_reached, cleared_var}
use Rattle.run_model.specs.State.{pool_named}
use Rattle.run_model.specs.Chains.{Frame, Connection, Common, module_at, configuration, pools_of, is_under_named, cleared_by, touched_var, touched_bucket, IsChain}
use Rattle.model_laws.specs.ChainSound.{ChainSound}
use Rattle.model_laws.specs.ChainClears.{IsItsOwn, MadePoolsAreOwn, OthersKeepBrigades}
use Rattle.model_laws.proofs.NamedPools.{own_named}
use Rattle.run_model.proofs.PoolMap.{live_path}
use Rattle.model_laws.proofs.chains.Apart.{own_is, above_conn, under_no_other, under_no_request}
use Rattle.model_laws.proofs.chains.Modules.{module_at_proper}
use Rattle.model_laws.proofs.chains.PutBack.{looking}

on_one : (v : Brigade) (m : ℕ) → v.on ≡ None → v.on ≡ Some m → ⊥
on_one v m none some = cc

module _ (chain : List Program) (g : Common) (c : Connection) (chained : IsChain chain) (s : ChainSound chain g c) where
  -- a brigade of another module lies on a pool that this one declares, or came in and lies on none
  under_no_brigade : (j i q b p m : ℕ) (v : Brigade) → i ≢ j → (c.instances j).pools q ≡ poolvar.Made p → (c.instances i).brigades b ≡ var.Live v → v.on ≡ Some m → is_under (pools_of g c) p m ≡ false
  unfolding configuration
  under_no_brigade j i q b p m v differ made held on = elim (eqb_tells b 8) [
    | inl came ↦ absurd (on_one v m ((s.pools.declared (looking i)).incoming v (sym (ap (c.instances i).brigades came.1) ∙ held)) on)
    | inr own ↦ under_no_other chain g c (module_at_proper chain chained) s.pools (looking j) (looking i) q p (λ same. differ (sym same)) made (pool_of_brigade (module_at chain i) b) m
        (sym ((s.pools.declared (looking i)).brigades b v own.1 held).0 ∙ on)
  ]

  -- what was made lies under a live pool
  not_root : (j q p : ℕ) → (c.instances j).pools q ≡ poolvar.Made p → c.path p ≢ p ∷ []
  unfolding is_live configuration
  not_root j q p made alone =
      let lies = (s.pools.declared (looking j)).pools q p made (ap (λ path. not (is_empty path)) alone) in
      live_path (pools_of g c) lies.0 lies.2 (let both : p ∷ [] ≡ p ∷ c.path lies.0 = sym alone ∙ lies.3 in cc)

  own_pool : (j q p : ℕ) → (c.instances j).pools q ≡ poolvar.Made p → IsItsOwn g c j p
  own_pool j q p made = record {
    conn = above_conn chain g c (module_at_proper chain chained) s.pools (looking j) q p made;
    req = λ m is. under_no_request chain g c (module_at_proper chain chained) s.pools (looking j) q p m made is;
    brigades = λ i b m v differ held on. under_no_brigade j i q b p m v differ made held on;
    pools = λ i r m differ other.
        under_no_other chain g c (module_at_proper chain chained) s.pools (looking j) (looking i) q p (λ same. differ (sym same)) made (pool.Own r) m (own_is g c (looking i) r m other);
    root = not_root j q p made;
  }

  -- a clear does not reach it
  unreached : (f : Frame) (q k b : ℕ) (v : Brigade) → k ≢ f.of → (c.instances k).brigades b ≡ var.Live v → is_reached (cleared_by (configuration g c f) q) v.on ≡ false
  unfolding configuration
  unreached f q k b v differ held = by_pool v.on refl where
    by_named : (o : Option ℕ) (m : ℕ) → pool_named (configuration g c f) (pool.Own q) ≡ o → v.on ≡ Some m → is_under_named (configuration g c f).shared.pools o m ≡ false
    by_named None m is on = refl
    by_named (Some p) m is on = under_no_brigade f.of k q b p m v differ (own_named q p (configuration g c f) is) held on

    by_pool : (o : Option ℕ) → v.on ≡ o → is_reached (cleared_by (configuration g c f) q) o ≡ false
    by_pool None on = refl
    by_pool (Some m) on = by_named _ m refl on

  cleared_stays : (f : Frame) (q k b : ℕ) (v : Brigade) → k ≢ f.of → (c.instances k).brigades b ≡ var.Live v
      → cleared_var (cleared_by (configuration g c f) q) (var.Live v) ≡ var.Live (record v { items = map (cleared_bucket (cleared_by (configuration g c f) q)) v.items })
  cleared_stays f q k b v differ held =
      ap (λ t. cond t var.Gone (var.Live (record v { items = map (cleared_bucket (cleared_by (configuration g c f) q)) v.items }))) (unreached f q k b v differ held)

  keeps_brigade : (f : Frame) (i : Instr) (k b : ℕ) (v : Brigade) → k ≢ f.of → (c.instances k).brigades b ≡ var.Live v
      → touched_var (configuration g c f) i (var.Live v) ≡ var.Live (record v { items = map (touched_bucket (configuration g c f) i) v.items })
  keeps_brigade f (instr.PClear q) k b v differ held = cleared_stays f q k b v differ held
  keeps_brigade f (instr.PDestroy q) k b v differ held = cleared_stays f q k b v differ held
  keeps_brigade f (instr.Ret s) k b v differ held = refl
  keeps_brigade f i k b v differ held = ap (λ (items : List NamedBucket). var.Live (record v { items = items })) (sym (map-id v.items))

pub made_pools_are_own : MadePoolsAreOwn
made_pools_are_own chain g c j q p chained s made = own_pool chain g c chained s j q p made

pub others_keep_brigades : OthersKeepBrigades
others_keep_brigades chain g c f i k b v chained s differ held = keeps_brigade chain g c chained s f i k b v differ held
