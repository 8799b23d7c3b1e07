-- What each instruction of the call on top does to the pools, as all instances see them.
use Rattle.std.proofs.Common.{◌≡◌, ℕ, Bool, false, List, Option, Some, None, All, inl, inr, refl, sym, ◌∙◌, ap, subst, arith}
use Rattle.std.proofs.lemmas.List.Elements.{All-head}
use Rattle.module_code.specs.declared.instr.PoolRef.TheVariants as pool
use Rattle.module_code.specs.declared.instr.Instr.{Instr}
use Rattle.module_code.specs.declared.instr.Instr.TheVariants as instr
use Rattle.module_code.specs.Program.{Program, IsModule}
use Rattle.run_model.specs.declared.bucket.BrigadeVar.{BrigadeVar}
use Rattle.run_model.specs.declared.bucket.PoolVar.{PoolVar}
use Rattle.run_model.specs.declared.bucket.PoolVar.TheVariants as poolvar
use Rattle.run_model.specs.Pools.{is_under, created}
use Rattle.run_model.specs.State.{Configuration, pool_named, set_pool, with_pools}
use Rattle.run_model.specs.Clearing.{cleared_var, run_down}
use Rattle.run_model.specs.Steps.{Choice, step, current, on_pool, pool_cleared, pool_destroyed}
use Rattle.run_model.specs.Sound.{SoundPools, Sound}
use Rattle.model_laws.specs.AsDeclared.{AsDeclared}
use Rattle.model_laws.specs.Laws.{MayExecute}
use Rattle.run_model.specs.Chains.{Frame, Connection, Common, module_at, configuration, pools_of, touched_var, is_under_named, cleared_by}
use Rattle.model_laws.specs.ChainSound.{ChainPools, ChainSound, IsFramePlaced}
use Rattle.model_laws.specs.ChainLaws.{MayProceed}
use Rattle.run_model.proofs.Updates.{upd_either}
use Rattle.run_model.proofs.PoolMap.{created_kept, created_next, cleared_apart, cleared_next, destroyed_apart, destroyed_next}
use Rattle.model_laws.proofs.NamedPools.{made_under_named, own_named}
use Rattle.model_laws.proofs.StepPools.{step_pools}
use Rattle.model_laws.proofs.Handlers.{current_at}
use Rattle.model_laws.proofs.AsDeclared.{cleared_on, parent_apart, step_declared}
use Rattle.model_laws.proofs.BrigadePools.{KeepsOn, KeepsPool, same_on, returned_on}
use Rattle.model_laws.proofs.chains.Apart.{under_no_other}
use Rattle.model_laws.proofs.chains.Modules.{module_at_proper}
use Rattle.model_laws.proofs.chains.PutBack.{IsTop}
use Rattle.model_laws.proofs.chains.QuietSteps.{IsQuiet, as_before, quiet_step}

-- the instruction of the call on top may be executed
pub may_step : (chain : List Program) (g : Common) (c : Connection) (f : Frame) (rest : List Frame) → MayProceed chain g c f rest → ChainSound chain g c
    → MayExecute (module_at chain f.of) (configuration g c f) (current (module_at chain f.of) f.pc)
may_step chain g c f rest may s =
    let proper : IsModule (module_at chain f.of) = module_at_proper chain may.chained f.of in
    let placed : IsFramePlaced chain c.req f = All-head (IsFramePlaced chain c.req) f rest (subst (λ (fs : List Frame). All (IsFramePlaced chain c.req) fs) may.on_top s.calls.placed) in
    record {
      proper = proper;
      fit = (proper.placed f.pc (current (module_at chain f.of) f.pc) (current_at (module_at chain f.of) f.pc placed.at)).fit;
      faultless = may.faultless;
      names_last = may.names_last;
    }

nothing : ℕ → Bool
nothing n = false

none_gone : (v w : BrigadeVar) → KeepsPool v w → KeepsOn (λ m. nothing m ≡ false) v w
unfolding nothing
none_gone v w h x e = (let old = h x e in (old.0, old.1, old.2, λ m at. refl))

-- an instruction that makes, clears and destroys no pool
quiet_top : (chain : List Program) (g : Common) (c : Connection) (i : Instr) (f : Frame) (s : Configuration) → SoundPools s → AsDeclared (module_at chain f.of) s → IsQuiet (configuration g c f) s
    → ((v : BrigadeVar) → KeepsPool v (touched_var (configuration g c f) i v)) → IsTop nothing chain g c i f s
unfolding nothing configuration
quiet_top chain g c i f s sound declared q touched = record {
  sound = sound;
  declared = declared;
  conn = q.conn;
  req = q.req;
  next = omega (arith, q.next);
  owned = λ k n e. inl (sym (ap (λ (own : ℕ → PoolVar). own k) q.own) ∙ e);
  paths = λ n lt free. ap (λ (path : ℕ → List ℕ). path n) q.path;
  up = λ n m at free. refl;
  named = λ w ne d k e. refl;
  touched = λ v. none_gone v _ (touched v);
}

-- a pool is made
made_top : (chain : List Program) (g : Common) (c : Connection) (q parent : ℕ) (f : Frame) (s : Configuration)
    → s ≡ set_pool q (poolvar.Made g.pools) (with_pools (created parent (pools_of g c)) (configuration g c f)) → SoundPools s → AsDeclared (module_at chain f.of) s
    → IsTop nothing chain g c (instr.PCreate q) f s
unfolding nothing configuration set_pool with_pools
made_top chain g c q parent f s is sound declared = record {
  sound = sound;
  declared = declared;
  conn = ap (λ (x : Configuration). x.shared.conn) is;
  req = ap (λ (x : Configuration). x.shared.req) is;
  next = omega (arith, ap (λ (x : Configuration). x.shared.pools.next) is, created_next parent (pools_of g c));
  owned = λ k n e. elim (upd_either (c.instances f.of).pools q k (poolvar.Made g.pools)) [
    | inl at ↦ inr (let new : g.pools ≡ n = made_same g.pools n (sym at.1 ∙ sym (ap (λ (x : Configuration). x.instance.pools k) is) ∙ e) in omega (arith, new))
    | inr off ↦ inl (sym off.1 ∙ sym (ap (λ (x : Configuration). x.instance.pools k) is) ∙ e)
  ];
  paths = λ n lt free. ap (λ (x : Configuration). x.shared.pools.path n) is ∙ created_kept parent (pools_of g c) n lt;
  up = λ n m at free. refl;
  named = λ w ne d k e. refl;
  touched = λ v. none_gone v v (same_on v);
} where
  made_same : (a b : ℕ) → poolvar.Made a ≡ poolvar.Made b → a ≡ b
  made_same a b e = cc

module _ (chain : List Program) (g : Common) (c : Connection) (proper : (k : ℕ) → IsModule (module_at chain k)) (h : ChainPools chain g c) (f : Frame) where
  -- a pool of the instance is cleared or destroyed: what is done leaves what is not under it
  gone_top : (q : ℕ) (i : Instr) (change : ℕ → Configuration → Configuration) (o : Option ℕ) → pool_named (configuration g c f) (pool.Own q) ≡ o
      → ((n : ℕ) (r : Configuration) → ((change n r).shared.conn ≡ r.shared.conn) × ((change n r).shared.req ≡ r.shared.req) × ((change n r).shared.pools.next ≡ r.shared.pools.next)
      × ((change n r).instance.pools ≡ r.instance.pools)
      × ((k : ℕ) → is_under r.shared.pools n k ≡ false → (change n r).shared.pools.path k ≡ r.shared.pools.path k))
      → ((v : BrigadeVar) → touched_var (configuration g c f) i v ≡ cleared_var (cleared_by (configuration g c f) q) v)
      → SoundPools (on_pool change o (configuration g c f)) → AsDeclared (module_at chain f.of) (on_pool change o (configuration g c f))
      → IsTop (is_under_named (pools_of g c) o) chain g c i f (on_pool change o (configuration g c f))
  unfolding configuration
  gone_top q i change None e leaves touched sound declared = record {
    sound = sound;
    declared = declared;
    conn = refl;
    req = refl;
    next = omega arith;
    owned = λ k n at. inl at;
    paths = λ n lt free. refl;
    up = λ n m at free. refl;
    named = λ w ne d k at. refl;
    touched = λ v. cleared_on (is_under_named (pools_of g c) None) v _ (touched v ∙ ap (λ (x : Option ℕ). cleared_var (is_under_named (pools_of g c) x) v) e);
  }
  gone_top q i change (Some n) e leaves touched sound declared =
      let left = leaves n (configuration g c f) in
      record {
        sound = sound;
        declared = declared;
        conn = left.0;
        req = left.1;
        next = omega (arith, left.2);
        owned = λ k m at. inl (sym (ap (λ (own : ℕ → PoolVar). own k) left.3) ∙ at);
        paths = λ m lt free. left.4 m free;
        up = λ k m at free. parent_apart (pools_of g c) n k m at free;
        named = λ w ne d k at. under_no_other chain g c proper h f w q n (λ same. ne (sym same)) (own_named q n (configuration g c f) e) d k at;
        touched = λ v. cleared_on (is_under_named (pools_of g c) (Some n)) v _ (touched v ∙ ap (λ (x : Option ℕ). cleared_var (is_under_named (pools_of g c) x) v) e);
      }

  clear_leaves : (n : ℕ) (r : Configuration) → ((pool_cleared n r).shared.conn ≡ r.shared.conn) × ((pool_cleared n r).shared.req ≡ r.shared.req)
      × ((pool_cleared n r).shared.pools.next ≡ r.shared.pools.next) × ((pool_cleared n r).instance.pools ≡ r.instance.pools)
      × ((k : ℕ) → is_under r.shared.pools n k ≡ false → (pool_cleared n r).shared.pools.path k ≡ r.shared.pools.path k)
  unfolding run_down with_pools
  clear_leaves n r = (refl, refl, cleared_next n r.shared.pools, refl, λ k off. (cleared_apart n r.shared.pools k off).0)

  destroy_leaves : (n : ℕ) (r : Configuration) → ((pool_destroyed n r).shared.conn ≡ r.shared.conn) × ((pool_destroyed n r).shared.req ≡ r.shared.req)
      × ((pool_destroyed n r).shared.pools.next ≡ r.shared.pools.next) × ((pool_destroyed n r).instance.pools ≡ r.instance.pools)
      × ((k : ℕ) → is_under r.shared.pools n k ≡ false → (pool_destroyed n r).shared.pools.path k ≡ r.shared.pools.path k)
  unfolding run_down with_pools
  destroy_leaves n r = (refl, refl, destroyed_next n r.shared.pools, refl, λ k off. (destroyed_apart n r.shared.pools k off).0)

  -- each instruction
  pub top_step : (choice : Choice) (i : Instr) → MayExecute (module_at chain f.of) (configuration g c f) i → Sound (configuration g c f)
      → (reached : ℕ → Bool) × IsTop reached chain g c i f (step (module_at chain f.of) choice i (configuration g c f)).state
  unfolding configuration
  top_step choice i may sound = by_instr i may (step_pools (module_at chain f.of) choice i (configuration g c f) may sound.pools)
      (step_declared (module_at chain f.of) choice i (configuration g c f) may sound (h.declared f)) where
        by_instr : (i : Instr) → MayExecute (module_at chain f.of) (configuration g c f) i → SoundPools (step (module_at chain f.of) choice i (configuration g c f)).state
            → AsDeclared (module_at chain f.of) (step (module_at chain f.of) choice i (configuration g c f)).state → (reached : ℕ → Bool)
            × IsTop reached chain g c i f (step (module_at chain f.of) choice i (configuration g c f)).state
        by_instr (instr.PCreate q) may sound declared = (
          nothing,
          made_under_named (λ x. SoundPools x → AsDeclared (module_at chain f.of) x → IsTop nothing chain g c (instr.PCreate q) f x) (module_at chain f.of) q (configuration g c f)
              (λ s d. quiet_top chain g c (instr.PCreate q) f (configuration g c f) s d (as_before _ _ refl refl refl refl refl) same_on)
              (λ parent e s d. made_top chain g c q parent f _ refl s d) sound declared,
        )
        by_instr (instr.PClear q) may sound declared = (_, gone_top q (instr.PClear q) pool_cleared (pool_named (configuration g c f) (pool.Own q)) refl clear_leaves (λ v. refl) sound declared)
        by_instr (instr.PDestroy q) may sound declared = (
          _,
          gone_top q (instr.PDestroy q) pool_destroyed (pool_named (configuration g c f) (pool.Own q)) refl destroy_leaves (λ v. refl) sound declared,
        )
        by_instr (instr.Ret s) may sound declared =
            (nothing, quiet_top chain g c (instr.Ret s) f _ sound declared (quiet_step (module_at chain f.of) choice (instr.Ret s) (configuration g c f) refl may) (returned_on f.call.name))
        by_instr i may sound declared = (nothing, quiet_top chain g c i f _ sound declared (quiet_step (module_at chain f.of) choice i (configuration g c f) refl may) same_on)
