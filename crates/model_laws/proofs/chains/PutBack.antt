-- What an instruction of one call does to the pools, as all instances see them.
use Rattle.std.proofs.Common.{◌≡◌, ◌≢◌, ◌⊎◌, ℕ, ◌<◌, ◌≤◌, Bool, true, false, ◌==◌, cond, List, ◌∷◌, Some, inl, inr, refl, sym, ◌∙◌, ap, subst, arith, eqb-true, eq-eqb}
use Rattle.module_code.specs.declared.instr.PoolRef.{PoolRef}
use Rattle.module_code.specs.declared.instr.Instr.{Instr}
use Rattle.module_code.specs.Program.{Program}
use Rattle.run_model.specs.declared.bucket.BrigadeVar.{BrigadeVar}
use Rattle.run_model.specs.declared.bucket.PoolVar.TheVariants as poolvar
use Rattle.run_model.specs.declared.payload.Payload.{Payload}
use Rattle.run_model.specs.Pools.{Pools}
use Rattle.run_model.specs.State.{Configuration, Instance, fresh_call, pool_named}
use Rattle.run_model.specs.Sound.{brigade_pool, SoundPools}
use Rattle.model_laws.specs.AsDeclared.{AsDeclared}
use Rattle.run_model.specs.Chains.{Frame, Connection, Common, Linked, module_at, configuration, put_back, touched_var, touched_instance}
use Rattle.model_laws.specs.ChainSound.{ChainPools}
use Rattle.model_laws.proofs.AsDeclared.{kept}
use Rattle.model_laws.proofs.BrigadePools.{KeepsOn, KeepsPool, same_on}
use Rattle.model_laws.proofs.PoolsKept.{keeps_pools}
use Rattle.model_laws.proofs.chains.Spared.{IsSpared, spared_sound, spared_declared}

-- The state s that the instruction i of the call f leaves: its instance and the pools are sound, and named as declared. What is
-- reached may go, and no other instance names it. A pool that the instance names it named before, or it is new.
pub record IsTop (reached : ℕ → Bool) (chain : List Program) (g : Common) (c : Connection) (i : Instr) (f : Frame) (s : Configuration) : Type 0 where
  pub sound : SoundPools s
  pub declared : AsDeclared (module_at chain f.of) s
  pub conn : s.shared.conn ≡ c.conn
  pub req : s.shared.req ≡ c.req
  pub next : g.pools ≤ s.shared.pools.next
  pub owned : (q n : ℕ) → s.instance.pools q ≡ poolvar.Made n → ((c.instances f.of).pools q ≡ poolvar.Made n) ⊎ (g.pools ≤ n)
  pub paths : (n : ℕ) → n < g.pools → reached n ≡ false → s.shared.pools.path n ≡ c.path n
  pub up : (n m : ℕ) → c.path n ≡ n ∷ c.path m → reached n ≡ false → reached m ≡ false
  pub named : (w : Frame) → w.of ≢ f.of → (d : PoolRef) (k : ℕ) → pool_named (configuration g c w) d ≡ Some k → reached k ≡ false
  pub touched : (v : BrigadeVar) → KeepsOn (λ m. reached m ≡ false) v (touched_var (configuration g c f) i v)

-- a frame of a module, which only looks
abbrev pub looking : ℕ → Frame
looking k = record { of = k; call = fresh_call 0; pc = 0 }

-- r with another instance, and the rest of what s has
pub same_sound : (r new : Configuration) → new.shared.pools ≡ r.shared.pools → new.shared.conn ≡ r.shared.conn → new.shared.req ≡ r.shared.req → new.instance ≡ r.instance → SoundPools r
    → SoundPools new
same_sound r new pools conn req instance s =
    keeps_pools r new pools conn req (ap (λ (i : Instance). i.pools) instance) (λ b n e. s.brigades b n (ap (λ (i : Instance). brigade_pool (i.brigades b)) (sym instance) ∙ e)) s

pub same_declared : (p : Program) (r new : Configuration) → new.shared.pools ≡ r.shared.pools → new.shared.conn ≡ r.shared.conn → new.shared.req ≡ r.shared.req → new.instance ≡ r.instance
    → AsDeclared p r → AsDeclared p new
same_declared p r new pools conn req instance d =
    kept p r new (ap (λ (i : Instance). i.pools) instance) conn req (ap (λ (ps : Pools Payload). ps.path) pools)
    (λ b. subst (λ (i : Instance). KeepsPool (r.instance.brigades b) (i.brigades b)) (sym instance) (same_on (r.instance.brigades b))) d

module _ (reached : ℕ → Bool) (chain : List Program) (g : Common) (c : Connection) (i : Instr) (f : Frame) (s : Configuration) (top rest : List Frame) (t : IsTop reached chain g c i f s)
    (h : ChainPools chain g c) where
  left : Linked
  left = put_back i f s top rest (g, c)

  -- what the frame w sees where its instance is x
  seen : Frame → Instance → Configuration
  seen w x = record s { instance = x; call = w.call; shared = record s.shared { conn = c.conn }; pc = w.pc }

  other : ℕ → Instance
  other k = touched_instance (touched_var (configuration g c f) i) (c.instances k)

  seen_after : (w : Frame) → SoundPools (seen w (cond (w.of == f.of) s.instance (other w.of))) → SoundPools (configuration left.0 left.1 w)
  unfolding left seen other put_back configuration
  seen_after w s = same_sound _ _ refl refl refl refl s

  declared_after : (w : Frame) → AsDeclared (module_at chain w.of) (seen w (cond (w.of == f.of) s.instance (other w.of))) → AsDeclared (module_at chain w.of) (configuration left.0 left.1 w)
  unfolding left seen other put_back configuration
  declared_after w d = same_declared (module_at chain w.of) _ _ refl refl refl refl d

  not_same : (w : Frame) → (w.of == f.of) ≡ false → w.of ≢ f.of
  not_same w off is = let no : true ≡ false = sym (eq-eqb w.of f.of is) ∙ off in cc

  spared : (w : Frame) → (w.of == f.of) ≡ false → IsSpared reached (configuration g c w) (seen w (other w.of))
  unfolding seen other configuration
  spared w o = record { own = refl; conn = refl; req = t.req; next = t.next; paths = t.paths; up = t.up; named = t.named w (not_same w o); brigades = λ b. t.touched ((c.instances w.of).brigades b) }

  sound_at : (w : Frame) (b : Bool) → (w.of == f.of) ≡ b → SoundPools (seen w (cond b s.instance (other w.of)))
  unfolding seen
  sound_at w true is = same_sound s _ refl (sym t.conn) refl refl t.sound
  sound_at w false off = spared_sound reached (configuration g c w) _ (spared w off) t.sound.limit t.sound.formed (h.sound w)

  declared_at : (w : Frame) (b : Bool) → (w.of == f.of) ≡ b → AsDeclared (module_at chain w.of) (seen w (cond b s.instance (other w.of)))
  unfolding seen
  declared_at w true is =
      subst (λ (k : ℕ). AsDeclared (module_at chain k) (seen w s.instance)) (sym (eqb-true w.of f.of is)) (same_declared (module_at chain f.of) s _ refl (sym t.conn) refl refl t.declared)
  declared_at w false off = spared_declared reached (module_at chain w.of) (configuration g c w) _ (spared w off) (h.sound w) (h.declared w)

  owner : (k q n : ℕ) → (left.1.instances k).pools q ≡ poolvar.Made n → ((c.instances k).pools q ≡ poolvar.Made n) ⊎ ((k ≡ f.of) × (g.pools ≤ n))
  unfolding left other put_back
  owner k q n e = by_test (k == f.of) refl e where
    by_test : (b : Bool) → (k == f.of) ≡ b → (cond b s.instance (other k)).pools q ≡ poolvar.Made n → ((c.instances k).pools q ≡ poolvar.Made n) ⊎ ((k ≡ f.of) × (g.pools ≤ n))
    by_test true is e = elim (t.owned q n e) [
      | inl old ↦ inl (subst (λ (j : ℕ). (c.instances j).pools q ≡ poolvar.Made n) (sym (eqb-true k f.of is)) old)
      | inr new ↦ inr (eqb-true k f.of is, new)
    ]
    by_test false off e = inl e

  given : (k q n : ℕ) → (c.instances k).pools q ≡ poolvar.Made n → n < g.pools
  unfolding configuration
  given k q n e = ((h.sound (looking k)).own q n e).1

  apart_after : (j k q r n : ℕ) → (left.1.instances j).pools q ≡ poolvar.Made n → (left.1.instances k).pools r ≡ poolvar.Made n → j ≡ k
  apart_after j k q r n e d = elim (owner j q n e) [
    | inl old ↦ elim (owner k r n d) [ inl too ↦ h.apart j k q r n old too | inr new ↦ absurd (omega (arith, given j q n old, new.1)) ]
    | inr new ↦ elim (owner k r n d) [ inl old ↦ absurd (omega (arith, given k r n old, new.1)) | inr too ↦ new.0 ∙ sym too.0 ]
  ]

  pub put_back_pools : ChainPools chain (put_back i f s top rest (g, c)).0 (put_back i f s top rest (g, c)).1
  unfolding left
  put_back_pools = record {
    sound = λ w. seen_after w (sound_at w (w.of == f.of) refl);
    declared = λ w. declared_after w (declared_at w (w.of == f.of) refl);
    apart = apart_after;
  }
