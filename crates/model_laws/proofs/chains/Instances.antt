-- Where instances change and the pools stay: brigades stay on their pools, or one comes in that lies on none.
use Rattle.std.proofs.Common.{◌≡◌, ◌≢◌, ◌⊎◌, ℕ, true, List, Some, None, inl, inr, refl, sym, ◌∙◌, ap, subst}
use Rattle.module_code.specs.declared.instr.PoolRef.{PoolRef}
use Rattle.module_code.specs.Program.{Program, pool_of_brigade}
use Rattle.run_model.specs.declared.bucket.Brigade.{Brigade}
use Rattle.run_model.specs.declared.bucket.BrigadeVar.{BrigadeVar}
use Rattle.run_model.specs.declared.bucket.BrigadeVar.TheVariants as var
use Rattle.run_model.specs.declared.bucket.PoolVar.{PoolVar}
use Rattle.run_model.specs.declared.bucket.PoolVar.TheVariants as poolvar
use Rattle.run_model.specs.Indexed.{upd}
use Rattle.run_model.specs.Pools.{is_live}
use Rattle.run_model.specs.State.{Configuration, Instance, pool_named}
use Rattle.run_model.specs.Faults.{is_live_named}
use Rattle.run_model.specs.Sound.{brigade_pool, SoundPools}
use Rattle.model_laws.specs.AsDeclared.{AsDeclared}
use Rattle.run_model.specs.Chains.{Connection, Common, module_at, configuration, pools_of}
use Rattle.model_laws.specs.ChainSound.{ChainPools}
use Rattle.run_model.proofs.Updates.{upd_either}
use Rattle.model_laws.proofs.PoolsKept.{keeps_pools}
use Rattle.model_laws.proofs.NamedPools.{live_pool, not_both}
use Rattle.model_laws.proofs.AsDeclared.{named_same}
use Rattle.model_laws.proofs.BrigadePools.{KeepsPool, same_on}
use Rattle.model_laws.proofs.chains.PutBack.{same_sound, same_declared}

-- A brigade stays on its pool, or it is `in` and lies on none.
abbrev pub StaysOn : ℕ → BrigadeVar → BrigadeVar → Type 0
StaysOn b old new = KeepsPool old new ⊎ ((b ≡ 8) × ((w : Brigade) → new ≡ var.Live w → w.on ≡ None))

pub record StaysInstance (old new : Instance) : Type 0 where
  pub own : new.pools ≡ old.pools
  pub brigades : (b : ℕ) → StaysOn b (old.brigades b) (new.brigades b)

pub same_instance : (x : Instance) → StaysInstance x x
same_instance x = record { own = refl; brigades = λ b. inl (same_on (x.brigades b)) }

changed_sound : (r : Configuration) (x : Instance) → StaysInstance r.instance x → SoundPools r → SoundPools (record r { instance = x })
changed_sound r x t s = keeps_pools r (record r { instance = x }) refl refl refl t.own (λ b n e. by_brigade b n (live_pool (x.brigades b) n e) (t.brigades b)) s where
  by_brigade : (b n : ℕ) → (w : Brigade) × (x.brigades b ≡ var.Live w) × (w.on ≡ Some n) → StaysOn b (r.instance.brigades b) (x.brigades b) → is_live r.shared.pools n ≡ true
  by_brigade b n is (inl keeps) = (let old = keeps is.0 is.1 in s.brigades b n (ap brigade_pool old.1 ∙ sym old.2 ∙ is.2))
  by_brigade b n is (inr comes) = absurd (not_both is.0.on n (comes.1 is.0 is.1) is.2)

changed_declared : (p : Program) (r : Configuration) (x : Instance) → StaysInstance r.instance x → AsDeclared p r → AsDeclared p (record r { instance = x })
changed_declared p r x t d = record {
  pools = λ q n e live. (let old = d.pools q n (was q n e) live in (old.0, named _ ∙ old.1, old.2, old.3));
  apart = λ q k n e f. d.apart q k n (was q n e) (was k n f);
  slots = λ q le. ap (λ (own : ℕ → PoolVar). own q) t.own ∙ d.slots q le;
  brigades = λ b v ne e. by_brigade b v ne e (t.brigades b);
  incoming = λ v e. comes v e (t.brigades 8);
} where
  new : Configuration
  new = record r { instance = x }

  was : (q n : ℕ) → x.pools q ≡ poolvar.Made n → r.instance.pools q ≡ poolvar.Made n
  was q n e = sym (ap (λ (own : ℕ → PoolVar). own q) t.own) ∙ e

  named : (k : PoolRef) → pool_named (record r { instance = x }) k ≡ pool_named r k
  named k = named_same r (record r { instance = x }) t.own refl refl k

  by_brigade : (b : ℕ) (v : Brigade) → b ≢ 8 → x.brigades b ≡ var.Live v → StaysOn b (r.instance.brigades b) (x.brigades b) → (v.on ≡ pool_named (record r { instance = x }) (pool_of_brigade p b))
      × (is_live_named r.shared.pools v.on ≡ true)
  by_brigade b v ne e (inl keeps) =
      let old = keeps v e in
      let lies = d.brigades b old.0 ne old.1 in
      (old.2 ∙ lies.0 ∙ sym (named (pool_of_brigade p b)), ap (is_live_named r.shared.pools) old.2 ∙ lies.1)
  by_brigade b v ne e (inr comes) = absurd (ne comes.0)

  comes : (v : Brigade) → x.brigades 8 ≡ var.Live v → StaysOn 8 (r.instance.brigades 8) (x.brigades 8) → v.on ≡ None
  comes v e (inl keeps) = (let old = keeps v e in old.2 ∙ d.incoming old.0 old.1)
  comes v e (inr on_none) = on_none.1 v e

pub instances_pools : (chain : List Program) (g new : Common) (c left : Connection) → pools_of new left ≡ pools_of g c → left.conn ≡ c.conn → left.req ≡ c.req
    → ((k : ℕ) → StaysInstance (c.instances k) (left.instances k)) → ChainPools chain g c → ChainPools chain new left
unfolding configuration
instances_pools chain g new c left pools conn req stays h = record {
  sound = λ f. same_sound (record (configuration g c f) { instance = left.instances f.of }) (configuration new left f) pools conn req refl
      (changed_sound (configuration g c f) (left.instances f.of) (stays f.of) (h.sound f));
  declared = λ f. same_declared (module_at chain f.of) (record (configuration g c f) { instance = left.instances f.of }) (configuration new left f) pools conn req refl
      (changed_declared (module_at chain f.of) (configuration g c f) (left.instances f.of) (stays f.of) (h.declared f));
  apart = λ j k q s n e d. h.apart j k q s n (sym (ap (λ (own : ℕ → PoolVar). own q) (stays j).own) ∙ e) (sym (ap (λ (own : ℕ → PoolVar). own s) (stays k).own) ∙ d);
}

-- where one instance changes
pub one_instance : (chain : List Program) (g new : Common) (c left : Connection) (k : ℕ) (x : Instance) → pools_of new left ≡ pools_of g c → left.conn ≡ c.conn → left.req ≡ c.req
    → left.instances ≡ upd c.instances k x → StaysInstance (c.instances k) x → ChainPools chain g c → ChainPools chain new left
one_instance chain g new c left k x pools conn req instances stays h =
    instances_pools chain g new c left pools conn req (λ j. subst (λ (xs : ℕ → Instance). StaysInstance (c.instances j) (xs j)) (sym instances) (at j)) h where
      at : (j : ℕ) → StaysInstance (c.instances j) (upd c.instances k x j)
      at j = elim (upd_either c.instances k j x) [
        | inl here ↦ subst (λ (y : Instance). StaysInstance (c.instances j) y) (sym here.1) (subst (λ (m : ℕ). StaysInstance (c.instances m) x) (sym here.0) stays)
        | inr off ↦ subst (λ (y : Instance). StaysInstance (c.instances j) y) (sym off.1) (same_instance (c.instances j))
      ]

-- where no instance changes
pub same_instances : (chain : List Program) (g new : Common) (c left : Connection) → pools_of new left ≡ pools_of g c → left.conn ≡ c.conn → left.req ≡ c.req → left.instances ≡ c.instances
    → ChainPools chain g c → ChainPools chain new left
same_instances chain g new c left pools conn req instances h =
    instances_pools chain g new c left pools conn req (λ k. subst (λ (xs : ℕ → Instance). StaysInstance (c.instances k) (xs k)) (sym instances) (same_instance (c.instances k))) h

-- where one brigade of an instance changes
pub one_brigade : (x : Instance) (b : ℕ) (v : BrigadeVar) → StaysOn b (x.brigades b) v → StaysInstance x (record x { brigades = upd x.brigades b v })
one_brigade x b v stays = record { own = refl; brigades = λ d. at d (upd_either x.brigades b d v) } where
  at : (d : ℕ) → ((d ≡ b) × (upd x.brigades b v d ≡ v)) ⊎ ((d ≢ b) × (upd x.brigades b v d ≡ x.brigades d)) → StaysOn d (x.brigades d) (upd x.brigades b v d)
  at d (inl here) = subst (λ (w : BrigadeVar). StaysOn d (x.brigades d) w) (sym here.1) (subst (λ (m : ℕ). StaysOn m (x.brigades m) v) (sym here.0) stays)
  at d (inr off) = subst (λ (w : BrigadeVar). StaysOn d (x.brigades d) w) (sym off.1) (inl (same_on (x.brigades d)))
