-- What a change by one instance leaves of the pools of another: what it names stays.
use Rattle.std.proofs.Common.{◌≡◌, ℕ, ◌^◌, ◌<◌, ◌≤◌, Bool, true, false, List, ◌∷◌, Some, refl, sym, ◌∙◌, ap, subst, arith}
use Rattle.module_code.specs.declared.instr.PoolRef.{PoolRef}
use Rattle.module_code.specs.declared.instr.PoolRef.TheVariants as pool
use Rattle.module_code.specs.Program.{Program}
use Rattle.run_model.specs.declared.bucket.Brigade.{Brigade}
use Rattle.run_model.specs.declared.bucket.BrigadeVar.{BrigadeVar}
use Rattle.run_model.specs.declared.bucket.BrigadeVar.TheVariants as var
use Rattle.run_model.specs.declared.bucket.PoolVar.{PoolVar}
use Rattle.run_model.specs.declared.bucket.PoolVar.TheVariants as poolvar
use Rattle.run_model.specs.Pools.{is_live}
use Rattle.run_model.specs.RunOrder.{IsPoolMap}
use Rattle.run_model.specs.State.{Configuration, name_in, named_at, pool_named}
use Rattle.run_model.specs.Sound.{brigade_pool, SoundPools}
use Rattle.model_laws.specs.AsDeclared.{AsDeclared}
use Rattle.model_laws.proofs.AsDeclared.{carried, same_live, named_same}
use Rattle.model_laws.proofs.BrigadePools.{KeepsOn}
use Rattle.model_laws.proofs.NamedPools.{conn_given, req_given}

-- What is reached may go, and what is named is not reached. Pools that are not reached keep their paths, those above them are not
-- reached either, and a brigade that is left lies on none that is.
pub record IsSpared (reached : ℕ → Bool) (r new : Configuration) : Type 0 where
  pub own : new.instance.pools ≡ r.instance.pools
  pub conn : new.shared.conn ≡ r.shared.conn
  pub req : new.shared.req ≡ r.shared.req
  pub next : r.shared.pools.next ≤ new.shared.pools.next
  pub paths : (n : ℕ) → n < r.shared.pools.next → reached n ≡ false → new.shared.pools.path n ≡ r.shared.pools.path n
  pub up : (n m : ℕ) → r.shared.pools.path n ≡ n ∷ r.shared.pools.path m → reached n ≡ false → reached m ≡ false
  pub named : (d : PoolRef) (k : ℕ) → pool_named r d ≡ Some k → reached k ≡ false
  pub brigades : (b : ℕ) → KeepsOn (λ m. reached m ≡ false) (r.instance.brigades b) (new.instance.brigades b)

some_live : (v : BrigadeVar) (n : ℕ) → brigade_pool v ≡ Some n → (w : Brigade) × (v ≡ var.Live w) × (w.on ≡ Some n)
some_live var.Null n e = absurd (cc)
some_live var.Gone n e = absurd (cc)
some_live (var.Live w) n e = (w, refl, e)

-- a brigade that is left lies on a pool that is live, as before
spared_on : (reached : ℕ → Bool) (r new : Configuration) → IsSpared reached r new → SoundPools r → (b n : ℕ) → brigade_pool (new.instance.brigades b) ≡ Some n
    → (reached n ≡ false) × (is_live r.shared.pools n ≡ true)
spared_on reached r new t s b n e =
    let w = some_live (new.instance.brigades b) n e in
    let old = t.brigades b w.0 w.1 in
    let on : old.0.on ≡ Some n = sym old.2 ∙ w.2 in
    (old.3 n on, s.brigades b n (ap brigade_pool old.1 ∙ on))

pub spared_sound : (reached : ℕ → Bool) (r new : Configuration) → IsSpared reached r new → new.shared.pools.next < 2 ^ 64 → IsPoolMap new.shared.pools → SoundPools r → SoundPools new
unfolding named_at
spared_sound reached r new t limit formed s = record {
  limit = limit;
  formed = formed;
  conn = subst (λ (k : ℕ). is_live new.shared.pools k ≡ true) (sym t.conn) (same_live r.shared.pools new.shared.pools r.shared.conn conn_stays ∙ s.conn);
  req = λ n e.
      let was : r.shared.req ≡ Some n = sym t.req ∙ e in
      let stood = s.req n was in (
        t.paths n (req_given r n was s) (t.named pool.Req n was) ∙ stood.0 ∙ ap (λ (path : List ℕ). n ∷ path) (sym conn_stays)
            ∙ ap (λ (k : ℕ). n ∷ new.shared.pools.path k) (sym t.conn),
        subst (λ (k : ℕ). k < n) (sym t.conn) stood.1,
      );
  own = λ q n e.
      let was : r.instance.pools q ≡ poolvar.Made n = sym (ap (λ (g : ℕ → PoolVar). g q) t.own) ∙ e in
      let old = s.own q n was in
      (subst (λ (k : ℕ). k < n) (sym t.conn) old.0, omega (arith, old.1, t.next), λ begun. old.2 (sym t.req ∙ begun));
  brigades = λ b n e. (let on = spared_on reached r new t s b n e in same_live r.shared.pools new.shared.pools n (t.paths n (s.formed.named n on.1) on.0) ∙ on.1);
} where
  conn_stays : new.shared.pools.path r.shared.conn ≡ r.shared.pools.path r.shared.conn
  conn_stays = t.paths r.shared.conn (conn_given r s) (t.named pool.Conn r.shared.conn refl)

pub spared_declared : (reached : ℕ → Bool) (p : Program) (r new : Configuration) → IsSpared reached r new → SoundPools r → AsDeclared p r → AsDeclared p new
unfolding named_at
spared_declared reached p r new t s d =
    carried p r new (record {
      own = t.own;
      older = λ q n e live.
          (let free : reached n ≡ false = t.named (pool.Own q) n (ap name_in e) in (t.paths n (s.own q n e).1 free, λ m at there. t.paths m (s.formed.named m there) (t.up n m at free)));
      named = λ k m e live stays. named_same r new t.own t.conn t.req k ∙ e;
      brigades = λ b w e. (let old = t.brigades b w e in (old.0, old.1, old.2, λ m at. t.paths m (s.formed.named m (s.brigades b m (ap brigade_pool old.1 ∙ at))) (old.3 m at)));
    }) d
