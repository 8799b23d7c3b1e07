-- Where pools go and none comes, the pools that are left stay sound.
use Rattle.std.proofs.Common.{◌≡◌, ◌≢◌, ℕ, ◌^◌, ◌<◌, Bool, true, false, ◌||◌, not, cond, List, ◌∷◌, map, Some, refl, sym, ◌∙◌, ap, subst, ne_eqb}
use Rattle.run_model.specs.declared.payload.Payload.{Payload}
use Rattle.run_model.specs.declared.bucket.BrigadeVar.{BrigadeVar}
use Rattle.run_model.specs.declared.bucket.BrigadeVar.TheVariants as var
use Rattle.run_model.specs.Pools.{Pools, is_empty, is_live, is_in, is_under}
use Rattle.run_model.specs.RunOrder.{IsPoolMap}
use Rattle.run_model.specs.Buckets.{cleared_bucket}
use Rattle.run_model.specs.Clearing.{is_reached, cleared_var}
use Rattle.run_model.specs.State.{Configuration}
use Rattle.run_model.specs.Sound.{brigade_pool, SoundPools}
use Rattle.run_model.proofs.PoolMap.{not_under}
use Rattle.run_model.proofs.Formed.{formed_older}

-- Each pool stays or goes; the connection's pool stays, and so do an open request's and those that brigades lie on.
pub record IsThinned (r new : Configuration) : Type 0 where
  pub next : new.shared.pools.next ≡ r.shared.pools.next
  pub formed : IsPoolMap new.shared.pools
  pub conn : new.shared.conn ≡ r.shared.conn
  pub conn_stays : new.shared.pools.path r.shared.conn ≡ r.shared.pools.path r.shared.conn
  pub req : (m : ℕ) → new.shared.req ≡ Some m → (r.shared.req ≡ Some m) × (new.shared.pools.path m ≡ r.shared.pools.path m)
  pub own : new.instance.pools ≡ r.instance.pools
  pub brigades : (b m : ℕ) → brigade_pool (new.instance.brigades b) ≡ Some m → (is_live r.shared.pools m ≡ true) × (new.shared.pools.path m ≡ r.shared.pools.path m)

same_path_lives : (r new : Configuration) (m : ℕ) → new.shared.pools.path m ≡ r.shared.pools.path m → is_live r.shared.pools m ≡ true → is_live new.shared.pools m ≡ true
unfolding is_live
same_path_lives r new m same lives = ap (λ (path : List ℕ). not (is_empty path)) same ∙ lives

pub thinned_sound : (r new : Configuration) → IsThinned r new → SoundPools r → SoundPools new
thinned_sound r new t s = record {
  limit = subst (λ (k : ℕ). k < 2 ^ 64) (sym t.next) s.limit;
  formed = t.formed;
  conn = subst (λ (c : ℕ). is_live new.shared.pools c ≡ true) (sym t.conn) (same_path_lives r new r.shared.conn t.conn_stays s.conn);
  req = λ m e.
      let old = t.req m e in
      let stood = s.req m old.0 in
      (old.1 ∙ (stood.0 ∙ (ap (λ (path : List ℕ). m ∷ path) (sym t.conn_stays) ∙ ap (λ (c : ℕ). m ∷ new.shared.pools.path c) (sym t.conn))), subst (λ (c : ℕ). c < m) (sym t.conn) stood.1);
  own = λ q n e.
      let old = s.own q n (sym (ap (λ g. g q) t.own) ∙ e) in
      (subst (λ (c : ℕ). c < n) (sym t.conn) old.0, subst (λ (k : ℕ). n < k) (sym t.next) old.1, λ is. old.2 (t.req n is).0);
  brigades = λ b m e. let kept = t.brigades b m e in same_path_lives r new m kept.1 kept.0;
}

-- where no pool goes
pub keeps_paths : (r new : Configuration) → IsPoolMap new.shared.pools → new.shared.pools.path ≡ r.shared.pools.path → new.shared.pools.next ≡ r.shared.pools.next
    → new.shared.conn ≡ r.shared.conn → new.shared.req ≡ r.shared.req → new.instance.pools ≡ r.instance.pools
    → ((b n : ℕ) → brigade_pool (new.instance.brigades b) ≡ Some n → is_live r.shared.pools n ≡ true)
    → SoundPools r → SoundPools new
keeps_paths r new formed path next conn req own brigades s =
    thinned_sound r new (record {
      next = next;
      formed = formed;
      conn = conn;
      conn_stays = ap (λ (g : ℕ → List ℕ). g r.shared.conn) path;
      req = λ m e. (sym req ∙ e, ap (λ (g : ℕ → List ℕ). g m) path);
      own = own;
      brigades = λ b m e. (brigades b m e, ap (λ (g : ℕ → List ℕ). g m) path);
    }) s

-- where the pools stay as they are
pub keeps_pools : (r new : Configuration) → new.shared.pools ≡ r.shared.pools → new.shared.conn ≡ r.shared.conn → new.shared.req ≡ r.shared.req → new.instance.pools ≡ r.instance.pools
    → ((b n : ℕ) → brigade_pool (new.instance.brigades b) ≡ Some n → is_live r.shared.pools n ≡ true)
    → SoundPools r → SoundPools new
keeps_pools r new pools conn req own brigades s =
    keeps_paths r new (subst (λ (ps : Pools Payload). IsPoolMap ps) (sym pools) s.formed) (ap (λ (ps : Pools Payload). ps.path) pools)
    (ap (λ (ps : Pools Payload). ps.next) pools) conn req own brigades s

-- A brigade that a clear leaves does not lie on a pool that it reaches.
pub cleared_pool : (reached : ℕ → Bool) (v : BrigadeVar) (n : ℕ) → brigade_pool (cleared_var reached v) ≡ Some n → (brigade_pool v ≡ Some n) × (reached n ≡ false)
cleared_pool reached var.Null n e = absurd (cc)
cleared_pool reached var.Gone n e = absurd (cc)
cleared_pool reached (var.Live v) n e = by_test (is_reached reached v.on) refl e where
  by_test : (b : Bool) → is_reached reached v.on ≡ b → brigade_pool (cond b var.Gone (var.Live (record v { items = map (cleared_bucket reached) v.items }))) ≡ Some n → (v.on ≡ Some n)
      × (reached n ≡ false)
  by_test true is e = absurd (cc)
  by_test false is e = (e, sym (ap (is_reached reached) e) ∙ is)

-- the request's pool does not stand under another pool that is newer than the connection's
pub req_apart : (n m : ℕ) (r : Configuration) → r.shared.conn < n → m ≢ n → r.shared.req ≡ Some m → SoundPools r → is_under r.shared.pools n m ≡ false
unfolding is_under
req_apart n m r newer ne is s =
    ap (is_in n) (s.req m is).0 ∙ (ap (λ b. b || is_in n (r.shared.pools.path r.shared.conn)) (ne_eqb m n ne) ∙ not_under n r.shared.pools r.shared.conn (formed_older r.shared.pools s.formed) newer)

-- The pool n, which is newer than the connection's, is cleared or destroyed.
pub went_pools : (n : ℕ) (r new : Configuration)
    → new.shared.pools.next ≡ r.shared.pools.next
    → IsPoolMap new.shared.pools
    → ((k : ℕ) → is_under r.shared.pools n k ≡ false → new.shared.pools.path k ≡ r.shared.pools.path k)
    → new.shared.conn ≡ r.shared.conn
    → ((m : ℕ) → new.shared.req ≡ Some m → (r.shared.req ≡ Some m) × (m ≢ n))
    → new.instance.pools ≡ r.instance.pools
    → ((b : ℕ) → new.instance.brigades b ≡ cleared_var (is_under r.shared.pools n) (r.instance.brigades b))
    → r.shared.conn < n → SoundPools r → SoundPools new
went_pools n r new next formed apart conn req own brigades newer s =
    thinned_sound r new (record {
      next = next;
      formed = formed;
      conn = conn;
      conn_stays = apart r.shared.conn (not_under n r.shared.pools r.shared.conn (formed_older r.shared.pools s.formed) newer);
      req = λ m e. let old = req m e in (old.0, apart m (req_apart n m r newer old.1 old.0 s));
      own = own;
      brigades = λ b m e.
          let kept = cleared_pool (is_under r.shared.pools n) (r.instance.brigades b) m (sym (ap brigade_pool (brigades b)) ∙ e) in
          (s.brigades b m kept.0, apart m kept.1);
    }) s
