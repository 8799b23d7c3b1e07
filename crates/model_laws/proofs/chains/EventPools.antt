-- What happens around a chain's steps keeps its pools sound.
use Rattle.std.proofs.Common.{◌≡◌, ℕ, ◌+◌, ◌^◌, ◌<◌, ◌≤◌, true, List, [], ◌∷◌, Some, None, inr, refl, sym, ◌∙◌, ap, subst, arith}
use Rattle.std.proofs.lemmas.Option.{none-some, same_Some}
use Rattle.module_code.specs.declared.instr.PoolRef.{PoolRef}
use Rattle.module_code.specs.declared.instr.PoolRef.TheVariants as pool
use Rattle.module_code.specs.Program.{Program}
use Rattle.run_model.specs.declared.bucket.Brigade.{Brigade}
use Rattle.run_model.specs.declared.bucket.BrigadeVar.TheVariants as var
use Rattle.run_model.specs.declared.bucket.PoolVar.{PoolVar}
use Rattle.run_model.specs.declared.event.Piece.{Piece}
use Rattle.run_model.specs.declared.payload.Payload.{Payload}
use Rattle.run_model.specs.declared.payload.Payload.TheVariants.{FileRef}
use Rattle.run_model.specs.Pools.{Pools, is_live, planted, created, destroyed, registered, registered_as}
use Rattle.run_model.specs.RunOrder.{IsPoolMap}
use Rattle.run_model.specs.Clearing.{run_down}
use Rattle.run_model.specs.State.{Configuration, name_in, named_at, pool_named, with_pools}
use Rattle.run_model.specs.Sound.{brigade_pool, SoundPools}
use Rattle.model_laws.specs.AsDeclared.{AsDeclared}
use Rattle.run_model.specs.Chains.{Connection, Common, Linked, module_at, configuration, pools_of, place_from}
use Rattle.run_model.specs.Passing.{set_in}
use Rattle.run_model.specs.Turns.{all_called, fresh_connection, opened, begun, file_taken, brought_in, request_over}
use Rattle.model_laws.specs.ChainSound.{ChainPools}
use Rattle.model_laws.specs.OpenRuns.{request_begun}
use Rattle.run_model.proofs.PoolMap.{live_path, created_lives, created_kept, created_at, created_next, new_lives, destroyed_apart, destroyed_under, destroyed_next}
use Rattle.run_model.proofs.Formed.{path_live, planted_live, planted_formed, created_formed, registered_formed, destroyed_formed}
use Rattle.run_model.proofs.RunOrderLaws.{under_itself}
use Rattle.model_laws.proofs.NamedPools.{conn_given}
use Rattle.model_laws.proofs.PoolsKept.{keeps_paths, went_pools}
use Rattle.model_laws.proofs.AsDeclared.{carried, kept, same_vars, went, not_live}
use Rattle.model_laws.proofs.chains.Instances.{one_instance, same_instances, one_brigade}
use Rattle.model_laws.proofs.chains.PutBack.{same_sound, same_declared}
use Rattle.model_laws.proofs.chains.TopPools.{LinkedPools}

-- Others take names.

pub rising_formed : (ps : Pools Payload) (next : ℕ) → ps.next ≤ next → IsPoolMap ps → IsPoolMap (record ps { next = next })
unfolding is_live
rising_formed ps next le f = record { first = f.first; rises = f.rises; closed = f.closed; alone = f.alone; named = λ n live. (let lt : n < ps.next = f.named n live in omega arith); bare = f.bare }

pub rising_pools : (chain : List Program) (g new : Common) (c : Connection) → g.pools ≤ new.pools → new.pools < 2 ^ 64 → ChainPools chain g c → ChainPools chain new c
unfolding configuration is_live
rising_pools chain g new c le limit h = record {
  sound = λ f. (let s = h.sound f in record {
    limit = limit;
    formed = rising_formed (pools_of g c) new.pools le s.formed;
    conn = same_live c.conn s.conn;
    req = s.req;
    own = λ q n e. (let old = s.own q n e in (old.0, omega (arith, old.1, le), old.2));
    brigades = λ b n e. same_live n (s.brigades b n e);
  });
  declared = λ f. kept (module_at chain f.of) (configuration g c f) (configuration new c f) refl refl refl refl (same_vars (configuration g c f)) (h.declared f);
  apart = h.apart;
} where
  same_live : (n : ℕ) → is_live (pools_of g c) n ≡ true → is_live (pools_of new c) n ≡ true
  same_live n live = live

-- Calls begin, and pools stay.

pub all_called_pools : (chain : List Program) (w : Linked) → LinkedPools chain w → LinkedPools chain (all_called chain w)
unfolding all_called
all_called_pools chain w h = same_instances chain w.0 _ w.1 _ refl refl refl refl h

-- The connection is opened.

planted_below : (root n : ℕ) → root < n → (planted {T = Payload} root).next ≤ n
unfolding planted
planted_below root n lt = omega arith

pub opened_pools : (chain : List Program) (g : Common) → g.root < g.pools → g.pools + 1 < 2 ^ 64 → LinkedPools chain (opened chain g)
unfolding opened configuration planted is_live
opened_pools chain g given limit = all_called_pools chain _ (record {
  sound = λ f. record {
    limit = subst (λ (k : ℕ). k < 2 ^ 64) (sym (created_next g.root start)) limit;
    formed = created_formed g.root start root_lives (rising_formed (planted g.root) g.pools below (planted_formed Payload g.root));
    conn = new_lives g.root start;
    req = λ n e. absurd (cc);
    own = λ q n e. absurd (cc);
    brigades = λ b n e. absurd (cc);
  };
  declared = λ f. record { pools = λ q n e live. absurd (cc); apart = λ q k n e d. absurd (cc); slots = λ q le. refl; brigades = λ b v ne e. absurd (cc); incoming = λ v e. absurd (cc) };
  apart = λ j k q s n e d. absurd (cc);
}) where
  start : Pools Payload
  start = pools_of g (fresh_connection g)

  root_lives : is_live (pools_of g (fresh_connection g)) g.root ≡ true
  root_lives = planted_live Payload g.root

  below : (planted {T = Payload} g.root).next ≤ g.pools
  below = planted_below g.root g.pools given

-- A request begins: its pool is new, under the connection's.

pub begun_sound : (r : Configuration) → r.shared.pools.next + 1 < 2 ^ 64 → SoundPools r → SoundPools (request_begun r)
unfolding created
begun_sound r limit s =
    let given : r.shared.conn < r.shared.pools.next = conn_given r s in
    record {
      limit = limit;
      formed = created_formed r.shared.conn r.shared.pools s.conn s.formed;
      conn = created_lives r.shared.conn r.shared.pools r.shared.conn s.conn;
      req = λ n e.
          (let is : r.shared.pools.next ≡ n = same_Some r.shared.pools.next n e in (
            subst (λ (k : ℕ). (created r.shared.conn r.shared.pools).path k ≡ k ∷ (created r.shared.conn r.shared.pools).path r.shared.conn) is
                (created_at r.shared.conn r.shared.pools ∙ ap (λ (path : List ℕ). r.shared.pools.next ∷ path) (sym (created_kept r.shared.conn r.shared.pools r.shared.conn given))),
            omega (arith, is),
          ));
      own = λ q n e. (let old = s.own q n e in (old.0, omega (arith, old.1), λ again. absurd (let is : r.shared.pools.next ≡ n = same_Some r.shared.pools.next n again in omega (arith, is, old.1))));
      brigades = λ b n e. created_lives r.shared.conn r.shared.pools n (s.brigades b n e);
    }

pub begun_declared : (p : Program) (r : Configuration) → r.shared.req ≡ None → SoundPools r → AsDeclared p r → AsDeclared p (request_begun r)
unfolding named_at
begun_declared p r none s d =
    let stays = λ (n : ℕ) (lt : n < r.shared.pools.next). created_kept r.shared.conn r.shared.pools n lt in
    carried p r (request_begun r) (record {
      own = refl;
      older = λ q n e live. (stays n (s.own q n e).1, λ m at there. stays m (s.formed.named m there));
      named = λ k m e live same. named k m e;
      brigades = λ b w e. (w, e, refl, λ m at. stays m (s.formed.named m (s.brigades b m (ap brigade_pool e ∙ at))));
    }) d where
      named : (k : PoolRef) (m : ℕ) → pool_named r k ≡ Some m → pool_named (request_begun r) k ≡ Some m
      named pool.Conn m e = e
      named (pool.Own q) m e = e
      named pool.Req m e = absurd (none-some m (sym none ∙ e))

pub begun_pools : (chain : List Program) (g : Common) (c : Connection) → c.req ≡ None → g.pools + 1 < 2 ^ 64 → ChainPools chain g c → LinkedPools chain (begun chain (g, c))
unfolding begun configuration created
begun_pools chain g c none limit h = all_called_pools chain _ (record {
  sound = λ f. same_sound (request_begun (configuration g c f)) _ refl refl refl refl (begun_sound (configuration g c f) limit (h.sound f));
  declared = λ f. same_declared (module_at chain f.of) (request_begun (configuration g c f)) _ refl refl refl refl
      (begun_declared (module_at chain f.of) (configuration g c f) none (h.sound f) (h.declared f));
  apart = h.apart;
})

-- A file is opened: the request's pool refers to it.

pub file_taken_pools : (chain : List Program) (req file : ℕ) (bytes : List ℕ) (g : Common) (c : Connection) → c.req ≡ Some req → ChainPools chain g c
    → LinkedPools chain (file_taken req file bytes (g, c))
unfolding configuration registered_as
file_taken_pools chain req file bytes g c is h = record {
  sound = λ f. (let s = h.sound f in
      keeps_paths (configuration g c f) _ (registered_formed req (FileRef file) (pools_of g c) (path_live (pools_of g c) req req _ (s.req req is).0) s.formed) refl refl refl refl refl s.brigades s);
  declared = λ f. kept (module_at chain f.of) (configuration g c f) _ refl refl refl refl (same_vars (configuration g c f)) (h.declared f);
  apart = h.apart;
}

-- A brigade is brought: it lies on no pool.

pub brought_in_pools : (chain : List Program) (pieces : List Piece) (req : ℕ) (g : Common) (c : Connection) → ChainPools chain g c → LinkedPools chain (brought_in chain pieces req (g, c))
brought_in_pools chain pieces req g c h =
    let k : ℕ = place_from chain c.instances 0 in
    one_instance chain g _ c _ k (set_in _ (c.instances k)) refl refl refl refl
    (one_brigade (c.instances k) 8 _ (inr (refl, λ w e. (let same = live_same _ w e in ap (λ (v : Brigade). v.on) (sym same))))) h where
      live_same : (v w : Brigade) → var.Live v ≡ var.Live w → v ≡ w
      live_same v w e = cc

-- A request ends: its pool goes, with all under it.

-- what is still there is named as before
pub over_named : (r new : Configuration) (req : ℕ) → new.instance.pools ≡ r.instance.pools → new.shared.conn ≡ r.shared.conn → r.shared.req ≡ Some req → new.shared.pools.path req ≡ []
    → (d : PoolRef) (m : ℕ) → pool_named r d ≡ Some m → is_live r.shared.pools m ≡ true → new.shared.pools.path m ≡ r.shared.pools.path m → pool_named new d ≡ Some m
unfolding named_at
over_named r new req own conn is gone pool.Conn m e live stays = ap (λ (k : ℕ). Some k) conn ∙ e
over_named r new req own conn is gone (pool.Own q) m e live stays = ap (λ (g : ℕ → PoolVar). name_in (g q)) own ∙ e
over_named r new req own conn is gone pool.Req m e live stays =
    let same : req ≡ m = same_Some req m (sym is ∙ e) in
    absurd (live_path r.shared.pools m live (sym stays ∙ subst (λ (k : ℕ). new.shared.pools.path k ≡ []) same gone))

pub request_over_pools : (chain : List Program) (req : ℕ) (g : Common) (c : Connection) → c.req ≡ Some req → ChainPools chain g c → LinkedPools chain (request_over req (g, c))
unfolding configuration run_down with_pools
request_over_pools chain req g c is h = let left : Linked = request_over req (g, c) in record {
  sound = λ f. (let s = h.sound f in
      went_pools req (configuration g c f) (configuration left.0 left.1 f) (destroyed_next req (pools_of g c)) (destroyed_formed req (pools_of g c) s.formed)
      (λ k apart. (destroyed_apart req (pools_of g c) k apart).0) refl (λ m e. absurd (cc)) refl (λ b. refl) (s.req req is).1 s);
  declared = λ f. (let s = h.sound f in
      went (module_at chain f.of) req (configuration g c f) (configuration left.0 left.1 f) s.formed refl (λ k off. (destroyed_apart req (pools_of g c) k off).0)
      (λ k under live. absurd (not_live (destroyed req (pools_of g c)) k (destroyed_under req (pools_of g c) k under).0 live))
      (over_named (configuration g c f) (configuration left.0 left.1 f) req refl refl is
      (destroyed_under req (pools_of g c) req (under_itself (pools_of g c) s.formed req (path_live (pools_of g c) req req _ (s.req req is).0))).0) (λ b. refl) (h.declared f));
  apart = h.apart;
}
