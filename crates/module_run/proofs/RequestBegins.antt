-- A request begins: what the connection stands for then.
use Rattle.std.proofs.Common.{◌≡◌, ◌==◌, ℕ, ◌+◌, Bool, true, false, ◌||◌, not, List, [], ◌∷◌, length, Option, Some, None, is_some, refl, sym, ap, subst, ◌∙◌}
use Rattle.std.specs.List.{list_any}
use Rattle.bucket_kinds.specs.Device.{Device}
use Rattle.bucket_ring.specs.declared.rings.Rings.{Ghosts}
use Rattle.bucket_ring.specs.Kept.{NoneRevived}
use Rattle.bucket_ring.specs.Lists as ring
use Rattle.module_code.specs.Program.{Program}
use Rattle.run_model.specs.declared.event.Cause.{Cause}
use Rattle.run_model.specs.declared.event.Piece.{Piece}
use Rattle.run_model.specs.declared.event.Refusal.{Refusal}
use Rattle.run_model.specs.declared.event.Refusal.TheVariants as refusal
use Rattle.run_model.specs.declared.payload.Payload.{Payload}
use Rattle.run_model.specs.Chains.{Connection, Linked, configuration, pools_of}
use Rattle.run_model.specs.Refusals.{first_refusal, if_broken, refused_if}
use Rattle.run_model.specs.Pieces.{data_behind_eos, lacks_file}
use Rattle.run_model.specs.Pools.{Pools, created, is_empty, is_in, is_live, is_under}
use Rattle.run_model.specs.RunOrder.{IsPoolMap}
use Rattle.run_model.specs.State.{fresh_call}
use Rattle.run_model.specs.Steps.{is_spent}
use Rattle.run_model.specs.Turns.{all_called, begun, with_pools}
use Rattle.pool_tree.specs.declared.tree.PoolTree.{PoolTree}
use Rattle.pool_tree.specs.Tree.{map_of}
use Rattle.bucket_kinds.specs.declared.stored.Stored.{Stored}
use Rattle.brigade_ops.specs.declared.store.Brigades.{Brigades}
use Rattle.brigade_ops.specs.House.{AreHoused, IsHouse}
use Rattle.bucket_store.specs.Items.{Items}
use Rattle.brigade_ops.specs.Store.{lists, brigade_of, pool_of, next_name, references}
use Rattle.brigade_ops.proofs.Housed.{house_created}
use Rattle.module_run.specs.declared.conn.Conn.{Conn}
use Rattle.module_run.specs.CalledFirst.{CalledFirst}
use Rattle.module_run.specs.Conns.{conn_of, IsSeenAs}
use Rattle.module_run.specs.Happened.{Happened}
use Rattle.module_run.specs.Proceeding.{LeftAs, StandsFor}
use Rattle.module_run.specs.Refused.{begin_tests, bring_tests, request_tests}
use Rattle.model_laws.proofs.parts.Paths.{part_under}
use Rattle.std.proofs.lemmas.Bool.{or_right}
use Rattle.module_run.proofs.FirstStacked.{left_called}
use Rattle.module_run.proofs.Unchanged.{next_off_pools}

pub never_some : {X : Type 0} (o : Option X) → ((x : X) → o ≡ Some x → ⊥) → o ≡ None
never_some None never = refl
never_some (Some x) never = absurd (never x refl)

-- no call runs where an event is not refused
pub idle_when : (broken : Option Cause) (busy : Bool) (tests : List (Option Refusal)) → first_refusal (if_broken broken ∷ (refused_if busy refusal.Busy ∷ tests)) ≡ None → busy ≡ false
idle_when None false tests e = refl
idle_when None true tests e = absurd (cc)
idle_when (Some k) busy tests e = absurd (cc)

pub begin_idle : (broken : Option Cause) (busy : Bool) (req : Option ℕ) (pools next : ℕ) → first_refusal (begin_tests broken busy req pools next) ≡ None → busy ≡ false
begin_idle broken busy req pools next none = idle_when broken busy (refused_if (is_some req) refusal.InRequest ∷ (refused_if (is_spent pools 1 || is_spent next 1) refusal.NamesSpent ∷ [])) none

pub request_idle : (broken : Option Cause) (busy : Bool) (req : Option ℕ) → first_refusal (request_tests broken busy req) ≡ None → busy ≡ false
request_idle broken busy req none = idle_when broken busy (refused_if (not (is_some req)) refusal.NotInRequest ∷ []) none

pub bring_idle : (broken : Option Cause) (busy : Bool) (req : Option ℕ) (files : List (ℕ × ℕ)) (next : ℕ) (pieces : List Piece)
    → first_refusal (bring_tests broken busy req files next pieces) ≡ None → busy ≡ false
bring_idle broken busy req files next pieces none =
    idle_when broken busy (refused_if (not (is_some req)) refusal.NotInRequest
    ∷ (refused_if (data_behind_eos pieces) refusal.DataAfterEos
    ∷ (refused_if (list_any (lacks_file files) pieces) refusal.NoFile
    ∷ (refused_if (is_spent next (2 + length pieces)) refusal.NamesSpent ∷ [])))) none

module _ (ps : Pools Payload) (rings : ℕ → Option Items) (next : ℕ) (c : Conn) (v : Linked) (seen : IsSeenAs ps rings next c v) where
  -- its pools, and its own pool
  pub pools_are : pools_of v.0 v.1 ≡ ps
  unfolding conn_of
  pools_are = ap (λ (x : Connection). pools_of v.0 x) seen.conn ∙ ap with_next seen.pools where
    with_next : ℕ → Pools Payload
    with_next n = record ps { next = n }

  pub conn_is : v.1.conn ≡ c.conn
  unfolding conn_of
  conn_is = ap (λ (x : Connection). x.conn) seen.conn

  pub req_is : v.1.req ≡ c.req
  unfolding conn_of
  req_is = ap (λ (x : Connection). x.req) seen.conn

module _ {R : Type 0} {g : Ghosts R Stored} (chain : List Program) (tree : PoolTree Payload) (old : Brigades R g) (dev : Device) (c : Conn) (v : Linked)
    (stands : StandsFor chain tree old dev c v) where
  pub conn_live : is_live (map_of tree) c.conn ≡ true
  unfolding configuration
  conn_live =
      ap (is_live (map_of tree)) (sym (conn_is (map_of tree) (lists old) (next_name old) c v stands.left.seen))
      ∙ (ap (λ (ps : Pools Payload). is_live ps v.1.conn) (sym (pools_are (map_of tree) (lists old) (next_name old) c v stands.left.seen))
      ∙ (stands.lawful.sound.pools.sound (record { of = 0; call = fresh_call 0; pc = 0 })).conn)

  -- the request's pool lies under the connection's
  request_path : (pool : ℕ) → c.req ≡ Some pool → (map_of tree).path pool ≡ pool ∷ (map_of tree).path c.conn
  unfolding configuration
  request_path pool is =
      subst (λ (n : ℕ). (map_of tree).path pool ≡ pool ∷ (map_of tree).path n) (conn_is (map_of tree) (lists old) (next_name old) c v stands.left.seen)
      (subst (λ (ps : Pools Payload). ps.path pool ≡ pool ∷ ps.path v.1.conn) (pools_are (map_of tree) (lists old) (next_name old) c v stands.left.seen)
      ((stands.lawful.sound.pools.sound (record { of = 0; call = fresh_call 0; pc = 0 })).req pool (req_is (map_of tree) (lists old) (next_name old) c v stands.left.seen ∙ is)).0)

  pub request_live : (pool : ℕ) → c.req ≡ Some pool → is_live (map_of tree) pool ≡ true
  unfolding is_live
  request_live pool is = ap (λ (path : List ℕ). not (is_empty path)) (request_path pool is)

  pub request_below : (pool : ℕ) → c.req ≡ Some pool → (map_of tree).path pool ≡ pool ∷ [] → ⊥
  unfolding is_live
  request_below pool is alone = no_path ((map_of tree).path c.conn) (sym (request_path pool is) ∙ alone) conn_live where
    no_path : (path : List ℕ) → pool ∷ path ≡ pool ∷ [] → not (is_empty path) ≡ true → ⊥
    no_path [] e live = cc
    no_path (n ∷ ns) e live = cc

  -- so it lies under it
  pub request_under : (pool : ℕ) → c.req ≡ Some pool → is_under (map_of tree) c.conn pool ≡ true
  unfolding is_under
  request_under pool is = ap (is_in c.conn) (request_path pool is) ∙ or_right (pool == c.conn) (is_in c.conn ((map_of tree).path c.conn)) own where
    own : is_under (map_of tree) c.conn c.conn ≡ true
    own = subst (λ (n : ℕ). is_under (map_of tree) n n ≡ true) (conn_is (map_of tree) (lists old) (next_name old) c v stands.left.seen)
        (subst (λ (ps : Pools Payload). is_under ps v.1.conn v.1.conn ≡ true) (pools_are (map_of tree) (lists old) (next_name old) c v stands.left.seen)
        (part_under (pools_of v.0 v.1) v.1.conn stands.lawful.pools.has))

  pub next_free : pool_of old (next_name old) ≡ None
  next_free = next_off_pools old (map_of tree) stands.left.house

  pub begun_left : (newer : PoolTree Payload) (new : Brigades R g) (d : Conn) → c.busy ≡ false → CalledFirst chain (next_name old) (record c { req = Some (map_of tree).next }) d
      → map_of newer ≡ created c.conn (map_of tree) → IsPoolMap (map_of newer) → ((n : ℕ) → lists new n ≡ ring.upd (lists old) (next_name old) (Some []) n)
      → next_name new ≡ next_name old + 1 → NoneRevived (brigade_of old) (brigade_of new) (next_name old) → pool_of new ≡ pool_of old → references new ≡ references old
      → LeftAs chain newer new dev d (begun chain v)
  unfolding begun
  begun_left newer new d idle begins map formed over next names pools refs =
      subst (λ (ps : Pools Payload). LeftAs chain newer new dev d (all_called chain (with_pools ps (v.0, record v.1 { req = Some v.0.pools })))) pools_so
      (subst (λ (n : ℕ). LeftAs chain newer new dev d (all_called chain (with_pools (map_of newer) (v.0, record v.1 { req = Some n })))) (sym stands.left.seen.pools)
      (left_called chain old new c d (Some (map_of tree).next) stands.left.stacked idle begins over next names pools next_free stands.lawful.chained.some tree newer dev v.0 v.1 stands.left refs formed house)) where
        pools_so : map_of newer ≡ created v.1.conn (pools_of v.0 v.1)
        pools_so =
            map ∙ (ap (λ (n : ℕ). created n (map_of tree)) (sym (conn_is (map_of tree) (lists old) (next_name old) c v stands.left.seen))
            ∙ ap (created v.1.conn) (sym (pools_are (map_of tree) (lists old) (next_name old) c v stands.left.seen)))

        house : IsHouse old (map_of newer)
        house = subst (AreHoused (lists old) (pool_of old) (references old)) (sym map)
            (house_created (lists old) (pool_of old) (references old) (map_of tree) stands.left.house c.conn stands.left.formed)

-- an event that answers this, and leaves what this one leaves
pub happened_as : {R : Type 0} {g : Ghosts R Stored} {A : Type 0} (chain : List Program) (tree : PoolTree Payload) (store : Brigades R g) (dev : Device) (c : Conn) (answer : A) (w : A × Linked)
    (v : Linked)
    → w ≡ (answer, v) → LeftAs chain tree store dev c v → Happened chain tree store dev c answer w
happened_as {R} {g} {A} chain tree store dev c answer w v is left = record {
  answers = ap (λ (x : A × Linked). x.0) is;
  left = subst (λ (x : A × Linked). LeftAs chain tree store dev c x.1) (sym is) left;
}
