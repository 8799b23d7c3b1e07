-- What a host tells of one connection.
use Rattle.std.proofs.Common.{◌≡◌, ℕ, true, List, Option, Some, None, Result, Ok, Err, refl, sym, ◌∙◌, ap, subst, arith}
use Rattle.std.specs.Global.{Vec}
use Rattle.std.specs.Prelude.{slice_get}
use Rattle.module_code.specs.Program.{Program}
use Rattle.bucket_kinds.specs.Device.{Device}
use Rattle.bucket_ring.specs.declared.names.BucketId.{BucketId}
use Rattle.run_model.specs.declared.event.Event.TheVariants as event
use Rattle.run_model.specs.declared.event.Refusal.{Refusal}
use Rattle.run_model.specs.declared.event.Refusal.TheVariants as refusal
use Rattle.run_model.specs.declared.payload.Payload.{Payload}
use Rattle.run_model.specs.Pools.{Pools}
use Rattle.run_model.specs.Chains.{Connection}
use Rattle.run_model.specs.Worlds.{World, Labels, Output, happens_on}
use Rattle.model_laws.specs.SharedPools.{over}
use Rattle.pool_tree.specs.Tree.{map_of}
use Rattle.bucket_store.specs.Items.{Items}
use Rattle.brigade_ops.specs.Store.{lists, brigade_of, next_name, pool_of}
use Rattle.module_run.specs.declared.conn.Conn.{Conn}
use Rattle.module_run.specs.declared.conn.Filter.{Filter}
use Rattle.module_run.specs.Conns.{conn_of, filter_at}
use Rattle.module_run.specs.Happened.{refusal_of}
use Rattle.module_run.specs.Neighbours.{LeavesOthers}
use Rattle.module_run.specs.Proceeding.{LeftAs, StandsFor}
use Rattle.module_run.specs.Stacked.{StackedOver}
use Rattle.module_run.proofs.Neighbours.{unchanged}
use Rattle.filter_chain.specs.declared.conns.Conns.{Conns}
use Rattle.filter_chain.specs.Hosted.{conn_at, drained}
use Rattle.filter_chain.specs.Hosting.{Ghosts, Host, Stored, IsHosting, Happens, chain_of, budget_of, output_answer, output_in}
use Rattle.filter_chain.specs.HostViews.{TellsEvent}
use Rattle.filter_chain.proofs.Hosts.{found, missing}
use Rattle.filter_chain.proofs.HostEvents.{none_found, nothing_told, served, stays_on}
use Rattle.filter_chain.proofs.KnownEvents.{takes_serves}
use Rattle.filter_chain.proofs.Lent.{IsLent}

-- its labels are told
pub labels_on : {F R : Type 0} {g : Ghosts R Stored} (d : Device) (host : Host F R g) (number : ℕ) (w : World) → IsHosting d host w → (conn : Conn) (labels : List (List ℕ))
    → conn_at host.conns number ≡ Some conn
    → ((ps : Pools Payload) (rings : ℕ → Option Items) (opened : ℕ → Option (List ℕ)) → labels ≡ (conn_of ps rings opened conn).labels)
    → Happens d d host host number event.TellLabels (Labels labels) w
unfolding IsHosting happens_on TellsEvent
labels_on d host number w hosts conn labels at told =
    let programs = chain_of host in
    let f = found hosts number conn at in
    let same : f.0.labels ≡ labels = ap (λ (c : Connection). c.labels) f.2.seen ∙ sym (told (map_of host.tree) (lists host.store) f.0.opened) in
    stays_on d host host number w hosts refl refl hosts event.TellLabels true nothing_told (Labels labels)
    (ap (λ (o : Option Connection). happens_on true (budget_of host) programs nothing_told event.TellLabels number o w) f.1 ∙ ap (λ (l : List (List ℕ)). (Labels l, w)) same) refl tt tt

-- its output is lent
pub output_on : {F R : Type 0} {g : Ghosts R Stored} (d : Device) (host : Host F R g) (number : ℕ) (w : World) → IsHosting d host w → (conn : Conn) (bytes : List ℕ)
    → conn_at host.conns number ≡ Some conn
    → ((ps : Pools Payload) (rings : ℕ → Option Items) (opened : ℕ → Option (List ℕ)) → bytes ≡ (conn_of ps rings opened conn).out.bytes) → output_in (w.conns number) ≡ Ok bytes
unfolding IsHosting
output_on d host number w hosts conn bytes at told =
    let f = found hosts number conn at in
    ap output_in f.1 ∙ ap Ok (ap (λ (c : Connection). c.out.bytes) f.2.seen ∙ sym (told (map_of host.tree) (lists host.store) f.0.opened))

pub output_missing : {F R : Type 0} {g : Ghosts R Stored} (d : Device) (host : Host F R g) (number : ℕ) (w : World) → IsHosting d host w → conn_at host.conns number ≡ None
    → output_in (w.conns number) ≡ Err refusal.NoSuchConn
unfolding IsHosting
output_missing d host number w hosts at = ap output_in (missing hosts number at)

-- whether it is there, as the model has it
pub some_told : {F R : Type 0} {g : Ghosts R Stored} (d : Device) (host : Host F R g) (number : ℕ) (w : World) → IsHosting d host w → (conn : Conn) → conn_at host.conns number ≡ Some conn
    → None ≡ refusal_of (output_in (w.conns number))
unfolding IsHosting
some_told d host number w hosts conn at =
    let f = found hosts number conn at in
    sym (ap (λ (o : Option Connection). refusal_of (output_in o)) f.1)

-- A connection whose output was taken, and which is otherwise as it was.
pub record WasDrained (conn0 conn : Conn) : Type 0 where
  pub shows : (ps : Pools Payload) (rings : ℕ → Option Items) (opened : ℕ → Option (List ℕ)) → conn_of ps rings opened conn ≡ drained (conn_of ps rings opened conn0)
  pub stacked : (chain : List Program) (at : BucketId → Option ℕ) (rings : ℕ → Option Items) (pools : ℕ → Option ℕ) (next : ℕ) → StackedOver chain at rings pools next conn0
      → StackedOver chain at rings pools next conn
  pub filters : conn.filters ≡ conn0.filters

-- Its output is taken.
module _ {F R : Type 0} {g : Ghosts R Stored} (device : F → Device) (host : Host F R g) (number : ℕ) {conn0 : Conn} {table : Conn → Conns} (here : IsLent host.conns number conn0 table)
    (conn : Conn) (emptied : WasDrained conn0 conn) (w : World) (hosts : IsHosting (device host.files) host w) where
  pub taken_on : (bytes : List ℕ) → output_in (w.conns number) ≡ Ok bytes
      → Happens (device host.files) (device host.files) host (record host { conns = table conn }) number event.TakeOutput (Output bytes) w
  unfolding IsHosting filter_at
  taken_on bytes told =
      served device host number here w hosts event.TakeOutput (Output bytes) (record { conn = conn; tree = host.tree; store = host.store; files = host.files }) same_rings
      (λ c s so given. takes_serves s given (out_is c s.here) (left c so)) where
        filter_same : (k : ℕ) → filter_at conn k ≡ filter_at conn0 k
        filter_same k = ap (λ (fs : Vec Filter). slice_get fs.items k) emptied.filters

        same_rings : LeavesOthers (map_of host.tree) host.store host.store conn0 conn
        same_rings = unchanged (map_of host.tree) host.store host.store conn0 conn (λ n. refl) refl (omega arith) (λ id there lt. there) filter_same

        out_is : (c : Connection) → w.conns number ≡ Some c → bytes ≡ c.out.bytes
        out_is c is = (let both : Ok c.out.bytes ≡ Ok bytes = sym (ap output_in is) ∙ told in cc)

        left : (c : Connection) → StandsFor (chain_of host) host.tree host.store (device host.files) conn0 (w.common, over (map_of host.tree) c)
            → LeftAs (chain_of host) host.tree host.store (device host.files) conn (w.common, drained (over (map_of host.tree) c))
        left c so = record {
          seen = record { pools = so.left.seen.pools; given = so.left.seen.given; conn = ap drained so.left.seen.conn ∙ sym (emptied.shows (map_of host.tree) (lists host.store) c.opened) };
          opens = so.left.opens;
          formed = so.left.formed;
          house = so.left.house;
          references = so.left.references;
          none = so.left.none;
          stacked = emptied.stacked (chain_of host) (brigade_of host.store) (lists host.store) (pool_of host.store) (next_name host.store) so.left.stacked;
        }

  -- What was lent is taken.
  pub cleared_on : (o : Option Connection) → w.conns number ≡ o
      → Happens (device host.files) (device host.files) host (record host { conns = table conn }) number event.TakeOutput (output_answer (output_in o)) w
  cleared_on (Some c) is = taken_on c.out.bytes (ap output_in is)
  cleared_on None is =
      absurd (let none : None ≡ Some refusal.NoSuchConn = some_told (device host.files) host number w hosts conn0 here.at ∙ ap (λ (o : Option Connection). refusal_of (output_in o)) is in cc)

-- None is found, and none is taken.
pub none_cleared : {F R : Type 0} {g : Ghosts R Stored} (device : F → Device) (host : Host F R g) (number : ℕ) (after : Conns) → after.by_number ≡ host.conns.by_number
    → conn_at host.conns number ≡ None → (w : World)
    → IsHosting (device host.files) host w
    → Happens (device host.files) (device host.files) host (record host { conns = after }) number event.TakeOutput (output_answer (output_in (w.conns number))) w
none_cleared device host number after same at w hosts =
    subst (λ (r : Result (List ℕ) Refusal). Happens (device host.files) (device host.files) host (record host { conns = after }) number event.TakeOutput (output_answer r) w)
    (sym (output_missing (device host.files) host number w hosts at))
    (none_found device host number after same at event.TakeOutput tt w hosts)
