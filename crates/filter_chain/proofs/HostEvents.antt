-- An event of a host: what is answered, and what the host stands for then.
use Rattle.std.proofs.Common.{◌≡◌, ℕ, ◌≤◌, Bool, true, List, Option, Some, None, refl, sym, ◌∙◌, ap, subst}
use Rattle.module_code.specs.Program.{Program}
use Rattle.run_model.specs.declared.event.Event.{Event}
use Rattle.run_model.specs.declared.event.Event.TheVariants as event
use Rattle.run_model.specs.declared.event.Refusal.{Refusal}
use Rattle.run_model.specs.declared.event.Refusal.TheVariants as refusal
use Rattle.run_model.specs.Chains.{Common, Connection, Linked}
use Rattle.model_laws.specs.ChainFiles.{TellsLengths, IsShortLength}
use Rattle.run_model.specs.Passing.{Reads}
use Rattle.model_laws.specs.Reached.{IsReached}
use Rattle.run_model.specs.Turns.{Failing}
use Rattle.run_model.specs.Worlds.{World, Told, Answer, Refused, put_conn, happens, happens_on}
use Rattle.run_model.proofs.Updates.{upd_at}
use Rattle.model_laws.proofs.chains.EventTurns.{EventTurn}
use Rattle.model_laws.proofs.chains.Reached.{event_reaches}
use Rattle.bucket_kinds.specs.Device.{Device}
use Rattle.bucket_ring.specs.declared.rings.Rings.{Ghosts}
use Rattle.run_model.specs.declared.payload.Payload.{Payload}
use Rattle.model_laws.specs.PartSteps.{linked_in_part}
use Rattle.model_laws.specs.SharedPools.{over}
use Rattle.model_laws.proofs.chains.LeftTree.{TreeStands}
use Rattle.pool_tree.specs.declared.tree.PoolTree.{PoolTree}
use Rattle.pool_tree.specs.Tree.{map_of}
use Rattle.bucket_kinds.specs.declared.stored.Stored.{Stored}
use Rattle.brigade_ops.specs.declared.store.Brigades.{Brigades}
use Rattle.module_run.specs.declared.conn.Conn.{Conn}
use Rattle.module_run.specs.Happened as happened
use Rattle.module_run.specs.Neighbours.{LeavesOthers}
use Rattle.module_run.specs.Proceeding.{LeftAs, StandsFor}
use Rattle.filter_chain.specs.declared.conns.Conns.{Conns}
use Rattle.filter_chain.specs.declared.host.Host.{Host}
use Rattle.filter_chain.specs.Hosted.{conn_at}
use Rattle.filter_chain.specs.Hosting.{HoldsWorld, IsHosting, Happens, chain_of, budget_of}
use Rattle.filter_chain.specs.HostViews.{ClosesFiles, TellsEvent, StepTellsReads, host_view}
use Rattle.filter_chain.specs.Spared.{Spares}
use Rattle.module_run.specs.OpenedFile.{IsAfterOpening}
use Rattle.module_run.proofs.OpeningsTold.{may_tell_unasked, unasked}
use Rattle.filter_chain.proofs.Hosts.{found, known, missing, stands_for}
use Rattle.filter_chain.specs.Led.{IsAlive}
use Rattle.filter_chain.proofs.Driving.{HappenedInAny}
use Rattle.filter_chain.proofs.HostsLeft.{holds_put, same_conns}
use Rattle.filter_chain.proofs.Lent.{IsLent, ViewIn, host_with}

abbrev pub OfAnyLength : ℕ → Type 0
OfAnyLength n = Unit {0}

-- Only reads tell something. (What is told of an opening counts for an opening alone.)
abbrev pub told_reads : Reads → Told
told_reads reads = record { reads = reads; opening = Failing }

abbrev pub nothing_told : Told
nothing_told = told_reads (λ k. None)

-- what a device that is not asked might have told
abbrev pub unasked_in : ℕ → Device → Event → Told
unasked_in next d (event.OpenFile name) = record { reads = λ k. None; opening = unasked next d name }
unasked_in next d e = nothing_told

-- whether an event that is refused so has asked no device
abbrev pub IsBeforeAsking : Event → Refusal → Type 0
IsBeforeAsking (event.OpenFile name) r = r ≡ refusal.NoSuchConn
IsBeforeAsking event.Step r = r ≡ refusal.NoSuchConn
IsBeforeAsking what r = Unit {0}

before : (what : Event) → IsBeforeAsking what refusal.NoSuchConn
before (event.OpenFile name) = refl
before event.Step = refl
before what = tt

-- What is refused need not be told anything.
pub refused_tells : (chain : List Program) (number : ℕ) (what : Event) (w : World) (d : Device) (r : Refusal) → w.common.file ≤ d.next → IsBeforeAsking what r
    → TellsEvent chain number what (host_view w d) (Refused r) (unasked_in w.common.file d what) d
unfolding TellsEvent
refused_tells chain number (event.OpenFile name) w d r below first = (may_tell_unasked w.common.file d name below, subst (λ (x : Refusal). IsAfterOpening name (Some x) d d) (sym first) refl)
refused_tells chain number event.Step w d r below first = by_conn (w.conns number) where
  by_conn : (o : Option Connection) → StepTellsReads chain (host_view w d) o (Refused r) (λ k. None) d
  by_conn None = refl
  by_conn (Some c) = subst (λ (x : Refusal). StepTellsReads chain (host_view w d) (Some c) (Refused x) (λ k. None) d) (sym first) refl
refused_tells chain number event.End w d r below first = (refl, refl)
refused_tells chain number event.Close w d r below first = (refl, refl)
refused_tells chain number what w d r below first = refl

-- and it closes nothing
pub refused_closes : (d : Device) (chain : List Program) (what : Event) (r : Refusal) (g h : Common) (c x : Option Connection) → ClosesFiles d d chain what (Refused r) g c h x
refused_closes d chain event.Step r g h c x = tt
refused_closes d chain event.End r g h c x = refl
refused_closes d chain event.Close r g h c x = refl
refused_closes d chain what r g h c x = tt

-- an event of a connection
abbrev pub IsOfConnection : Event → Type 0
IsOfConnection event.Open = ⊥
IsOfConnection (event.AddFile name bytes) = ⊥
IsOfConnection event.TellPools = ⊥
IsOfConnection e = Unit {0}

pub none_is : (memory : Bool) (budget : ℕ) (chain : List Program) (told : Told) (number : ℕ) (w : World) (what : Event) → IsOfConnection what
    → happens_on memory budget chain told what number None w ≡ (Refused refusal.NoSuchConn, w)
unfolding happens_on
none_is memory budget chain told number w event.Open of = absurd of
none_is memory budget chain told number w (event.AddFile name bytes) of = absurd of
none_is memory budget chain told number w event.TellPools of = absurd of
none_is memory budget chain told number w e of = refl

-- It is answered so, and the new host stands for the world that this leads to.
pub happened_on : {F R : Type 0} {g : Ghosts R Stored} (d e : Device) (old new : Host F R g) (number : ℕ) (w : World) → IsHosting d old w → chain_of new ≡ chain_of old → budget_of new ≡ budget_of old
    → (what : Event) (memory : Bool) (told : Told) (answer : Answer) (to : World) → happens memory (budget_of old) (chain_of old) told number what w ≡ (answer, to)
    → TellsEvent (chain_of old) number what (host_view w d) answer told e → ClosesFiles d e (chain_of old) what answer w.common (w.conns number) to.common (to.conns number)
    → TellsLengths IsShortLength answer
    → (IsReached (budget_of old) (chain_of old) to → HoldsWorld (budget_of old) (chain_of old) e new.tree new.store new.last (conn_at new.conns) to) → Happens d e old new number what answer w
unfolding IsHosting
happened_on d e old new number w hosts chain budget what memory told answer to is tells closes short holds = record {
  to = to;
  acts = record { memory = memory; told = told; is = is; tells = tells; closes = closes };
  hosts = subst (λ (b : ℕ). HoldsWorld b (chain_of new) e new.tree new.store new.last (conn_at new.conns) to) (sym budget)
      (subst (λ (p : List Program). HoldsWorld (budget_of old) p e new.tree new.store new.last (conn_at new.conns) to) (sym chain)
      (holds (event_reaches memory (budget_of old) (chain_of old) told number what w to answer is short hosts.reached)));
  chain = chain;
  budget = budget;
}

-- The connections, the tree and the store are as they were.
module _ {F R : Type 0} {g : Ghosts R Stored} (d : Device) (old new : Host F R g) (number : ℕ) (w : World) (hosts : IsHosting d old w) (chain : chain_of new ≡ chain_of old)
    (budget : budget_of new ≡ budget_of old)
    (holds : HoldsWorld (budget_of old) (chain_of old) d new.tree new.store new.last (conn_at new.conns) w) where
  pub stays_on : (what : Event) (memory : Bool) (told : Told) (answer : Answer) → happens memory (budget_of old) (chain_of old) told number what w ≡ (answer, w)
      → TellsEvent (chain_of old) number what (host_view w d) answer told d → ClosesFiles d d (chain_of old) what answer w.common (w.conns number) w.common (w.conns number)
      → TellsLengths IsShortLength answer → Happens d d old new number what answer w
  unfolding IsHosting
  stays_on what memory told answer is tells closes short = happened_on d d old new number w hosts chain budget what memory told answer w is tells closes short (λ reached. holds)

  pub refused_on : (what : Event) (memory : Bool) (r : Refusal) → IsBeforeAsking what r
      → happens memory (budget_of old) (chain_of old) (unasked_in w.common.file d what) number what w ≡ (Refused r, w) → Happens d d old new number what (Refused r) w
  unfolding IsHosting
  refused_on what memory r first is =
      stays_on what memory (unasked_in w.common.file d what) (Refused r) is (refused_tells (chain_of old) number what w d r hosts.files first)
      (refused_closes d (chain_of old) what r w.common w.common (w.conns number) (w.conns number)) tt

  -- There is no such connection.
  pub none_served : conn_at old.conns number ≡ None → (what : Event) → IsOfConnection what → Happens d d old new number what (Refused refusal.NoSuchConn) w
  unfolding IsHosting
  none_served at what of =
      let none = missing hosts number at in
      refused_on what true refusal.NoSuchConn (before what)
      (ap (λ (o : Option Connection). happens_on true (budget_of old) (chain_of old) (unasked_in w.common.file d what) what number o w) none
      ∙ none_is true (budget_of old) (chain_of old) (unasked_in w.common.file d what) number w what of)

-- A connection c that is there answers this, and is conn then, by devices d and e. all: what is left of it over the tree that all share.
pub record Serves {R : Type 0} {g : Ghosts R Stored} (budget : ℕ) (chain : List Program) (d e : Device) (w : World) (tree : PoolTree Payload) (number : ℕ) (c : Connection) (what : Event)
    (answer : Answer) (newer : PoolTree Payload) (new : Brigades R g) (conn : Conn) : Type 0 where
  pub memory : Bool
  pub told : Told
  pub all : Linked
  pub is : happens_on memory budget chain told what number (Some c) w ≡ (answer, put_conn number (linked_in_part c.conn all) w)
  pub tells : TellsEvent chain number what (host_view w d) answer told e
  pub closes : ClosesFiles d e chain what answer w.common (Some c) all.0 (Some (linked_in_part c.conn all).1)
  pub short : TellsLengths IsShortLength answer
  pub turn : EventTurn chain OfAnyLength w.common (over (map_of tree) c) all
  pub left : LeftAs chain newer new e conn all
  pub files : all.0.file ≤ e.next
  pub spared : Spares d e c

-- Whatever the connection is in the world, it serves so.
abbrev pub AlwaysServes : {F R : Type 0} {g : Ghosts R Stored} → Device → Device → Host F R g → ℕ → World → Event → Answer → PoolTree Payload → Brigades R g → Conn → Conn → Type 0
AlwaysServes d e host number w what answer newer new conn0 conn =
    (c : Connection) → TreeStands (chain_of host) w (map_of host.tree) number c → StandsFor (chain_of host) host.tree host.store d conn0 (w.common, over (map_of host.tree) c) → w.common.file ≤ d.next
    → Serves (budget_of host) (chain_of host) d e w host.tree number c what answer newer new conn

-- So it does by the chain as it was handed on.
pub lent : {R : Type 0} {g : Ghosts R Stored} {modules chain : List Program} → modules ≡ chain → {tree : PoolTree Payload} {store : Brigades R g} {d : Device} {conn : Conn} {v : Linked}
    → StandsFor chain tree store d conn v → StandsFor modules tree store d conn v
lent same {tree} {store} {d} {conn} {v} so = subst (λ (m : List Program). StandsFor m tree store d conn v) (sym same) so

-- A connection that was looked up.
module _ {F R : Type 0} {g : Ghosts R Stored} (device : F → Device) (host : Host F R g) (number : ℕ) {conn0 : Conn} {table : Conn → Conns} (here : IsLent host.conns number conn0 table) where
  -- It stands for a connection of the world. modules: the chain, as it was handed on.
  pub stands : IsAlive device host → (modules : List Program) → modules ≡ chain_of host → happened.Stands modules host.tree host.store (device host.files) conn0
  unfolding IsHosting
  stands (w, hosts) modules same =
      let f = found hosts number conn0 here.at in
      record { linked = (w.common, over (map_of host.tree) f.0); so = lent same (stands_for hosts number f.0 f.1 conn0 f.2) }

  -- It is served, and put back.
  pub served : (w : World) → IsHosting (device host.files) host w → (what : Event) (answer : Answer) (a : ViewIn host) → LeavesOthers (map_of host.tree) host.store a.store conn0 a.conn
      → AlwaysServes (device host.files) (device a.files) host number w what answer a.tree a.store conn0 a.conn
      → Happens (device host.files) (device a.files) host (host_with host table a) number what answer w
  unfolding IsHosting chain_of budget_of
  served w hosts what answer a leaves serve =
      let d = device host.files in
      let e = device a.files in
      let f = found hosts number conn0 here.at in
      let s = known hosts number f.0 f.1 in
      let st = serve f.0 s (stands_for hosts number f.0 f.1 conn0 f.2) hosts.files in
      let to : World = put_conn number (linked_in_part f.0.conn st.all) w in
      happened_on d e host (host_with host table a) number w hosts refl refl what st.memory st.told answer to
      (ap (λ (o : Option Connection). happens_on st.memory (budget_of host) (chain_of host) st.told what number o w) f.1 ∙ st.is) st.tells
      (subst (λ (o : Option Connection). ClosesFiles d e (chain_of host) what answer w.common o st.all.0 (to.conns number)) (sym f.1)
      (subst (λ (o : Option Connection). ClosesFiles d e (chain_of host) what answer w.common (Some f.0) st.all.0 o)
      (sym (upd_at w.conns number (Some (linked_in_part f.0.conn st.all).1))) st.closes)) st.short
      (λ reached. holds_put hosts number conn0 a.conn here.at f.0 f.1 e st.spared a.tree a.store leaves st.all st.turn st.left st.files
      (conn_at (table a.conn)) (here.holds a.conn) reached)

-- None is found.
pub none_found : {F R : Type 0} {g : Ghosts R Stored} (device : F → Device) (host : Host F R g) (number : ℕ) (after : Conns) → after.by_number ≡ host.conns.by_number → conn_at host.conns number ≡ None
    → (what : Event) → IsOfConnection what → HappenedInAny device host (record host { conns = after }) number what (Refused refusal.NoSuchConn)
unfolding chain_of budget_of IsHosting
none_found device host number after same at what of w hosts =
    none_served (device host.files) host (record host { conns = after }) number w hosts refl refl
    (subst (λ (f : ℕ → Option Conn). HoldsWorld (budget_of host) (chain_of host) (device host.files) host.tree host.store host.last f w) (sym (same_conns after host.conns same)) hosts) at what of
