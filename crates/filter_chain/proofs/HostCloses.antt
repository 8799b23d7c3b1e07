-- A connection of a host is closed.
use Rattle.std.proofs.Common.{◌≡◌, ◌≤◌, ℕ, true, false, List, Option, Some, None, sym, ◌∙◌, ap, subst, arith, inl, inr}
use Rattle.std.specs.Prelude.{if◌then◌else◌}
use Rattle.std.proofs.Math.Path.{fun_ext}
use Rattle.module_code.specs.Program.{Program}
use Rattle.bucket_kinds.specs.Device.{Device, Missing}
use Rattle.bucket_ring.specs.declared.rings.Rings.{Ghosts}
use Rattle.run_model.specs.declared.event.Event.TheVariants as event
use Rattle.run_model.specs.declared.event.Refusal.TheVariants as refusal
use Rattle.run_model.specs.declared.payload.Payload.{Payload}
use Rattle.run_model.specs.Chains.{Connection, Linked, configuration, pools_of}
use Rattle.run_model.specs.Indexed.{upd}
use Rattle.run_model.specs.Pools.{Pools, destroyed, is_under}
use Rattle.run_model.specs.RunOrder.{run_order}
use Rattle.run_model.specs.Turns.{closing_labels}
use Rattle.run_model.specs.Worlds.{World, Refused, Labels, happens, happens_on, put_conn, tree_of}
use Rattle.run_model.proofs.Formed.{destroyed_formed}
use Rattle.run_model.proofs.Updates.{upd_at, upd_either, upd_upd}
use Rattle.model_laws.specs.Parts.{part, HasPart, Destroyed}
use Rattle.model_laws.specs.PartSteps.{OwnFiles}
use Rattle.model_laws.specs.Reached.{IsReached}
use Rattle.model_laws.specs.SharedPools.{over}
use Rattle.model_laws.proofs.chains.EventTurns.{SameTurn}
use Rattle.model_laws.proofs.chains.LeftTree.{TreeStands}
use Rattle.model_laws.proofs.chains.OpenedTree.{closing_takes}
use Rattle.model_laws.proofs.chains.PutBack.{looking}
use Rattle.model_laws.proofs.parts.LetGo.{lets_go, lets_go_alike}
use Rattle.model_laws.proofs.parts.Own.{own_destroyed}
use Rattle.model_laws.proofs.parts.Paths.{part_under}
use Rattle.model_laws.proofs.parts.Seen.{its_part, labels_in_part, whole_pools}
use Rattle.model_laws.proofs.parts.Within.{changes_within}
use Rattle.pool_tree.specs.declared.tree.PoolTree.{PoolTree}
use Rattle.pool_tree.specs.Tree.{map_of}
use Rattle.bucket_kinds.specs.declared.stored.Stored.{Stored}
use Rattle.brigade_ops.specs.declared.store.Brigades.{Brigades}
use Rattle.brigade_ops.specs.Files.{SameButOpen}
use Rattle.brigade_ops.specs.House.{AreOpen, IsHouse}
use Rattle.brigade_ops.specs.Store.{lists, next_name, references}
use Rattle.interp_exec.specs.CarriedOut.{ClosedWith, WereLetGo}
use Rattle.module_run.specs.declared.conn.Conn.{Conn}
use Rattle.module_run.specs.Neighbours.{LeavesOthers}
use Rattle.module_run.specs.Proceeding.{LeftAs, StandsFor}
use Rattle.filter_chain.specs.declared.conns.Conns.{Conns}
use Rattle.filter_chain.specs.declared.host.Host.{Host}
use Rattle.module_run.proofs.RequestBegins.{conn_is}
use Rattle.filter_chain.specs.Hosted.{conn_at, IsHosted}
use Rattle.filter_chain.specs.Hosting.{HoldsWorld, IsHosting, Happens, chain_of, budget_of}
use Rattle.filter_chain.specs.HostViews.{ClosesFiles, TellsEvent}
use Rattle.filter_chain.specs.Spared.{Spares}
use Rattle.filter_chain.proofs.Hosts.{foreign, found, known, stands_for}
use Rattle.filter_chain.proofs.HostsLeft.{conns_put, opens_still, others_still}
use Rattle.filter_chain.proofs.HostEvents.{Serves, nothing_told, happened_on}
use Rattle.filter_chain.proofs.KnownEvents.{put_same}
use Rattle.filter_chain.proofs.Lent.{IsLent}
use Rattle.filter_chain.proofs.StepsSeen.{own_pools}

-- Where there is no memory it is there as it was.
pub close_serves : {R : Type 0} {g : Ghosts R Stored} {budget : ℕ} {chain : List Program} {d e : Device} {w : World} {tree : PoolTree Payload} {number : ℕ} {c : Connection}
    → TreeStands chain w (map_of tree) number c → w.common.file ≤ d.next
    → {newer : PoolTree Payload} {store : Brigades R g} {conn : Conn} → LeftAs chain newer store e conn (w.common, over (map_of tree) c) → Spares d e c → e ≡ d
    → Serves budget chain d e w tree number c event.Close (Refused refusal.NoMemory) newer store conn
unfolding happens_on TellsEvent
close_serves {w = w} {tree = tree} {number = number} {c = c} s given left spared same = record {
  memory = false;
  told = nothing_told;
  all = (w.common, over (map_of tree) c);
  is = ap (λ (x : World). (Refused refusal.NoMemory, x)) (sym (put_same number w c s.here) ∙ ap (λ (v : Linked). put_conn number v w) (its_part (map_of tree) w.common c s.lies));
  tells = (ap (λ (x : Device). x.named) same, ap (λ (x : Device). x.plan) same);
  closes = same;
  short = tt;
  turn = SameTurn;
  left = left;
  files = (let le = spared.rises in omega (arith, given, le));
  spared = spared;
}

-- The world where the connection of this number is there no more.
abbrev pub without : ℕ → World → World
without number w = record w { conns = upd w.conns number None }

-- What a close closes.

module _ (chain : List Program) (w : World) (ps : Pools Payload) (number : ℕ) (c : Connection) (s : TreeStands chain w ps number c) where
  pub closed_own : (d e : Device) → ((file : ℕ) → e.numbered file ≡ (if lets_go ps c.conn (destroyed c.conn ps) file then Missing else d.numbered file)) → SameButOpen d e
      → ClosedWith d e (Some c.conn) (pools_of w.common c) (destroyed c.conn (pools_of w.common c))
  unfolding configuration
  closed_own d e closed others = subst (λ (qs : Pools Payload). WereLetGo d e (run_order qs c.conn) (destroyed c.conn qs)) (sym own) (record {
    closed = λ file. closed file
        ∙ ap (λ t. if t then Missing else d.numbered file) (sym (alike file) ∙ ap (λ (qs : Pools Payload). lets_go (part c.conn ps) c.conn qs file) (own_destroyed c.conn c.conn ps has under));
    others = others;
  }) where
    has : HasPart ps c.conn
    has = s.tops number c s.here

    under : is_under ps c.conn c.conn ≡ true
    under = part_under ps c.conn has

    files : OwnFiles c.conn ps
    files = subst (OwnFiles c.conn) (whole_pools ps w.common c s.lies) (s.lies.lies (looking 0)).files

    own : pools_of w.common c ≡ part c.conn ps
    own = own_pools ps w.common c s.lies ∙ ap (part c.conn) (whole_pools ps w.common c s.lies)

    alike : (file : ℕ) → lets_go (part c.conn ps) c.conn (part c.conn (destroyed c.conn ps)) file ≡ lets_go ps c.conn (destroyed c.conn ps) file
    alike file = lets_go_alike c.conn c.conn ps (destroyed c.conn ps) has files (changes_within Destroyed c.conn c.conn ps has under) (destroyed_formed c.conn ps s.pools.formed) under file

-- What is known of a close over tree, store and device.
pub record WasClosed {R : Type 0} {g : Ghosts R Stored} (tree newer : PoolTree Payload) (old new : Brigades R g) (d e : Device) (conn0 conn : Conn) : Type 0 where
  pub pools : map_of newer ≡ destroyed conn0.conn (map_of tree)
  pub next : next_name new ≡ next_name old
  pub house : IsHouse new (map_of newer)
  pub references : AreOpen (references new) e
  pub none : lists old 0 ≡ None → lists new 0 ≡ None
  pub leaves : LeavesOthers (map_of tree) old new conn0 conn
  pub closed : (file : ℕ) → e.numbered file ≡ (if lets_go (map_of tree) conn0.conn (map_of newer) file then Missing else d.numbered file)
  pub others : SameButOpen d e

module _ {R : Type 0} {g : Ghosts R Stored} {budget : ℕ} {chain : List Program} {d : Device} {tree : PoolTree Payload} {store : Brigades R g} {last : ℕ} {conns : ℕ → Option Conn} {w : World}
    (h : HoldsWorld budget chain d tree store last conns w) (number : ℕ) (conn0 conn : Conn) (at : conns number ≡ Some conn0)
    (c : Connection) (here : w.conns number ≡ Some c) (e : Device) (spared : Spares d e c) (newer : PoolTree Payload) (new : Brigades R g) (was : WasClosed tree newer store new d e conn0 conn) where
  its_conn : c.conn ≡ conn0.conn
  its_conn = conn_is (map_of tree) (lists store) (next_name store) conn0 (w.common, over (map_of tree) c) (stands_for h number c here conn0 hosted).left.seen where
    f : (x : Connection) × (w.conns number ≡ Some x) × IsHosted chain tree store d conn0 x
    f = found h number conn0 at

    same : f.0 ≡ c
    same = (let both : Some f.0 ≡ Some c = sym f.1 ∙ here in cc)

    hosted : IsHosted chain tree store d conn0 c
    hosted = subst (λ (x : Connection). IsHosted chain tree store d conn0 x) same f.2

  tree_then : map_of newer ≡ tree_of (without number w)
  tree_then = was.pools ∙ ap (λ (n : ℕ). destroyed n (map_of tree)) (sym its_conn) ∙ ap (destroyed c.conn) h.pools ∙ sym (closing_takes budget chain w number c h.chained h.reached here)

  none_then : lists new 0 ≡ None
  none_then = was.none h.none

  -- The others are as they were.
  pub holds_without : (after : ℕ → Option Conn) → ((k : ℕ) → after k ≡ upd conns number None k) → IsReached budget chain (without number w)
      → HoldsWorld budget chain e newer new last after (without number w)
  holds_without after is reached = record {
    chained = h.chained;
    reached = reached;
    last_is = h.last_is;
    pools = tree_then;
    names = h.names ∙ sym was.next;
    files = (let le = h.files in let more = spared.rises in omega (arith, le, more));
    house = was.house;
    open_files = was.references;
    none = none_then;
    conns = conns_put h number newer new e None None
        (others_still h number conn0 conn (map_of tree) (foreign h number conn0 at) newer new was.leaves was.house none_then e (opens_still h number c here e spared)) tt after is;
    apart = λ j k n a b at_j at_k. h.apart j k n a b (there j a at_j) (there k b at_k);
  } where
    there : (j : ℕ) (x : Conn) → after j ≡ Some x → conns j ≡ Some x
    there j x at_j = elim (upd_either conns number j None) [
      | inl gone ↦ absurd (let none : None ≡ Some x = sym gone.1 ∙ sym (is j) ∙ at_j in cc)
      | inr off ↦ sym off.1 ∙ sym (is j) ∙ at_j
    ]

-- Of a host whose connections were looked up by the number.
module _ {F R : Type 0} {g : Ghosts R Stored} (host : Host F R g) (number : ℕ) {conn0 : Conn} {table : Conn → Conns} (here : IsLent host.conns number conn0 table) (conn : Conn) where
  -- What was put back is what is taken.
  pub taken_is : {taken : Option Conn} → taken ≡ conn_at (table conn) number → taken ≡ Some conn
  taken_is is = is ∙ here.holds conn number ∙ upd_at (conn_at host.conns) number (Some conn)

  taken_out : (after : Conns) → ((k : ℕ) → conn_at after k ≡ upd (conn_at (table conn)) number None k) → (k : ℕ) → conn_at after k ≡ upd (conn_at host.conns) number None k
  taken_out after rest k =
      rest k
      ∙ ap (λ (f : ℕ → Option Conn). upd f number None k) (fun_ext (here.holds conn))
      ∙ ap (λ (f : ℕ → Option Conn). f k) (upd_upd (conn_at host.conns) number (Some conn) None)

  -- It is closed.
  pub closed_on : (d e : Device) (w : World) → IsHosting d host w → (after : Conns) → ((k : ℕ) → conn_at after k ≡ upd (conn_at (table conn)) number None k) → (new : Host F R g)
      → new ≡ record host { conns = after; tree = new.tree; store = new.store; files = new.files } → (labels : List (List ℕ))
      → ((v : Linked) → StandsFor (chain_of host) host.tree host.store d conn0 v → labels ≡ closing_labels v)
      → ((c : Connection) → StandsFor (chain_of host) host.tree host.store d conn0 (w.common, over (map_of host.tree) c) → Spares d e c)
      → WasClosed host.tree new.tree host.store new.store d e conn0 conn
      → Happens d e host new number event.Close (Labels labels) w
  unfolding IsHosting happens_on TellsEvent chain_of budget_of
  closed_on d e w hosts after rest new is_new labels answers spares was =
      let f = found hosts number conn0 here.at in
      let s = known hosts number f.0 f.1 in
      let so = stands_for hosts number f.0 f.1 conn0 f.2 in
      let to = without number w in
      let spared = spares f.0 so in
      let told : labels ≡ closing_labels (w.common, f.0) = answers (w.common, over (map_of host.tree) f.0) so ∙ sym (labels_in_part (map_of host.tree) w.common f.0 s.lies) in
      let is : happens true (budget_of host) (chain_of host) nothing_told number event.Close w ≡ (Labels labels, to) =
      ap (λ (o : Option Connection). happens_on true (budget_of host) (chain_of host) nothing_told event.Close number o w) f.1 ∙ ap (λ (l : List (List ℕ)). (Labels l, to)) (sym told) in
      let gone = its_conn hosts number conn0 conn here.at f.0 f.1 e spared new.tree new.store was in
      let closes = closed_own (chain_of host) w (map_of host.tree) number f.0 s d e (λ file. was.closed file ∙ ap (λ t. if t then Missing else d.numbered file)
      (ap (λ (n : ℕ). lets_go (map_of host.tree) n (map_of new.tree) file) (sym gone)
      ∙ ap (λ (ps : Pools Payload). lets_go (map_of host.tree) f.0.conn ps file) (was.pools ∙ ap (λ (n : ℕ). destroyed n (map_of host.tree)) (sym gone)))) was.others in
      happened_on d e host new number w hosts (ap chain_of is_new) (ap budget_of is_new) event.Close true nothing_told (Labels labels) to is (was.others.named, was.others.plan)
      (subst (λ (o : Option Connection). ClosesFiles d e (chain_of host) event.Close (Labels labels) w.common o to.common (to.conns number)) (sym f.1) closes) tt
      (λ reached. subst (λ (n : ℕ). HoldsWorld (budget_of host) (chain_of host) e new.tree new.store n (conn_at new.conns) to) (sym (ap (λ (x : Host F R g). x.last) is_new))
      (subst (λ (x : ℕ → Option Conn). HoldsWorld (budget_of host) (chain_of host) e new.tree new.store host.last x to) (sym (ap (λ (x : Host F R g). conn_at x.conns) is_new))
      (holds_without hosts number conn0 conn here.at f.0 f.1 e spared new.tree new.store was (conn_at after) (taken_out after rest) reached)))
