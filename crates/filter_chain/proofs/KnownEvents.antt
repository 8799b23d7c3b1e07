-- How a connection that is there serves each event.
use Rattle.std.proofs.Common.{◌≡◌, ℕ, ◌≤◌, Bool, true, false, List, Option, Some, None, Result, Ok, Err, OnOk, OnErr, is_some, inl, inr, refl, sym, ◌∙◌, ap, subst, arith}
use Rattle.std.proofs.Math.Path.{fun_ext}
use Rattle.module_code.specs.Program.{Program}
use Rattle.bucket_kinds.specs.Device.{Device, IsUnasked}
use Rattle.bucket_ring.specs.declared.rings.Rings.{Ghosts}
use Rattle.run_model.specs.declared.event.Event.{Event}
use Rattle.run_model.specs.declared.event.Event.TheVariants as event
use Rattle.run_model.specs.declared.event.Piece.{Piece}
use Rattle.run_model.specs.declared.event.Refusal.{Refusal}
use Rattle.run_model.specs.declared.event.Stepped.{Stepped}
use Rattle.run_model.specs.declared.payload.Payload.{Payload}
use Rattle.run_model.specs.Indexed.{upd}
use Rattle.run_model.specs.Chains.{Common, Connection, Linked, pools_of}
use Rattle.run_model.specs.Passing.{Reads}
use Rattle.run_model.specs.Pools.{Pools, is_under}
use Rattle.run_model.specs.RunOrder.{IsPoolMap}
use Rattle.run_model.specs.Holding.{refers}
use Rattle.run_model.specs.Turns.{unless_refused, begun, begins, brought, brings, ended, ends, steps}
use Rattle.run_model.specs.Worlds.{World, Refused, Output, put_conn, happens_on, answered, step_answered}
use Rattle.run_model.proofs.Updates.{upd_either}
use Rattle.model_laws.specs.ChainFiles.{TellsLengths, IsShortLength}
use Rattle.model_laws.specs.Parts.{part}
use Rattle.model_laws.specs.PartSteps.{linked_in_part}
use Rattle.model_laws.specs.SharedPools.{over, seen_in}
use Rattle.model_laws.proofs.chains.EventTurns.{EventTurn, Drained, begins_turn, brings_turn, ends_turn, steps_turn}
use Rattle.std.proofs.lemmas.Bool.{false_from_ne_true}
use Rattle.model_laws.proofs.chains.LeftTree.{TreeStands, turn_within}
use Rattle.model_laws.proofs.parts.Seen.{begins_in_part, brings_in_part, ends_in_part, its_part, steps_in_part, whole_pools}
use Rattle.pool_tree.specs.declared.tree.PoolTree.{PoolTree}
use Rattle.pool_tree.specs.Tree.{map_of}
use Rattle.bucket_kinds.specs.declared.stored.Stored.{Stored}
use Rattle.brigade_ops.specs.declared.store.Brigades.{Brigades}
use Rattle.brigade_ops.specs.Files.{SameButOpen}
use Rattle.brigade_ops.specs.Store.{lists, next_name}
use Rattle.interp_exec.specs.CarriedOut.{ClosedWith}
use Rattle.module_run.specs.declared.conn.Conn.{Conn}
use Rattle.module_run.specs.Happened.{Happened, lasted, refusal_of}
use Rattle.module_run.specs.Proceeding.{LeftAs, StandsFor}
use Rattle.module_run.proofs.RequestBegins.{conn_is, pools_are, req_is}
use Rattle.module_run.specs.Stepping.{ClosesStep, IsStep, TellsStep}
use Rattle.filter_chain.specs.Hosted.{drained}
use Rattle.filter_chain.specs.Hosting.{done_answer, step_answer}
use Rattle.filter_chain.specs.HostViews.{ClosesFiles, TellsEvent, StepTellsReads, host_view}
use Rattle.filter_chain.specs.Spared.{Spares}
use Rattle.filter_chain.proofs.FileNumbers.{begins_file, brings_file, ends_file, steps_file}
use Rattle.filter_chain.proofs.FilesSpared.{step_spares}
use Rattle.filter_chain.proofs.HostEvents.{OfAnyLength, Serves, nothing_told, told_reads}
use Rattle.filter_chain.proofs.StepsSeen.{closed_in_part, closes_alike, tells_alike}

-- A connection that is put back as it was changes nothing.
pub put_same : (k : ℕ) (w : World) (c : Connection) → w.conns k ≡ Some c → put_conn k (w.common, c) w ≡ w
put_same k w c here = ap (λ (conns : ℕ → Option Connection). record w { conns = conns }) (fun_ext each) where
  each : (j : ℕ) → upd w.conns k (Some c) j ≡ w.conns j
  each j = elim (upd_either w.conns k j (Some c)) [
    | inl at ↦ at.1 ∙ (sym here ∙ ap w.conns (sym at.0))
    | inr off ↦ off.1
  ]

-- What is left over the tree is a pool map.
pub formed_then : {R : Type 0} {g : Ghosts R Stored} (chain : List Program) (newer : PoolTree Payload) (new : Brigades R g) (e : Device) (conn : Conn) (all : Linked)
    → LeftAs chain newer new e conn all → IsPoolMap (pools_of all.0 all.1)
formed_then chain newer new e conn all left = subst IsPoolMap (sym (pools_are (map_of newer) (lists new) (next_name new) conn all left.seen)) left.formed

-- What a step answers, it answers of the world.
step_told : (k : ℕ) (w : World) (r : Result Stepped Refusal × Linked) → step_answered k w r ≡ (step_answer r.0, put_conn k r.1 w)
step_told k w (Ok s, v) = refl
step_told k w (Err r, v) = refl

pub spares_all : (d : Device) (c : Connection) → Spares d d c
spares_all d c = record { rises = omega arith; folder = refl; sound = λ is. is; others = λ file old none. refl }

-- what is spared of a connection's files is spared whatever pools it stands over
pub spares_over : (d e : Device) (ps : Pools Payload) (c : Connection) → Spares d e (over ps c) → Spares d e c
spares_over d e ps c s = record { rises = s.rises; folder = s.folder; sound = s.sound; others = s.others }

-- What is refused changes nothing, so each answer is told of the world with the connection put back.
answered_is : (k : ℕ) (w : World) (c : Connection) (o : Option Refusal) (new : Linked) → w.conns k ≡ Some c
    → answered k w (unless_refused o (w.common, c) new) ≡ (done_answer (unless_refused o (w.common, c) new).0, put_conn k (unless_refused o (w.common, c) new).1 w)
answered_is k w c None new here = refl
answered_is k w c (Some r) new here = ap (λ (x : World). (Refused r, x)) (sym (put_same k w c here))

short_done : (answer : Option Refusal) → TellsLengths IsShortLength (done_answer answer)
short_done None = tt
short_done (Some r) = tt

short_step : (answer : Result Stepped Refusal) → TellsLengths IsShortLength (step_answer answer)
short_step (Ok s) = tt
short_step (Err r) = tt

-- what a step of a connection that is there reads
step_reads : (chain : List Program) (d e : Device) (w : World) (c : Connection) (answer : Result Stepped Refusal) (reads : Reads) → TellsStep d e chain answer (w.common, c) reads
    → StepTellsReads chain (host_view w d) (Some c) (step_answer answer) reads e
step_reads chain d e w c (Ok t) reads told = told
step_reads chain d e w c (Err r) reads told = told

-- and closes
step_closes : (chain : List Program) (d e : Device) (g h : Common) (c x : Connection) (answer : Result Stepped Refusal) → ClosesStep d e chain answer (g, c) (h, x)
    → ClosesFiles d e chain event.Step (step_answer answer) g (Some c) h (Some x)
step_closes chain d e g h c x (Ok t) closed = closed
step_closes chain d e g h c x (Err r) closed = tt

-- An event that answers whether it happened. part, all: what it is of the connection, and over the tree.
done_serves : {R : Type 0} {g : Ghosts R Stored} (budget : ℕ) (chain : List Program) (d e : Device) (w : World) (tree : PoolTree Payload) (number : ℕ) (c : Connection) → w.conns number ≡ Some c
    → (what : Event) (memory : Bool) (answer o : Option Refusal) (new : Linked) (all : Option Refusal × Linked)
    → happens_on memory budget chain nothing_told what number (Some c) w ≡ answered number w (unless_refused o (w.common, c) new) → unless_refused o (w.common, c) new ≡ seen_in c.conn all
    → EventTurn chain OfAnyLength w.common (over (map_of tree) c) all.1
    → TellsEvent chain number what (host_view w d) (done_answer answer) nothing_told e
    → ClosesFiles d e chain what (done_answer answer) w.common (Some c) all.1.0 (Some (linked_in_part c.conn all.1).1) → (newer : PoolTree Payload) (store : Brigades R g) (conn : Conn)
    → Happened chain newer store e conn answer all → all.1.0.file ≤ e.next → Spares d e c → Serves budget chain d e w tree number c what (done_answer answer) newer store conn
done_serves budget chain d e w tree number c here what memory answer o new all is seen turn tells closes newer store conn happened files spared = record {
  memory = memory;
  told = nothing_told;
  all = all.1;
  is = is ∙ answered_is number w c o new here ∙ ap (λ (a : Option Refusal × Linked). (done_answer a.0, put_conn number a.1 w)) seen
      ∙ ap (λ (r : Option Refusal). (done_answer r, put_conn number (linked_in_part c.conn all.1) w)) happened.answers;
  tells = tells;
  closes = closes;
  short = short_done answer;
  turn = turn;
  left = happened.left;
  files = files;
  spared = spared;
}

-- the connection over the tree that all share
abbrev pub all : World → PoolTree Payload → Connection → Linked
all w tree c = (w.common, over (map_of tree) c)

-- modules: the chain, as it was handed on.
module _ {R : Type 0} {g : Ghosts R Stored} {budget : ℕ} {chain modules : List Program} (same : modules ≡ chain) {d : Device} {w : World} {tree : PoolTree Payload} {number : ℕ} {c : Connection}
    (s : TreeStands chain w (map_of tree) number c) (given : w.common.file ≤ d.next)
    {newer : PoolTree Payload} {store : Brigades R g} {conn : Conn} where
  pub begins_serves : (memory : Bool) {answer : Option Refusal} → Happened modules newer store d conn answer (begins memory modules (all w tree c))
      → Serves budget chain d d w tree number c event.Begin (done_answer answer) newer store conn
  unfolding happens_on begins TellsEvent
  begins_serves memory {answer} happened =
      let h = subst (λ (m : List Program). Happened m newer store d conn answer (begins memory m (all w tree c))) same happened in
      let file = begins_file memory chain w.common (over (map_of tree) c) in
      done_serves budget chain d d w tree number c s.here event.Begin memory answer _ (begun chain (w.common, c)) (begins memory chain (all w tree c)) refl
      (begins_in_part memory chain (map_of tree) w.common c s.lies)
      (begins_turn chain OfAnyLength w.common (over (map_of tree) c) memory) refl tt newer store conn h (omega (arith, file, given)) (spares_all d c)

  pub brings_serves : (memory : Bool) {pieces : List Piece} {answer : Option Refusal} → Happened modules newer store d conn answer (brings memory modules pieces (all w tree c))
      → Serves budget chain d d w tree number c (event.Bring pieces) (done_answer answer) newer store conn
  unfolding happens_on brings TellsEvent
  brings_serves memory {pieces} {answer} happened =
      let h = subst (λ (m : List Program). Happened m newer store d conn answer (brings memory m pieces (all w tree c))) same happened in
      let file = brings_file memory chain w.common (over (map_of tree) c) pieces in
      done_serves budget chain d d w tree number c s.here (event.Bring pieces) memory answer _ (brought chain pieces c.req (w.common, c)) (brings memory chain pieces (all w tree c)) refl
      (brings_in_part memory chain pieces (map_of tree) w.common c s.lies)
      (brings_turn chain OfAnyLength w.common (over (map_of tree) c) memory pieces) refl tt newer store conn h (omega (arith, file, given)) (spares_all d c)

  pub steps_serves : {e : Device} {answer : Result Stepped Refusal} → IsStep modules budget d e (all w tree c) newer store conn answer
      → Serves budget chain d e w tree number c event.Step (step_answer answer) newer store conn
  unfolding happens_on TellsEvent
  steps_serves {e} {answer} step =
      let st = subst (λ (m : List Program). IsStep m budget d e (all w tree c) newer store conn answer) same step in
      let after = steps st.memory budget chain st.reads (all w tree c) in
      let told = tells_alike d e chain answer w.common c (map_of tree) st.reads st.told in
      let spared = step_spares d e chain answer (w.common, c) st.reads told in
      let file = steps_file st.memory chain w.common (over (map_of tree) c) budget st.reads in
      record {
        memory = st.memory;
        told = told_reads st.reads;
        all = after.1;
        is = step_told number w (steps st.memory budget chain st.reads (w.common, c))
            ∙ ap (λ (a : Result Stepped Refusal × Linked). (step_answer a.0, put_conn number a.1 w)) (steps_in_part st.memory budget chain st.reads (map_of tree) w.common c s.lies)
            ∙ ap (λ (r : Result Stepped Refusal). (step_answer r, put_conn number (linked_in_part c.conn after.1) w)) st.answers;
        tells = subst (λ (o : Option Connection). StepTellsReads chain (host_view w d) o (step_answer answer) st.reads e) (sym s.here) (step_reads chain d e w c answer st.reads told);
        closes = step_closes chain d e w.common after.1.0 c (linked_in_part c.conn after.1).1 answer
            (closes_alike budget chain d e w (map_of tree) number c s st.memory st.reads (formed_then chain newer store e conn after.1 st.left) answer st.answers st.closed);
        short = short_step answer;
        turn = steps_turn chain OfAnyLength w.common (over (map_of tree) c) s.chained st.memory budget st.reads;
        left = st.left;
        files = (let le = spared.rises in omega (arith, le, file, given));
        spared = spared;
      }

-- Files that its pools do not refer to are as they were.
pub spares_unreferred : (d e : Device) (ps : Pools Payload) (c : Connection) → ((p file : ℕ) → is_under ps c.conn p ≡ true → refers ps p file ≡ true → is_some (c.opened file) ≡ true) → SameButOpen d e
    → ((file : ℕ) → ((p : ℕ) → is_under ps c.conn p ≡ true → refers ps p file ≡ false) → e.numbered file ≡ d.numbered file) → Spares d e c
spares_unreferred d e ps c lasts same rest = record {
  rises = (let next = same.next in omega (arith, next));
  folder = same.named;
  sound = λ is. same.plan ∙ is;
  others = λ file old none. rest file (λ p under. not_held file p none under);
} where
  not_held : (file p : ℕ) → c.opened file ≡ None → is_under ps c.conn p ≡ true → refers ps p file ≡ false
  not_held file p none under = false_from_ne_true (refers ps p file) (λ there. let is_open : is_some (c.opened file) ≡ true = lasts p file under there in let gone = ap is_some none in cc)

-- What the end of a request closes.
end_closes : {R : Type 0} {g : Ghosts R Stored} (chain : List Program) (d e : Device) (w : World) (ps : Pools Payload) (number : ℕ) (c : Connection) (s : TreeStands chain w ps number c)
    (newer : PoolTree Payload) (new : Brigades R g) (conn : Conn) (r : Result (Unit {0}) Refusal)
    → Happened chain newer new e conn (refusal_of r) (ends (lasted r) (w.common, over ps c)) → OnOk r (ClosedWith d e c.req ps (map_of newer)) → OnErr r (e ≡ d)
    → (let v = (ends (lasted r) (w.common, over ps c)).1 in ClosesFiles d e chain event.End (done_answer (refusal_of r)) w.common (Some c) v.0 (Some (linked_in_part c.conn v).1))
unfolding is_under
end_closes chain d e w ps number c s newer new conn (Ok x) happened closed unread =
    let v = (ends true (w.common, over ps c)).1 in
    let left = happened.left in
    let same : pools_of v.0 v.1 ≡ map_of newer = pools_are (map_of newer) (lists new) (next_name new) conn v left.seen in
    let whole : pools_of w.common (over ps c) ≡ ps = whole_pools ps w.common c s.lies in
    closed_in_part ps w.common c s.lies d e c.req v (turn_within chain ps w.common c s.lies v (ends_turn chain OfAnyLength w.common (over ps c) true))
    (formed_then chain newer new e conn v left) s.lies.request
    (subst (λ (qs : Pools Payload). ClosedWith d e c.req qs (pools_of v.0 v.1)) (sym whole) (subst (λ (qs : Pools Payload). ClosedWith d e c.req ps qs) (sym same) closed))
end_closes chain d e w ps number c s newer new conn (Err r) happened closed unread = unread

module _ {R : Type 0} {g : Ghosts R Stored} (budget : ℕ) (chain : List Program) (d e : Device) (w : World) (tree : PoolTree Payload) (number : ℕ) (c : Connection)
    (s : TreeStands chain w (map_of tree) number c) (given : w.common.file ≤ d.next)
    (newer : PoolTree Payload) (store : Brigades R g) (conn : Conn) where
  pub ends_serves : (r : Result (Unit {0}) Refusal) → Happened chain newer store e conn (refusal_of r) (ends (lasted r) (w.common, over (map_of tree) c))
      → OnOk r (ClosedWith d e c.req (map_of tree) (map_of newer)) → OnErr r (e ≡ d) → IsUnasked d e → Spares d e c
      → Serves budget chain d e w tree number c event.End (done_answer (refusal_of r)) newer store conn
  unfolding happens_on ends TellsEvent
  ends_serves r h closed unread unasked spared =
      let file = ends_file (lasted r) chain w.common (over (map_of tree) c) in
      done_serves budget chain d e w tree number c s.here event.End (lasted r) (refusal_of r) _ (ended c.req (w.common, c)) (ends (lasted r) (w.common, over (map_of tree) c)) refl
      (ends_in_part (lasted r) (map_of tree) w.common c s.lies)
      (ends_turn chain OfAnyLength w.common (over (map_of tree) c) (lasted r)) unasked (end_closes chain d e w (map_of tree) number c s newer store conn r h closed unread) newer store conn h
      (let le = spared.rises in omega (arith, file, given, le)) spared

-- The same by what the calls promise of its files.
pub closed_spares : {R : Type 0} {g : Ghosts R Stored} {chain : List Program} {d e : Device} {common : Common} {tree : PoolTree Payload} {store : Brigades R g} {conn0 : Conn} {c : Connection}
    → StandsFor chain tree store d conn0 (common, over (map_of tree) c) → SameButOpen d e
    → ((file : ℕ) → ((p : ℕ) → is_under (map_of tree) conn0.conn p ≡ true → refers (map_of tree) p file ≡ false) → e.numbered file ≡ d.numbered file) → Spares d e c
unfolding is_under
closed_spares {d = d} {e = e} {common = common} {tree = tree} {store = store} {conn0 = conn0} {c = c} so same rest =
    spares_unreferred d e (map_of tree) c so.lawful.files.lasts same
    (subst (λ (n : ℕ). (file : ℕ) → ((p : ℕ) → is_under (map_of tree) n p ≡ true → refers (map_of tree) p file ≡ false) → e.numbered file ≡ d.numbered file)
    (sym (conn_is (map_of tree) (lists store) (next_name store) conn0 (common, over (map_of tree) c) so.left.seen)) rest)

-- So it does by what an end of a request answers. conn0: the connection before.
pub ended_serves : {R : Type 0} {g : Ghosts R Stored} {budget : ℕ} {chain : List Program} {d e : Device} {w : World} {tree : PoolTree Payload} {store0 : Brigades R g} {conn0 : Conn} {number : ℕ}
    {c : Connection} → TreeStands chain w (map_of tree) number c → StandsFor chain tree store0 d conn0 (w.common, over (map_of tree) c) → w.common.file ≤ d.next
    → {newer : PoolTree Payload} {store : Brigades R g} {conn : Conn} (r : Result (Unit {0}) Refusal)
    → Happened chain newer store e conn (refusal_of r) (ends (lasted r) (w.common, over (map_of tree) c))
    → OnOk r (ClosedWith d e conn0.req (map_of tree) (map_of newer)) → OnErr r (e ≡ d) → SameButOpen d e
    → ((file : ℕ) → ((p : ℕ) → is_under (map_of tree) conn0.conn p ≡ true → refers (map_of tree) p file ≡ false) → e.numbered file ≡ d.numbered file)
    → Serves budget chain d e w tree number c event.End (done_answer (refusal_of r)) newer store conn
unfolding is_under
ended_serves {budget = budget} {chain = chain} {d = d} {e = e} {w = w} {tree = tree} {store0 = store0} {conn0 = conn0} {number = number} {c = c} s so given {newer = newer} {store = store}
    {conn = conn} r happened closed unread same rest =
    ends_serves budget chain d e w tree number c s given newer store conn r happened (subst (λ (o : Option ℕ). OnOk r (ClosedWith d e o (map_of tree) (map_of newer)))
    (sym (req_is (map_of tree) (lists store0) (next_name store0) conn0 v so.left.seen)) closed) unread (same.named, same.plan)
    (closed_spares so same rest) where
      v : Linked
      v = (w.common, over (map_of tree) c)

-- Its output is taken.
pub takes_serves : {R : Type 0} {g : Ghosts R Stored} {budget : ℕ} {chain : List Program} {d : Device} {w : World} {tree : PoolTree Payload} {number : ℕ} {c : Connection}
    → TreeStands chain w (map_of tree) number c → w.common.file ≤ d.next
    → {store : Brigades R g} {conn : Conn} {bytes : List ℕ} → bytes ≡ c.out.bytes → LeftAs chain tree store d conn (w.common, drained (over (map_of tree) c))
    → Serves budget chain d d w tree number c event.TakeOutput (Output bytes) tree store conn
unfolding happens_on TellsEvent part
takes_serves {d = d} {w = w} {tree = tree} {number = number} {c = c} s given told left = record {
  memory = true;
  told = nothing_told;
  all = (w.common, drained (over (map_of tree) c));
  is = ap (λ (v : Linked). (Output c.out.bytes, put_conn number (v.0, drained v.1) w)) (its_part (map_of tree) w.common c s.lies)
      ∙ ap (λ (bs : List ℕ). (Output bs, put_conn number (linked_in_part c.conn (w.common, drained (over (map_of tree) c))) w)) (sym told);
  tells = refl;
  closes = tt;
  short = tt;
  turn = Drained;
  left = left;
  files = given;
  spared = spares_all d c;
}
