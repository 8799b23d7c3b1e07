-- What a host stands for: a world of the model.
use Rattle.std.specs.Prelude.{◌≡◌, ◌≢◌, ℕ, ◌<◌, ◌≤◌, List, Option, Some, None, Result, Ok, Err, true, false}
use Rattle.std.specs.Global.{Vec}
use Rattle.module_code.specs.Program.{Program}
use Rattle.run_model.specs.declared.event.Event.{Event}
use Rattle.run_model.specs.declared.event.Event.TheVariants as event
use Rattle.run_model.specs.declared.event.Refusal.{Refusal}
use Rattle.run_model.specs.declared.event.Refusal.TheVariants as refusal
use Rattle.run_model.specs.declared.event.Stepped.{Stepped}
use Rattle.run_model.specs.Chains.{Connection, IsChain}
use Rattle.model_laws.specs.Reached.{IsReached}
use Rattle.run_model.specs.declared.payload.Payload.{Payload}
use Rattle.run_model.specs.Worlds.{World, tree_of, Answer, Done, Refused, Connected, Opened, Output, Labels, Step}
use Rattle.bucket_kinds.specs.Device.{Device, is_there}
use Rattle.bucket_kinds.specs.declared.refusal.AddRefusal.{AddRefusal}
use Rattle.bucket_kinds.specs.declared.refusal.AddRefusal.TheVariants as added
pub use Rattle.bucket_ring.specs.declared.rings.Rings.{Ghosts}
use Rattle.pool_tree.specs.declared.tree.PoolTree.{PoolTree}
use Rattle.pool_tree.specs.Tree.{map_of}
pub use Rattle.bucket_kinds.specs.declared.stored.Stored.{Stored}
use Rattle.brigade_ops.specs.declared.store.Brigades.{Brigades}
use Rattle.brigade_ops.specs.House.{AreOpen, IsHouse}
use Rattle.brigade_ops.specs.Store.{lists, next_name, references}
use Rattle.module_run.specs.declared.conn.Conn.{Conn}
use Rattle.module_run.specs.Conns.{labels_handed}
use Rattle.module_run.specs.Neighbours.{HoldsName}
pub use Rattle.filter_chain.specs.declared.host.Host.{Host}
use Rattle.filter_chain.specs.HostViews.{Answers, host_view}
use Rattle.filter_chain.specs.Hosted.{conn_at, IsHosted}
use Rattle.interp_exec.specs.declared.labels_run.LabelsRun.{LabelsRun}

-- It is there exactly where the model has it, and as the model has it.
abbrev pub IsHostedIf : {R : Type 0} {g : Ghosts R Stored} → List Program → PoolTree Payload → Brigades R g → Device → Option Conn → Option Connection → Type 0
IsHostedIf chain tree store d None None = Unit {0}
IsHostedIf chain tree store d None (Some c) = ⊥
IsHostedIf chain tree store d (Some conn) None = ⊥
IsHostedIf chain tree store d (Some conn) (Some c) = IsHosted chain tree store d conn c

-- what a step answers, and what an event does that answers nothing else

abbrev pub step_answer : Result Stepped Refusal → Answer
step_answer (Ok s) = Step s
step_answer (Err r) = Refused r

abbrev pub done_answer : Option Refusal → Answer
done_answer None = Done
done_answer (Some r) = Refused r

abbrev pub output_answer : Result (List ℕ) Refusal → Answer
output_answer (Ok bytes) = Output bytes
output_answer (Err r) = Refused r

-- the output of a connection, as it lies
abbrev pub output_in : Option Connection → Result (List ℕ) Refusal
output_in None = Err refusal.NoSuchConn
output_in (Some c) = Ok c.out.bytes

abbrev pub open_answer : Result ℕ Refusal → Answer
open_answer (Ok number) = Connected number
open_answer (Err r) = Refused r

abbrev pub file_answer : Result (ℕ × ℕ) Refusal → Answer
file_answer (Ok file) = Opened file.0 file.1
file_answer (Err r) = Refused r

abbrev pub close_answer : Result (Vec LabelsRun) Refusal → Answer
close_answer (Ok labels) = Labels (labels_handed labels.items)
close_answer (Err r) = Refused r

-- Connections on one tree of pools and in one store of brigades stand for a world that is reached from a new one by some events. last: the
-- number that was given last. pools: the tree is the world's. names, files: the names that are given next; a device may have used up numbers
-- of files that no opening told. house, open_files: the brigades stand on the pools of the tree, and files that these refer to are open. none: no
-- brigade has the name 0. apart: no brigade is held by two connections.
pub record HoldsWorld {R : Type 0} {g : Ghosts R Stored} (budget : ℕ) (chain : List Program) (d : Device) (tree : PoolTree Payload) (store : Brigades R g)
    (last : ℕ) (at : ℕ → Option Conn) (w : World) : Type 0 where
  pub chained : IsChain chain
  pub reached : IsReached budget chain w
  pub last_is : w.last ≡ last
  pub pools : map_of tree ≡ tree_of w
  pub names : w.common.next ≡ next_name store
  pub files : w.common.file ≤ d.next
  pub house : IsHouse store (map_of tree)
  pub open_files : AreOpen (references store) d
  pub none : lists store 0 ≡ None
  pub conns : (k : ℕ) → IsHostedIf chain tree store d (at k) (w.conns k)
  pub apart : (j k n : ℕ) (a b : Conn) → at j ≡ Some a → at k ≡ Some b → j ≢ k → 0 < n → HoldsName a n → HoldsName b n → ⊥

-- the chain and the budget of a host, and its files

unfoldable pub chain_of : {F R : Type 0} {g : Ghosts R Stored} → Host F R g → List Program
chain_of host = host.chain.modules.items

unfoldable pub budget_of : {F R : Type 0} {g : Ghosts R Stored} → Host F R g → ℕ
budget_of host = host.budget

abbrev pub files_of : {F R : Type 0} {g : Ghosts R Stored} → Host F R g → F
files_of host = host.files

-- The host, whose files are this device, stands for this world.
unfoldable pub IsHosting : {F R : Type 0} {g : Ghosts R Stored} → Device → Host F R g → World → Type 0
IsHosting d host w = HoldsWorld (budget_of host) (chain_of host) d host.tree host.store host.last (conn_at host.conns) w

-- An event of the connection of this number was answered. By devices d and e, the host stands for what it leaves, on the same chain, with the same budget.
pub record Happens {F R : Type 0} {g : Ghosts R Stored} (d e : Device) (old new : Host F R g) (number : ℕ) (what : Event) (answer : Answer) (w : World) : Type 0 where
  pub to : World
  pub acts : Answers (budget_of old) (chain_of old) number what (host_view w d) answer (host_view to e)
  pub hosts : IsHosting e new to
  pub chain : chain_of new ≡ chain_of old
  pub budget : budget_of new ≡ budget_of old

-- Nothing happened.
pub record Stays {F R : Type 0} {g : Ghosts R Stored} (d e : Device) (old new : Host F R g) (w : World) : Type 0 where
  pub same : e ≡ d
  pub hosts : IsHosting e new w
  pub chain : chain_of new ≡ chain_of old
  pub budget : budget_of new ≡ budget_of old

-- A file is added, unless one has its name.
abbrev pub TriesToAdd : {F R : Type 0} {g : Ghosts R Stored} → Device → Device → Host F R g → Host F R g → List ℕ → List ℕ → Result (Unit {0}) AddRefusal → World → Type 0
TriesToAdd d e old new name bytes (Ok x) w = Happens d e old new 0 (event.AddFile name bytes) Done w
TriesToAdd d e old new name bytes (Err added.NoMemory) w = (is_there (d.named name) ≡ false) × Happens d e old new 0 (event.AddFile name bytes) (Refused refusal.NoMemory) w
TriesToAdd d e old new name bytes (Err added.Taken) w = (is_there (d.named name) ≡ true) × Stays d e old new w
