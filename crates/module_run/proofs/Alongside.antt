-- A connection in which other things than its filters and calls were changed.
use Rattle.std.proofs.Common.{◌≡◌, ℕ, Bool, List, Option, sym, ap, ◌∙◌}
use Rattle.std.specs.Global.{Vec}
use Rattle.bucket_ring.specs.declared.names.BucketId.{BucketId}
use Rattle.bucket_kinds.specs.Device.{Device}
use Rattle.bucket_ring.specs.declared.rings.Rings.{Ghosts}
use Rattle.module_code.specs.Program.{Program}
use Rattle.run_model.specs.Chains.{Connection, Linked}
use Rattle.pool_tree.specs.declared.tree.PoolTree.{PoolTree}
use Rattle.pool_tree.specs.Tree.{map_of}
use Rattle.bucket_kinds.specs.declared.stored.Stored.{Stored}
use Rattle.brigade_ops.specs.declared.store.Brigades.{Brigades}
use Rattle.brigade_ops.specs.Store.{lists, brigade_of, pool_of, next_name}
use Rattle.module_run.specs.Proceeding.{LeftAs}
use Rattle.run_model.specs.declared.event.Cause.{Cause}
use Rattle.run_model.specs.declared.payload.Payload.{Payload}
use Rattle.bucket_store.specs.Items.{Items}
use Rattle.module_run.specs.declared.conn.Conn.{Conn}
use Rattle.module_run.specs.declared.conn.OpenFile.{OpenFile}
use Rattle.module_run.specs.Conns.{conn_of, filter_at, labels_handed}
use Rattle.module_run.specs.Stacked.{StackedOver}
use Rattle.interp_exec.specs.declared.labels_run.LabelsRun.{LabelsRun}

-- with these labels, pools, files, output, count and cause
abbrev pub beside : Conn → Vec LabelsRun → ℕ → Option ℕ → Vec OpenFile → List ℕ → Bool → ℕ → Option Cause → Conn
beside c labels conn req files out ended count broken = record c { labels = labels; conn = conn; req = req; files = files; out = out; ended = ended; count = count; broken = broken }

pub stacked_beside : (chain : List Program) (at : BucketId → Option ℕ) (rings : ℕ → Option Items) (pools : ℕ → Option ℕ) (next : ℕ) (c : Conn)
    (labels : Vec LabelsRun) (conn : ℕ) (req : Option ℕ) (files : Vec OpenFile) (out : List ℕ) (ended : Bool) (count : ℕ) (broken : Option Cause)
    → StackedOver chain at rings pools next c → StackedOver chain at rings pools next (beside c labels conn req files out ended count broken)
unfolding filter_at
stacked_beside chain at rings pools next c labels conn req files out ended count broken stacked = record {
  many = stacked.many;
  within = stacked.within;
  queue = stacked.queue;
  held = stacked.held;
  apart = record { own = stacked.apart.own; later = stacked.apart.later; handed = stacked.apart.handed; loose = stacked.apart.loose; calls = stacked.apart.calls };
  called = record {
    runs = stacked.called.runs;
    idle = stacked.called.idle;
    lent = stacked.called.lent;
    passes = stacked.called.passes;
    passed = stacked.called.passed;
    inward = stacked.called.inward;
    incoming = stacked.called.incoming;
    waits = stacked.called.waits;
    quiet = stacked.called.quiet;
    rises = stacked.called.rises;
    bottom = stacked.called.bottom;
    outer = stacked.called.outer;
  };
  brought = stacked.brought;
  whole = stacked.whole;
}

-- labels that are the same change nothing
pub left_relabelled : {R : Type 0} {g : Ghosts R Stored} (chain : List Program) (tree : PoolTree Payload) (store : Brigades R g) (d : Device) (c : Conn) (v : Linked) (labels : Vec LabelsRun)
    → labels.items ≡ c.labels.items
    → LeftAs chain tree store d c v → LeftAs chain tree store d (record c { labels = labels }) v
unfolding conn_of filter_at
left_relabelled chain tree store d c v labels same left = record {
  seen = record { pools = left.seen.pools; given = left.seen.given; conn = left.seen.conn ∙ ap with_labels (sym (ap labels_handed same)) };
  opens = left.opens;
  formed = left.formed;
  house = left.house;
  references = left.references;
  none = left.none;
  stacked = stacked_beside chain (brigade_of store) (lists store) (pool_of store) (next_name store) c labels c.conn c.req c.files c.out c.ended c.count c.broken left.stacked;
} where
  with_labels : List (List ℕ) → Connection
  with_labels ls = record (conn_of (map_of tree) (lists store) v.1.opened c) { labels = ls }
