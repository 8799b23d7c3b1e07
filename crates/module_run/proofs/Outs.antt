-- The output of a connection alone changes.
use Rattle.std.proofs.Common.{ℕ, Bool, List, ap}
use Rattle.bucket_ring.specs.declared.names.BucketId.{BucketId}
use Rattle.module_code.specs.Program.{Program}
use Rattle.run_model.specs.declared.payload.Payload.{Payload}
use Rattle.run_model.specs.Chains.{Connection, Linked}
use Rattle.run_model.specs.Pools.{Pools}
use Rattle.bucket_store.specs.Items.{Items}
use Rattle.std.specs.Prelude.{Option}
use Rattle.module_run.specs.declared.conn.Conn.{Conn}
use Rattle.module_run.specs.Conns.{conn_of, filter_at, IsSeenAs}
use Rattle.interp_calls.specs.Delivery.{out_of}
use Rattle.module_run.specs.Stacked.{FiltersApart, AreCalled, StackedOver}

module _ (c : Conn) (out : List ℕ) (ended : Bool) where
  abbrev pub with_out : Conn
  with_out = record c { out = out; ended = ended }

  apart_out : FiltersApart c → FiltersApart with_out
  unfolding filter_at
  apart_out a = record { own = a.own; later = a.later; handed = a.handed; loose = a.loose; calls = a.calls }

  called_out : (chain : List Program) → AreCalled chain c → AreCalled chain with_out
  unfolding filter_at
  called_out chain a = record {
    runs = a.runs;
    idle = a.idle;
    lent = a.lent;
    passes = a.passes;
    passed = a.passed;
    inward = a.inward;
    incoming = a.incoming;
    waits = a.waits;
    quiet = a.quiet;
    rises = a.rises;
    bottom = a.bottom;
    outer = a.outer;
  }

  pub stacked_out : (chain : List Program) (at : BucketId → Option ℕ) (L : ℕ → Option Items) (P : ℕ → Option ℕ) (next : ℕ) → StackedOver chain at L P next c → StackedOver chain at L P next with_out
  unfolding filter_at
  stacked_out chain at L P next s = record {
    many = s.many;
    within = s.within;
    queue = s.queue;
    held = s.held;
    apart = apart_out s.apart;
    called = called_out chain s.called;
    brought = s.brought;
    whole = s.whole;
  }

  pub seen_out : (ps : Pools Payload) (L : ℕ → Option Items) (next : ℕ) (v : Linked) → IsSeenAs ps L next c v → IsSeenAs ps L next with_out (v.0, record v.1 { out = out_of out ended })
  unfolding conn_of filter_at
  seen_out ps L next v seen = record {
    pools = seen.pools;
    given = seen.given;
    conn = ap (λ (n : Connection). record n { out = out_of out ended }) seen.conn;
  }
