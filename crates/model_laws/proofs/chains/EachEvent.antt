-- What is true of each bucket of a connection, through events between calls.
use Rattle.std.proofs.Common.{◌≡◌, ℕ, ◌+◌, List, [], Some, None, All, sym, subst}
use Rattle.module_code.specs.Program.{Program}
use Rattle.run_model.specs.declared.bucket.NamedBucket.{NamedBucket}
use Rattle.run_model.specs.declared.bucket.BrigadeVar.{BrigadeVar}
use Rattle.run_model.specs.declared.bucket.BrigadeVar.TheVariants as var
use Rattle.run_model.specs.declared.bucket.Mark.TheVariants.{Usable}
use Rattle.run_model.specs.declared.event.Piece.{Piece}
use Rattle.run_model.specs.declared.payload.Payload.{Payload}
use Rattle.run_model.specs.Pools.{Pools, created, is_under}
use Rattle.run_model.specs.Buckets.{cleared_bucket}
use Rattle.run_model.specs.Pieces.{bucket_of, named_from}
use Rattle.run_model.specs.Chains.{Connection, Common, pools_of, place_from}
use Rattle.run_model.specs.Passing.{set_in}
use Rattle.run_model.specs.Turns.{all_called, with_pools, fresh_connection, opened, begun, brought_in, request_over}
use Rattle.model_laws.specs.ChainFiles.{OfEachBucket}
use Rattle.model_laws.proofs.EachItem.{none, written_each, cleared_each}
use Rattle.model_laws.proofs.chains.EachBucket.{LooseOf, no_calls, one_call, called_each, written_instances}

module _ (T : NamedBucket → Type 0) where
  all_called_each : (chain : List Program) (ps : Pools Payload) (g : Common) (c : Connection) → OfEachBucket T c → OfEachBucket T (all_called chain (with_pools ps (g, c))).1
  unfolding all_called
  all_called_each chain ps g c h = called_each T chain 0 _ (with_pools ps (g, c)).0 (record (with_pools ps (g, c)).1 { count = 0 }) (record { brigades = h.brigades; loose = h.loose })

  -- there is none yet
  pub opened_each : (chain : List Program) (g : Common) → OfEachBucket T (opened chain g).1
  unfolding opened
  opened_each chain g = all_called_each chain (created g.root (pools_of g (fresh_connection g))) g (fresh_connection g) (record { brigades = λ k b. none T; loose = no_calls T })

  pub begun_each : (chain : List Program) (g : Common) (c : Connection) → OfEachBucket T c → OfEachBucket T (begun chain (g, c)).1
  unfolding begun
  begun_each chain g c h = all_called_each chain (created c.conn (pools_of g c)) g (record c { req = Some g.pools }) (record { brigades = h.brigades; loose = h.loose })

  pub brought_in_each : (chain : List Program) (pieces : List Piece) (req : ℕ) (g : Common) (c : Connection) → All T (named_from (bucket_of g.next req) (g.next + 2) pieces) → OfEachBucket T c
      → OfEachBucket T (brought_in chain pieces req (g, c)).1
  brought_in_each chain pieces req g c new h = record {
    brigades = written_instances T c.instances k (set_in there (c.instances k)) h.brigades (written_each T (c.instances k).brigades 8 there new (h.brigades k));
    loose = one_call T _ [] (none T) (no_calls T);
  } where
    k : ℕ
    k = place_from chain c.instances 0

    there : BrigadeVar
    there = var.Live (record { name = g.next + 1; on = None; mark = Usable; items = named_from (bucket_of g.next req) (g.next + 2) pieces })

-- a request ends between calls
pub request_over_each : (Old New : NamedBucket → Type 0) (req : ℕ) (g : Common) (c : Connection) → c.stack ≡ []
    → ((x : NamedBucket) → Old x → New (cleared_bucket (is_under (pools_of g c) req) x)) → OfEachBucket Old c → OfEachBucket New (request_over req (g, c)).1
request_over_each Old New req g c idle keeps h = record {
  brigades = λ k b. cleared_each Old New (is_under (pools_of g c) req) keeps ((c.instances k).brigades b) (h.brigades k b);
  loose = subst (LooseOf New) (sym idle) (no_calls New);
}
