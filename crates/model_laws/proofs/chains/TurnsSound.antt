-- Each turn of a connection keeps it sound, and names rise.
use Rattle.std.proofs.Common.{◌≡◌, ℕ, ◌+◌, ◌^◌, ◌<◌, List, refl, arith}
use Rattle.module_code.specs.Program.{Program}
use Rattle.run_model.specs.Chains.{Connection, Common, Linked, pools_of, IsChain}
use Rattle.run_model.specs.Turns.{opened}
use Rattle.model_laws.specs.ChainSound.{ChainSound, HasNames}
use Rattle.model_laws.specs.ChainLaws.{Rises, RisingKeepsSound, after_top}
use Rattle.model_laws.proofs.chains.Modules.{module_at_proper}
use Rattle.model_laws.proofs.chains.Instances.{same_instances}
use Rattle.model_laws.proofs.chains.TopPools.{top_keeps_pools}
use Rattle.model_laws.proofs.chains.TopCalls.{same_calls, top_keeps_calls}
use Rattle.model_laws.proofs.chains.Names.{same_names}
use Rattle.model_laws.proofs.chains.TopNames.{top_keeps_names}
use Rattle.model_laws.proofs.chains.Buckets.{top_keeps_buckets}
use Rattle.model_laws.proofs.chains.Raised.{top_raises_names}
use Rattle.model_laws.proofs.chains.EventNames.{rising_names, opened_names, begun_names, brought_in_names, file_taken_names, request_over_names}
use Rattle.model_laws.proofs.chains.EventBuckets.{opened_buckets, begun_buckets, brought_in_buckets, file_taken_buckets, request_over_buckets, same_chain_buckets, begun_raises, brought_in_raises}
use Rattle.model_laws.proofs.chains.EventBuckets.{file_taken_raises, request_over_raises}
use Rattle.model_laws.proofs.chains.EventPools.{rising_pools, opened_pools, begun_pools, brought_in_pools, file_taken_pools, request_over_pools}
use Rattle.model_laws.proofs.chains.EventCalls.{rising_calls, opened_calls, begun_calls, brought_in_calls, file_taken_calls, request_over_calls}
use Rattle.model_laws.proofs.chains.EventTurns.{EventTurn, Stood, Went, Begun, Brought, FileTaken, Ended}

pub rising_sound : RisingKeepsSound
rising_sound chain g new c rises s = record {
  names = rising_names chain g new c rises.next rises.next_limit s.names;
  buckets = s.buckets;
  pools = rising_pools chain g new c rises.pools rises.pools_limit s.pools;
  calls = rising_calls chain g new c rises.next s.calls;
}

-- where only the output, the count and the cause change
pub marked_sound : (chain : List Program) (g : Common) (c new : Connection) → new.instances ≡ c.instances → new.stack ≡ c.stack → new.queue ≡ c.queue → new.req ≡ c.req → new.conn ≡ c.conn
    → pools_of g new ≡ pools_of g c
    → ChainSound chain g c → ChainSound chain g new
marked_sound chain g c new instances stack queue req conn pools s = record {
  names = same_names chain g c new instances stack s.names;
  buckets = same_chain_buckets c new instances stack s.buckets;
  pools = same_instances chain g g c new pools conn req instances s.pools;
  calls = same_calls chain g g c new refl req stack queue s.calls;
}

pub opened_sound : (chain : List Program) (g : Common) → IsChain chain → HasNames g → g.next + 1 < 2 ^ 64 → g.pools + 1 < 2 ^ 64 → ChainSound chain (opened chain g).0 (opened chain g).1
opened_sound chain g chained has next pools = record {
  names = opened_names chain g next;
  buckets = opened_buckets chain g;
  pools = opened_pools chain g has.pools.0 pools;
  calls = opened_calls chain g (module_at_proper chain chained 0) chained.some has.first;
}

pub same_rises : (g : Common) → HasNames g → Rises g g
same_rises g has = record { next = omega arith; next_limit = has.next; pools = omega arith; pools_limit = has.pools.1; root = refl }

pub turn_sound : (chain : List Program) (Lengths : ℕ → Type 0) (g : Common) (c : Connection) (v : Linked) → IsChain chain → HasNames g → EventTurn chain Lengths g c v → ChainSound chain g c
    → ChainSound chain v.0 v.1
turn_sound chain Lengths g c v chained has (Stood out broken still) s = marked_sound chain g c _ refl refl refl refl refl refl s
turn_sound chain Lengths g c v chained has (Went reads f rest whole may) s =
    let left : Linked = after_top chain reads g c f rest in
    marked_sound chain left.0 left.1 _ refl refl refl refl refl refl (record {
      names = top_keeps_names chain reads g c f rest may s;
      buckets = top_keeps_buckets chain reads g c f rest may s;
      pools = top_keeps_pools chain reads g c f rest may s;
      calls = top_keeps_calls chain reads g c f rest may s;
    })
turn_sound chain Lengths g c v chained has (Begun whole idle none pools next) s = record {
  names = begun_names chain g c next s.names;
  buckets = begun_buckets chain g c s.buckets;
  pools = begun_pools chain g c none pools s.pools;
  calls = begun_calls chain g c (module_at_proper chain chained 0) chained.some has.first;
}
turn_sound chain Lengths g c v chained has (Brought pieces req whole idle is there next late) s = record {
  names = brought_in_names chain pieces req g c next s.names;
  buckets = brought_in_buckets chain pieces req g c s.buckets;
  pools = brought_in_pools chain pieces req g c s.pools;
  calls = brought_in_calls chain pieces req g c (module_at_proper chain chained) has.first idle is s.calls;
}
turn_sound chain Lengths g c v chained has (FileTaken req file bytes whole idle is told newer last) s = record {
  names = file_taken_names chain req file bytes g c s.names;
  buckets = file_taken_buckets req file bytes g c s.buckets;
  pools = file_taken_pools chain req file bytes g c is s.pools;
  calls = file_taken_calls chain req file bytes g c s.calls;
}
turn_sound chain Lengths g c v chained has (Ended req whole idle is) s = record {
  names = request_over_names chain req g c s.names;
  buckets = request_over_buckets req g c s.buckets;
  pools = request_over_pools chain req g c is s.pools;
  calls = request_over_calls chain req g c idle s.calls;
}

pub turn_rises : (chain : List Program) (Lengths : ℕ → Type 0) (g : Common) (c : Connection) (v : Linked) → HasNames g → EventTurn chain Lengths g c v → ChainSound chain g c → Rises g v.0
turn_rises chain Lengths g c v has (Stood out broken still) s = same_rises g has
turn_rises chain Lengths g c v has (Went reads f rest whole may) s = top_raises_names chain reads g c f rest may s
turn_rises chain Lengths g c v has (Begun whole idle none pools next) s = begun_raises chain g c next pools
turn_rises chain Lengths g c v has (Brought pieces req whole idle is there next late) s = brought_in_raises chain pieces req g c next has.pools.1
turn_rises chain Lengths g c v has (FileTaken req file bytes whole idle is told newer last) s = file_taken_raises req file bytes g c has.next has.pools.1
turn_rises chain Lengths g c v has (Ended req whole idle is) s = request_over_raises req g c has.next has.pools.1
