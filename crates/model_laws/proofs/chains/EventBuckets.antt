-- Events keep home and content of each bucket as its kind has them, and names rise.
use Rattle.std.proofs.Common.{◌≡◌, ℕ, ◌+◌, ◌^◌, ◌<◌, List, length, All, refl, sym, subst, arith}
use Rattle.module_code.specs.Program.{Program}
use Rattle.run_model.specs.declared.event.Piece.{Piece}
use Rattle.run_model.specs.Pools.{created, destroyed, is_under}
use Rattle.run_model.specs.Clearing.{run_down}
use Rattle.run_model.specs.State as state
use Rattle.run_model.specs.Chains.{Frame, Connection, Common, configuration, pools_of}
use Rattle.run_model.specs.Turns.{all_called, opened, begun, brought_in, file_taken, request_over}
use Rattle.model_laws.specs.ChainSound.{ChainBuckets}
use Rattle.model_laws.specs.ChainLaws.{Rises}
use Rattle.model_laws.proofs.EachItem.{cleared_each}
use Rattle.model_laws.proofs.StepBuckets.{IsProper, ProperList, named_proper, cleared_proper}
use Rattle.model_laws.proofs.chains.Buckets.{each_proper, chain_buckets}
use Rattle.model_laws.proofs.chains.EachEvent.{opened_each, begun_each, brought_in_each}

-- Buckets.

pub opened_buckets : (chain : List Program) (g : Common) → ChainBuckets (opened chain g).1
opened_buckets chain g = chain_buckets _ (opened_each IsProper chain g)

pub begun_buckets : (chain : List Program) (g : Common) (c : Connection) → ChainBuckets c → ChainBuckets (begun chain (g, c)).1
begun_buckets chain g c s = chain_buckets _ (begun_each IsProper chain g c (each_proper c s))

pub brought_in_buckets : (chain : List Program) (pieces : List Piece) (req : ℕ) (g : Common) (c : Connection) → ChainBuckets c → ChainBuckets (brought_in chain pieces req (g, c)).1
brought_in_buckets chain pieces req g c s = chain_buckets _ (brought_in_each IsProper chain pieces req g c (named_proper g.next req (g.next + 2) pieces) (each_proper c s))

pub file_taken_buckets : (req file : ℕ) (bytes : List ℕ) (g : Common) (c : Connection) → ChainBuckets c → ChainBuckets (file_taken req file bytes (g, c)).1
file_taken_buckets req file bytes g c s = record { brigades = s.brigades; loose = s.loose }

-- between calls
pub request_over_buckets : (req : ℕ) (g : Common) (c : Connection) → ChainBuckets c → ChainBuckets (request_over req (g, c)).1
request_over_buckets req g c s =
    record {
      brigades = λ k b. cleared_each IsProper IsProper (is_under (pools_of g c) req) (cleared_proper (is_under (pools_of g c) req))
          ((c.instances k).brigades b) (s.brigades k b);
      loose = s.loose;
    }

-- output, count and cause change
pub same_chain_buckets : (c new : Connection) → new.instances ≡ c.instances → new.stack ≡ c.stack → ChainBuckets c → ChainBuckets new
same_chain_buckets c new instances stack s = record {
  brigades = λ k b. subst (λ (h : ℕ → state.Instance). ProperList (state.items_of ((h k).brigades b))) (sym instances) (s.brigades k b);
  loose = subst (λ (fs : List Frame). All (λ w. ProperList w.call.loose) fs) (sym stack) s.loose;
}

-- Names rise.

pub opened_raises : (chain : List Program) (g : Common) → g.next + 1 < 2 ^ 64 → g.pools + 1 < 2 ^ 64 → Rises g (opened chain g).0
unfolding opened all_called created
opened_raises chain g next pools = record { next = omega arith; next_limit = next; pools = omega arith; pools_limit = pools; root = refl }

pub begun_raises : (chain : List Program) (g : Common) (c : Connection) → g.next + 1 < 2 ^ 64 → g.pools + 1 < 2 ^ 64 → Rises g (begun chain (g, c)).0
unfolding begun all_called created
begun_raises chain g c next pools = record { next = omega arith; next_limit = next; pools = omega arith; pools_limit = pools; root = refl }

pub brought_in_raises : (chain : List Program) (pieces : List Piece) (req : ℕ) (g : Common) (c : Connection) → g.next + (2 + length pieces) < 2 ^ 64 → g.pools < 2 ^ 64
    → Rises g (brought_in chain pieces req (g, c)).0
brought_in_raises chain pieces req g c next pools = record { next = omega arith; next_limit = omega arith; pools = omega arith; pools_limit = pools; root = refl }

pub file_taken_raises : (req file : ℕ) (bytes : List ℕ) (g : Common) (c : Connection) → g.next < 2 ^ 64 → g.pools < 2 ^ 64 → Rises g (file_taken req file bytes (g, c)).0
file_taken_raises req file bytes g c next pools = record { next = omega arith; next_limit = next; pools = omega arith; pools_limit = pools; root = refl }

pub request_over_raises : (req : ℕ) (g : Common) (c : Connection) → g.next < 2 ^ 64 → g.pools < 2 ^ 64 → Rises g (request_over req (g, c)).0
unfolding configuration run_down destroyed state.with_pools
request_over_raises req g c next pools = record { next = omega arith; next_limit = next; pools = omega arith; pools_limit = pools; root = refl }
