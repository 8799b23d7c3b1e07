-- What was taken so far and what is left are all.
use Rattle.std.proofs.Common.{◌≡◌, ◌≤◌, ℕ, Bool, true, false, Some, length, drop}
use Rattle.run_model.specs.Buckets.{has_eos}
use Rattle.run_model.specs.Steps.{has_bytes}
use Rattle.bucket_ring.specs.declared.names.BucketId.{BucketId}
use Rattle.bucket_ring.specs.Lists.{list_at}
use Rattle.bucket_store.specs.Items.{from_place, named}
use Rattle.brigade_ops.specs.Store.{lists, brigade_of}
use Rattle.interp_state.specs.Seen.{shown}
use Rattle.interp_calls.specs.Delivery.{HasFront}
use Rattle.interp_calls.specs.Filled.{HasRoomFor, bytes_before_eos, text}
use Rattle.interp_calls.proofs.Delivering.{ItemsSoFar}
use Rattle.interp_calls.proofs.output.add_all.Given as goal

abbrev pub invariant-loop-place : goal.invariant-loop-place
invariant-loop-place g l = record {
  front : HasFront (text l.fn.out) (text l.out);
  room : l.roomy ≡ true → HasRoomFor (bytes_before_eos (from_place l.place (list_at (lists l.store) l.b))) l.out;
  unread : l.roomy ≡ false → g.F.Files.device l.files ≡ g.F.Files.device l.fn.files;
  within : l.out.end ≤ length l.out.block;
  open_files : (g.F.Files.device l.files).numbered ≡ (g.F.Files.device l.fn.files).numbered;
  read : ItemsSoFar (g.F.Files.device l.fn.files) (g.F.Files.device l.files) (list_at (lists l.store) l.b) (from_place l.place (list_at (lists l.store) l.b)) (drop (length (text l.fn.out)) (text l.out));
  quiet : has_bytes (named (list_at (lists l.store) l.b)) ≡ false → has_bytes (named (from_place l.place (list_at (lists l.store) l.b))) ≡ false;
  left : (runs : ℕ → Bool) → has_eos (shown runs (from_place l.place (list_at (lists l.store) l.b))) ≡ has_eos (shown runs (list_at (lists l.store) l.b));
  inside : (id : BucketId) → l.place ≡ Some id → brigade_of l.store id ≡ Some l.b;
}

abbrev pub decreases-loop-place : goal.decreases-loop-place
decreases-loop-place g l = length (from_place l.place (list_at (lists l.store) l.b))
