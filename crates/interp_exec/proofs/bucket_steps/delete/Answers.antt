-- The bucket is taken out of the list that it is in.
use Rattle.std.proofs.Common.{inl, inr}
use Rattle.brigade_ops.specs.Store.{lists, brigade_of, pool_of, next_name}
use Rattle.brigade_ops.proofs.Stores.{kept}
use Rattle.bucket_ring.specs.Lists as ring
use Rattle.interp_state.proofs.Names.{held_kept, no_less, still_on}
use Rattle.interp_state.proofs.Standing.{bucket_set, bucket_at, bucket_here, bucket_live}
use Rattle.interp_exec.proofs.Steps.{delete_step, delete_loose_step}
use Rattle.interp_state.proofs.LeftAlone.{left_on}
use Rattle.interp_exec.proofs.bucket_steps.delete.Goals as goal

pub bucket-requires-clause-at : goal.bucket-requires-clause-at
bucket-requires-clause-at g c = bucket_set c.args.store.now c.args.instance.now c.args.call.now c.args.c c.requires.held c.requires.stands

pub drop_bucket-requires : goal.drop_bucket-requires
drop_bucket-requires g c = bucket_live c.args.store.now c.args.instance.now c.args.call.now c.args.c c.requires.held c.requires.stands c.bucket.result c.bucket.ensures

pub returns-clause-new : goal.returns-clause-new
returns-clause-new g c =
    λ view.
    elim (bucket_at c.args.store.now c.args.instance.now c.args.call.now c.args.c c.requires.held c.requires.stands c.bucket.result c.bucket.ensures) [
      | inl s ↦ delete_step (brigade_of c.args.store.now) (lists c.args.store.now) (lists c.drop_bucket.new.self) (pool_of c.args.store.now) (next_name c.args.store.now)
          (next_name c.drop_bucket.new.self) (kept c.args.store.now) c.drop_bucket.ensures.next c.bucket.result view c.args.instance.now c.args.call.now c.args.c c.requires.held s.variable
          (s.told (next_name c.args.store.now) view) s.inside.1 (λ j m is. c.drop_bucket.ensures.out j m is)
      | inr s ↦ delete_loose_step (brigade_of c.args.store.now) (lists c.args.store.now) (lists c.drop_bucket.new.self) (pool_of c.args.store.now) (next_name c.args.store.now)
          (next_name c.drop_bucket.new.self) (kept c.args.store.now) c.drop_bucket.ensures.next c.bucket.result view c.args.instance.now c.args.call.now c.args.c c.requires.held
          (s.told (next_name c.args.store.now) view) s.inside (λ j m is. c.drop_bucket.ensures.out j m is)
    ]

pub returns-clause-held : goal.returns-clause-held
returns-clause-held g c =
    let s = bucket_here c.args.store.now c.args.instance.now c.args.call.now c.args.c c.requires.held c.requires.stands c.bucket.result c.bucket.ensures in
    held_kept c.args.store.now c.drop_bucket.new.self
    (no_less (next_name c.args.store.now) (next_name c.drop_bucket.new.self) c.drop_bucket.ensures.next) c.drop_bucket.ensures.names c.drop_bucket.ensures.pools
    (still_on (lists c.args.store.now) (lists c.drop_bucket.new.self) s.ring (ring.without c.bucket.result) (λ m. c.drop_bucket.ensures.out s.ring m s.inside))
    c.args.instance.now c.args.call.now c.requires.held

pub returns-clause-left : goal.returns-clause-left
returns-clause-left g c =
    let s = bucket_here c.args.store.now c.args.instance.now c.args.call.now c.args.c c.requires.held c.requires.stands c.bucket.result c.bucket.ensures in
    left_on c.args.store.now c.drop_bucket.new.self (no_less (next_name c.args.store.now) (next_name c.drop_bucket.new.self) c.drop_bucket.ensures.next) c.drop_bucket.ensures.names
    c.drop_bucket.ensures.pools c.drop_bucket.ensures.references c.drop_bucket.ensures.unasked s.ring (ring.without c.bucket.result) (λ m. c.drop_bucket.ensures.out s.ring m s.inside)
    c.args.instance.now c.args.call.now s.ours
