-- The bucket goes from the loose ones to the brigade.
use Rattle.bucket_ring.specs.Lists.{list_at}
use Rattle.run_model.specs.Steps.{put_at}
use Rattle.brigade_ops.specs.Store.{lists, brigade_of, pool_of, next_name}
use Rattle.brigade_ops.proofs.Stores.{kept}
use Rattle.interp_state.specs.Seen.{calls_in}
use Rattle.interp_state.proofs.Names.{held_kept, no_less}
use Rattle.interp_state.proofs.Standing.{loose_set, loose_at, loose_live}
use Rattle.interp_exec.specs.Making.{put_item}
use Rattle.interp_exec.proofs.Steps.{put_step, moved_still, moved_off, shown_put}
use Rattle.interp_state.proofs.LeftAlone.{left_off, ours_slot, ours_loose}
use Rattle.interp_exec.proofs.bucket_steps.insert.Goals as goal

pub bucket-requires-clause-at : goal.bucket-requires-clause-at
bucket-requires-clause-at g c = loose_set c.args.store.now c.args.instance.now c.args.call.now c.args.c c.requires.held c.requires.stands

pub move_to-requires-clause-bucket : goal.move_to-requires-clause-bucket
move_to-requires-clause-bucket g c = loose_live c.args.store.now c.args.instance.now c.args.call.now c.args.c c.requires.held c.requires.stands c.bucket.result c.bucket.ensures

pub returns-clause-new : goal.returns-clause-new
returns-clause-new g c =
    let s = loose_at c.args.store.now c.args.instance.now c.args.call.now c.args.c c.requires.held c.requires.stands c.bucket.result c.bucket.ensures in
    λ view.
    put_step (brigade_of c.args.store.now) (lists c.args.store.now) (lists c.move_to.new.store) (pool_of c.args.store.now) (next_name c.args.store.now) (next_name c.move_to.new.store)
    (kept c.args.store.now) c.move_to.ensures.next c.bucket.result view c.args.instance.now c.args.call.now c.args.c c.requires.held
    (put_at c.args.side) (λ x. put_item c.args.side (c.bucket.result, x)) c.args.b c.brigade.result (s.told (next_name c.args.store.now) view) s.inside c.brigade.ensures.name
    (λ x. shown_put c.args.side (calls_in view c.args.call.now) (c.bucket.result, x) (list_at (lists c.args.store.now) c.brigade.result)) c.move_to.ensures.out

pub returns-clause-held : goal.returns-clause-held
returns-clause-held g c =
    let s = loose_at c.args.store.now c.args.instance.now c.args.call.now c.args.c c.requires.held c.requires.stands c.bucket.result c.bucket.ensures in
    held_kept c.args.store.now c.move_to.new.store (no_less (next_name c.args.store.now) (next_name c.move_to.new.store) c.move_to.ensures.next) c.move_to.ensures.names c.move_to.ensures.pools
    (moved_still (brigade_of c.args.store.now) (lists c.args.store.now) (lists c.move_to.new.store) (pool_of c.args.store.now) (next_name c.args.store.now) (next_name c.move_to.new.store)
    (kept c.args.store.now) c.move_to.ensures.next c.bucket.result c.args.call.now.name c.brigade.result (λ x. put_item c.args.side (c.bucket.result, x)) s.inside c.move_to.ensures.out)
    c.args.instance.now c.args.call.now c.requires.held

pub returns-clause-left : goal.returns-clause-left
returns-clause-left g c =
    let s = loose_at c.args.store.now c.args.instance.now c.args.call.now c.args.c c.requires.held c.requires.stands c.bucket.result c.bucket.ensures in
    left_off c.args.store.now c.move_to.new.store (no_less (next_name c.args.store.now) (next_name c.move_to.new.store) c.move_to.ensures.next) c.move_to.ensures.names c.move_to.ensures.pools
    c.move_to.ensures.references c.move_to.ensures.unasked c.brigade.result c.args.call.now.name
    (moved_still (brigade_of c.args.store.now) (lists c.args.store.now) (lists c.move_to.new.store) (pool_of c.args.store.now) (next_name c.args.store.now) (next_name c.move_to.new.store)
    (kept c.args.store.now) c.move_to.ensures.next c.bucket.result c.args.call.now.name c.brigade.result (λ x. put_item c.args.side (c.bucket.result, x)) s.inside c.move_to.ensures.out)
    (moved_off (brigade_of c.args.store.now) (lists c.args.store.now) (lists c.move_to.new.store) (pool_of c.args.store.now) (next_name c.args.store.now) (next_name c.move_to.new.store)
    (kept c.args.store.now) c.move_to.ensures.next c.bucket.result c.args.call.now.name c.brigade.result (λ x. put_item c.args.side (c.bucket.result, x)) s.inside c.move_to.ensures.out)
    c.args.instance.now c.args.call.now (ours_slot c.args.instance.now c.args.call.now c.args.b c.brigade.result c.brigade.ensures.name) (ours_loose c.args.instance.now c.args.call.now)
