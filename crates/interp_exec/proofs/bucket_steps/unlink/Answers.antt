-- The bucket goes from its brigade to the loose ones.
use Rattle.bucket_ring.specs.Lists as ring
use Rattle.brigade_ops.specs.Store.{lists, brigade_of, pool_of, next_name}
use Rattle.brigade_ops.proofs.Stores.{kept}
use Rattle.interp_state.proofs.Names.{held_kept, no_less}
use Rattle.interp_state.proofs.Standing.{within_set, within_at, within_live}
use Rattle.interp_exec.proofs.Steps.{unlink_step, moved_still, moved_off}
use Rattle.interp_state.proofs.LeftAlone.{left_off, ours_slot, ours_loose}
use Rattle.interp_exec.proofs.bucket_steps.unlink.Goals as goal

pub bucket-requires-clause-at : goal.bucket-requires-clause-at
bucket-requires-clause-at g c = within_set c.args.store.now c.args.instance.now c.args.call.now c.args.c c.requires.held c.requires.stands

pub move_tail-requires-clause-brigade : goal.move_tail-requires-clause-brigade
move_tail-requires-clause-brigade g c = c.requires.held.runs c.requires.runs

pub move_tail-requires-clause-bucket : goal.move_tail-requires-clause-bucket
move_tail-requires-clause-bucket g c = within_live c.args.store.now c.args.instance.now c.args.call.now c.args.c c.requires.held c.requires.stands c.bucket.result c.bucket.ensures

pub returns-clause-new : goal.returns-clause-new
returns-clause-new g c =
    λ view.
    let s = within_at c.args.store.now c.args.instance.now c.args.call.now c.args.c c.requires.held c.requires.stands c.bucket.result c.bucket.ensures in
    unlink_step (brigade_of c.args.store.now) (lists c.args.store.now) (lists c.move_tail.new.self) (pool_of c.args.store.now) (next_name c.args.store.now) (next_name c.move_tail.new.self)
    (kept c.args.store.now) c.move_tail.ensures.next c.bucket.result view c.args.instance.now c.args.call.now c.args.c c.requires.held s.variable
    (s.told (next_name c.args.store.now) view) s.inside.1 c.requires.runs c.move_tail.ensures.out

pub returns-clause-held : goal.returns-clause-held
returns-clause-held g c =
    let s = within_at c.args.store.now c.args.instance.now c.args.call.now c.args.c c.requires.held c.requires.stands c.bucket.result c.bucket.ensures in
    held_kept c.args.store.now c.move_tail.new.self (no_less (next_name c.args.store.now) (next_name c.move_tail.new.self) c.move_tail.ensures.next) c.move_tail.ensures.names c.move_tail.ensures.pools
    (moved_still (brigade_of c.args.store.now) (lists c.args.store.now) (lists c.move_tail.new.self) (pool_of c.args.store.now) (next_name c.args.store.now) (next_name c.move_tail.new.self)
    (kept c.args.store.now) c.move_tail.ensures.next c.bucket.result s.inside.1.0 c.args.call.now.name (λ x. ring.put_tail (c.bucket.result, x)) s.inside.1.1.1 c.move_tail.ensures.out)
    c.args.instance.now c.args.call.now c.requires.held

pub returns-clause-left : goal.returns-clause-left
returns-clause-left g c =
    let s = within_at c.args.store.now c.args.instance.now c.args.call.now c.args.c c.requires.held c.requires.stands c.bucket.result c.bucket.ensures in
    left_off c.args.store.now c.move_tail.new.self (no_less (next_name c.args.store.now) (next_name c.move_tail.new.self) c.move_tail.ensures.next) c.move_tail.ensures.names
    c.move_tail.ensures.pools c.move_tail.ensures.references c.move_tail.ensures.unasked c.args.call.now.name s.inside.1.0
    (moved_still (brigade_of c.args.store.now) (lists c.args.store.now) (lists c.move_tail.new.self) (pool_of c.args.store.now) (next_name c.args.store.now) (next_name c.move_tail.new.self)
    (kept c.args.store.now) c.move_tail.ensures.next c.bucket.result s.inside.1.0 c.args.call.now.name (λ x. ring.put_tail (c.bucket.result, x)) s.inside.1.1.1 c.move_tail.ensures.out)
    (moved_off (brigade_of c.args.store.now) (lists c.args.store.now) (lists c.move_tail.new.self) (pool_of c.args.store.now) (next_name c.args.store.now) (next_name c.move_tail.new.self)
    (kept c.args.store.now) c.move_tail.ensures.next c.bucket.result s.inside.1.0 c.args.call.now.name (λ x. ring.put_tail (c.bucket.result, x)) s.inside.1.1.1 c.move_tail.ensures.out)
    c.args.instance.now c.args.call.now (ours_loose c.args.instance.now c.args.call.now) (ours_slot c.args.instance.now c.args.call.now s.variable s.inside.1.0 s.inside.1.1.0)
