-- The bucket goes from the loose ones to its place.
use Rattle.brigade_ops.specs.Store.{lists, brigade_of, pool_of, next_name}
use Rattle.brigade_ops.proofs.Stores.{kept}
use Rattle.interp_state.proofs.Names.{held_kept, no_less}
use Rattle.interp_state.proofs.Standing.{loose_set, loose_at, loose_live, within_set, within_at, within_live}
use Rattle.interp_exec.proofs.Steps.{before_step, before_still, before_off}
use Rattle.interp_state.proofs.LeftAlone.{left_off, ours_slot, ours_loose}
use Rattle.interp_exec.proofs.bucket_steps.before.Goals as goal

pub bucket-requires-clause-at : goal.bucket-requires-clause-at
bucket-requires-clause-at g c = within_set c.args.store.now c.args.instance.now c.args.call.now c.args.d c.requires.held c.requires.within

pub bucket-requires-2-clause-at : goal.bucket-requires-2-clause-at
bucket-requires-2-clause-at g c = loose_set c.args.store.now c.args.instance.now c.args.call.now c.args.c c.requires.held c.requires.loose

pub move_before-requires-clause-place : goal.move_before-requires-clause-place
move_before-requires-clause-place g c = within_live c.args.store.now c.args.instance.now c.args.call.now c.args.d c.requires.held c.requires.within c.bucket.result c.bucket.ensures

pub move_before-requires-clause-bucket : goal.move_before-requires-clause-bucket
move_before-requires-clause-bucket g c = loose_live c.args.store.now c.args.instance.now c.args.call.now c.args.c c.requires.held c.requires.loose c.bucket-2.result c.bucket-2.ensures

pub returns-clause-new : goal.returns-clause-new
returns-clause-new g c =
    let s = loose_at c.args.store.now c.args.instance.now c.args.call.now c.args.c c.requires.held c.requires.loose c.bucket-2.result c.bucket-2.ensures in
    let t = within_at c.args.store.now c.args.instance.now c.args.call.now c.args.d c.requires.held c.requires.within c.bucket.result c.bucket.ensures in
    λ view.
    before_step (brigade_of c.args.store.now) (lists c.args.store.now) (lists c.move_before.new.self) (pool_of c.args.store.now) (next_name c.args.store.now) (next_name c.move_before.new.self)
    (kept c.args.store.now) c.move_before.ensures.next c.bucket-2.result view c.args.instance.now c.args.call.now c.args.c c.requires.held c.args.d t.variable c.bucket.result
    (s.told (next_name c.args.store.now) view) s.inside (t.told (next_name c.args.store.now) view) t.inside.1 c.move_before.ensures.out

pub returns-clause-held : goal.returns-clause-held
returns-clause-held g c =
    let s = loose_at c.args.store.now c.args.instance.now c.args.call.now c.args.c c.requires.held c.requires.loose c.bucket-2.result c.bucket-2.ensures in
    let t = within_at c.args.store.now c.args.instance.now c.args.call.now c.args.d c.requires.held c.requires.within c.bucket.result c.bucket.ensures in
    held_kept c.args.store.now c.move_before.new.self
    (no_less (next_name c.args.store.now) (next_name c.move_before.new.self) c.move_before.ensures.next) c.move_before.ensures.names c.move_before.ensures.pools
    (before_still (brigade_of c.args.store.now) (lists c.args.store.now) (lists c.move_before.new.self) (pool_of c.args.store.now) (next_name c.args.store.now) (next_name c.move_before.new.self)
    (kept c.args.store.now) c.move_before.ensures.next c.bucket-2.result c.args.call.now.name t.inside.1.0 c.bucket.result s.inside t.inside.1.1.1 c.move_before.ensures.out)
    c.args.instance.now c.args.call.now c.requires.held

pub returns-clause-left : goal.returns-clause-left
returns-clause-left g c =
    let s = loose_at c.args.store.now c.args.instance.now c.args.call.now c.args.c c.requires.held c.requires.loose c.bucket-2.result c.bucket-2.ensures in
    let t = within_at c.args.store.now c.args.instance.now c.args.call.now c.args.d c.requires.held c.requires.within c.bucket.result c.bucket.ensures in
    left_off c.args.store.now c.move_before.new.self (no_less (next_name c.args.store.now) (next_name c.move_before.new.self) c.move_before.ensures.next) c.move_before.ensures.names
    c.move_before.ensures.pools c.move_before.ensures.references c.move_before.ensures.unasked t.inside.1.0 c.args.call.now.name
    (before_still (brigade_of c.args.store.now) (lists c.args.store.now) (lists c.move_before.new.self) (pool_of c.args.store.now) (next_name c.args.store.now) (next_name c.move_before.new.self)
    (kept c.args.store.now) c.move_before.ensures.next c.bucket-2.result c.args.call.now.name t.inside.1.0 c.bucket.result s.inside t.inside.1.1.1 c.move_before.ensures.out)
    (before_off (brigade_of c.args.store.now) (lists c.args.store.now) (lists c.move_before.new.self) (pool_of c.args.store.now) (next_name c.args.store.now) (next_name c.move_before.new.self)
    (kept c.args.store.now) c.move_before.ensures.next c.bucket-2.result c.args.call.now.name t.inside.1.0 c.bucket.result s.inside t.inside.1.1.1 c.move_before.ensures.out)
    c.args.instance.now c.args.call.now (ours_slot c.args.instance.now c.args.call.now t.variable t.inside.1.0 t.inside.1.1.0) (ours_loose c.args.instance.now c.args.call.now)
