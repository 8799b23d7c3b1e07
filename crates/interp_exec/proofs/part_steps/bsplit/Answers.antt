-- The second brigade has what stood from the place on.
use Rattle.std.proofs.Common.{List, ap, ◌∙◌}
use Rattle.bucket_ring.specs.Lists.{list_at}
use Rattle.run_model.specs.BrigadeLists.{moves}
use Rattle.run_model.specs.BucketSteps.{set_items, items_at, place_at}
use Rattle.run_model.specs.Cursors.{at_cursor}
use Rattle.run_model.specs.declared.bucket.NamedBucket.{NamedBucket}
use Rattle.bucket_store.specs.Items.{before_place, from_place}
use Rattle.brigade_ops.specs.Store.{lists, brigade_of, pool_of, next_name}
use Rattle.interp_state.specs.Seen.{seen_over, calls_in, shown}
use Rattle.interp_exec.proofs.Cuts.{parted}
use Rattle.interp_state.proofs.Names.{apart_in, held_kept, no_less, still_both}
use Rattle.interp_state.proofs.LeftAlone.{left_both, ours_slot}
use Rattle.interp_exec.proofs.part_steps.bsplit.Goals as goal

pub returns-clause-new : goal.returns-clause-new
returns-clause-new g c =
    λ view.
    let r = (seen_over (lists c.args.store.now) (next_name c.args.store.now) view c.args.instance.now c.args.call.now) in
    parted (lists c.args.store.now) (lists c.split_at.new.self) (next_name c.args.store.now) (next_name c.split_at.new.self) view c.args.instance.now c.args.call.now c.args.a c.args.b
    c.brigade-to.result c.brigade-from.result c.place_in-place.result
    (apart_in (brigade_of c.args.store.now) (lists c.args.store.now) (pool_of c.args.store.now) (next_name c.args.store.now) c.args.instance.now c.args.call.now c.requires.held) c.requires.apart
    c.brigade-to.ensures.name c.brigade-from.ensures.name c.split_at.ensures.next c.split_at.ensures.out
    ∙ (ap (λ (zs : List NamedBucket). set_items c.args.a zs (set_items c.args.b
    (shown (calls_in view c.args.call.now) (before_place c.place_in-place.result (list_at (lists c.args.store.now) c.brigade-from.result))) r)) (c.place_in-place.ensures.moves view)
    ∙ ap (λ (ys : List NamedBucket). set_items c.args.a (moves (place_at (at_cursor r c.args.c)) (items_at r c.args.b)) (set_items c.args.b ys r)) (c.place_in-place.ensures.stays view))

pub returns-clause-held : goal.returns-clause-held
returns-clause-held g c =
    held_kept c.args.store.now c.split_at.new.self (no_less (next_name c.args.store.now) (next_name c.split_at.new.self) c.split_at.ensures.next) c.split_at.ensures.names c.split_at.ensures.pools
    (still_both (lists c.args.store.now) (lists c.split_at.new.self) c.brigade-to.result c.brigade-from.result
    (λ xs. from_place c.place_in-place.result (list_at (lists c.args.store.now) c.brigade-from.result)) (before_place c.place_in-place.result) c.split_at.ensures.out)
    c.args.instance.now c.args.call.now c.requires.held

pub returns-clause-left : goal.returns-clause-left
returns-clause-left g c =
    left_both c.args.store.now c.split_at.new.self (no_less (next_name c.args.store.now) (next_name c.split_at.new.self) c.split_at.ensures.next) c.split_at.ensures.names
    c.split_at.ensures.pools c.split_at.ensures.references c.split_at.ensures.unasked c.brigade-to.result c.brigade-from.result
    (λ xs. from_place c.place_in-place.result (list_at (lists c.args.store.now) c.brigade-from.result)) (before_place c.place_in-place.result) c.split_at.ensures.out c.args.instance.now c.args.call.now
    (ours_slot c.args.instance.now c.args.call.now c.args.a c.brigade-to.result c.brigade-to.ensures.name)
    (ours_slot c.args.instance.now c.args.call.now c.args.b c.brigade-from.result c.brigade-from.ensures.name)
