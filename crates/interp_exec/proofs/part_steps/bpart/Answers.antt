-- The brigade is parted, and the cursor is at the place.
use Rattle.std.proofs.Common.{◌≡◌, false, is_some, sym, ap, ◌∙◌}
use Rattle.bucket_ring.specs.Lists.{list_at}
use Rattle.run_model.specs.BrigadeLists.{bucket_across}
use Rattle.run_model.specs.BucketSteps.{items_at, names_to_part}
use Rattle.bucket_store.specs.Points.{point_in, is_inside}
use Rattle.run_model.specs.State.{set_cursor}
use Rattle.brigade_ops.specs.Store.{lists, brigade_of, pool_of, next_name}
use Rattle.interp_state.specs.Seen.{seen, shown, calls_in, shown_cursor}
use Rattle.interp_state.proofs.Items.{items_live}
use Rattle.interp_state.proofs.Names.{held_kept, no_less}
use Rattle.interp_exec.proofs.Parts.{WasFound, same_ok, parted_step, parted_rises, parted_still, parted_given, parted_off}
use Rattle.interp_state.proofs.Quiet.{cut_shown, names_none}
use Rattle.interp_state.proofs.Walks.{held_cursor}
use Rattle.interp_state.proofs.LeftAlone.{left_off, left_same, ours_slot}
use Rattle.interp_exec.proofs.part_steps.bpart.Goals as goal

pub returns-clause-ok : goal.returns-clause-ok
returns-clause-ok g c =
    λ view alive.
    let there = c.brigade-name.ensures.there (lists c.args.store.now) c.requires.live in
    let between : WasFound c.args.store.now c.partition.new.self c.brigade-name.result c.args.point c.in-Ok.cut = λ no. let h = c.in-Ok.ensures.between no in (same_ok c.in-Ok.cut _ h.0, h.1) in
    parted_step c.args.store.now c.partition.new.self c.brigade-name.result c.args.point c.in-Ok.cut between c.in-Ok.ensures.inside c.in-Ok.ensures.next there view c.args.instance.now
    c.args.call.now c.args.b c.requires.held c.brigade-name.ensures.name c.args.c c.set_cursor.new.self alive
    (c.set_cursor.ensures.seen (lists c.partition.new.self) (next_name c.partition.new.self) view c.args.instance.now
    ∙ ap (λ s. set_cursor c.args.c (shown_cursor s) (seen c.partition.new.self view c.args.instance.now c.args.call.now)) c.cursor_value_of.ensures)

pub returns-clause-held : goal.returns-clause-held
returns-clause-held g c =
    let there = c.brigade-name.ensures.there (lists c.args.store.now) c.requires.live in
    let between : WasFound c.args.store.now c.partition.new.self c.brigade-name.result c.args.point c.in-Ok.cut = λ no. let h = c.in-Ok.ensures.between no in (same_ok c.in-Ok.cut _ h.0, h.1) in
    held_cursor (brigade_of c.partition.new.self) (lists c.partition.new.self) (pool_of c.partition.new.self)
    (next_name c.partition.new.self) c.args.instance.now c.args.call.now c.set_cursor.new.self c.args.c c.cursor_value_of.result c.set_cursor.ensures.name c.set_cursor.ensures.cursors
    (λ j is. parted_given c.args.store.now c.partition.new.self c.brigade-name.result c.args.point c.in-Ok.cut between c.in-Ok.ensures.inside c.in-Ok.ensures.next there j
    (sym c.cursor_value_of.ensures ∙ is))
    (held_kept c.args.store.now c.partition.new.self (parted_rises c.args.store.now c.partition.new.self c.brigade-name.result c.args.point c.in-Ok.cut between c.in-Ok.ensures.inside
    c.in-Ok.ensures.next there) c.partition.ensures.names c.partition.ensures.pools
    (parted_still c.args.store.now c.partition.new.self c.brigade-name.result c.args.point c.in-Ok.cut between c.in-Ok.ensures.inside c.in-Ok.ensures.next there)
    c.args.instance.now c.args.call.now c.requires.held)

pub returns-clause-left : goal.returns-clause-left
returns-clause-left g c =
    let there = c.brigade-name.ensures.there (lists c.args.store.now) c.requires.live in
    let between : WasFound c.args.store.now c.partition.new.self c.brigade-name.result c.args.point c.in-Ok.cut = λ no. let h = c.in-Ok.ensures.between no in (same_ok c.in-Ok.cut _ h.0, h.1) in
    let ours = ours_slot c.args.instance.now c.args.call.now c.args.b c.brigade-name.result c.brigade-name.ensures.name in
    left_off c.args.store.now c.partition.new.self (parted_rises c.args.store.now c.partition.new.self c.brigade-name.result c.args.point c.in-Ok.cut between c.in-Ok.ensures.inside
    c.in-Ok.ensures.next there) c.partition.ensures.names c.partition.ensures.pools c.partition.ensures.references c.partition.ensures.unasked c.brigade-name.result c.brigade-name.result
    (parted_still c.args.store.now c.partition.new.self c.brigade-name.result c.args.point c.in-Ok.cut between c.in-Ok.ensures.inside c.in-Ok.ensures.next there)
    (parted_off c.args.store.now c.partition.new.self c.brigade-name.result c.args.point c.in-Ok.cut between c.in-Ok.ensures.inside c.in-Ok.ensures.next there)
    c.args.instance.now c.args.call.now ours ours

pub returns-in_default-clause-left : goal.returns-in_default-clause-left
returns-in_default-clause-left g c =
    left_same c.args.store.now c.partition.new.self (no_less (next_name c.args.store.now) (next_name c.partition.new.self) c.in_default.ensures.next) c.partition.ensures.names
    c.partition.ensures.pools c.partition.ensures.references c.partition.ensures.unasked c.in_default.ensures.err c.args.instance.now c.args.call.now

pub returns-in_default-clause-sure : goal.returns-in_default-clause-sure
returns-in_default-clause-sure g c view none =
    let s = c.args.store.now in
    let name = c.brigade-name.result in
    let runs = calls_in view c.args.call.now in
    let items : items_at (seen s view c.args.instance.now c.args.call.now) c.args.b ≡ shown runs (list_at (lists s) name) =
    items_live (lists s) (next_name s) view c.args.instance.now c.args.call.now c.args.b name (c.brigade-name.ensures.live (lists c.args.store.now) c.requires.live) in
    let across : is_some (bucket_across c.args.point (shown runs (list_at (lists s) name))) ≡ false = names_none _ (sym (ap (names_to_part c.args.point) items) ∙ none) in
    let between : is_inside (point_in c.args.point (list_at (lists s) name)) ≡ false = sym (cut_shown c.args.point runs (list_at (lists s) name)) ∙ across in
    absurd (c.in_default.not-Ok _ (c.partition.ensures.between between).0)
