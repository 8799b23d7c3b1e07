-- The cursor is set to the place behind the bucket that the other one is at.
use Rattle.std.proofs.Common.{ℕ, sym, ap, ◌∙◌}
use Rattle.run_model.specs.BucketSteps.{do_next, items_at, set_place}
use Rattle.run_model.specs.BrigadeLists.{next_place}
use Rattle.run_model.specs.Cursors.{CursorPlace}
use Rattle.run_model.specs.State.{set_cursor}
use Rattle.run_model.specs.declared.bucket.Cursor.{Cursor}
use Rattle.brigade_ops.specs.Store.{lists, brigade_of, pool_of, next_name}
use Rattle.interp_state.specs.Seen.{seen_over}
use Rattle.interp_state.proofs.Standing.{within_set, within_at, within_live}
use Rattle.interp_state.proofs.Stands.{cursor_within}
use Rattle.interp_state.proofs.Walks.{held_cursor}
use Rattle.interp_exec.proofs.cut_steps.next.Goals as goal

pub bucket-requires-clause-at : goal.bucket-requires-clause-at
bucket-requires-clause-at g c = within_set c.args.store.now c.args.instance.now c.args.call.now c.args.c c.requires.held c.requires.stands

pub cursor_value_after-cursor_value-requires : goal.cursor_value_after-cursor_value-requires
cursor_value_after-cursor_value-requires g c = within_live c.args.store.now c.args.instance.now c.args.call.now c.args.c c.requires.held c.requires.stands c.bucket.result c.bucket.ensures

pub returns-clause-new : goal.returns-clause-new
returns-clause-new g c =
    λ view.
    let store = c.args.store.now in
    let i = c.args.instance.now in
    let call = c.args.call.now in
    let s = within_at store i call c.args.c c.requires.held c.requires.stands c.bucket.result c.bucket.ensures in
    let r = seen_over (lists store) (next_name store) view i call in
    let y = cursor_within r c.args.c s.variable c.bucket.result.birth (s.told (next_name store) view) in
    c.set_cursor.ensures.seen (lists store) (next_name store) view i
    ∙ (ap (λ (k : Cursor). set_cursor c.args.d k r) (c.cursor_value_after-cursor_value.ensures.place view i call s.variable s.inside.1.0 s.inside.1.1.0 s.inside.1.1.1)
    ∙ (ap (λ (n : ℕ). set_place c.args.d s.variable (next_place n (items_at r s.variable)) r) (sym y.1.1.0) ∙ ap (λ (p : CursorPlace). do_next c.args.d p r) (sym y.1.0)))

pub returns-clause-held : goal.returns-clause-held
returns-clause-held g c =
    held_cursor (brigade_of c.args.store.now) (lists c.args.store.now) (pool_of c.args.store.now) (next_name c.args.store.now) c.args.instance.now c.args.call.now c.set_cursor.new.self c.args.d
    c.cursor_value_after-cursor_value.result c.set_cursor.ensures.name c.set_cursor.ensures.cursors
    c.cursor_value_after-cursor_value.ensures.given c.requires.held
