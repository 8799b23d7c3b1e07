-- A number that is no byte, or does not fit, changes nothing; else the byte stands behind the others.
use Rattle.std.proofs.Common.{sym, ◌∙◌}
use Rattle.std.proofs.lemmas.Result.{on_ok_weaker}
use Rattle.interp_state.specs.Seen.{seen_over}
use Rattle.interp_state.proofs.Asked.{full_is, not_put, put_is}
use Rattle.interp_state.proofs.HeldAlike.{held_cursors}
use Rattle.interp_state.proofs.bytes.put.Goals as goal

pub returns-then-has_no_room-clause-ok : goal.returns-then-has_no_room-clause-ok
returns-then-has_no_room-clause-ok c =
    λ rings next view.
    not_put c.args.x (seen_over rings next view c.args.instance.now c.args.call.now)
    (sym (full_is rings next view c.args.instance.now c.args.call.now c.args.x c.value_of-number.result c.len.result c.has_no_room.result c.has_no_room.ensures
    (c.value_of-number.ensures rings next view c.args.call.now) c.len.ensures) ∙ c.if-has_no_room.true)

pub returns-clause-ok : goal.returns-clause-ok
returns-clause-ok c =
    on_ok_weaker c.buffer_byte.result
    (λ out rings next view. put_is c.args.x (seen_over rings next view c.args.instance.now c.args.call.now)
    (seen_over rings next view c.args.instance.now c.buffer_byte.new.self) c.value_of-number.result
    (sym (full_is rings next view c.args.instance.now c.args.call.now c.args.x c.value_of-number.result c.len.result c.has_no_room.result c.has_no_room.ensures
    (c.value_of-number.ensures rings next view c.args.call.now) c.len.ensures) ∙ c.if-has_no_room.false)
    (c.value_of-number.ensures rings next view c.args.call.now) (out rings next view c.args.instance.now))
    c.buffer_byte.ensures.ok

pub returns-clause-held : goal.returns-clause-held
returns-clause-held c = λ at rings pools next. held_cursors at rings pools next c.args.instance.now c.args.call.now c.buffer_byte.new.self c.buffer_byte.ensures.name c.buffer_byte.ensures.cursors

pub returns-clause-sure : goal.returns-clause-sure
returns-clause-sure c rings next view full =
    absurd (let no = sym (full_is rings next view c.args.instance.now c.args.call.now c.args.x c.value_of-number.result c.len.result c.has_no_room.result c.has_no_room.ensures
    (c.value_of-number.ensures rings next view c.args.call.now) c.len.ensures) ∙ c.if-has_no_room.false in cc)
