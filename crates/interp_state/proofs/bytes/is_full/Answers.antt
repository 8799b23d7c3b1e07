-- The number and the buffer's length tell.
use Rattle.interp_state.proofs.Asked.{full_is}
use Rattle.interp_state.proofs.bytes.is_full.Goals as goal

pub returns : goal.returns
returns c = λ rings next view. full_is rings next view c.args.instance.now c.args.call.now c.args.x c.value_of.result c.len.result c.has_no_room.result c.has_no_room.ensures
    (c.value_of.ensures rings next view c.args.call.now) c.len.ensures
