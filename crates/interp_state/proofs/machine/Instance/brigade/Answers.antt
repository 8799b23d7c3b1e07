-- The slot is made.
use Rattle.std.proofs.Common.{sym, ap, ◌∙◌}
use Rattle.interp_state.specs.Slots.{slot_at, name_in}
use Rattle.interp_state.proofs.Slots.{named_live, named_there}
use Rattle.interp_state.proofs.machine.Instance.brigade.Goals as goal

pub returns-clause-live : goal.returns-clause-live
returns-clause-live c rings live = named_live rings (slot_at c.args.self.now c.args.b) c.in-Made.name live (ap name_in (sym c.slot.ensures ∙ c.in-Made.is))

pub returns-clause-there : goal.returns-clause-there
returns-clause-there c rings live = named_there rings (slot_at c.args.self.now c.args.b) c.in-Made.name live (ap name_in (sym c.slot.ensures ∙ c.in-Made.is))
