-- What the condition needs is so, where the instruction that jumps by it has no fault.
use Rattle.std.proofs.Common.{sym, ◌∙◌}
use Rattle.interp_state.proofs.Needed.{askable_on, fits_on, told_on}
use Rattle.interp_state.proofs.exits.exit.Goals as goal

pub holds-requires-clause-fit : goal.holds-requires-clause-fit
holds-requires-clause-fit g c = fits_on c.args.code.now c.args.instr c.in-JumpIf.condition (sym c.in-JumpIf.is ∙ c.branch_of.ensures) c.requires.fit

pub holds-requires-clause-told : goal.holds-requires-clause-told
holds-requires-clause-told g c = told_on c.args.code.now c.args.instr c.in-JumpIf.condition (sym c.in-JumpIf.is ∙ c.branch_of.ensures) c.requires.other

pub holds-requires-clause-askable : goal.holds-requires-clause-askable
holds-requires-clause-askable g c =
    let view = c.requires.faultless.0 in
    let is = sym c.in-JumpIf.is ∙ c.branch_of.ensures in
    (view, askable_on c.args.code.now c.args.instr c.in-JumpIf.condition is c.args.store.now view c.args.instance.now c.args.call.now c.requires.faultless.1)
