-- A state is given at a head, and handed on elsewhere.
use Rattle.std.proofs.Common.{◌≡◌, ◌+◌, true, false, not, ◌||◌, slice_index_or, ◌∙◌, arith, rules}
use Rattle.life_check.proofs.Meant.{next_given, next_handed}
use Rattle.life_check.proofs.lines.next_meant.Goals as goal

pub overflow_add-pc : goal.overflow_add-pc
overflow_add-pc c = omega (arith, c.requires.proper.size)

pub overflow_add-given : goal.overflow_add-given
overflow_add-given c = omega (arith, c.requires.proper.size)

pub bounds-leaders-pc : goal.bounds-leaders-pc
bounds-leaders-pc c = omega (arith, c.requires.proper.size)

pub returns-then-given : goal.returns-then-given
returns-then-given c =
    let b = slice_index_or c.args.leaders.now (c.args.pc + 1) false in
    let given : (not c.args.cert.now.slim || b) ≡ true = search rules in
    c.state-next.ensures ∙ next_given c.args.code.now c.args.cert.now c.args.pc b (c.requires.leaders (c.args.pc + 1) (omega (arith, c.requires.proper.size))) given

pub returns-else-given : goal.returns-else-given
returns-else-given c =
    let b = slice_index_or c.args.leaders.now (c.args.pc + 1) false in
    let given : (not c.args.cert.now.slim || b) ≡ false = search rules in
    c.requires.handed ∙ next_handed c.args.code.now c.args.cert.now c.args.pc b (c.requires.leaders (c.args.pc + 1) (omega (arith, c.requires.proper.size))) given
