-- A text that is not too long is read as it is.
use Rattle.std.proofs.Common.{length-take, arith}
use Rattle.module_lang.proofs.AssemblingLaws.{read_short}
use Rattle.module_lang.proofs.assembler.read_draft.Goals as goal

pub slice_bounds-read_lines-end : goal.slice_bounds-read_lines-end
slice_bounds-read_lines-end c = omega (arith, length-take 1048576 c.args.text.now)

pub read_lines-requires-clause-short : goal.read_lines-requires-clause-short
read_lines-requires-clause-short c = omega (arith, length-take 1048576 c.args.text.now)

pub returns-else-text-gt-MAX_LEN-clause-draft : goal.returns-else-text-gt-MAX_LEN-clause-draft
returns-else-text-gt-MAX_LEN-clause-draft c = rw (read_short c.args.text.now (omega arith)) c.read_lines-else-text-gt-MAX_LEN.ensures.draft
