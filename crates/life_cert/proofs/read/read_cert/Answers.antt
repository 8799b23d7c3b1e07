-- A text that is not too long is read as it is.
use Rattle.life_cert.proofs.OneCert.{read_short}
use Rattle.life_cert.proofs.OneFault.{first_long, first_short}
use Rattle.life_cert.proofs.OneState.{one_state}
use Rattle.std.proofs.Common.{length-take, arith}
use Rattle.life_cert.proofs.ReadLaws.{all_told}
use Rattle.life_cert.proofs.TextLengths.{printed_is_short}
use Rattle.life_cert.proofs.read.read_cert.Goals as goal

pub slice_bounds-read_lines-end : goal.slice_bounds-read_lines-end
slice_bounds-read_lines-end c = omega (arith, length-take 4194304 c.args.text.now)

pub read_lines-requires : goal.read_lines-requires
read_lines-requires c = omega (arith, length-take 4194304 c.args.text.now)

pub returns-else-text-gt-MAX_LEN-clause-told : goal.returns-else-text-gt-MAX_LEN-clause-told
returns-else-text-gt-MAX_LEN-clause-told c = all_told c.args.text.now c.read_lines-else-text-gt-MAX_LEN.result c.if-text-gt-MAX_LEN.false c.read_lines-else-text-gt-MAX_LEN.ensures.told

pub returns-then-text-gt-MAX_LEN-clause-again : goal.returns-then-text-gt-MAX_LEN-clause-again
returns-then-text-gt-MAX_LEN-clause-again c = λ v slim d p. let small = printed_is_short c.args.text.now v slim d p in absurd (omega (arith, small))

pub returns-else-text-gt-MAX_LEN-clause-again : goal.returns-else-text-gt-MAX_LEN-clause-again
returns-else-text-gt-MAX_LEN-clause-again c =
    let r = c.read_lines-else-text-gt-MAX_LEN in
    read_short one_state c.args.text.now r.result r.ensures.right (all_told c.args.text.now r.result c.if-text-gt-MAX_LEN.false r.ensures.told)

pub returns-then-text-gt-MAX_LEN-clause-first : goal.returns-then-text-gt-MAX_LEN-clause-first
returns-then-text-gt-MAX_LEN-clause-first c = first_long one_state c.args.text.now c.read_lines.result (omega arith) c.read_lines.ensures.right c.read_lines.ensures.told

pub returns-else-text-gt-MAX_LEN-clause-first : goal.returns-else-text-gt-MAX_LEN-clause-first
returns-else-text-gt-MAX_LEN-clause-first c =
    let r = c.read_lines-else-text-gt-MAX_LEN in
    first_short one_state c.args.text.now r.result r.ensures.right (all_told c.args.text.now r.result c.if-text-gt-MAX_LEN.false r.ensures.told)
