use Rattle.std.proofs.Common.{take, refl, arith}
use Rattle.life_check.proofs.Accepting.{all_accepted, some_at, one_more, all_taken}
use Rattle.life_check.proofs.Meant.{accepts_of}
use Rattle.life_check.proofs.chain.check_parts.Goals as goal

pub returns-in-Err-clause-refused : goal.returns-in-Err-clause-refused
returns-in-Err-clause-refused c = (
  c.index-parts-index.result,
  some_at c.args.parts.now c.loop-index.index c.index-parts-index.result (omega arith) c.index-parts-index.is,
  c.in-Err.ensures.first,
  all_accepted (take c.loop-index.index c.args.parts.now) c.loop-index.invariant,
)

pub loop-index-preserved : goal.loop-index-preserved
loop-index-preserved c =
    one_more c.args.parts.now c.loop-index.index c.index-parts-index.result (omega arith) c.index-parts-index.is
    (record { proper = c.in-Ok.ensures.proper refl; bounded = c.in-Ok.ensures.bounded refl; accepts = accepts_of _ _ c.in-Ok.ensures.first }) c.loop-index.invariant

pub returns-clause-checked : goal.returns-clause-checked
returns-clause-checked c = all_taken c.args.parts.now c.loop-index.index (omega arith) c.loop-index.invariant
