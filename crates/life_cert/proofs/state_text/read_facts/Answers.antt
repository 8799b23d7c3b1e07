-- What is read so far is told.
use Rattle.std.proofs.Common.{arith}
use Rattle.life_state.specs.Seen.{seen}
use Rattle.life_cert.specs.StateFromText.{row_past, told_row}
use Rattle.life_cert.proofs.Turns.{folded_begins, folded_ends, folded_more}
use Rattle.life_cert.proofs.state_text.read_facts.Goals as goal

pub loop-c-init : goal.loop-c-init
loop-c-init c = folded_begins told_row row_past 9 c.args.words.bytes.now (seen c.args.state.now)

pub loop-c-preserved : goal.loop-c-preserved
loop-c-preserved c = folded_more told_row row_past 9 c.args.words.bytes.now (seen c.args.state.now) c.loop-c.unread.bytes.now (seen c.loop-c.state) c.loop-c.c _ _ c.loop-c.invariant (omega arith)
    (c.read_facts_of.ensures.value) c.read_facts_of.ensures.rest

pub returns : goal.returns
returns c = (folded_ends told_row row_past 9 c.args.words.bytes.now (seen c.args.state.now) c.loop-c.unread.bytes.now (seen c.loop-c.state) c.loop-c.c c.loop-c.invariant (omega arith)).0
