-- What is read so far is told.
use Rattle.std.proofs.Common.{◌∙◌, ap, arith}
use Rattle.life_state.specs.Seen.{seen}
use Rattle.life_state.specs.States.{set_brigade}
use Rattle.life_cert.specs.StateFromText.{own_past, told_brigade}
use Rattle.life_cert.proofs.Turns.{folded_begins, folded_ends, folded_more}
use Rattle.life_cert.proofs.state_text.read_brigades.Goals as goal

pub loop-b-init : goal.loop-b-init
loop-b-init c = folded_begins told_brigade (λ b. own_past) (seen c.args.state.now).brigade_count c.args.words.bytes.now (seen c.args.state.now)

pub loop-b-preserved : goal.loop-b-preserved
loop-b-preserved c = folded_more told_brigade (λ b. own_past) (seen c.args.state.now).brigade_count c.args.words.bytes.now (seen c.args.state.now) c.loop-b.unread.bytes.now
    (seen c.loop-b.state) c.loop-b.b _ _ c.loop-b.invariant (omega arith)
    (c.set_brigade.ensures ∙ ap (λ v. set_brigade c.loop-b.b v (seen c.loop-b.state)) c.read_brigade-brigade.ensures.value) c.read_brigade-brigade.ensures.rest

pub returns : goal.returns
returns c = (folded_ends told_brigade (λ b. own_past) (seen c.args.state.now).brigade_count c.args.words.bytes.now (seen c.args.state.now) c.loop-b.unread.bytes.now
    (seen c.loop-b.state) c.loop-b.b c.loop-b.invariant (omega arith)).0
