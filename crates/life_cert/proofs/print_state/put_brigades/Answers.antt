use Rattle.std.proofs.Common.{arith, subst}
use Rattle.life_state.specs.States.{BrigadeKnown}
use Rattle.byte_text.specs.Writes.{AppendsText, writer_state}
use Rattle.life_cert.proofs.Writing.{Front, each_begins, each_ends, each_fault, each_written}
use Rattle.life_state.specs.Seen.{seen}
use Rattle.life_cert.specs.StateText.{brigade_text}
use Rattle.life_cert.proofs.print_state.put_brigades.Goals as goal

pub loop-b-init : goal.loop-b-init
loop-b-init g c = each_begins _ (seen c.args.state.now).brigade_count (λ b. brigade_text b ((seen c.args.state.now).brigades b))

pub returns-in_err-put_brigade : goal.returns-in_err-put_brigade
returns-in_err-put_brigade g c =
    each_fault _ _ _ (seen c.args.state.now).brigade_count c.loop-b.b (λ b. brigade_text b ((seen c.args.state.now).brigades b)) _ c.loop-b.invariant (omega arith) c.from_residual.ensures.0
    (subst (λ (v : BrigadeKnown). Front (writer_state g.W.Write.contents c.loop-b.out) (writer_state g.W.Write.contents c.put_brigade.new.out) (brigade_text c.loop-b.b v)) c.brigade.ensures c.in_err-put_brigade.ensures)

pub loop-b-preserved : goal.loop-b-preserved
loop-b-preserved g c =
    each_written _ _ _ (seen c.args.state.now).brigade_count c.loop-b.b (λ b. brigade_text b ((seen c.args.state.now).brigades b)) c.loop-b.invariant (omega arith)
    (subst (λ (v : BrigadeKnown). AppendsText (writer_state g.W.Write.contents c.loop-b.out) (writer_state g.W.Write.contents c.put_brigade.new.out) (brigade_text c.loop-b.b v)) c.brigade.ensures c.in_ok-put_brigade.ensures)

pub returns : goal.returns
returns g c = each_ends _ _ (seen c.args.state.now).brigade_count c.loop-b.b (λ b. brigade_text b ((seen c.args.state.now).brigades b)) c.loop-b.invariant (omega arith)
