use Rattle.std.proofs.Common.{arith}
use Rattle.life_cert.proofs.Writing.{each_begins, each_ends, each_fault, each_written}
use Rattle.life_state.specs.Seen.{seen}
use Rattle.life_cert.specs.StateText.{facts_text}
use Rattle.life_cert.proofs.print_state.put_facts.Goals as goal

pub loop-c-init : goal.loop-c-init
loop-c-init g c = each_begins _ 9 (facts_text (seen c.args.state.now))

pub returns-in_err-put_facts_of : goal.returns-in_err-put_facts_of
returns-in_err-put_facts_of g c =
    each_fault _ _ _ 9 c.loop-c.c (facts_text (seen c.args.state.now)) _ c.loop-c.invariant (omega arith) c.from_residual.ensures.0 c.in_err-put_facts_of.ensures

pub loop-c-preserved : goal.loop-c-preserved
loop-c-preserved g c =
    each_written _ _ _ 9 c.loop-c.c (facts_text (seen c.args.state.now)) c.loop-c.invariant (omega arith) c.in_ok-put_facts_of.ensures

pub returns : goal.returns
returns g c = each_ends _ _ 9 c.loop-c.c (facts_text (seen c.args.state.now)) c.loop-c.invariant (omega arith)
