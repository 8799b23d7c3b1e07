use Rattle.std.proofs.Common.{arith}
use Rattle.life_cert.proofs.Writing.{each_begins, each_ends, each_fault, each_written}
use Rattle.life_state.specs.Seen.{seen}
use Rattle.life_cert.specs.StateText.{fact_text}
use Rattle.life_cert.proofs.print_state.put_facts_of.Goals as goal

pub loop-d-init : goal.loop-d-init
loop-d-init g c = each_begins _ 9 (fact_text (seen c.args.state.now) c.args.c)

pub returns-in_err-put_fact : goal.returns-in_err-put_fact
returns-in_err-put_fact g c =
    each_fault _ _ _ 9 c.loop-d.d (fact_text (seen c.args.state.now) c.args.c) _ c.loop-d.invariant (omega arith) c.from_residual.ensures.0 c.in_err-put_fact.ensures

pub loop-d-preserved : goal.loop-d-preserved
loop-d-preserved g c =
    each_written _ _ _ 9 c.loop-d.d (fact_text (seen c.args.state.now) c.args.c) c.loop-d.invariant (omega arith) c.in_ok-put_fact.ensures

pub returns : goal.returns
returns g c = each_ends _ _ 9 c.loop-d.d (fact_text (seen c.args.state.now) c.args.c) c.loop-d.invariant (omega arith)
