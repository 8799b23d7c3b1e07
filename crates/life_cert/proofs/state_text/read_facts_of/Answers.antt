-- What is read so far is told.
use Rattle.std.proofs.Common.{◌≡◌, ◌∙◌, sym, ap, arith}
use Rattle.life_state.specs.Seen.{seen}
use Rattle.life_cert.specs.StateFromText.{fact_past, told_fact}
use Rattle.life_cert.proofs.Turns.{fact_missing, fact_there, folded_begins, folded_ends, folded_more}
use Rattle.life_cert.proofs.state_text.read_facts_of.Goals as goal
use Rattle.life_cert.proofs.state_text.read_facts_of.Goals.{then-take_fact, else-take_fact}

pub loop-d-init : goal.loop-d-init
loop-d-init c = folded_begins (told_fact c.args.c) (fact_past c.args.c) 9 c.args.unread.now.bytes.now (seen c.args.state.now)

pub loop-d-preserved : goal.loop-d-preserved
loop-d-preserved c =
    let t = c.loop-d.unread.bytes.now in
    let s = seen c.loop-d.state in
    let now : seen c.if-take_fact.state ≡ told_fact c.args.c c.loop-d.d t s = elim c.if-take_fact.branch [
      | then-take_fact w ↦ ap seen w.state-is ∙ w.add_fact.ensures ∙ fact_there c.args.c c.loop-d.d t s (sym c.take_fact.ensures.value ∙ w.if-take_fact.true)
      | else-take_fact w ↦ ap seen w.state-is ∙ fact_missing c.args.c c.loop-d.d t s (sym c.take_fact.ensures.value ∙ w.if-take_fact.false)
    ] in
    folded_more (told_fact c.args.c) (fact_past c.args.c) 9 c.args.unread.now.bytes.now (seen c.args.state.now) t s c.loop-d.d _ _ c.loop-d.invariant (omega arith) now c.take_fact.ensures.rest

pub returns-clause-value : goal.returns-clause-value
returns-clause-value c = (folded_ends (told_fact c.args.c) (fact_past c.args.c) 9 c.args.unread.now.bytes.now (seen c.args.state.now) c.loop-d.unread.bytes.now
    (seen c.loop-d.state) c.loop-d.d c.loop-d.invariant (omega arith)).0

pub returns-clause-rest : goal.returns-clause-rest
returns-clause-rest c = (folded_ends (told_fact c.args.c) (fact_past c.args.c) 9 c.args.unread.now.bytes.now (seen c.args.state.now) c.loop-d.unread.bytes.now
    (seen c.loop-d.state) c.loop-d.d c.loop-d.invariant (omega arith)).1
