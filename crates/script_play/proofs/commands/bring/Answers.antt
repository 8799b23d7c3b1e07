use Rattle.std.proofs.Common.{◌≡◌, [], arith}
use Rattle.std.proofs.lemmas.Grind.{common_steps}
use Rattle.std.proofs.lemmas.Result.{err_from_is_err_and}
use Rattle.std.specs.Vec.Iter.{into_iter_items}
use Rattle.module_run.specs.Happened.{refusal_of}
use Rattle.filter_chain.specs.Hosting.{done_answer}
use Rattle.script_play.proofs.BringLaws.{bring_begins, bring_goes, bring_stops, bring_ends}
use Rattle.script_play.proofs.commands.bring.Goals as goal

pub loop-piece-preserved : goal.loop-piece-preserved
loop-piece-preserved g c =
    bring_goes c.args.host.now c.loop-piece.host c.args.number c.args.pieces c.loop-piece.ready (into_iter_items c.loop-piece.piece-iterator) c.loop-piece.invariant c.made_ready.new.host
    c.in-Some.piece (into_iter_items c.next.new.self) c.in-Some.ensures.steps.0 c.in-Ok.piece c.push.new.self c.in_ok-push-in-Ok.ensures.ok c.in-Ok.ensures

pub returns-in-Err-clause-served : goal.returns-in-Err-clause-served
returns-in-Err-clause-served g c w hosts =
    bring_stops c.args.host.now c.loop-piece.host c.args.number c.args.pieces c.loop-piece.ready (into_iter_items c.loop-piece.piece-iterator) c.loop-piece.invariant c.made_ready.new.host
    c.in-Some.piece (into_iter_items c.next.new.self) c.in-Some.ensures.steps.0 c.in-Err.refusal c.in-Err.ensures w hosts

pub returns-clause-served : goal.returns-clause-served
returns-clause-served g c w hosts =
    let none : into_iter_items c.loop-piece.piece-iterator ≡ [] = grind (arith, common_steps) in
    bring_ends c.args.host.now c.loop-piece.host c.args.number c.args.pieces c.loop-piece.ready (into_iter_items c.loop-piece.piece-iterator) c.loop-piece.invariant c.bring.new.self
    (done_answer (refusal_of c.bring.result)) c.done.result none c.done.ensures.told c.bring.ensures.event w hosts

pub returns-in_err-push-in-Ok : goal.returns-in_err-push-in-Ok
returns-in_err-push-in-Ok g c = let p = err_from_is_err_and c.from_residual.result c.from_residual.ensures.1 in rw p.1 (record { served = tt; faultless = tt })

pub loop-piece-init : goal.loop-piece-init
loop-piece-init g c =
    rw (c.new-ready.ensures, c.into_iter-piece-iterator.ensures.into_iter_gives.0, c.into_vec-piece-items.ensures) (bring_begins c.args.host.now c.args.number c.args.pieces c.requires)
