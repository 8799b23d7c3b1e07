use Rattle.std.proofs.Common.{◌≡◌, true, false, Some, Ok, refl, sym, ◌∙◌}
use Rattle.module_run.proofs.RequestBegins.{never_some}
use Rattle.http_front.specs.declared.handler.Slice.TheVariants as slice
use Rattle.http_front.specs.declared.task.RequestTask.TheVariants as task
use Rattle.std.proofs.lemmas.Result.{err_from_is_err_and}
use Rattle.http_front.specs.Among.{brigades_left}
use Rattle.http_front.specs.declared.fault.FrontKind.TheVariants as kind
use Rattle.http_front.proofs.FewLaws.{few_event}
use Rattle.http_front.proofs.Beside.{beside_event, beside_lacks, beside_none, err_by}
use Rattle.http_front.proofs.SliceLaws.{brought, carried_last, carried_on, carried_stopped, not_brought}
use Rattle.http_front.proofs.slicing.carry_on.Goals as goal

pub returns-in_default-clause-leads : goal.returns-in_default-clause-leads
returns-in_default-clause-leads g c =
    carried_last g.F.Files.device c.args.number c.args.host.now c.finish.new.host c.finish.result c.args.how c.args.rest (never_some c.args.rest c.in_default.not-Some) c.finish.ensures.leads

pub returns-then-not-succeeded-clause-leads : goal.returns-then-not-succeeded-clause-leads
returns-then-not-succeeded-clause-leads g c =
    carried_stopped g.F.Files.device c.args.number c.args.host.now c.finish-then-not-succeeded.new.host c.finish-then-not-succeeded.result c.args.how (brigades_left c.args.rest)
    (λ h. absurd (let clash : true ≡ false = sym (c.succeeded.ensures.1 h) ∙ c.if-not-succeeded.true in cc)) c.finish-then-not-succeeded.ensures.leads

pub returns-in-Ok-clause-leads : goal.returns-in-Ok-clause-leads
returns-in-Ok-clause-leads g c =
    carried_on g.F.Files.device c.args.number c.args.host.now c.bring.new.self (Ok (slice.Works (task.Brings c.in_ok-pieces.left))) c.args.how c.args.rest c.in-Some.rest (c.succeeded.ensures.0 c.if-not-succeeded.false) c.in-Some.is
    (brought g.F.Files.device c.args.number c.args.host.now c.bring.new.self c.in_ok-pieces.pieces (brigades_left (Some c.in-Some.rest)) c.in_ok-pieces.left c.in_ok-pieces.ensures c.in-Ok.ensures.event)

pub returns-in_ok-unless_lack-in-Err-clause-leads : goal.returns-in_ok-unless_lack-in-Err-clause-leads
returns-in_ok-unless_lack-in-Err-clause-leads g c =
    carried_on g.F.Files.device c.args.number c.args.host.now c.finish-in-Err.new.host c.finish-in-Err.result c.args.how c.args.rest c.in-Some.rest (c.succeeded.ensures.0 c.if-not-succeeded.false) c.in-Some.is
    (not_brought g.F.Files.device c.args.number c.args.host.now c.bring.new.self c.finish-in-Err.new.host c.finish-in-Err.result c.in_ok-pieces.pieces
    (brigades_left (Some c.in-Some.rest)) (brigades_left c.in_ok-pieces.left) c.in-Err.refusal c.in_ok-pieces.ensures c.in_ok-unless_lack-in-Err.ensures.ok c.in-Err.ensures.event c.finish-in-Err.ensures.leads)

pub returns-in_err-unless_lack-in-Err-clause-lacks : goal.returns-in_err-unless_lack-in-Err-clause-lacks
returns-in_err-unless_lack-in-Err-clause-lacks g c from so =
    let p = err_from_is_err_and c.from_residual-in_err-unless_lack-in-Err.result c.from_residual-in_err-unless_lack-in-Err.ensures.1 in
    let e = c.in_err-unless_lack-in-Err.field-0.0 in
    err_by _ c.from_residual-in_err-unless_lack-in-Err.result p.0 e p.1 p.2
    (beside_lacks g.F.Files.device c.args.number from c.args.host.now c.bring.new.self so _ c.in-Err.refusal e tt c.in_err-unless_lack-in-Err.ensures.lack c.in-Err.ensures.event)

pub returns-in_ok-unless_lack-in-Err-clause-lacks : goal.returns-in_ok-unless_lack-in-Err-clause-lacks
returns-in_ok-unless_lack-in-Err-clause-lacks g c from so =
    c.finish-in-Err.ensures.lacks from (beside_event g.F.Files.device c.args.number from c.args.host.now c.bring.new.self so _ _ tt c.in-Err.ensures.event)

pub returns-in_err-pieces-clause-lacks : goal.returns-in_err-pieces-clause-lacks
returns-in_err-pieces-clause-lacks g c from so =
    let p = err_from_is_err_and c.from_residual.result c.from_residual.ensures.1 in
    err_by _ c.from_residual.result p.0 kind.NoMemory p.1 p.2 (beside_none g.F.Files.device c.args.number from c.args.host.now so)

pub returns-in-Ok-clause-few : goal.returns-in-Ok-clause-few
returns-in-Ok-clause-few g c from n so = few_event g.F.Files.device c.args.number from c.args.host.now n so c.bring.new.self _ _ tt refl c.in-Ok.ensures.event

pub returns-in_err-unless_lack-in-Err-clause-few : goal.returns-in_err-unless_lack-in-Err-clause-few
returns-in_err-unless_lack-in-Err-clause-few g c from n so = few_event g.F.Files.device c.args.number from c.args.host.now n so c.bring.new.self _ _ tt refl c.in-Err.ensures.event

pub returns-in_ok-unless_lack-in-Err-clause-few : goal.returns-in_ok-unless_lack-in-Err-clause-few
returns-in_ok-unless_lack-in-Err-clause-few g c from n so =
    c.finish-in-Err.ensures.few from n (few_event g.F.Files.device c.args.number from c.args.host.now n so c.bring.new.self _ _ tt refl c.in-Err.ensures.event)
