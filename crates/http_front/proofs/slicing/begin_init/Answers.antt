use Rattle.std.proofs.Common.{◌+◌, Ok, Some, refl, arith}
use Rattle.std.proofs.lemmas.Result.{err_from_is_err_and}
use Rattle.run_model.specs.Worlds.{Done}
use Rattle.run_model.specs.declared.event.Event.TheVariants.{Begin}
use Rattle.filter_chain.specs.HostViews.{Answers}
use Rattle.filter_chain.proofs.Driving.{alive_then, by_event}
use Rattle.http_front.specs.Nearing.{slice_steps}
use Rattle.http_front.specs.declared.fault.FrontKind.TheVariants as kind
use Rattle.http_front.specs.declared.handler.Slice.TheVariants as slice
use Rattle.http_front.proofs.FewLaws.{few_event, few_more}
use Rattle.http_front.proofs.Beside.{beside_event, beside_lacks, beside_made, beside_none, err_by}
use Rattle.http_front.proofs.SliceLaws.{alive_stepped, begun, init_lacked, init_on, inited, not_begun}
use Rattle.http_front.proofs.slicing.begin_init.Goals as goal

pub open_slice-requires : goal.open_slice-requires
open_slice-requires g c =
    alive_stepped g.F.Files.device c.args.number c.begin.new.self c.step_slice.new.host (Some c.in-Some.init)
    (alive_then g.F.Files.device c.args.host.now c.begin.new.self (λ b h s t. Answers b h c.args.number Begin s Done t) c.requires
    (by_event g.F.Files.device c.args.host.now c.begin.new.self c.args.number Begin Done c.in_default.ensures.event))
    c.in-Some.ensures.leads

pub returns-in-Some-clause-leads : goal.returns-in-Some-clause-leads
returns-in-Some-clause-leads g c =
    begun g.F.Files.device c.args.number c.args.host.now c.begin.new.self c.open_slice.new.host c.open_slice.result c.args.method c.args.name.now c.in_default.ensures.event
    (inited g.F.Files.device c.args.number c.begin.new.self c.step_slice.new.host c.open_slice.new.host c.open_slice.result c.in-Some.init c.args.method c.args.name.now
    c.in-Some.ensures.leads c.open_slice.ensures.leads)

pub returns-in_ok-opens_later-in-None-clause-leads : goal.returns-in_ok-opens_later-in-None-clause-leads
returns-in_ok-opens_later-in-None-clause-leads g c =
    let k = c.in_ok-opens_later-in-None.field-0 in
    begun g.F.Files.device c.args.number c.args.host.now c.begin.new.self c.step_slice.new.host (Ok (slice.Works k)) c.args.method c.args.name.now c.in_default.ensures.event
    (init_on g.F.Files.device c.args.number c.begin.new.self c.step_slice.new.host c.args.method c.args.name.now k c.in_ok-opens_later-in-None.ensures c.in-None.ensures.leads)

pub returns-in_err-opens_later-in-None-clause-leads : goal.returns-in_err-opens_later-in-None-clause-leads
returns-in_err-opens_later-in-None-clause-leads g c =
    let r = c.from_residual-in_err-opens_later-in-None.result in
    let p = err_from_is_err_and r c.from_residual-in_err-opens_later-in-None.ensures.1 in
    begun g.F.Files.device c.args.number c.args.host.now c.begin.new.self c.step_slice.new.host r c.args.method c.args.name.now c.in_default.ensures.event
    (init_lacked g.F.Files.device c.args.number c.begin.new.self c.step_slice.new.host c.args.method c.args.name.now r p.0 p.1 c.in-None.ensures.leads)

pub returns-in-Err-clause-leads : goal.returns-in-Err-clause-leads
returns-in-Err-clause-leads g c =
    not_begun g.F.Files.device c.args.number c.args.host.now c.begin.new.self c.args.method c.args.name.now c.in-Err.refusal c.without_body.result
    c.in_ok-unless_lack.ensures.ok c.without_body.ensures c.in-Err.ensures.event

pub returns-in_err-unless_lack-clause-lacks : goal.returns-in_err-unless_lack-clause-lacks
returns-in_err-unless_lack-clause-lacks g c from so =
    let p = err_from_is_err_and c.from_residual.result c.from_residual.ensures.1 in
    let e = c.in_err-unless_lack.field-0.0 in
    err_by _ c.from_residual.result p.0 e p.1 p.2 (beside_lacks g.F.Files.device c.args.number from c.args.host.now c.begin.new.self so _ c.in-Err.refusal e tt
    c.in_err-unless_lack.ensures.lack c.in-Err.ensures.event)

pub returns-in-Some-clause-lacks : goal.returns-in-Some-clause-lacks
returns-in-Some-clause-lacks g c from so =
    c.open_slice.ensures.lacks from (beside_made g.F.Files.device c.args.number from c.begin.new.self c.step_slice.new.host
    (beside_event g.F.Files.device c.args.number from c.args.host.now c.begin.new.self so _ _ tt c.in_default.ensures.event) _ c.step_slice.ensures.few)

pub returns-in_err-opens_later-in-None-clause-lacks : goal.returns-in_err-opens_later-in-None-clause-lacks
returns-in_err-opens_later-in-None-clause-lacks g c from so =
    let r = c.from_residual-in_err-opens_later-in-None.result in
    let p = err_from_is_err_and r c.from_residual-in_err-opens_later-in-None.ensures.1 in
    err_by _ r p.0 kind.NoMemory p.1 p.2 (beside_none g.F.Files.device c.args.number from c.step_slice.new.host
    (beside_made g.F.Files.device c.args.number from c.begin.new.self c.step_slice.new.host
    (beside_event g.F.Files.device c.args.number from c.args.host.now c.begin.new.self so _ _ tt c.in_default.ensures.event) _ c.step_slice.ensures.few))

pub returns-in-Some-clause-few : goal.returns-in-Some-clause-few
returns-in-Some-clause-few g c from n so =
    c.open_slice.ensures.few from (n + slice_steps) (c.step_slice.ensures.few from n
    (few_event g.F.Files.device c.args.number from c.args.host.now n so c.begin.new.self _ _ tt refl c.in_default.ensures.event))

pub returns-in_ok-opens_later-in-None-clause-few : goal.returns-in_ok-opens_later-in-None-clause-few
returns-in_ok-opens_later-in-None-clause-few g c from n so =
    c.step_slice.ensures.few from n (few_event g.F.Files.device c.args.number from c.args.host.now n so c.begin.new.self _ _ tt refl c.in_default.ensures.event)

pub returns-in_err-opens_later-in-None-clause-few : goal.returns-in_err-opens_later-in-None-clause-few
returns-in_err-opens_later-in-None-clause-few g c from n so =
    c.step_slice.ensures.few from n (few_event g.F.Files.device c.args.number from c.args.host.now n so c.begin.new.self _ _ tt refl c.in_default.ensures.event)

pub returns-in-Err-clause-few : goal.returns-in-Err-clause-few
returns-in-Err-clause-few g c from n so =
    few_more g.F.Files.device c.args.number from c.begin.new.self n
    (few_event g.F.Files.device c.args.number from c.args.host.now n so c.begin.new.self _ _ tt refl c.in-Err.ensures.event) (n + slice_steps) (omega arith)

pub returns-in_err-unless_lack-clause-few : goal.returns-in_err-unless_lack-clause-few
returns-in_err-unless_lack-clause-few g c from n so =
    few_more g.F.Files.device c.args.number from c.begin.new.self n
    (few_event g.F.Files.device c.args.number from c.args.host.now n so c.begin.new.self _ _ tt refl c.in-Err.ensures.event) (n + slice_steps) (omega arith)
