use Rattle.std.proofs.Common.{refl}
use Rattle.std.proofs.lemmas.Result.{err_from_is_err_and}
use Rattle.http_front.proofs.FewLaws.{few_event}
use Rattle.http_front.proofs.Beside.{beside_event, beside_lacks, err_by}
use Rattle.http_front.proofs.SliceLaws.{not_opened, opened_so, opened_unless}
use Rattle.http_front.proofs.slicing.open_slice.Goals as goal

pub returns-in-Ok-clause-leads : goal.returns-in-Ok-clause-leads
returns-in-Ok-clause-leads g c =
    opened_unless g.F.Files.device c.args.number c.args.host.now c.carry_on.new.host c.carry_on.result c.args.init c.args.method c.args.name.now c.in_default.not-Broke
    (opened_so g.F.Files.device c.args.number c.args.host.now c.open_file.new.self c.carry_on.new.host c.carry_on.result c.args.init c.args.method c.args.name.now
    c.in-Ok.file c.wanted.result c.wanted.ensures.all c.in-Ok.ensures.event c.carry_on.ensures.leads)

pub returns-in_ok-unless_lack-in-Err-clause-leads : goal.returns-in_ok-unless_lack-in-Err-clause-leads
returns-in_ok-unless_lack-in-Err-clause-leads g c =
    opened_unless g.F.Files.device c.args.number c.args.host.now c.finish_without_body.new.host c.finish_without_body.result c.args.init c.args.method c.args.name.now c.in_default.not-Broke
    (not_opened g.F.Files.device c.args.number c.args.host.now c.open_file.new.self c.finish_without_body.new.host c.finish_without_body.result c.args.init c.args.method
    c.args.name.now c.in-Err.refusal c.unopened.result c.unopened.ensures c.in_ok-unless_lack-in-Err.ensures.ok c.in-Err.ensures.event c.finish_without_body.ensures.leads)

pub returns-in_err-unless_lack-in-Err-clause-lacks : goal.returns-in_err-unless_lack-in-Err-clause-lacks
returns-in_err-unless_lack-in-Err-clause-lacks g c from so =
    let p = err_from_is_err_and c.from_residual.result c.from_residual.ensures.1 in
    let e = c.in_err-unless_lack-in-Err.field-0.0 in
    err_by _ c.from_residual.result p.0 e p.1 p.2 (beside_lacks g.F.Files.device c.args.number from c.args.host.now c.open_file.new.self so _ c.in-Err.refusal e tt
    c.in_err-unless_lack-in-Err.ensures.lack c.in-Err.ensures.event)

pub returns-in-Ok-clause-lacks : goal.returns-in-Ok-clause-lacks
returns-in-Ok-clause-lacks g c from so = c.carry_on.ensures.lacks from (beside_event g.F.Files.device c.args.number from c.args.host.now c.open_file.new.self so _ _ tt c.in-Ok.ensures.event)

pub returns-in_ok-unless_lack-in-Err-clause-lacks : goal.returns-in_ok-unless_lack-in-Err-clause-lacks
returns-in_ok-unless_lack-in-Err-clause-lacks g c from so =
    c.finish_without_body.ensures.lacks from (beside_event g.F.Files.device c.args.number from c.args.host.now c.open_file.new.self so _ _ tt c.in-Err.ensures.event)

pub returns-in-Ok-clause-few : goal.returns-in-Ok-clause-few
returns-in-Ok-clause-few g c from n so = c.carry_on.ensures.few from n (few_event g.F.Files.device c.args.number from c.args.host.now n so c.open_file.new.self _ _ tt refl c.in-Ok.ensures.event)

pub returns-in_err-unless_lack-in-Err-clause-few : goal.returns-in_err-unless_lack-in-Err-clause-few
returns-in_err-unless_lack-in-Err-clause-few g c from n so = few_event g.F.Files.device c.args.number from c.args.host.now n so c.open_file.new.self _ _ tt refl c.in-Err.ensures.event

pub returns-in_ok-unless_lack-in-Err-clause-few : goal.returns-in_ok-unless_lack-in-Err-clause-few
returns-in_ok-unless_lack-in-Err-clause-few g c from n so =
    c.finish_without_body.ensures.few from n (few_event g.F.Files.device c.args.number from c.args.host.now n so c.open_file.new.self _ _ tt refl c.in-Err.ensures.event)
