use Rattle.std.proofs.Common.{◌≡◌, None, Some, refl}
use Rattle.std.proofs.lemmas.Result.{IfErr-weaker, on_ok_weaker}
use Rattle.http_front.specs.Requests.{lack_of}
use Rattle.http_front.proofs.FewLaws.{few_event}
use Rattle.http_front.proofs.Beside.{beside_lacks}
use Rattle.http_front.proofs.running.end_request.Goals as goal

pub returns-in-Err-clause-lacks : goal.returns-in-Err-clause-lacks
returns-in-Err-clause-lacks g c from so =
    IfErr-weaker c.unless_lack.result _ _ (λ e lack. beside_lacks g.F.Files.device c.args.number from c.args.host.now c.end_request.new.self so _ c.in-Err.refusal e
    tt lack c.in-Err.ensures.event) c.unless_lack.ensures.lack

pub returns-in-Ok-clause-few : goal.returns-in-Ok-clause-few
returns-in-Ok-clause-few g c from n so = few_event g.F.Files.device c.args.number from c.args.host.now n so c.end_request.new.self _ _ tt refl c.in-Ok.ensures.event

pub returns-in-Err-clause-few : goal.returns-in-Err-clause-few
returns-in-Err-clause-few g c from n so = few_event g.F.Files.device c.args.number from c.args.host.now n so c.end_request.new.self _ _ tt refl c.in-Err.ensures.event

pub returns-in-Ok-clause-leads : goal.returns-in-Ok-clause-leads
returns-in-Ok-clause-leads g c w hosts =
    let x = c.in-Ok.ensures.event w hosts in
    record { to = x.to; did = record { answer = None; acts = x.acts; lacks = λ r is. absurd (cc) }; hosts = x.hosts; chain = x.chain; budget = x.budget }

pub returns-in-Err-clause-leads : goal.returns-in-Err-clause-leads
returns-in-Err-clause-leads g c w hosts =
    let x = c.in-Err.ensures.event w hosts in
    record {
      to = x.to;
      did = on_ok_weaker {P = lack_of c.in-Err.refusal ≡ None} c.unless_lack.result (λ none. record { answer = Some c.in-Err.refusal; acts = x.acts; lacks = λ r is. cc }) c.unless_lack.ensures.ok;
      hosts = x.hosts;
      chain = x.chain;
      budget = x.budget;
    }
