use Rattle.http_front.proofs.BeginLaws.{steps_some}
use Rattle.http_front.proofs.Stepped.{ok_gives}
use Rattle.http_front.proofs.TurnLaws.{in_hand}
use Rattle.http_front.proofs.step_slices.step_on.Goals as goal

pub returns-in-Some-clause-ok : goal.returns-in-Some-clause-ok
returns-in-Some-clause-ok g c =
    ok_gives _ _ c.go_on_step.result (λ x says. steps_some c.args.site.now (λ old. g.P.Pace.comes old c.args.number) (λ old. g.P.Pace.rests old c.args.number) g.K.Clock.tells _ _ c.args.hand
    c.in-Some.under_way _ _ c.args.seen.now c.args.eof x _ c.in-Some.is (says c.args.site.now c.args.eof)) c.go_on_step.ensures.ok

pub returns-in-Some-clause-err : goal.returns-in-Some-clause-err
returns-in-Some-clause-err g c =
    in_hand c.args.site.now (λ old. g.H.Handler.lacks old c.args.number) (λ old. g.P.Pace.lacks_rest old c.args.number) _ _ c.args.seen.now c.args.eof c.args.hand
    c.in-Some.under_way c.go_on_step.result c.in-Some.is c.go_on_step.ensures.err
