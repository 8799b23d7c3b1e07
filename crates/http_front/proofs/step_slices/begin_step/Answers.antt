use Rattle.http_front.proofs.BeginLaws.{slices_front}
use Rattle.http_front.proofs.Stepped.{lack_wider, ok_gives}
use Rattle.http_front.proofs.step_slices.begin_step.Goals as goal

pub returns-clause-ok : goal.returns-clause-ok
returns-clause-ok g c =
    ok_gives _ _ c.begin_within.result (λ x says. slices_front c.args.site.now (λ old. g.P.Pace.comes old c.args.number) (λ old. g.P.Pace.rests old c.args.number) g.K.Clock.tells _ _ _ _
    c.args.seen.now c.front.result.now c.args.eof c.ends_within.result _ x c.front.ensures.is c.ends_within.ensures says) c.begin_within.ensures.ok

pub returns-clause-err : goal.returns-clause-err
returns-clause-err g c =
    lack_wider c.args.site.now (λ old. g.H.Handler.lacks old c.args.number) _ _ c.args.seen.now c.front.result.now c.args.eof c.ends_within.result
    c.begin_within.result c.front.ensures.is c.ends_within.ensures c.begin_within.ensures.err
