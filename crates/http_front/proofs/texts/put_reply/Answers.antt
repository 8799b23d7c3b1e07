use Rattle.http_message.specs.Clocks.{Moment, Response}
use Rattle.http_front.proofs.PassLaws.{passes_one}
use Rattle.http_front.proofs.texts.put_reply.Goals as goal

pub returns-in_err-put_text-clause-clock : goal.returns-in_err-put_text-clause-clock
returns-in_err-put_text-clause-clock g c from so = passes_one g.K.Clock.tells from c.args.clock.now c.now-moment.new.self (Moment c.now-moment.result) so c.now-moment.ensures

pub returns-clause-clock : goal.returns-clause-clock
returns-clause-clock g c from so =
    passes_one g.K.Clock.tells from c.now-moment.new.self c.answered.new.self (Response c.exchange_of-exchange.result)
    (passes_one g.K.Clock.tells from c.args.clock.now c.now-moment.new.self (Moment c.now-moment.result) so c.now-moment.ensures) c.answered.ensures
