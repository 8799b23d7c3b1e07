use Rattle.byte_streams.proofs.PartLaws.{begins_first, begins_second, begins_third, empty_is}
use Rattle.byte_streams.proofs.parts.Parts.front.Goals as goal

pub returns-then-not-is_empty-clause-front : goal.returns-then-not-is_empty-clause-front
returns-then-not-is_empty-clause-front c = let p = c.args.self in begins_first p.first.now p.second.now p.third.now

pub returns-then-not-is_empty-2-clause-front : goal.returns-then-not-is_empty-2-clause-front
returns-then-not-is_empty-2-clause-front c = let p = c.args.self in begins_second p.first.now p.second.now p.third.now (empty_is _ _ c.is_empty.ensures c.if-not-is_empty.false)

pub returns-clause-front : goal.returns-clause-front
returns-clause-front c = let p = c.args.self in begins_third p.first.now p.second.now p.third.now (empty_is _ _ c.is_empty.ensures c.if-not-is_empty.false)
    (empty_is _ _ c.is_empty-2.ensures c.if-not-is_empty-2.false)
