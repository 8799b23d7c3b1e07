use Rattle.std.proofs.Common.{◌∙◌, sym}
use Rattle.pool_tree.proofs.Refilled.{last_at, last_none}
use Rattle.pool_tree.proofs.payloads.take_last_equal.Goals as goal

pub returns-in-Some-clause-taken : goal.returns-in-Some-clause-taken
returns-in-Some-clause-taken g c =
    let found = rw c.as_slice.ensures.value at c.in-Some.ensures in
    sym (last_at (λ other. g.T.PartialEq.eq other c.args.item.now) c.args.items.now.items c.in-Some.index c.remove.result found c.remove.ensures.value).0

pub returns-in-Some-clause-rest : goal.returns-in-Some-clause-rest
returns-in-Some-clause-rest g c =
    let found = rw c.as_slice.ensures.value at c.in-Some.ensures in
    c.remove.ensures.items ∙ sym (last_at (λ other. g.T.PartialEq.eq other c.args.item.now) c.args.items.now.items c.in-Some.index c.remove.result found c.remove.ensures.value).1

pub returns-in-None-clause-taken : goal.returns-in-None-clause-taken
returns-in-None-clause-taken g c =
    let none = rw c.as_slice.ensures.value at c.in-None.ensures in
    sym (last_none (λ other. g.T.PartialEq.eq other c.args.item.now) c.args.items.now.items none).0

pub returns-in-None-clause-rest : goal.returns-in-None-clause-rest
returns-in-None-clause-rest g c =
    let none = rw c.as_slice.ensures.value at c.in-None.ensures in
    sym (last_none (λ other. g.T.PartialEq.eq other c.args.item.now) c.args.items.now.items none).1
