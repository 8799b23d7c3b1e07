-- Filter by filter.
use Rattle.std.proofs.Common.{map, sym, ◌∙◌, arith}
use Rattle.std.proofs.lemmas.Option.{slice_get-map}
use Rattle.module_run.specs.Destroyed.{quieted}
use Rattle.module_run.proofs.RequestEnds.{quiet_length, same_items}
use Rattle.module_run.proofs.conn_end.start_over.Goals as goal

pub returns : goal.returns
returns c =
    let old = c.args.filters.now.items in
    let many = quiet_length old in
    same_items c.loop-k.filters.items (map quieted old) (c.loop-k.invariant.many ∙ sym many)
    (λ j lt. c.loop-k.invariant.done j (let past = c.loop-k-test.false in let all = c.len-k-end.ensures in omega (arith, lt, many, past, all)) ∙ sym (slice_get-map quieted old j))
