-- By the filter and the module that are found at the place of the call on top.
use Rattle.std.proofs.Common.{◌≡◌, List, Some, slice_get, subst, arith}
use Rattle.module_run.specs.declared.conn.Filter.{Filter}
use Rattle.module_run.proofs.Looking.{inside_read, next_read, output_read, read_at}
use Rattle.module_run.proofs.conn.Conn.next_instr.Goals as goal

pub at-instr-requires : goal.at-instr-requires
at-instr-requires c =
    inside_read c.args.modules.now c.args.self.now c.requires c.top-of.result c.in-Some.filter.now c.in-Some-get.code.now c.top-of.ensures
    (subst (λ (xs : List Filter). slice_get xs c.top-of.result ≡ Some c.in-Some.filter.now) c.deref.ensures.value
    (read_at c.deref.result.now c.top-of.result c.in-Some.filter.now c.in-Some.ensures.lookup.3.0 c.in-Some.ensures.lookup.1))
    (read_at c.args.modules.now c.top-of.result c.in-Some-get.code.now c.in-Some-get.ensures.lookup.3.0 c.in-Some-get.ensures.lookup.1)

pub returns-in-Some-get : goal.returns-in-Some-get
returns-in-Some-get c x has =
    next_read c.args.modules.now c.args.self.now c.top-of.result c.in-Some.filter.now x c.in-Some-get.code.now c.at-instr.result c.top-of.ensures
    (subst (λ (xs : List Filter). slice_get xs c.top-of.result ≡ Some c.in-Some.filter.now) c.deref.ensures.value
    (read_at c.deref.result.now c.top-of.result c.in-Some.filter.now c.in-Some.ensures.lookup.3.0 c.in-Some.ensures.lookup.1))
    (read_at c.args.modules.now c.top-of.result c.in-Some-get.code.now c.in-Some-get.ensures.lookup.3.0 c.in-Some-get.ensures.lookup.1) c.at-instr.ensures.value has

pub returns-in-None : goal.returns-in-None
returns-in-None c x has =
    output_read c.args.modules.now c.args.self.now c.top-of.result c.in-Some.filter.now x c.top-of.ensures
    (subst (λ (xs : List Filter). slice_get xs c.top-of.result ≡ Some c.in-Some.filter.now) c.deref.ensures.value
    (read_at c.deref.result.now c.top-of.result c.in-Some.filter.now c.in-Some.ensures.lookup.3.0 c.in-Some.ensures.lookup.1))
    (let past = c.in-None.ensures.lookup.3 in let low = c.requires.chained in let at = c.top-of.ensures in omega (arith, past, low, at)) has
