-- By the filter that was added.
use Rattle.std.proofs.Common.{List, [], ◌∷◌, length, slice_get, length-append, sym, ap, ◌∙◌, arith}
use Rattle.module_run.specs.declared.conn.Filter.{Filter}
use Rattle.module_run.specs.Opening.{IsNewFilter}
use Rattle.module_run.proofs.Opens.{all_pushed}
use Rattle.module_run.proofs.conn_open.new_filters.Goals as goal

pub loop-preserved : goal.loop-preserved
loop-preserved c = record {
  many = (let more = ap (λ (xs : List Filter). length xs) c.in_ok-push.ensures.items ∙ length-append c.loop.filters.items (c.new.result ∷ []) in let so_far = c.loop.invariant.many in
      omega (arith, more, so_far));
  new = λ k f is. all_pushed IsNewFilter c.loop.filters.items c.new.result c.loop.invariant.new c.new.ensures k f (ap (λ (xs : List Filter). slice_get xs k) (sym c.in_ok-push.ensures.items) ∙ is);
}
