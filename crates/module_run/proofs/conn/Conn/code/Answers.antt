-- The place is one of a module.
use Rattle.std.proofs.Common.{◌≡◌, ◌<◌, ◌-◌, ℕ, min, length, sym, ap, ◌∙◌, arith}
use Rattle.run_model.specs.Chains.{module_at}
use Rattle.module_run.specs.Conns.{top_of}
use Rattle.module_run.proofs.TopFilter.{module_read}
use Rattle.module_run.proofs.conn.Conn.code.Goals as goal

pub returns : goal.returns
returns c =
    let chain = c.args.modules.now in
    let at : c.min.result ≡ min (top_of c.args.self.now) (length chain - 1) = c.min.ensures ∙ ap (λ (k : ℕ). min k (length chain - 1)) c.top.ensures in
    let some = c.requires in
    let e = c.min.ensures in
    let within : c.min.result < length chain = omega (arith, e, some) in
    sym (module_read chain c.min.result c.index-modules-min.result within c.index-modules-min.is) ∙ ap (module_at chain) at
