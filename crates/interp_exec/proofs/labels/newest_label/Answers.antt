-- The payload that is the label stands before all that are not.
use Rattle.std.proofs.Common.{sym}
use Rattle.run_model.specs.Payloads.{is_label}
use Rattle.pool_tree.proofs.Refilled.{last_found}
use Rattle.interp_exec.proofs.labels.newest_label.Goals as goal

pub returns-then-is_label : goal.returns-then-is_label
returns-then-is_label c =
    last_found (is_label c.args.text.now) c.args.payloads.now c.loop-index.index c.index-payloads-index.result
    c.loop-index-test.true c.loop-index.auto.index c.index-payloads-index.is (sym c.if-is_label.ensures) c.loop-index.invariant
