-- None of the payloads behind is the label.
use Rattle.std.proofs.Common.{◌≡◌, false, drop}
use Rattle.std.specs.List.{list_any}
use Rattle.run_model.specs.Payloads.{is_label}
use Rattle.interp_exec.proofs.labels.newest_label.Given as goal

abbrev pub invariant-loop-index : goal.invariant-loop-index
invariant-loop-index l = list_any (is_label l.text) (drop l.index l.payloads) ≡ false
