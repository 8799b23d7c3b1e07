use Rattle.std.proofs.Common.{◌≡◌, ◌++◌, drop}
use Rattle.run_model.specs.Payloads.{labels_in}
use Rattle.script_play.proofs.labels.push_labels.Given as goal

-- the labels so far, and those of the rest
abbrev pub invariant-loop-pair : goal.invariant-loop-pair
invariant-loop-pair l = l.labels ++ labels_in (drop l.pair-index l.handed) ≡ l.initial.labels ++ labels_in l.handed
