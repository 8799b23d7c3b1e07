use Rattle.std.proofs.Common.{◌≡◌, ◌++◌, drop}
use Rattle.module_run.specs.Conns.{labels_handed}
use Rattle.script_play.proofs.labels.labels_of.Given as goal

-- the labels so far, and those of the rest
abbrev pub invariant-loop-handed : goal.invariant-loop-handed
invariant-loop-handed l = l.labels ++ labels_handed (drop l.handed-index l.runs) ≡ labels_handed l.runs
