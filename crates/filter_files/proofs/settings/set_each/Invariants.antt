-- Each setting still says its word.
use Rattle.filter_files.specs.Settings.{KeepsWords}
use Rattle.filter_files.proofs.settings.set_each.Given as goal

abbrev pub invariant-loop-setting : goal.invariant-loop-setting
invariant-loop-setting l = KeepsWords l.fn.settings l.settings
