-- The settings before the index were set.
use Rattle.std.proofs.Common.{take}
use Rattle.std.specs.Prelude.{All}
use Rattle.filter_files.specs.Settings.{IsUsed}
use Rattle.filter_files.proofs.settings.unused_setting.Given as goal

abbrev pub invariant-loop-setting : goal.invariant-loop-setting
invariant-loop-setting l = All IsUsed (take l.setting-index l.settings)
