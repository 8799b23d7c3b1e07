use Rattle.std.proofs.Common.{◌∙◌}
use Rattle.filter_files.specs.Settings.{setting_word}
use Rattle.filter_files.proofs.SetLaws.{set_to_same}
use Rattle.filter_files.proofs.settings.set_each.Goals as goal

pub returns-in_err-fault-clause-words : goal.returns-in_err-fault-clause-words
returns-in_err-fault-clause-words c =
    set_to_same setting_word c.loop-setting.settings c.loop-setting.setting-index c.set_one.new.setting _ c.set_one.ensures.word ∙ c.loop-setting.invariant

pub returns-in-Some-clause-words : goal.returns-in-Some-clause-words
returns-in-Some-clause-words c =
    set_to_same setting_word c.loop-setting.settings c.loop-setting.setting-index c.set_one.new.setting _ c.set_one.ensures.word ∙ c.loop-setting.invariant

pub loop-setting-preserved : goal.loop-setting-preserved
loop-setting-preserved c =
    set_to_same setting_word c.loop-setting.settings c.loop-setting.setting-index c.set_one.new.setting _ c.set_one.ensures.word ∙ c.loop-setting.invariant
