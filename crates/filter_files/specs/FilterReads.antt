-- What the text of a filter is: a module that is accepted, or the line that tells why there is none.
use Rattle.std.specs.Prelude.{List, ℕ, Ok, All}
use Rattle.module_lang.specs.FirstFault.{IsReadAs}
use Rattle.life_check.specs.Slim.{Accepts}
use Rattle.filter_files.specs.FilterAnswers.{IsFaultOf}
use Rattle.filter_files.specs.Settings.{IsUsed}
use Rattle.filter_files.specs.declared.compiling.FilterRead.{FilterRead}
use Rattle.filter_files.specs.declared.compiling.FilterRead.TheVariants as filter
use Rattle.filter_files.specs.declared.settings.ParamSetting.{ParamSetting}

abbrev pub IsFilterRead : List ℕ → FilterRead → Type 0
IsFilterRead text (filter.Compiled c) = Accepts c.code c.cert × IsReadAs c.text.items (Ok c.code)
IsFilterRead text (filter.Faulty f) = IsFaultOf text f.place f.line.items

-- where there is a module, each setting was set
abbrev pub SetsAll : FilterRead → List ParamSetting → Type 0
SetsAll (filter.Compiled c) settings = All IsUsed settings
SetsAll (filter.Faulty f) settings = Unit {0}
