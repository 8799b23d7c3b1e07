-- Settings of params, as words say them.
use Rattle.std.specs.Prelude.{◌≡◌, ℕ, List, ◌++◌, ◌∷◌, Option, Some, None, true, map}
use Rattle.std.specs.Option.{option_copied}
use Rattle.filter_files.specs.declared.settings.ParamSetting.{ParamSetting}

-- a name, with that of a filter before it where one is said
abbrev pub setting_name : Option (List ℕ) → List ℕ → List ℕ
setting_name None param = param
setting_name (Some filter) param = filter ++ 46 ∷ param

-- the word that says a setting
abbrev pub setting_word : ParamSetting → List ℕ
setting_word s = setting_name (option_copied s.filter) s.param.now ++ 61 ∷ s.value.now

-- it was set in a filter
abbrev pub IsUsed : ParamSetting → Type 0
IsUsed s = s.is_used ≡ true

-- They are the settings that the same words say.
abbrev pub KeepsWords : List ParamSetting → List ParamSetting → Type 0
KeepsWords old new = map setting_word new ≡ map setting_word old
