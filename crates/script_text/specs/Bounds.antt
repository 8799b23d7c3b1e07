-- How much was read of a script before its commands.
use Rattle.std.specs.Prelude.{◌≡◌, ℕ, ◌^◌, ◌<◌, ◌≤◌, Bool, true, false, length}
use Rattle.script_text.specs.declared.texts.HeadPlace.{HeadPlace}
use Rattle.script_text.specs.declared.texts.HeadPlace.TheVariants as place
use Rattle.script_text.specs.Heads.{ScriptHead}

-- whether a module was read
abbrev pub has_module : HeadPlace → Bool
has_module place.InModule = false
has_module place.InCert = true
has_module place.BehindModule = true
has_module place.BehindCert = true
has_module place.BehindSkipped = true
has_module place.BehindBudget = true

-- how many modules and lines were read before the commands; a module text is read only where there is room for its module
pub record IsScriptBounded (lines : ℕ) (h : ScriptHead) : Type 0 where
  pub few : length h.parts ≤ 16
  pub room : has_module h.place ≡ false → length h.parts < 16
  pub before : h.before ≤ lines
  pub small : h.before < 2 ^ 63
  pub some : has_module h.place ≡ true → 0 < length h.parts
