-- How long texts are.
use Rattle.std.specs.Prelude.{◌≡◌, ℕ, ◌+◌, ◌≤◌, Bool, true, length}
use Rattle.life_state.specs.Form.{IsFormed}
use Rattle.life_state.specs.States.{State}
use Rattle.life_check.specs.declared.version.CertVersion.{CertVersion}
use Rattle.life_check.specs.declared.version.CertVersion.TheVariants as version
use Rattle.life_check.specs.Certificates.{Certificate}
use Rattle.life_check.specs.Versions.{is_in_range}
use Rattle.life_cert.specs.CertText.{cert_text}
use Rattle.life_cert.specs.Reading.{IsWritable}
use Rattle.life_cert.specs.StateText.{state_text}

abbrev pub StateTextsAreShort : Type 0
StateTextsAreShort = (s : State) → IsFormed s → length (state_text s) ≤ 1187

-- what version 2 says before the states, and version 1 does not
abbrev pub head_more : CertVersion → ℕ
head_more version.One = 0
head_more (version.Two pools brigades code) = 24

-- so what may be printed is no longer than a text may be
abbrev pub CertTextsAreShort : Type 0
CertTextsAreShort = (v : CertVersion) (slim : Bool) (c : Certificate) → is_in_range v ≡ true → IsWritable c → length (cert_text v slim c) ≤ 1224030 + head_more v
