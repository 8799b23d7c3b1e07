-- How a certificate is written.
use Rattle.std.specs.Prelude.{ℕ, zero, suc, Bool, true, false, ◌&&◌, if◌then◌else◌, List, [], ◌++◌, codes, decimal, Option, Some, None}
use Rattle.life_state.specs.States.{State}
use Rattle.life_state.specs.Order.{leq}
use Rattle.life_check.specs.declared.version.CertVersion.{CertVersion}
use Rattle.life_check.specs.declared.version.CertVersion.TheVariants as version
use Rattle.life_check.specs.Certificates.{Certificate}
use Rattle.life_cert.specs.StateText.{each, state_text}

abbrev pub is_two : CertVersion → Bool
is_two version.One = false
is_two (version.Two pools brigades code) = true

-- the first line: the version, and whether a certificate is slim
abbrev pub first_line : Bool → Bool → List ℕ
first_line false false = codes "cert 1\n"
first_line false true = codes "slim 1\n"
first_line true false = codes "cert 2 full\n"
first_line true true = codes "cert 2 slim\n"

-- Version 2 names the shape of the module.

abbrev pub vars_line : CertVersion → List ℕ
vars_line version.One = []
vars_line (version.Two pools brigades code) = codes "vars " ++ (decimal pools ++ (codes " " ++ (decimal brigades ++ codes "\n")))

abbrev pub code_line : CertVersion → List ℕ
code_line version.One = []
code_line (version.Two pools brigades code) = codes "code " ++ (decimal code ++ codes "\n")

abbrev pub state_or_none : Option State → List ℕ
state_or_none None = codes "none"
state_or_none (Some s) = state_text s

-- the line of a state between calls
abbrev pub between_line : List ℕ → Option State → List ℕ
between_line word o = word ++ (state_or_none o ++ codes "\n")

-- Lines of instructions. Version 2 says a state that stands on an earlier one by the number of the first that has it.

-- two states are the same: neither says less
abbrev pub is_again : State → Option State → Bool
is_again s None = false
is_again s (Some t) = leq s t && leq t s

abbrev pub or_first : Option ℕ → Option ℕ → Option ℕ
or_first None later = later
or_first (Some m) later = Some m

-- the first instruction below n with this state
unfoldable pub first_with : (ℕ → Option State) → ℕ → State → Option ℕ
first_with at zero s = None
first_with at (suc n) s = or_first (first_with at n s) (if is_again s (at n) then Some n else None)

-- what stands behind the number of an instruction: its state, or the line that has it
abbrev pub said_by : Option ℕ → State → List ℕ
said_by None s = state_text s
said_by (Some m) s = codes "same " ++ decimal m

abbrev pub earlier : Bool → (ℕ → Option State) → ℕ → State → Option ℕ
earlier two at pc s = if two then first_with at pc s else None

abbrev pub said : Bool → (ℕ → Option State) → ℕ → Option State → Option (List ℕ)
said two at pc None = None
said two at pc (Some s) = Some (said_by (earlier two at pc s) s)

-- the line of an instruction, where it has a state
abbrev pub said_line : ℕ → Option (List ℕ) → List ℕ
said_line pc None = []
said_line pc (Some text) = decimal pc ++ (codes " " ++ (text ++ codes "\n"))

abbrev pub pc_line : Bool → (ℕ → Option State) → ℕ → List ℕ
pc_line two at pc = said_line pc (said two at pc (at pc))

abbrev pub head_lines : CertVersion → Bool → List ℕ
head_lines v slim = first_line (is_two v) slim ++ (vars_line v ++ code_line v)

unfoldable pub cert_text : CertVersion → Bool → Certificate → List ℕ
cert_text v slim c =
    head_lines v slim ++ (between_line (codes "idle ") c.idle ++ (between_line (codes "ready ") c.ready
    ++ (each 0 c.lines (pc_line (is_two v) c.at) ++ codes "end\n")))
