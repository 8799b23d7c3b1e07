-- The lines that the checker answers.
use Rattle.std.specs.Prelude.{ℕ, List, ◌++◌, codes, decimal}
use Rattle.life_check.specs.declared.refusal.Rule.{Rule}
use Rattle.life_check.specs.declared.refusal.Rule.TheVariants.{Shape, Entry, May, Flow, Exit, Request}
use Rattle.script_text.specs.Names.{fault_name}
use Rattle.script_text.specs.Replies.{line}

abbrev pub rule_name : Rule → List ℕ
rule_name Shape = codes "shape"
rule_name Entry = codes "entry"
rule_name (May fault) = fault_name fault
rule_name Flow = codes "flow"
rule_name Exit = codes "exit"
rule_name Request = codes "request"

abbrev pub refused_at_line : ℕ → Rule → List ℕ
refused_at_line pc r = codes "refused at " ++ (decimal pc ++ (codes ": " ++ line (rule_name r)))

-- a module of a chain is refused, by its place
abbrev pub refused_module_line : ℕ → ℕ → Rule → List ℕ
refused_module_line index pc r = codes "refused module " ++ (decimal index ++ (codes " at " ++ (decimal pc ++ (codes ": " ++ line (rule_name r)))))

-- the first faulty line of a certificate text, and its code
abbrev pub cert_line : ℕ → ℕ → List ℕ
cert_line n code = line (codes "cert line " ++ decimal n ++ codes " code " ++ decimal code)

abbrev pub accepted_line : List ℕ
accepted_line = line (codes "accepted")
