-- The modules of a script's chain: which of them is refused.
use Rattle.std.specs.Prelude.{ℕ, ◌+◌, List, [], ◌∷◌, map, Option, Some, None}
use Rattle.module_code.specs.Program.{Program}
use Rattle.life_check.specs.Slim.{cert_refusal}
use Rattle.life_check.specs.Typed.{first_refusal}
use Rattle.life_check.specs.declared.cert.Cert.{Cert}
use Rattle.life_check.specs.declared.refusal.CheckRefusal.{CheckRefusal}
use Rattle.life_cert.specs.Rounds.{made}
use Rattle.script_text.specs.Heads.{ScriptPart}

-- the modules alone
abbrev pub codes_of : List ScriptPart → List Program
codes_of parts = map (λ (x : ScriptPart). x.code) parts

-- the first refusal of the certificate that is made
abbrev pub made_refusal : Program → Option CheckRefusal
made_refusal p = first_refusal p (made p)

-- the first refusal of a module: by the certificate that stands behind it, or else by the one that is made
abbrev pub refusal_by : Program → Option Cert → Option CheckRefusal
refusal_by p None = made_refusal p
refusal_by p (Some c) = cert_refusal p c

abbrev pub refusal_of : ScriptPart → Option CheckRefusal
refusal_of x = refusal_by x.code x.cert

-- why none can be made, where none is given
abbrev pub unmade_by : ScriptPart → Option Cert → Option CheckRefusal
unmade_by x None = made_refusal x.code
unmade_by x (Some c) = None

abbrev pub unmade : ScriptPart → Option CheckRefusal
unmade x = unmade_by x x.cert

abbrev pub first_of : ℕ → Option CheckRefusal → Option (ℕ × CheckRefusal) → Option (ℕ × CheckRefusal)
first_of k None others = others
first_of k (Some r) others = Some (k, r)

-- the first refusal, of those of the k-th module and the ones behind it
unfoldable pub first_from : ℕ → List (Option CheckRefusal) → Option (ℕ × CheckRefusal)
first_from k [] = None
first_from k (o ∷ os) = first_of k o (first_from (k + 1) os)

abbrev pub unless_first : Option (ℕ × CheckRefusal) → Option (ℕ × CheckRefusal) → Option (ℕ × CheckRefusal)
unless_first None others = others
unless_first (Some r) others = Some r

-- Which module is refused, and why. Certificates that are missing are made first, from the first module on; then each module is checked
-- with its certificate.
abbrev pub refused_in : List ScriptPart → Option (ℕ × CheckRefusal)
refused_in xs = unless_first (first_from 0 (map unmade xs)) (first_from 0 (map refusal_of xs))
