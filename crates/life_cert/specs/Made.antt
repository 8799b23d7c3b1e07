-- What the maker answers.
use Rattle.std.specs.Prelude.{◌≡◌, ℕ, ◌<◌, Some, Result, Ok, Err, slice_get}
use Rattle.module_code.specs.declared.instr.Instr.{Instr}
use Rattle.module_code.specs.Program.{Program}
use Rattle.run_model.specs.declared.fault.FaultKind.{FaultKind}
use Rattle.life_state.specs.States.{State}
use Rattle.life_state.specs.Rules.{Edges, rule}
use Rattle.life_check.specs.Certificates.{Certificate}
use Rattle.life_check.specs.declared.cert.Cert.{Cert}
use Rattle.life_check.specs.Seen.{seen_cert}
use Rattle.life_check.specs.Typed.{refusal, first_refusal}
use Rattle.life_check.specs.declared.refusal.Rule.TheVariants.{May}
use Rattle.life_cert.specs.declared.refusal.MakeRefusal.{MakeRefusal}
use Rattle.life_cert.specs.declared.refusal.MakeRefusal.TheVariants.{At, NoMemory}
use Rattle.life_cert.specs.Rounds.{made}

-- the certificate is that of the rounds; a refusal is the first that the check finds in it
abbrev pub IsCertMade : Program → Result Cert MakeRefusal → Type 0
IsCertMade p (Ok c) = seen_cert c ≡ made p
IsCertMade p (Err (At pc rule)) = first_refusal p (made p) ≡ Some (refusal pc rule)
IsCertMade p (Err NoMemory) = Unit {0}

-- the module is refused: memory did not run out
abbrev pub IsRefused : Result Cert MakeRefusal → Type 0
IsRefused (Ok c) = ⊥
IsRefused (Err (At pc rule)) = Unit {0}
IsRefused (Err NoMemory) = ⊥

-- in these states the instruction may have this fault, and none before it may have one
pub record MayFaultFirst (p : Program) (c : Certificate) (pc : ℕ) (k : FaultKind) : Type 0 where
  pub instr : Instr
  pub state : State
  pub here : slice_get p.code pc ≡ Some instr
  pub known : c.at pc ≡ Some state
  pub faulty : rule p instr state ≡ Err k
  pub before : (q : ℕ) (i : Instr) (s : State) → q < pc → slice_get p.code q ≡ Some i → c.at q ≡ Some s → (e : Edges) × (rule p i s ≡ Ok e)

-- a refusal names the first fault that an instruction may have in the states of the rounds, and nothing else
abbrev pub RefusesByFault : Program → Result Cert MakeRefusal → Type 0
RefusesByFault p (Ok c) = Unit {0}
RefusesByFault p (Err (At pc rule)) = (k : FaultKind) × (rule ≡ May k) × MayFaultFirst p (made p) pc k
RefusesByFault p (Err NoMemory) = Unit {0}
