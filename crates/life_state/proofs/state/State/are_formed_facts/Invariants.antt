-- Those so far are in form, and pass.
use Rattle.std.proofs.Common.{◌≡◌, ℕ, ◌<◌, true}
use Rattle.life_state.specs.FormTests.{FormedFact}
use Rattle.life_state.specs.InForm.{is_formed_fact}
use Rattle.life_state.specs.Seen.{seen}
use Rattle.life_state.proofs.state.State.are_formed_facts.Given as goal

abbrev pub invariant-loop-d : goal.invariant-loop-d
invariant-loop-d l = (k : ℕ) → k < l.d → FormedFact (seen l.self) l.c k × (is_formed_fact (seen l.self) l.c k ≡ true)
