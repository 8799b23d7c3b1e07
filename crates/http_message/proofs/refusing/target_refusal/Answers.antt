-- By whether the target has a path.
use Rattle.std.proofs.Common.{List, ℕ, Option, Some, None, sym, ap, if◌then◌else◌}
use Rattle.std.specs.Prelude.{is_some}
use Rattle.http_message.specs.declared.status.StatusCode.{StatusCode}
use Rattle.http_message.specs.declared.status.StatusCode.TheVariants.{BadRequest}
use Rattle.http_message.proofs.refusing.target_refusal.Goals as goal

refused : Option (List ℕ) → Option StatusCode
refused path = if is_some path then None else Some BadRequest

pub returns-in-Some : goal.returns-in-Some
unfolding refused
returns-in-Some c = sym (ap refused c.in-Some.ensures)

pub returns-in-None : goal.returns-in-None
unfolding refused
returns-in-None c = sym (ap refused c.in-None.ensures)
