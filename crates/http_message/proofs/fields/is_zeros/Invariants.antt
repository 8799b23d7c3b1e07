use Rattle.std.proofs.Common.{◌≡◌, drop}
use Rattle.http_message.specs.Fields.{is_zeros}
use Rattle.http_message.proofs.fields.is_zeros.Given as goal

-- what is left decides of all
abbrev pub invariant-loop-b : goal.invariant-loop-b
invariant-loop-b l = is_zeros (drop l.b-index l.value) ≡ is_zeros l.value
