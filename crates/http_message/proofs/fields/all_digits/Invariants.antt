use Rattle.std.proofs.Common.{◌≡◌, drop}
use Rattle.std.specs.List.{list_all}
use Rattle.std.specs.Char.{is_ascii_digit}
use Rattle.http_message.proofs.fields.all_digits.Given as goal

-- what is left decides of all
abbrev pub invariant-loop-b : goal.invariant-loop-b
invariant-loop-b l = list_all is_ascii_digit (drop l.b-index l.value) ≡ list_all is_ascii_digit l.value
