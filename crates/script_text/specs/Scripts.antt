-- What a script says behind its texts: its budget, whether its chain is checked, and a command on each line.
use Rattle.std.specs.Prelude.{ℕ, ◌^◌, Bool, ◌&&◌, nat_eq, nat_le, if◌then◌else◌, length, drop, Option, None, codes}
use Rattle.std.specs.Cmp.Lexicographic.{pointwise}
use Rattle.std.specs.List.{starts_with}
use Rattle.script_text.specs.declared.command.Command.{Command}
use Rattle.byte_text.specs.Numbers.{decimal_below}
use Rattle.byte_text.specs.TextLines.{RawLine}
use Rattle.script_text.specs.Commands.{command_of}

-- the line `budget` and a number
unfoldable pub budget_at : RawLine → Option ℕ
budget_at l = if l.ended && starts_with nat_eq l.text (codes "budget ") then decimal_below (2 ^ 64) (drop 7 l.text) else None

-- the line `checked`
abbrev pub is_checked : RawLine → Bool
is_checked l = l.ended && pointwise nat_eq l.text (codes "checked")

-- the command of a line, which ends with LF and has at most 65536 bytes before it
unfoldable pub command_at : RawLine → Option Command
command_at l = if l.ended && nat_le (length l.text) 65536 then command_of l.text else None
