-- What follows the first word of a command.
use Rattle.std.specs.Prelude.{ℕ, ◌&&◌, not, ◌==◌, if◌then◌else◌, List, [], ◌∷◌, Option, Some, None, option_map}
use Rattle.std.specs.Option.{option_and_then}
use Rattle.script_text.specs.declared.command.CommandForm.{CommandForm}
use Rattle.script_text.specs.declared.command.CommandForm.TheVariants as takes
use Rattle.script_text.specs.declared.operands.CommandOperands.{CommandOperands}
use Rattle.script_text.specs.Words.{number_at, after_number, is_empty}
use Rattle.script_text.specs.Pieces.{pieces_of}

abbrev pub no_operands : List ℕ → Option CommandOperands
no_operands [] = Some (record { conn = 0; count = 0; pieces = [] })
no_operands (b ∷ bs) = None

abbrev pub conn_alone : List ℕ → Option CommandOperands
conn_alone tail =
    option_and_then (λ n. if is_empty (after_number tail) then Some (record { conn = n; count = 0; pieces = [] }) else None) (number_at tail)

abbrev pub conn_and_pieces : List ℕ → Option CommandOperands
conn_and_pieces tail =
    option_and_then (λ n. option_map (λ ps. record { conn = n; count = 0; pieces = ps }) (pieces_of (after_number tail))) (number_at tail)

-- a count is not 0, and nothing follows it
abbrev pub count_alone : List ℕ → Option ℕ
count_alone tail = option_and_then (λ n. if is_empty (after_number tail) && not (n == 0) then Some n else None) (number_at tail)

abbrev pub conn_and_count : List ℕ → Option CommandOperands
conn_and_count tail =
    option_and_then (λ n. option_map (λ k. record { conn = n; count = k; pieces = [] }) (count_alone (after_number tail))) (number_at tail)

-- the operands of a word that takes these
unfoldable pub operands_at : CommandForm → List ℕ → Option CommandOperands
operands_at takes.Nothing tail = no_operands tail
operands_at takes.Conn tail = conn_alone tail
operands_at takes.ConnAndCount tail = conn_and_count tail
operands_at takes.ConnAndPieces tail = conn_and_pieces tail
