-- The commands of a script: their words, and the lines that say them.
use Rattle.std.specs.Prelude.{ℕ, nat_eq, if◌then◌else◌, List, [], ◌∷◌, drop, Option, find, option_map, codes}
use Rattle.std.specs.Option.{option_and_then}
use Rattle.std.specs.List.{starts_with}
use Rattle.std.specs.Cmp.Lexicographic.{pointwise}
use Rattle.script_text.specs.declared.command.CommandWord.{CommandWord}
use Rattle.script_text.specs.declared.command.CommandWord.TheVariants as word
use Rattle.script_text.specs.declared.command.CommandForm.{CommandForm}
use Rattle.script_text.specs.declared.command.CommandForm.TheVariants as takes
use Rattle.script_text.specs.declared.command.Command.{Command}
use Rattle.script_text.specs.declared.command.Command.TheVariants as command
use Rattle.script_text.specs.declared.operands.CommandOperands.{CommandOperands}
use Rattle.byte_text.specs.Bytes.{token, after_token}
use Rattle.script_text.specs.Operands.{operands_at}
use Rattle.script_text.specs.FileLines.{file_line_of}

-- how a word is written
unfoldable pub word_text : CommandWord → List ℕ
word_text word.Open = codes "open"
word_text word.Begin = codes "begin"
word_text word.End = codes "end"
word_text word.Bring = codes "bring"
word_text word.Step = codes "step"
word_text word.Run = codes "run"
word_text word.Output = codes "output"
word_text word.Labels = codes "labels"
word_text word.Close = codes "close"
word_text word.Pools = codes "pools"

-- what follows it
unfoldable pub takes_of : CommandWord → CommandForm
takes_of word.Open = takes.Nothing
takes_of word.Begin = takes.Conn
takes_of word.End = takes.Conn
takes_of word.Bring = takes.ConnAndPieces
takes_of word.Step = takes.ConnAndCount
takes_of word.Run = takes.Conn
takes_of word.Output = takes.Conn
takes_of word.Labels = takes.Conn
takes_of word.Close = takes.Conn
takes_of word.Pools = takes.Nothing

-- the command of a word with its operands
unfoldable pub command_with : CommandWord → CommandOperands → Command
command_with word.Open o = command.Open
command_with word.Begin o = command.Begin o.conn
command_with word.End o = command.End o.conn
command_with word.Bring o = command.Bring o.conn o.pieces
command_with word.Step o = command.Step o.conn o.count
command_with word.Run o = command.Run o.conn
command_with word.Output o = command.Output o.conn
command_with word.Labels o = command.Labels o.conn
command_with word.Close o = command.Close o.conn
command_with word.Pools o = command.Pools

abbrev pub words : List CommandWord
words = word.Run ∷ word.Bring ∷ word.Begin ∷ word.Output ∷ word.End ∷ word.Step ∷ word.Open ∷ word.Labels ∷ word.Close ∷ word.Pools ∷ []

-- the word that is written so
unfoldable pub word_at : List ℕ → Option CommandWord
word_at text = find (λ w. pointwise nat_eq (word_text w) text) words

-- a command other than `file`
abbrev pub word_command_of : List ℕ → Option Command
word_command_of line =
    option_and_then (λ w. option_map (command_with w) (operands_at (takes_of w) (after_token line))) (word_at (token line))

-- the command that a line says
unfoldable pub command_of : List ℕ → Option Command
command_of line =
    if starts_with nat_eq line (codes "file ") then option_map command.File (file_line_of (drop 5 line)) else word_command_of line
