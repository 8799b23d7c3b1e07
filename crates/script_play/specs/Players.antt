-- What the code of a play does with a line, and with a part of a script.
use Rattle.std.specs.Prelude.{◌≡◌, ℕ, ◌<◌, ◌≤◌, List, ◌++◌, length}
use Rattle.filter_chain.specs.Hosting.{Ghosts, Stored}
use Rattle.script_play.specs.declared.player.Player.{Player}
use Rattle.script_play.specs.declared.player.Stage.{Stage as CodeStage}
use Rattle.script_text.specs.Heads.{ScriptHead}
use Rattle.script_play.specs.Written.{Stage, Reading, Serving, Over}
use Rattle.script_play.specs.Sessions.{IsStageOf, IsAt}

-- A line is taken so, and what is told of it is added.
pub record TakesOneLine {R : Type 0} {g : Ghosts R Stored} (new : Player R g) (before after : List ℕ) (P : List ℕ → Stage → Type 0) : Type 0 where
  pub told : List ℕ
  pub stage : Stage
  pub holds : P told stage
  pub at : IsAt new stage
  pub added : after ≡ before ++ told

-- The commands may begin behind what was read.
pub record MayBeginCommands {R : Type 0} {g : Ghosts R Stored} (c : CodeStage R g) (h : ScriptHead) : Type 0 where
  pub stage : IsStageOf c (Reading h)
  pub some : 0 < length h.parts
  pub few : length h.parts ≤ 16

-- the commands have begun, or a fault was told
abbrev pub HasBegun : Stage → Type 0
HasBegun (Reading h) = ⊥
HasBegun (Serving v) = Unit {0}
HasBegun Over = Unit {0}
