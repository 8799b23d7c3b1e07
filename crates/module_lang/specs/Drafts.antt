-- What the lines of a module text have said so far.
use Rattle.std.specs.Prelude.{ℕ, List, [], ◌∷◌, ◌++◌, length, ◌+◌}
use Rattle.module_lang.specs.declared.draft.Draft.{Draft}
use Rattle.module_lang.specs.declared.draft.HandlerLines.{HandlerLines}
use Rattle.module_code.specs.declared.part.Part.{Part}
use Rattle.module_code.specs.declared.part.Part.TheVariants as part
use Rattle.module_lang.specs.declared.draft.DraftStep.{DraftStep}

abbrev pub empty_handler : HandlerLines
empty_handler = record { line = 0; labels = []; steps = [] }

abbrev pub empty_draft : Draft
empty_draft = record {
  part = part.Start;
  pools = [];
  brigades = [];
  texts = [];
  «open» = empty_handler;
  init = empty_handler;
  main = empty_handler;
}

-- goes on to another part, and notes the line where a handler begins
abbrev pub with_part : Draft → Part → ℕ → Draft
with_part d part.Open n = record d { part = part.Open; «open» = record d.open { line = n } }
with_part d part.Init n = record d { part = part.Init; init = record d.init { line = n } }
with_part d part.Main n = record d { part = part.Main; main = record d.main { line = n } }
with_part d p n = record d { part = p }

abbrev pub with_line : HandlerLines → ℕ → List ℕ → HandlerLines
with_line h n name = record h { labels = h.labels ++ record { line = n; name = name; place = length h.steps } ∷ [] }

-- a label in the handler that is being read
abbrev pub label_added : Part → Draft → ℕ → List ℕ → Draft
label_added part.Open d n name = record d { «open» = with_line d.open n name }
label_added part.Init d n name = record d { init = with_line d.init n name }
label_added _ d n name = record d { main = with_line d.main n name }

abbrev pub with_label : Draft → ℕ → List ℕ → Draft
with_label d n name = label_added d.part d n name

abbrev pub with_more : HandlerLines → DraftStep → HandlerLines
with_more h s = record h { steps = h.steps ++ s ∷ [] }

-- an instruction in the handler that is being read
abbrev pub step_added : Part → Draft → DraftStep → Draft
step_added part.Open d s = record d { «open» = with_more d.open s }
step_added part.Init d s = record d { init = with_more d.init s }
step_added _ d s = record d { main = with_more d.main s }

abbrev pub with_step : Draft → DraftStep → Draft
with_step d s = step_added d.part d s

-- how many instructions were read
abbrev pub instruction_count : Draft → ℕ
instruction_count d = length d.open.steps + length d.init.steps + length d.main.steps
