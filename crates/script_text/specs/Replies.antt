-- The lines that the program prints.
use Rattle.std.specs.Prelude.{ℕ, List, [], ◌∷◌, ◌++◌, flat_map, codes, decimal}
use Rattle.module_code.specs.declared.instr.Status.{Status}
use Rattle.module_code.specs.declared.instr.Status.TheVariants.{Success, Fail}
use Rattle.run_model.specs.declared.event.Cause.TheVariants as cause
use Rattle.run_model.specs.declared.event.Refusal.{Refusal}
use Rattle.run_model.specs.declared.event.Refusal.TheVariants as refusal
use Rattle.run_model.specs.declared.event.Stepped.{Stepped}
use Rattle.run_model.specs.declared.event.Stepped.TheVariants as stepped
use Rattle.byte_text.specs.Quoted.{spelling}
use Rattle.script_text.specs.Names.{fault_name}
use Rattle.script_text.specs.declared.reply.CommandReply.{CommandReply}
use Rattle.script_text.specs.declared.reply.CommandReply.TheVariants as reply

-- a text and the LF that ends it
abbrev pub line : List ℕ → List ℕ
line text = text ++ 10 ∷ []

abbrev pub status_name : Status → List ℕ
status_name Success = codes "ok"
status_name Fail = codes "fail"

abbrev pub refusal_name : Refusal → List ℕ
refusal_name refusal.NoSuchConn = codes "NoSuchConn"
refusal_name (refusal.Broken cause.Faulted) = codes "Broken(Faulted)"
refusal_name (refusal.Broken cause.NoMemory) = codes "Broken(NoMemory)"
refusal_name (refusal.Broken cause.NamesSpent) = codes "Broken(NamesSpent)"
refusal_name (refusal.Broken cause.OutOfSteps) = codes "Broken(OutOfSteps)"
refusal_name refusal.Busy = codes "Busy"
refusal_name refusal.Idle = codes "Idle"
refusal_name refusal.InRequest = codes "InRequest"
refusal_name refusal.NotInRequest = codes "NotInRequest"
refusal_name refusal.DataAfterEos = codes "DataAfterEos"
refusal_name refusal.NoFile = codes "NoFile"
refusal_name refusal.FileFailed = codes "FileFailed"
refusal_name refusal.NamesSpent = codes "NamesSpent"
refusal_name refusal.NoMemory = codes "NoMemory"

abbrev pub refused_line : Refusal → List ℕ
refused_line r = line (codes "refused " ++ refusal_name r)

abbrev pub stepped_line : Stepped → List ℕ
stepped_line stepped.Went = line (codes "went 1")
stepped_line (stepped.CallEnded s) = line (codes "ended " ++ status_name s)
stepped_line (stepped.Fault kind index pc) =
    line (codes "fault " ++ fault_name kind ++ codes " module " ++ decimal index ++ codes " pc " ++ decimal pc)

-- a connection of this number was opened
abbrev pub connected_line : ℕ → List ℕ
connected_line n = line (codes "conn " ++ decimal n)

-- so many steps went
abbrev pub went_line : ℕ → List ℕ
went_line n = line (codes "went " ++ decimal n)

abbrev pub output_line : List ℕ → List ℕ
output_line bytes = line (codes "output " ++ spelling bytes)

-- labels, each as a space and its text in quotes
abbrev pub labels_line : List (List ℕ) → List ℕ
labels_line labels = line (codes "labels" ++ flat_map (λ label. 32 ∷ spelling label) labels)

-- the line of a reply; of the pools, their lines and then one more
abbrev pub reply_line : CommandReply → List ℕ
reply_line (reply.Connected n) = connected_line n
reply_line reply.Done = line (codes "ok")
reply_line (reply.Refused r) = refused_line r
reply_line (reply.Stepped s) = stepped_line s
reply_line (reply.Went n) = went_line n
reply_line (reply.Output bytes) = output_line bytes
reply_line (reply.Labels labels) = labels_line labels
reply_line (reply.Pools text) = text ++ line (codes "ok")

-- the first faulty line of a module text, and its code
abbrev pub asm_line : ℕ → ℕ → List ℕ
asm_line l code = line (codes "asm line " ++ decimal l ++ codes " code " ++ decimal code)

-- the first line of a script that is none
abbrev pub script_line : ℕ → List ℕ
script_line l = line (codes "script line " ++ decimal l)
