-- The text that a filter is printed as: a declaration, a statement or a handler begins a line.
use Rattle.std.specs.Prelude.{ℕ, Bool, true, false, ◌&&◌, List, [], ◌∷◌, ◌++◌, Option, Some, None, option_map, codes, if◌then◌else◌}
use Rattle.std.specs.List.{flat_map, join_by}
use Rattle.byte_text.specs.Quoted.{spelling}
use Rattle.author_text.specs.declared.source.Plain.{Plain}
use Rattle.author_text.specs.declared.source.Plain.TheVariants as word
use Rattle.author_text.specs.declared.source.SetOp.{SetOp}
use Rattle.author_text.specs.declared.source.SetOp.TheVariants as change
use Rattle.author_text.specs.declared.tree.Event.{Event}
use Rattle.author_text.specs.declared.tree.Event.TheVariants as events
use Rattle.author_text.specs.Trees.{ExprTree}
use Rattle.author_text.specs.Trees.{TextTree, quoted, param, ThingTree, words, it, copy, decimals, part, value}
use Rattle.author_text.specs.Trees.{StmtTree, BodyTree, define, set, run, put, discard, cut, plain, choice, repeat, walk, log, nothing, first}
use Rattle.author_text.specs.Trees.{DeclTree, var, hold, constant, param_number, param_text, table, def}
use Rattle.author_text.specs.Trees.{TriggerTree, event, byte, pattern, HandlerTree, SourceTree}
use Rattle.author_text.specs.Printed.{expr_text, hold_or_it}

-- how a text is written
abbrev pub text_text : TextTree → List ℕ
text_text (quoted bytes) = spelling bytes
text_text (param name) = name

-- how a statement that is one word is written
abbrev pub plain_text : Plain → List ℕ
plain_text word.Flush = codes "flush"
plain_text word.Pass = codes "pass"
plain_text word.End = codes "end"
plain_text word.Fail = codes "fail"
plain_text word.Leave = codes "leave"
plain_text word.Next = codes "next"
plain_text word.Break = codes "break"
plain_text word.Continue = codes "continue"

-- how a change of a number is written
abbrev pub change_text : SetOp → List ℕ
change_text change.Becomes = codes " = "
change_text change.Add = codes " += "
change_text change.Sub = codes " -= "

-- how an event is written
abbrev pub event_text : Event → List ℕ
event_text events.Start = codes "start"
event_text events.Call = codes "call"
event_text events.Bucket = codes "bucket"
event_text events.Flush = codes "flush"
event_text events.Return = codes "return"
event_text events.Eos = codes "eos"

-- what is emitted or kept
abbrev pub thing_text : ThingTree → List ℕ
thing_text (words t) = text_text t
thing_text (it false) = codes "it"
thing_text (it true) = codes "copy it"
thing_text (copy name) = codes "copy " ++ name
thing_text (decimals e) = codes "decimal(" ++ expr_text e ++ codes ")"
thing_text (part e name) = expr_text e ++ codes " of " ++ name
thing_text (value e) = expr_text e

-- in brackets, with commas between them
abbrev pub listed : {A : Type 0} → (A → List ℕ) → List A → List ℕ
listed shown xs = codes "(" ++ join_by shown (codes ", ") xs ++ codes ")"

-- words, and a name behind them, where there is one
abbrev pub optional_text : List ℕ → Option (List ℕ) → List ℕ
optional_text before None = []
optional_text before (Some text) = before ++ text

-- where a thing goes: to a hold, or out
abbrev pub put_word : Option (List ℕ) → List ℕ
put_word None = codes "emit "
put_word (Some name) = codes "keep "

-- `conn`, where it lasts as long as the connection
abbrev pub conn_text : Bool → List ℕ
conn_text true = codes "conn "
conn_text false = []

abbrev pub is_choice : StmtTree → Bool
is_choice (choice e taken other) = true
is_choice _ = false

abbrev pub is_nothing : BodyTree → Bool
is_nothing nothing = true
is_nothing (first s rest) = false

-- a statement in which no other stands
abbrev pub IsSimple : StmtTree → Type 0
IsSimple (choice e taken other) = ⊥
IsSimple (repeat e body) = ⊥
IsSimple (walk name index over body) = ⊥
IsSimple _ = Unit {0}

-- what stands in curly brackets, line by line
abbrev pub block_of : List ℕ → List ℕ
block_of lines = (123 ∷ 10 ∷ []) ++ lines ++ codes "}"

-- what stands before the block of a loop: `loop`, or `while` with its test
abbrev pub repeat_text : Option ExprTree → List ℕ
repeat_text None = codes "loop "
repeat_text (Some e) = codes "while " ++ expr_text e ++ codes " "

abbrev pub walk_text : List ℕ → Option (List ℕ) → Option (List ℕ) → List ℕ
walk_text name index over = codes "for byte " ++ name ++ optional_text (codes " at ") index ++ codes " in " ++ hold_or_it over

abbrev mutual
  pub stmt_text : StmtTree → List ℕ
  stmt_text (define name e) = codes "let " ++ name ++ codes " = " ++ expr_text e
  stmt_text (set name op e) = name ++ change_text op ++ expr_text e
  stmt_text (run name es) = name ++ listed expr_text es
  stmt_text (put t to) = put_word to ++ thing_text t ++ optional_text (codes " in ") to
  stmt_text (discard over) = codes "drop " ++ hold_or_it over
  stmt_text (cut e) = codes "cut it at " ++ expr_text e
  stmt_text (plain w) = plain_text w
  stmt_text (choice e taken other) = codes "if " ++ expr_text e ++ codes " " ++ block_of (body_text taken) ++ other_text other
  stmt_text (repeat e body) = repeat_text e ++ block_of (body_text body)
  stmt_text (walk name index over body) = walk_text name index over ++ codes " " ++ block_of (body_text body)
  stmt_text (log is_conn t) = codes "log " ++ conn_text is_conn ++ text_text t

  -- each statement, and its line end
  pub body_text : BodyTree → List ℕ
  body_text nothing = []
  body_text (first s rest) = stmt_text s ++ (10 ∷ []) ++ body_text rest

  -- `else`, where anything follows it: an `if` alone stands there without brackets
  pub other_text : BodyTree → List ℕ
  other_text nothing = []
  other_text (first s rest) =
      codes " else " ++ (if is_nothing rest && is_choice s then stmt_text s else block_of (stmt_text s ++ (10 ∷ []) ++ body_text rest))

abbrev pub decl_text : DeclTree → List ℕ
decl_text (var name is_conn e) = conn_text is_conn ++ codes "var " ++ name ++ codes " = " ++ expr_text e
decl_text (hold name is_conn limit) = conn_text is_conn ++ codes "hold " ++ name ++ optional_text (codes " at most ") (option_map expr_text limit)
decl_text (constant name e) = codes "const " ++ name ++ codes " = " ++ expr_text e
decl_text (param_number name e) = codes "param " ++ name ++ codes " = " ++ expr_text e
decl_text (param_text name bytes) = codes "param " ++ name ++ codes " = " ++ spelling bytes
decl_text (table name t) = codes "table " ++ name ++ codes " = " ++ text_text t
decl_text (def name params body) = codes "def " ++ name ++ listed (λ n. n) params ++ codes " " ++ block_of (body_text body)

abbrev pub trigger_text : TriggerTree → List ℕ
trigger_text (event e) = codes "on " ++ event_text e
trigger_text (byte name) = codes "on byte " ++ name
trigger_text (pattern t) = codes "on match " ++ text_text t

abbrev pub handler_text : HandlerTree → List ℕ
handler_text h = trigger_text h.on ++ codes " " ++ block_of (body_text h.body)

abbrev pub line : List ℕ → List ℕ
line text = text ++ (10 ∷ [])

-- the text of a filter
abbrev pub source_text : SourceTree → List ℕ
source_text s =
    line (codes "filter " ++ s.name) ++ flat_map (λ d. line (decl_text d)) s.decls ++ flat_map (λ h. line (handler_text h)) s.handlers
