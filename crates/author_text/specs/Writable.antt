-- Which trees a text can have: names are names, numbers are below 2^32, and texts are of bytes.
use Rattle.std.specs.Prelude.{ℕ, ◌^◌, ◌<◌, List, [], ◌∷◌, Option, Some, None, IsTrue, All}
use Rattle.author_text.specs.Trees.{ExprTree, number, variable, size, empty, has, look, negation, binary}
use Rattle.author_text.specs.Trees.{TextTree, quoted, param, ThingTree, words, it, copy, decimals, part, value}
use Rattle.author_text.specs.Trees.{StmtTree, BodyTree, define, set, run, put, discard, cut, plain, choice, repeat, walk, log, nothing, first}
use Rattle.author_text.specs.Trees.{DeclTree, var, hold, constant, param_number, param_text, table, def}
use Rattle.author_text.specs.Trees.{TriggerTree, event, byte, pattern, HandlerTree, SourceTree}
use Rattle.author_text.specs.Words.{IsNameText, is_name_or_word}

-- each item has a property
abbrev pub Each : {A : Type 0} → (A → Type 0) → List A → Type 0
Each P [] = Unit {0}
Each P (x ∷ xs) = P x × Each P xs

abbrev pub IsNameIfAny : Option (List ℕ) → Type 0
IsNameIfAny None = Unit {0}
IsNameIfAny (Some name) = IsNameText name

abbrev pub WritableExpr : ExprTree → Type 0
WritableExpr (number n) = n < 2 ^ 32
WritableExpr (variable name) = IsNameText name
WritableExpr (size of) = IsNameIfAny of
WritableExpr (empty name) = IsNameText name
WritableExpr (has name e) = IsNameText name × WritableExpr e
WritableExpr (look name e) = IsNameText name × WritableExpr e
WritableExpr (negation e) = WritableExpr e
WritableExpr (binary op left right) = WritableExpr left × WritableExpr right

abbrev pub WritableIfAny : Option ExprTree → Type 0
WritableIfAny None = Unit {0}
WritableIfAny (Some e) = WritableExpr e

abbrev pub AllBytes : List ℕ → Type 0
AllBytes bytes = All (λ b. b < 256) bytes

abbrev pub WritableText : TextTree → Type 0
WritableText (quoted bytes) = AllBytes bytes
WritableText (param name) = IsNameText name

abbrev pub WritableThing : ThingTree → Type 0
WritableThing (words t) = WritableText t
WritableThing (it is_copy) = Unit {0}
WritableThing (copy name) = IsNameText name
WritableThing (decimals e) = WritableExpr e
WritableThing (part e name) = WritableExpr e × IsNameText name
WritableThing (value e) = WritableExpr e

abbrev mutual
  pub WritableStmt : StmtTree → Type 0
  WritableStmt (define name e) = IsNameText name × WritableExpr e
  WritableStmt (set name op e) = IsNameText name × WritableExpr e
  WritableStmt (run name es) = IsNameText name × Each WritableExpr es
  WritableStmt (put t to) = WritableThing t × IsNameIfAny to
  WritableStmt (discard over) = IsNameIfAny over
  WritableStmt (cut e) = WritableExpr e
  WritableStmt (plain w) = Unit {0}
  WritableStmt (choice e taken other) = WritableExpr e × WritableBody taken × WritableBody other
  WritableStmt (repeat e body) = WritableIfAny e × WritableBody body
  WritableStmt (walk name index over body) = IsNameText name × IsNameIfAny index × IsNameIfAny over × WritableBody body
  WritableStmt (log is_conn t) = WritableText t

  pub WritableBody : BodyTree → Type 0
  WritableBody nothing = Unit {0}
  WritableBody (first s rest) = WritableStmt s × WritableBody rest

abbrev pub WritableDecl : DeclTree → Type 0
WritableDecl (var name is_conn e) = IsNameText name × WritableExpr e
WritableDecl (hold name is_conn limit) = IsNameText name × WritableIfAny limit
WritableDecl (constant name e) = IsNameText name × WritableExpr e
WritableDecl (param_number name e) = IsNameText name × WritableExpr e
WritableDecl (param_text name bytes) = IsNameText name × AllBytes bytes
WritableDecl (table name t) = IsNameText name × WritableText t
WritableDecl (def name params body) = IsNameText name × Each IsNameText params × WritableBody body

abbrev pub WritableTrigger : TriggerTree → Type 0
WritableTrigger (event e) = Unit {0}
WritableTrigger (byte name) = IsNameText name
WritableTrigger (pattern t) = WritableText t

abbrev pub WritableHandler : HandlerTree → Type 0
WritableHandler h = WritableTrigger h.on × WritableBody h.body

-- a filter may have a word of the language as its name
abbrev pub WritableSource : SourceTree → Type 0
WritableSource s = IsTrue (is_name_or_word s.name) × Each WritableDecl s.decls × Each WritableHandler s.handlers
