-- A tree whose text can be read again.
use Rattle.std.specs.Prelude.{ℕ, ◌+◌, ◌-◌, ◌<◌, ◌≤◌, max, ◌&&◌, Option, Some, None, if◌then◌else◌}
use Rattle.std.specs.List.{AllByRecursion}
use Rattle.author_text.specs.Limits.{FitsExpr}
use Rattle.author_text.specs.Writable.{AllBytes}
use Rattle.author_text.specs.PrintedSource.{is_choice, is_nothing}
use Rattle.author_text.specs.Trees.{ExprTree, TextTree, quoted, param, ThingTree, words, it, copy, decimals, part, value}
use Rattle.author_text.specs.Trees.{DeclTree, var, hold, constant, param_number, param_text, table, def}
use Rattle.author_text.specs.Trees.{TriggerTree, event, byte, pattern, HandlerTree, SourceTree}
use Rattle.author_text.specs.Trees.{StmtTree, BodyTree, define, set, run, put, discard, cut, plain, choice, repeat, walk, log, nothing, first}

abbrev pub FitsOption : Option ExprTree → Type 0
FitsOption None = Unit {0}
FitsOption (Some e) = FitsExpr e

-- what stands in quotes are bytes
abbrev pub FitsText : TextTree → Type 0
FitsText (quoted bytes) = AllBytes bytes
FitsText (param name) = Unit {0}

-- the name of a text is read as a number, whose name it may be
abbrev pub FitsThing : ThingTree → Type 0
FitsThing (words (quoted bytes)) = FitsText (quoted bytes)
FitsThing (words (param name)) = ⊥
FitsThing (it is_copy) = Unit {0}
FitsThing (copy name) = Unit {0}
FitsThing (decimals e) = FitsExpr e
FitsThing (part e name) = FitsExpr e
FitsThing (value e) = FitsExpr e

-- what stands in a statement can be read again
abbrev mutual
  pub FitsStmt : StmtTree → Type 0
  FitsStmt (define name e) = FitsExpr e
  FitsStmt (set name op e) = FitsExpr e
  FitsStmt (run name es) = AllByRecursion FitsExpr es
  FitsStmt (put t to) = FitsThing t
  FitsStmt (discard over) = Unit {0}
  FitsStmt (cut e) = FitsExpr e
  FitsStmt (plain w) = Unit {0}
  FitsStmt (choice e taken other) = FitsExpr e × FitsBody taken × FitsBody other
  FitsStmt (repeat e body) = FitsOption e × FitsBody body
  FitsStmt (walk name index over body) = FitsBody body
  FitsStmt (log is_conn t) = FitsText t

  pub FitsBody : BodyTree → Type 0
  FitsBody nothing = Unit {0}
  FitsBody (first s rest) = FitsStmt s × FitsBody rest

-- how many calls are in one another where a statement is read, a block, and what follows `else`
abbrev mutual
  pub stmt_calls : StmtTree → ℕ
  stmt_calls (set name op e) = 1
  stmt_calls (run name es) = 1
  stmt_calls (choice e taken other) = max (body_calls taken) (other_calls other) + 3
  stmt_calls (repeat e body) = body_calls body + 2
  stmt_calls (walk name index over body) = body_calls body + 3
  stmt_calls (define name e) = 2
  stmt_calls (put t to) = 2
  stmt_calls (discard over) = 2
  stmt_calls (cut e) = 2
  stmt_calls (plain w) = 2
  stmt_calls (log is_conn t) = 2

  pub body_calls : BodyTree → ℕ
  body_calls nothing = 1
  body_calls (first s rest) = max (stmt_calls s + 1) (body_calls rest)

  pub other_calls : BodyTree → ℕ
  other_calls nothing = 0
  other_calls (first s rest) = if is_nothing rest && is_choice s then stmt_calls s - 2 else max (stmt_calls s + 1) (body_calls rest)

abbrev pub FitsDecl : DeclTree → Type 0
FitsDecl (var name is_conn e) = FitsExpr e
FitsDecl (hold name is_conn limit) = FitsOption limit
FitsDecl (constant name e) = FitsExpr e
FitsDecl (param_number name e) = FitsExpr e
FitsDecl (param_text name bytes) = FitsText (quoted bytes)
FitsDecl (table name t) = FitsText t
FitsDecl (def name params body) = FitsBody body × (body_calls body ≤ 512)

abbrev pub FitsTrigger : TriggerTree → Type 0
FitsTrigger (event e) = Unit {0}
FitsTrigger (byte name) = Unit {0}
FitsTrigger (pattern t) = FitsText t

abbrev pub FitsHandler : HandlerTree → Type 0
FitsHandler h = FitsTrigger h.on × FitsBody h.body × (body_calls h.body ≤ 512)

-- a filter whose text can be read again
abbrev pub FitsSource : SourceTree → Type 0
FitsSource s = AllByRecursion FitsDecl s.decls × AllByRecursion FitsHandler s.handlers
