-- A filter as a tree, apart from where its parts stand in a text.
use Rattle.std.specs.Prelude.{ℕ, Bool, List, [], ◌∷◌, Option, option_map, map}
use Rattle.author_text.specs.declared.source.BinaryOp.{BinaryOp}
use Rattle.author_text.specs.declared.source.Plain.{Plain}
use Rattle.author_text.specs.declared.source.SetOp.{SetOp}
use Rattle.author_text.specs.declared.source.Name.{Name}
use Rattle.author_text.specs.declared.source.Text.{Text}
use Rattle.author_text.specs.declared.source.Text.TheVariants as text
use Rattle.author_text.specs.declared.source.Thing.{Thing}
use Rattle.author_text.specs.declared.source.Thing.TheVariants as thing
use Rattle.author_text.specs.declared.source.Expr.{Expr}
use Rattle.author_text.specs.declared.source.Expr.TheOpen as expr
use Rattle.author_text.specs.declared.source.Expr.TheFolds.{fold-Expr}
use Rattle.author_text.specs.declared.source.Stmt.{Stmt}
use Rattle.author_text.specs.declared.source.Stmt.TheOpen as stmt
use Rattle.author_text.specs.declared.source.Stmt.TheFolds.{fold-Stmt}
use Rattle.author_text.specs.declared.source.Setting.{Setting}
use Rattle.author_text.specs.declared.source.Setting.TheVariants as setting
use Rattle.author_text.specs.declared.source.Decl.{Decl}
use Rattle.author_text.specs.declared.source.Decl.TheVariants as decl
use Rattle.author_text.specs.declared.source.Trigger.{Trigger}
use Rattle.author_text.specs.declared.source.Trigger.TheVariants as trigger
use Rattle.author_text.specs.declared.source.Handler.{Handler}
use Rattle.author_text.specs.declared.source.Source.{Source}
use Rattle.author_text.specs.declared.tree.Event.{Event}

-- a number or a condition; where a hold may be `it`, no name is `it`
pub data ExprTree : Type 0 where
  number : ℕ → ExprTree
  variable : List ℕ → ExprTree
  size : Option (List ℕ) → ExprTree
  empty : List ℕ → ExprTree
  has : List ℕ → ExprTree → ExprTree
  look : List ℕ → ExprTree → ExprTree
  negation : ExprTree → ExprTree
  binary : BinaryOp → ExprTree → ExprTree → ExprTree

-- a text in quotes, by its bytes, or the name of a `param`
pub data TextTree : Type 0 where
  quoted : List ℕ → TextTree
  param : List ℕ → TextTree

-- what is emitted or kept; `it` may be a copy
pub data ThingTree : Type 0 where
  words : TextTree → ThingTree
  it : Bool → ThingTree
  copy : List ℕ → ThingTree
  decimals : ExprTree → ThingTree
  part : ExprTree → List ℕ → ThingTree
  value : ExprTree → ThingTree

mutual
  pub data StmtTree : Type 0 where
    define : List ℕ → ExprTree → StmtTree
    set : List ℕ → SetOp → ExprTree → StmtTree
    run : List ℕ → List ExprTree → StmtTree
    put : ThingTree → Option (List ℕ) → StmtTree
    discard : Option (List ℕ) → StmtTree
    cut : ExprTree → StmtTree
    plain : Plain → StmtTree
    choice : ExprTree → BodyTree → BodyTree → StmtTree
    repeat : Option ExprTree → BodyTree → StmtTree
    walk : List ℕ → Option (List ℕ) → Option (List ℕ) → BodyTree → StmtTree
    log : Bool → TextTree → StmtTree

  -- statements, one after another
  pub data BodyTree : Type 0 where
    nothing : BodyTree
    first : StmtTree → BodyTree → BodyTree

pub data DeclTree : Type 0 where
  var : List ℕ → Bool → ExprTree → DeclTree
  hold : List ℕ → Bool → Option ExprTree → DeclTree
  constant : List ℕ → ExprTree → DeclTree
  param_number : List ℕ → ExprTree → DeclTree
  param_text : List ℕ → List ℕ → DeclTree
  table : List ℕ → TextTree → DeclTree
  def : List ℕ → List (List ℕ) → BodyTree → DeclTree

pub data TriggerTree : Type 0 where
  event : Event → TriggerTree
  byte : List ℕ → TriggerTree
  pattern : TextTree → TriggerTree

pub record HandlerTree : Type 0 where
  pub on : TriggerTree
  pub body : BodyTree

pub record SourceTree : Type 0 where
  pub name : List ℕ
  pub decls : List DeclTree
  pub handlers : List HandlerTree

-- the bytes of a name
abbrev pub name_of : Name → List ℕ
name_of n = n.text.now

abbrev pub names_of : Option Name → Option (List ℕ)
names_of n = option_map name_of n

abbrev pub expr_step : expr.Expr-F ExprTree → ExprTree
expr_step (expr.Number n place) = number n
expr_step (expr.Name n) = variable (name_of n)
expr_step (expr.Size of place) = size (names_of of)
expr_step (expr.Empty n place) = empty (name_of n)
expr_step (expr.Has n e place) = has (name_of n) e.value
expr_step (expr.Look n e) = look (name_of n) e.value
expr_step (expr.Not e place) = negation e.value
expr_step (expr.Binary op left right place) = binary op left.value right.value

-- the tree of an expression
abbrev pub expr_of : Expr → ExprTree
expr_of = fold-Expr ExprTree expr_step

abbrev pub text_of : Text → TextTree
text_of (text.Quoted bytes place) = quoted bytes.items
text_of (text.Param n) = param (name_of n)

abbrev pub thing_of : Thing → ThingTree
thing_of (thing.Text t) = words (text_of t)
thing_of (thing.It is_copy place) = it is_copy
thing_of (thing.Copy n) = copy (name_of n)
thing_of (thing.Decimal e) = decimals (expr_of e)
thing_of (thing.Part e n) = part (expr_of e) (name_of n)
thing_of (thing.Number e place) = value (expr_of e)

abbrev pub body_of : List StmtTree → BodyTree
body_of [] = nothing
body_of (s ∷ ss) = first s (body_of ss)

abbrev pub stmt_step : stmt.Stmt-F StmtTree → StmtTree
stmt_step (stmt.Let n e) = define (name_of n) (expr_of e)
stmt_step (stmt.Set n op e) = set (name_of n) op (expr_of e)
stmt_step (stmt.Run n es) = run (name_of n) (map expr_of es.items)
stmt_step (stmt.Put t to place) = put (thing_of t) (names_of to)
stmt_step (stmt.Drop n place) = discard (names_of n)
stmt_step (stmt.Cut e place) = cut (expr_of e)
stmt_step (stmt.Plain word place) = plain word
stmt_step (stmt.If e taken other place) = choice (expr_of e) (body_of taken.items) (body_of other.items)
stmt_step (stmt.While e body place) = repeat (option_map expr_of e) (body_of body.items)
stmt_step (stmt.For b i over body place) = walk (name_of b) (names_of i) (names_of over) (body_of body.items)
stmt_step (stmt.Log is_conn t place) = log is_conn (text_of t)

-- the tree of a statement
abbrev pub stmt_of : Stmt → StmtTree
stmt_of = fold-Stmt StmtTree stmt_step

abbrev pub stmts_of : List Stmt → BodyTree
stmts_of ss = body_of (map stmt_of ss)

abbrev pub param_of : List ℕ → Setting → DeclTree
param_of n (setting.Number e) = param_number n (expr_of e)
param_of n (setting.Text bytes) = param_text n bytes.items

abbrev pub decl_of : Decl → DeclTree
decl_of (decl.Var n is_conn e) = var (name_of n) is_conn (expr_of e)
decl_of (decl.Hold n is_conn e) = hold (name_of n) is_conn (option_map expr_of e)
decl_of (decl.Const n e) = constant (name_of n) (expr_of e)
decl_of (decl.Param n s) = param_of (name_of n) s
decl_of (decl.Table n t) = table (name_of n) (text_of t)
decl_of (decl.Def d) = def (name_of d.name) (map name_of d.params.items) (stmts_of d.body.items)

abbrev pub trigger_of : Trigger → TriggerTree
trigger_of (trigger.Event e) = event e
trigger_of (trigger.Byte n) = byte (name_of n)
trigger_of (trigger.Match t) = pattern (text_of t)

abbrev pub handler_of : Handler → HandlerTree
handler_of h = record { on = trigger_of h.on; body = stmts_of h.body.items }

-- the tree of a filter
abbrev pub source_of : Source → SourceTree
source_of s = record { name = s.name.now; decls = map decl_of s.decls.items; handlers = map handler_of s.handlers.items }
