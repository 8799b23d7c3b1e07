-- The tokens that the printed text of a tree has, in order.
use Rattle.std.specs.Prelude.{ℕ, Bool, true, false, ◌&&◌, List, [], ◌∷◌, ◌++◌, Option, Some, None, option_map, codes, if◌then◌else◌}
use Rattle.std.specs.List.{flat_map, join_by}
use Rattle.byte_text.specs.Quoted.{spelled_all}
use Rattle.author_text.specs.declared.source.Plain.{Plain}
use Rattle.author_text.specs.declared.source.SetOp.{SetOp}
use Rattle.author_text.specs.declared.source.SetOp.TheVariants as change
use Rattle.author_text.specs.declared.tree.Event.{Event}
use Rattle.author_text.specs.Trees.{ExprTree}
use Rattle.author_text.specs.Trees.{TextTree, quoted, param, ThingTree, words, it, copy, decimals, part, value}
use Rattle.author_text.specs.Trees.{StmtTree, BodyTree, define, set, run, put, discard, cut, plain, choice, repeat, walk, log, nothing, first}
use Rattle.author_text.specs.Trees.{DeclTree, var, hold, constant, param_number, param_text, table, def}
use Rattle.author_text.specs.Trees.{TriggerTree, event, byte, pattern, HandlerTree, SourceTree}
use Rattle.author_text.specs.PrintedSource.{plain_text, event_text, is_choice, is_nothing}
use Rattle.author_text.specs.Tokens.{TokenTree, quoted_token, name_token, word_token, mark_token, hold_or_it_token, expr_tokens}
use Rattle.author_text.specs.Words.{is_word}

-- a text in quotes as it is spelled, or a name
abbrev pub text_token : TextTree → TokenTree
text_token (quoted bytes) = quoted_token (spelled_all bytes)
text_token (param name) = name_token name

abbrev pub change_token : SetOp → TokenTree
change_token change.Becomes = mark_token (codes "=")
change_token change.Add = mark_token (codes "+=")
change_token change.Sub = mark_token (codes "-=")

abbrev pub thing_tokens : ThingTree → List TokenTree
thing_tokens (words t) = text_token t ∷ []
thing_tokens (it false) = word_token (codes "it") ∷ []
thing_tokens (it true) = word_token (codes "copy") ∷ word_token (codes "it") ∷ []
thing_tokens (copy name) = word_token (codes "copy") ∷ name_token name ∷ []
thing_tokens (decimals e) = word_token (codes "decimal") ∷ mark_token (codes "(") ∷ expr_tokens e ++ mark_token (codes ")") ∷ []
thing_tokens (part e name) = expr_tokens e ++ word_token (codes "of") ∷ name_token name ∷ []
thing_tokens (value e) = expr_tokens e

-- in brackets, with commas between them
abbrev pub listed_tokens : {A : Type 0} → (A → List TokenTree) → List A → List TokenTree
listed_tokens shown xs = mark_token (codes "(") ∷ join_by shown (mark_token (codes ",") ∷ []) xs ++ mark_token (codes ")") ∷ []

-- a word, and a name behind it, where there is one
abbrev pub optional_tokens : List ℕ → Option (List ℕ) → List TokenTree
optional_tokens before None = []
optional_tokens before (Some name) = word_token before ∷ name_token name ∷ []

abbrev pub put_token : Option (List ℕ) → TokenTree
put_token None = word_token (codes "emit")
put_token (Some name) = word_token (codes "keep")

abbrev pub conn_tokens : Bool → List TokenTree
conn_tokens true = word_token (codes "conn") ∷ []
conn_tokens false = []

abbrev pub block_tokens : List TokenTree → List TokenTree
block_tokens ts = mark_token (codes "{") ∷ ts ++ mark_token (codes "}") ∷ []

abbrev pub repeat_tokens : Option ExprTree → List TokenTree
repeat_tokens None = word_token (codes "loop") ∷ []
repeat_tokens (Some e) = word_token (codes "while") ∷ expr_tokens e

abbrev pub walk_tokens : List ℕ → Option (List ℕ) → Option (List ℕ) → List TokenTree
walk_tokens name index over =
    word_token (codes "for") ∷ word_token (codes "byte") ∷ name_token name ∷ optional_tokens (codes "at") index
    ++ word_token (codes "in") ∷ hold_or_it_token over ∷ []

abbrev mutual
  pub stmt_tokens : StmtTree → List TokenTree
  stmt_tokens (define name e) = word_token (codes "let") ∷ name_token name ∷ mark_token (codes "=") ∷ expr_tokens e
  stmt_tokens (set name op e) = name_token name ∷ change_token op ∷ expr_tokens e
  stmt_tokens (run name es) = name_token name ∷ listed_tokens expr_tokens es
  stmt_tokens (put t to) = put_token to ∷ thing_tokens t ++ optional_tokens (codes "in") to
  stmt_tokens (discard over) = word_token (codes "drop") ∷ hold_or_it_token over ∷ []
  stmt_tokens (cut e) = word_token (codes "cut") ∷ word_token (codes "it") ∷ word_token (codes "at") ∷ expr_tokens e
  stmt_tokens (plain w) = word_token (plain_text w) ∷ []
  stmt_tokens (choice e taken other) = word_token (codes "if") ∷ expr_tokens e ++ block_tokens (body_tokens taken) ++ other_tokens other
  stmt_tokens (repeat e body) = repeat_tokens e ++ block_tokens (body_tokens body)
  stmt_tokens (walk name index over body) = walk_tokens name index over ++ block_tokens (body_tokens body)
  stmt_tokens (log is_conn t) = word_token (codes "log") ∷ conn_tokens is_conn ++ text_token t ∷ []

  pub body_tokens : BodyTree → List TokenTree
  body_tokens nothing = []
  body_tokens (first s rest) = stmt_tokens s ++ body_tokens rest

  -- `else`, where anything follows it: an `if` alone stands there without brackets
  pub other_tokens : BodyTree → List TokenTree
  other_tokens nothing = []
  other_tokens (first s rest) =
      word_token (codes "else") ∷ (if is_nothing rest && is_choice s then stmt_tokens s else block_tokens (stmt_tokens s ++ body_tokens rest))

-- `most` is a name elsewhere
abbrev pub limit_tokens : Option ExprTree → List TokenTree
limit_tokens None = []
limit_tokens (Some e) = word_token (codes "at") ∷ name_token (codes "most") ∷ expr_tokens e

abbrev pub decl_tokens : DeclTree → List TokenTree
decl_tokens (var name is_conn e) = conn_tokens is_conn ++ word_token (codes "var") ∷ name_token name ∷ mark_token (codes "=") ∷ expr_tokens e
decl_tokens (hold name is_conn limit) = conn_tokens is_conn ++ word_token (codes "hold") ∷ name_token name ∷ limit_tokens limit
decl_tokens (constant name e) = word_token (codes "const") ∷ name_token name ∷ mark_token (codes "=") ∷ expr_tokens e
decl_tokens (param_number name e) = word_token (codes "param") ∷ name_token name ∷ mark_token (codes "=") ∷ expr_tokens e
decl_tokens (param_text name bytes) = word_token (codes "param") ∷ name_token name ∷ mark_token (codes "=") ∷ quoted_token (spelled_all bytes) ∷ []
decl_tokens (table name t) = word_token (codes "table") ∷ name_token name ∷ mark_token (codes "=") ∷ text_token t ∷ []
decl_tokens (def name params body) =
    word_token (codes "def") ∷ name_token name ∷ listed_tokens (λ n. name_token n ∷ []) params ++ block_tokens (body_tokens body)

abbrev pub trigger_tokens : TriggerTree → List TokenTree
trigger_tokens (event e) = word_token (codes "on") ∷ word_token (event_text e) ∷ []
trigger_tokens (byte name) = word_token (codes "on") ∷ word_token (codes "byte") ∷ name_token name ∷ []
trigger_tokens (pattern t) = word_token (codes "on") ∷ word_token (codes "match") ∷ text_token t ∷ []

abbrev pub handler_tokens : HandlerTree → List TokenTree
handler_tokens h = trigger_tokens h.on ++ block_tokens (body_tokens h.body)

-- what stands behind `filter`: a word may be the name of a filter
abbrev pub filter_name_token : List ℕ → TokenTree
filter_name_token name = if is_word name then word_token name else name_token name

-- the tokens of a filter
abbrev pub printed_tokens : SourceTree → List TokenTree
printed_tokens s =
    word_token (codes "filter") ∷ filter_name_token s.name ∷ flat_map decl_tokens s.decls ++ flat_map handler_tokens s.handlers
