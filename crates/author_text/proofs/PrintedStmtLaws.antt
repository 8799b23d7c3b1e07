-- The printed text of statements and declarations has their tokens.
use Rattle.std.proofs.Common.{◌≡◌, ℕ, Bool, true, false, ◌&&◌, List, [], ◌∷◌, ◌++◌, Option, Some, None, refl, sym, ◌∙◌, ap, subst, append_assoc, append-nil, codes, cond}
use Rattle.std.specs.List.{flat_map}
use Rattle.std.specs.Option.{option_map}
use Rattle.byte_text.specs.Quoted.{spelling, spelled_all}
use Rattle.author_text.specs.declared.source.Plain.{Plain}
use Rattle.author_text.specs.declared.source.Plain.TheVariants as word
use Rattle.author_text.specs.declared.source.SetOp.{SetOp}
use Rattle.author_text.specs.declared.source.SetOp.TheVariants as change
use Rattle.author_text.specs.declared.tree.Event.{Event}
use Rattle.author_text.specs.declared.tree.Event.TheVariants as events
use Rattle.author_text.specs.Printed.{expr_text, hold_or_it}
use Rattle.author_text.specs.PrintedSource.{text_text, plain_text, change_text, event_text, thing_text, listed, optional_text, conn_text, block_of, repeat_text, walk_text, is_nothing, is_choice}
use Rattle.author_text.specs.PrintedSource.{stmt_text, body_text, other_text, decl_text, trigger_text, handler_text, line, source_text}
use Rattle.author_text.specs.PrintedTokens.{text_token, change_token, thing_tokens, listed_tokens, optional_tokens, conn_tokens, block_tokens, repeat_tokens, walk_tokens}
use Rattle.author_text.specs.PrintedTokens.{stmt_tokens, body_tokens, other_tokens, limit_tokens, decl_tokens, trigger_tokens, handler_tokens, filter_name_token, printed_tokens}
use Rattle.author_text.specs.TextTokens.{tokens_of}
use Rattle.author_text.specs.Tokens.{TokenTree, name_token, word_token, mark_token, quoted_token, hold_or_it_token, expr_tokens}
use Rattle.author_text.specs.Trees.{ExprTree}
use Rattle.author_text.specs.Trees.{TextTree, quoted, param, ThingTree, words, it, copy, decimals, part, value}
use Rattle.author_text.specs.Trees.{StmtTree, BodyTree, define, set, run, put, discard, cut, plain, choice, repeat, walk, log, nothing, first}
use Rattle.author_text.specs.Trees.{DeclTree, var, hold, constant, param_number, param_text, table, def}
use Rattle.author_text.specs.Trees.{TriggerTree, event, byte, pattern, HandlerTree, SourceTree}
use Rattle.author_text.specs.Writable.{Each, AllBytes, IsNameIfAny, WritableExpr, WritableIfAny, WritableText}
use Rattle.author_text.specs.Writable.{WritableThing, WritableStmt, WritableBody, WritableDecl, WritableTrigger, WritableHandler, WritableSource}
use Rattle.author_text.specs.Words.{IsNameText}
use Rattle.author_text.proofs.PieceLaws.{ReadsAs, ReadsAny, any_any, any_as, as_any, as_as, weak, as_space, as_line, nothing_reads, whole_reads, begins_apart, stops}
use Rattle.author_text.proofs.PieceLaws.{name_reads, word_reads, word_space, spaced_word, mark_reads, pair_reads, space_reads, line_end_reads, filter_name_reads}
use Rattle.author_text.proofs.PieceLaws.{open_reads, close_reads, open_block_reads, close_block_reads}
use Rattle.author_text.proofs.PrintedTokensLaws.{hold_or_it_reads, expr_reads, listed_reads}
use Rattle.author_text.proofs.QuotedLaws.{quoted_reads}

text_reads : (t : TextTree) → WritableText t → ReadsAs (text_text t) (text_token t ∷ [])
text_reads (quoted bytes) h = weak (quoted_reads bytes h)
text_reads (param name) h = name_reads name h

plain_reads : (w : Plain) → ReadsAs (plain_text w) (word_token (plain_text w) ∷ [])
plain_reads word.Flush = word_reads (codes "flush") refl refl
plain_reads word.Pass = word_reads (codes "pass") refl refl
plain_reads word.End = word_reads (codes "end") refl refl
plain_reads word.Fail = word_reads (codes "fail") refl refl
plain_reads word.Leave = word_reads (codes "leave") refl refl
plain_reads word.Next = word_reads (codes "next") refl refl
plain_reads word.Break = word_reads (codes "break") refl refl
plain_reads word.Continue = word_reads (codes "continue") refl refl

event_reads : (e : Event) → ReadsAs (event_text e) (word_token (event_text e) ∷ [])
event_reads events.Start = word_reads (codes "start") refl refl
event_reads events.Call = word_reads (codes "call") refl refl
event_reads events.Bucket = word_reads (codes "bucket") refl refl
event_reads events.Flush = word_reads (codes "flush") refl refl
event_reads events.Return = word_reads (codes "return") refl refl
event_reads events.Eos = word_reads (codes "eos") refl refl

equals_reads : ReadsAny (codes " = ") (mark_token (codes "=") ∷ [])
equals_reads = any_any space_reads (mark_reads 61 (λ rest. refl))

-- a change of a number, behind a name
changed_reads : {a : List ℕ} {x : List TokenTree} (o : SetOp) → ReadsAs a x → ReadsAny (a ++ change_text o) (x ++ change_token o ∷ [])
changed_reads change.Becomes p = as_any p equals_reads refl
changed_reads change.Add p = as_any p (any_any space_reads (pair_reads 43 61 (λ rest. refl))) refl
changed_reads change.Sub p = as_any p (any_any space_reads (pair_reads 45 61 (λ rest. refl))) refl

thing_reads : (t : ThingTree) → WritableThing t → ReadsAs (thing_text t) (thing_tokens t)
thing_reads (words t) h = text_reads t h
thing_reads (it false) h = word_reads (codes "it") refl refl
thing_reads (it true) h = any_as (word_space (codes "copy") refl refl) (word_reads (codes "it") refl refl)
thing_reads (copy name) h = any_as (word_space (codes "copy") refl refl) (name_reads name h)
thing_reads (decimals e) h = weak (as_any (any_as (as_any (word_reads (codes "decimal") refl refl) open_reads refl) (expr_reads e h)) close_reads refl)
thing_reads (part e name) h =
    subst (λ ts. ReadsAs (thing_text (part e name)) ts) (append_assoc (expr_tokens e) (word_token (codes "of") ∷ []) (name_token name ∷ []))
    (any_as (as_any (expr_reads e h.0) (spaced_word (codes "of") refl refl) refl) (name_reads name h.1))
thing_reads (value e) h = expr_reads e h

-- a name behind a word between blanks, where there is one
optional_reads : (w : List ℕ) → ReadsAny (codes " " ++ (w ++ codes " ")) (word_token w ∷ []) → (name : Option (List ℕ)) → IsNameIfAny name
    → ReadsAs (optional_text (codes " " ++ (w ++ codes " ")) name) (optional_tokens w name)
optional_reads w p None h = weak nothing_reads
optional_reads w p (Some name) h = any_as p (name_reads name h)

optional_stop : (before : List ℕ) (name : Option (List ℕ)) → stops (optional_text (codes " " ++ before) name) ≡ true
optional_stop before None = refl
optional_stop before (Some name) = refl

conn_reads : (b : Bool) → ReadsAny (conn_text b) (conn_tokens b)
conn_reads true = word_space (codes "conn") refl refl
conn_reads false = nothing_reads

block_reads : {lines : List ℕ} {ts : List TokenTree} → ReadsAny lines ts → ReadsAny (block_of lines) (block_tokens ts)
block_reads p = any_any (any_any (any_any open_block_reads line_end_reads) p) close_block_reads

repeat_reads : (e : Option ExprTree) → WritableIfAny e → ReadsAny (repeat_text e) (repeat_tokens e)
repeat_reads None h = word_space (codes "loop") refl refl
repeat_reads (Some e) h = as_space (any_as (word_space (codes "while") refl refl) (expr_reads e h))

walk_reads : (name : List ℕ) (index over : Option (List ℕ)) → IsNameText name → IsNameIfAny index → IsNameIfAny over → ReadsAs (walk_text name index over) (walk_tokens name index over)
walk_reads name index over n i o =
    let front = any_as (any_any (word_space (codes "for") refl refl) (word_space (codes "byte") refl refl)) (name_reads name n) in
    let indexed = as_as front (optional_reads (codes "at") (spaced_word (codes "at") refl refl) index i) (optional_stop (codes "at ") index) in
    subst (λ ts. ReadsAs (walk_text name index over) ts)
    (append_assoc (word_token (codes "for") ∷ word_token (codes "byte") ∷ name_token name ∷ optional_tokens (codes "at") index) (word_token (codes "in") ∷ []) (hold_or_it_token over ∷ []))
    (any_as (as_any indexed (spaced_word (codes "in") refl refl) refl) (hold_or_it_reads over o))

put_reads : (t : ThingTree) (to : Option (List ℕ)) → WritableThing t → IsNameIfAny to → ReadsAs (stmt_text (put t to)) (stmt_tokens (put t to))
put_reads t None h n = as_as (any_as (word_space (codes "emit") refl refl) (thing_reads t h)) (weak nothing_reads) refl
put_reads t (Some name) h n =
    as_as (any_as (word_space (codes "keep") refl refl) (thing_reads t h)) (optional_reads (codes "in") (spaced_word (codes "in") refl refl) (Some name) n) refl

-- `else`, and an `if` alone or a block
else_reads : (v : Bool) {a b : List ℕ} {x y : List TokenTree} → ReadsAs a x → ReadsAny b y → ReadsAs (codes " else " ++ cond v a b) (word_token (codes "else") ∷ cond v x y)
else_reads true p q = any_as (spaced_word (codes "else") refl refl) p
else_reads false p q = any_as (spaced_word (codes "else") refl refl) (weak q)

other_stop : (b : BodyTree) → stops (other_text b) ≡ true
other_stop nothing = refl
other_stop (first s rest) = refl

mutual
  pub stmt_reads : (s : StmtTree) → WritableStmt s → ReadsAs (stmt_text s) (stmt_tokens s)
  stmt_reads (define name e) h = any_as (as_any (any_as (word_space (codes "let") refl refl) (name_reads name h.0)) equals_reads refl) (expr_reads e h.1)
  stmt_reads (set name o e) h = any_as (changed_reads o (name_reads name h.0)) (expr_reads e h.1)
  stmt_reads (run name es) h = weak (as_any (name_reads name h.0) (listed_reads expr_text expr_tokens WritableExpr expr_reads es h.1) refl)
  stmt_reads (put t to) h = put_reads t to h.0 h.1
  stmt_reads (discard over) h = any_as (word_space (codes "drop") refl refl) (hold_or_it_reads over h)
  stmt_reads (cut e) h = any_as (any_any (any_any (word_space (codes "cut") refl refl) (word_space (codes "it") refl refl)) (word_space (codes "at") refl refl)) (expr_reads e h)
  stmt_reads (plain w) h = plain_reads w
  stmt_reads (choice e taken other) h =
      any_as (any_any (as_space (any_as (word_space (codes "if") refl refl) (expr_reads e h.0))) (block_reads (body_reads taken h.1))) (other_reads other h.2)
  stmt_reads (repeat e body) h = weak (any_any (repeat_reads e h.0) (block_reads (body_reads body h.1)))
  stmt_reads (walk name index over body) h = weak (any_any (as_space (walk_reads name index over h.0 h.1 h.2)) (block_reads (body_reads body h.3)))
  stmt_reads (log is_conn t) h = any_as (any_any (word_space (codes "log") refl refl) (conn_reads is_conn)) (text_reads t h)

  pub body_reads : (b : BodyTree) → WritableBody b → ReadsAny (body_text b) (body_tokens b)
  body_reads nothing h = nothing_reads
  body_reads (first s rest) h = any_any (as_line (stmt_reads s h.0)) (body_reads rest h.1)

  pub other_reads : (b : BodyTree) → WritableBody b → ReadsAs (other_text b) (other_tokens b)
  other_reads nothing h = weak nothing_reads
  other_reads (first s rest) h =
      else_reads (is_nothing rest && is_choice s) (stmt_reads s h.0) (block_reads (any_any (as_line (stmt_reads s h.0)) (body_reads rest h.1)))

-- a word, a name and `=`
named_reads : (w name : List ℕ) → ReadsAny (w ++ codes " ") (word_token w ∷ []) → IsNameText name
    → ReadsAny (w ++ codes " " ++ name ++ codes " = ") (word_token w ∷ name_token name ∷ mark_token (codes "=") ∷ [])
named_reads w name p n = as_any (any_as p (name_reads name n)) equals_reads refl

decl_reads : (d : DeclTree) → WritableDecl d → ReadsAs (decl_text d) (decl_tokens d)
decl_reads (var name is_conn e) h =
    subst (λ ts. ReadsAs (decl_text (var name is_conn e)) ts)
    (ap (λ ts. ts ++ expr_tokens e) (append_assoc (conn_tokens is_conn ++ word_token (codes "var") ∷ []) (name_token name ∷ []) (mark_token (codes "=") ∷ [])
    ∙ append_assoc (conn_tokens is_conn) (word_token (codes "var") ∷ []) (name_token name ∷ mark_token (codes "=") ∷ []))
    ∙ append_assoc (conn_tokens is_conn) (word_token (codes "var") ∷ name_token name ∷ mark_token (codes "=") ∷ []) (expr_tokens e))
    (any_as (as_any (any_as (any_any (conn_reads is_conn) (word_space (codes "var") refl refl)) (name_reads name h.0)) equals_reads refl) (expr_reads e h.1))
decl_reads (hold name is_conn limit) h =
    subst (λ ts. ReadsAs (decl_text (hold name is_conn limit)) ts)
    (ap (λ ts. ts ++ limit_tokens limit) (append_assoc (conn_tokens is_conn) (word_token (codes "hold") ∷ []) (name_token name ∷ []))
    ∙ append_assoc (conn_tokens is_conn) (word_token (codes "hold") ∷ name_token name ∷ []) (limit_tokens limit))
    (as_as (any_as (any_any (conn_reads is_conn) (word_space (codes "hold") refl refl)) (name_reads name h.0)) (limit_reads limit h.1) (limit_stop limit))
  where
    limit_reads : (l : Option ExprTree) → WritableIfAny l → ReadsAs (optional_text (codes " at most ") (option_map expr_text l)) (limit_tokens l)
    limit_reads None h = weak nothing_reads
    limit_reads (Some e) h = any_as (any_any (spaced_word (codes "at") refl refl) (as_space (name_reads (codes "most") (refl, refl)))) (expr_reads e h)

    limit_stop : (l : Option ExprTree) → stops (optional_text (codes " at most ") (option_map expr_text l)) ≡ true
    limit_stop None = refl
    limit_stop (Some e) = refl
decl_reads (constant name e) h = any_as (named_reads (codes "const") name (word_space (codes "const") refl refl) h.0) (expr_reads e h.1)
decl_reads (param_number name e) h = any_as (named_reads (codes "param") name (word_space (codes "param") refl refl) h.0) (expr_reads e h.1)
decl_reads (param_text name bytes) h = weak (any_any (named_reads (codes "param") name (word_space (codes "param") refl refl) h.0) (quoted_reads bytes h.1))
decl_reads (table name t) h = any_as (named_reads (codes "table") name (word_space (codes "table") refl refl) h.0) (text_reads t h.1)
decl_reads (def name params body) h =
    weak (any_any (as_space (weak (as_any (any_as (word_space (codes "def") refl refl) (name_reads name h.0)) (listed_reads (λ n. n)
    (λ n. name_token n ∷ []) IsNameText name_reads params h.1) refl)))
    (block_reads (body_reads body h.2)))

trigger_reads : (t : TriggerTree) → WritableTrigger t → ReadsAs (trigger_text t) (trigger_tokens t)
trigger_reads (event e) h = any_as (word_space (codes "on") refl refl) (event_reads e)
trigger_reads (byte name) h = any_as (any_any (word_space (codes "on") refl refl) (word_space (codes "byte") refl refl)) (name_reads name h)
trigger_reads (pattern t) h = any_as (any_any (word_space (codes "on") refl refl) (word_space (codes "match") refl refl)) (text_reads t h)

handler_reads : (h : HandlerTree) → WritableHandler h → ReadsAs (handler_text h) (handler_tokens h)
handler_reads h is = weak (any_any (as_space (trigger_reads h.on is.0)) (block_reads (body_reads h.body is.1)))

lines_reads : {A : Type 0} (shown : A → List ℕ) (tokens : A → List TokenTree) (P : A → Type 0) → ((x : A) → P x → ReadsAs (shown x) (tokens x)) → (xs : List A) → Each P xs
    → ReadsAny (flat_map (λ x. line (shown x)) xs) (flat_map tokens xs)
lines_reads shown tokens P p [] h = nothing_reads
lines_reads shown tokens P p (x ∷ xs) h = any_any (as_line (p x h.0)) (lines_reads shown tokens P p xs h.1)

-- the printed text of a filter has the filter's tokens
pub source_reads : (s : SourceTree) → WritableSource s → tokens_of (source_text s) ≡ Some (printed_tokens s)
unfolding tokens_of
source_reads s h =
    whole_reads (any_any (any_any (as_line (any_as (word_space (codes "filter") refl refl) (filter_name_reads s.name h.0))) (lines_reads decl_text decl_tokens WritableDecl decl_reads s.decls h.1))
    (lines_reads handler_text handler_tokens WritableHandler handler_reads s.handlers h.2))
