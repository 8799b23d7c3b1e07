-- How tokens are read as a filter.
use Rattle.std.specs.Prelude.{ℕ, ◌+◌, Bool, true, false, ◌||◌, List, [], ◌∷◌, Option, Some, None, length, bytes_eq, codes, if◌then◌else◌}
use Rattle.std.specs.List.{find}
use Rattle.author_text.specs.declared.tree.Event.{Event}
use Rattle.author_text.specs.declared.tree.Event.TheVariants as events
use Rattle.author_text.specs.PrintedSource.{event_text}
use Rattle.author_text.specs.ReadExprs.{read_expr}
use Rattle.author_text.specs.ReadStmts.{read_block}
use Rattle.author_text.specs.ReadTexts.{read_items, read_list, read_name_is, read_quoted, read_text}
use Rattle.author_text.specs.Tokens.{TokenTree, name_token, word_token}
use Rattle.author_text.specs.Trees.{ExprTree, DeclTree, var, hold, constant, param_number, param_text, table, def, body_of}
use Rattle.author_text.specs.Trees.{TriggerTree, event, byte, pattern, HandlerTree, SourceTree}
use Rattle.author_text.specs.UnreadTokens.{UnreadTokens, next_token, passed, refused, is_at, is_end_token, is_quoted_token, eaten, needed, read_name, read_new_name, unhyphened}

abbrev pub ReadDecl : Type 0
ReadDecl = DeclTree × UnreadTokens

abbrev pub filter_name_at : TokenTree → UnreadTokens → List ℕ × UnreadTokens
filter_name_at (word_token w) u = (w, passed u)
filter_name_at _ u = read_name u

-- the name of a filter may be a word
unfoldable pub read_filter_name : UnreadTokens → List ℕ × UnreadTokens
read_filter_name u = let n = filter_name_at (next_token u) u in (n.0, unhyphened n.1)

abbrev pub most_at : TokenTree → UnreadTokens → UnreadTokens
most_at (name_token name) u = if bytes_eq name (codes "most") then passed u else refused u
most_at _ u = refused u

-- `most`, which is a name elsewhere
unfoldable pub needed_most : UnreadTokens → UnreadTokens
needed_most u = most_at (next_token u) u

abbrev pub some_limit : ExprTree × UnreadTokens → Option ExprTree × UnreadTokens
some_limit x = (Some x.0, x.1)

unfoldable pub read_limit : UnreadTokens → Option ExprTree × UnreadTokens
read_limit u = if is_at (next_token u) (codes "at") then some_limit (read_expr (needed_most (passed u))) else (None, u)

unfoldable pub read_hold : Bool → UnreadTokens → ReadDecl
read_hold is_conn u = let n = read_new_name u in let l = read_limit n.1 in (hold n.0 is_conn l.0, l.1)

unfoldable pub read_setting : List ℕ → UnreadTokens → ReadDecl
read_setting name u =
    if is_quoted_token (next_token u) then (let t = read_quoted u in (param_text name t.0, t.1)) else (let e = read_expr u in (param_number name e.0, e.1))

abbrev pub name_alone : UnreadTokens → List ℕ × UnreadTokens
name_alone u = read_name u

unfoldable pub read_def : UnreadTokens → ReadDecl
read_def u =
    let n = read_new_name u in
    let ps = read_list name_alone (needed (codes "(") n.1) in
    let b = read_block 512 ps.1 in
    (def n.0 ps.0 (body_of b.0), b.1)

unfoldable pub read_number : UnreadTokens → ReadDecl
read_number u = let n = read_name_is u in let e = read_expr n.1 in (constant n.0 e.0, e.1)

unfoldable pub read_param : UnreadTokens → ReadDecl
read_param u = let n = read_name_is u in read_setting n.0 n.1

unfoldable pub read_table : UnreadTokens → ReadDecl
read_table u = let n = read_name_is u in let t = read_text n.1 in (table n.0 t.0, t.1)

-- what is declared and does not change
unfoldable pub read_constant : UnreadTokens → ReadDecl
read_constant u =
    if is_at (next_token u) (codes "const") then read_number (passed u)
    else if is_at (next_token u) (codes "param") then read_param (passed u)
    else if is_at (next_token u) (codes "table") then read_table (passed u)
    else read_def (needed (codes "def") u)

unfoldable pub read_var : Bool → UnreadTokens → ReadDecl
read_var is_conn u = let n = read_name_is u in let e = read_expr n.1 in (var n.0 is_conn e.0, e.1)

-- what is declared, behind `conn` where it stands there
abbrev pub read_declared : Bool → UnreadTokens → ReadDecl
read_declared is_conn u =
    if is_at (next_token u) (codes "var") then read_var is_conn (passed u)
    else if is_at (next_token u) (codes "hold") then read_hold is_conn (passed u)
    else read_constant (if is_conn then refused u else u)

unfoldable pub read_decl : UnreadTokens → ReadDecl
read_decl u = read_declared (is_at (next_token u) (codes "conn")) (eaten (codes "conn") u)

abbrev pub all_events : List Event
all_events = events.Start ∷ events.Call ∷ events.Bucket ∷ events.Flush ∷ events.Eos ∷ events.Return ∷ []

abbrev pub event_among : TokenTree → List Event → Option Event
event_among t es = find (λ e. is_at t (event_text e)) es

-- the event that a token is
unfoldable pub event_in : TokenTree → Option Event
event_in t = event_among t all_events

abbrev pub read_other_trigger : UnreadTokens → TriggerTree × UnreadTokens
read_other_trigger u =
    if is_at (next_token u) (codes "byte") then (let n = read_name (passed u) in (byte n.0, n.1))
    else (let t = read_text (needed (codes "match") u) in (pattern t.0, t.1))

abbrev pub trigger_by : Option Event → UnreadTokens → TriggerTree × UnreadTokens
trigger_by (Some e) u = (event e, passed u)
trigger_by None u = read_other_trigger u

unfoldable pub read_trigger : UnreadTokens → TriggerTree × UnreadTokens
read_trigger u = trigger_by (event_in (next_token u)) u

unfoldable pub read_handler : UnreadTokens → HandlerTree × UnreadTokens
read_handler u =
    let t = read_trigger (needed (codes "on") u) in
    let b = read_block 512 t.1 in
    (record { on = t.0; body = body_of b.0 }, b.1)

abbrev pub ends_decls : UnreadTokens → Bool
ends_decls u = is_at (next_token u) (codes "on") || is_end_token (next_token u)

abbrev pub ends_handlers : UnreadTokens → Bool
ends_handlers u = is_end_token (next_token u)

unfoldable pub read_handlers : UnreadTokens → List HandlerTree × UnreadTokens
read_handlers u = read_items ends_handlers read_handler (length u.tokens + 1) u

-- a whole filter
unfoldable pub read_filter : UnreadTokens → SourceTree × UnreadTokens
read_filter u =
    let n = read_filter_name (needed (codes "filter") u) in
    let ds = read_items ends_decls read_decl (length n.1.tokens + 1) n.1 in
    let hs = read_handlers ds.1 in
    (record { name = n.0; decls = ds.0; handlers = hs.0 }, hs.1)
