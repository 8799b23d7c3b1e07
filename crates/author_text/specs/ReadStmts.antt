-- How tokens are read as statements: their trees, and what is left. Where there is a mistake, no token is left.
use Rattle.std.specs.Prelude.{ℕ, zero, suc, ◌+◌, Bool, true, false, ◌&&◌, ◌||◌, List, [], ◌∷◌, Option, Some, None, length, bytes_eq, codes, if◌then◌else◌}
use Rattle.std.specs.List.{find}
use Rattle.author_text.specs.declared.source.Plain.{Plain}
use Rattle.author_text.specs.declared.source.Plain.TheVariants as word
use Rattle.author_text.specs.declared.source.SetOp.{SetOp}
use Rattle.author_text.specs.declared.source.SetOp.TheVariants as change
use Rattle.author_text.specs.PrintedSource.{plain_text}
use Rattle.author_text.specs.ReadExprs.{read_expr}
use Rattle.author_text.specs.ReadTexts.{read_items, read_list, read_name_is, read_name_behind, read_text}
use Rattle.author_text.specs.Tokens.{TokenTree, name_token, word_token}
use Rattle.author_text.specs.Trees.{ExprTree, TextTree, ThingTree, words, it, copy, decimals, part, value}
use Rattle.author_text.specs.Trees.{StmtTree, BodyTree, define, set, run, put, discard, cut, plain, choice, repeat, walk, log, nothing, body_of}
use Rattle.author_text.specs.UnreadTokens.{UnreadTokens, next_token, passed, refused, is_at, is_end_token, is_quoted_token, eaten, needed, read_name, read_hold_or_it}

abbrev pub ReadStmt : Type 0
ReadStmt = StmtTree × UnreadTokens

abbrev pub ReadStmts : Type 0
ReadStmts = List StmtTree × UnreadTokens

abbrev pub all_plain : List Plain
all_plain = word.Flush ∷ word.Pass ∷ word.End ∷ word.Fail ∷ word.Leave ∷ word.Next ∷ word.Break ∷ word.Continue ∷ []

abbrev pub plain_among : List ℕ → List Plain → Option Plain
plain_among text ps = find (λ p. bytes_eq (plain_text p) text) ps

-- the statement that is this word
unfoldable pub plain_in : List ℕ → Option Plain
plain_in text = plain_among text all_plain

abbrev pub no_stmt : UnreadTokens → ReadStmt
no_stmt u = (plain word.Fail, refused u)

abbrev pub copied_hold : Option (List ℕ) → ThingTree
copied_hold None = it true
copied_hold (Some name) = copy name

-- behind `copy`
unfoldable pub read_copied : UnreadTokens → ThingTree × UnreadTokens
read_copied u = let h = read_hold_or_it u in (copied_hold h.0, h.1)

-- behind `decimal`
unfoldable pub read_decimal : UnreadTokens → ThingTree × UnreadTokens
read_decimal u = let e = read_expr (needed (codes "(") u) in (decimals e.0, needed (codes ")") e.1)

-- a number, or a part of a hold
unfoldable pub read_number_or_part : UnreadTokens → ThingTree × UnreadTokens
read_number_or_part u =
    let e = read_expr u in
    if is_at (next_token e.1) (codes "of") then (let n = read_name (passed e.1) in (part e.0 n.0, n.1)) else (value e.0, e.1)

-- what is emitted or kept
unfoldable pub read_thing : UnreadTokens → ThingTree × UnreadTokens
read_thing u =
    if is_quoted_token (next_token u) then (let t = read_text u in (words t.0, t.1))
    else if is_at (next_token u) (codes "it") then (it false, passed u)
    else if is_at (next_token u) (codes "copy") then read_copied (passed u)
    else if is_at (next_token u) (codes "decimal") then read_decimal (passed u)
    else read_number_or_part u

unfoldable pub read_set : List ℕ → SetOp → UnreadTokens → ReadStmt
read_set name o u = let e = read_expr u in (set name o e.0, e.1)

-- what is written for `else if` elsewhere
abbrev pub is_else_if : List ℕ → Bool
is_else_if text = bytes_eq text (codes "elif") || (bytes_eq text (codes "elsif") || bytes_eq text (codes "elseif"))

-- a block does not follow such a name
abbrev pub no_block : List ℕ → UnreadTokens → UnreadTokens
no_block name u = if is_at (next_token u) (codes "{") && is_else_if name then refused u else u

unfoldable pub read_run : List ℕ → UnreadTokens → ReadStmt
read_run name u = let a = read_list read_expr u in (run name a.0, no_block name a.1)

unfoldable pub read_change : List ℕ → UnreadTokens → ReadStmt
read_change name u =
    if is_at (next_token u) (codes "=") then read_set name change.Becomes (passed u)
    else if is_at (next_token u) (codes "+=") then read_set name change.Add (passed u)
    else if is_at (next_token u) (codes "-=") then read_set name change.Sub (passed u)
    else no_stmt u

-- a statement that begins with a name
unfoldable pub read_set_or_run : UnreadTokens → ReadStmt
read_set_or_run u = let n = read_name u in if is_at (next_token n.1) (codes "(") then read_run n.0 (passed n.1) else read_change n.0 n.1

unfoldable pub read_let : UnreadTokens → ReadStmt
read_let u = let n = read_name_is u in let e = read_expr n.1 in (define n.0 e.0, e.1)

unfoldable pub read_emit : UnreadTokens → ReadStmt
read_emit u = let t = read_thing u in (put t.0 None, t.1)

unfoldable pub read_keep : UnreadTokens → ReadStmt
read_keep u = let t = read_thing u in let n = read_name (needed (codes "in") t.1) in (put t.0 (Some n.0), n.1)

unfoldable pub read_drop : UnreadTokens → ReadStmt
read_drop u = let h = read_hold_or_it u in (discard h.0, h.1)

unfoldable pub read_cut : UnreadTokens → ReadStmt
read_cut u = let e = read_expr (needed (codes "at") (needed (codes "it") u)) in (cut e.0, e.1)

-- another word begins no statement
abbrev pub only_log : List ℕ → UnreadTokens → UnreadTokens
only_log text u = if bytes_eq text (codes "log") then u else refused u

-- the rest of a statement that begins with no other word
unfoldable pub read_log : List ℕ → UnreadTokens → ReadStmt
read_log text u =
    let v = only_log text u in let t = read_text (eaten (codes "conn") v) in (log (is_at (next_token v) (codes "conn")) t.0, t.1)

unfoldable pub read_spoken : List ℕ → UnreadTokens → ReadStmt
read_spoken text u =
    if bytes_eq text (codes "let") then read_let u
    else if bytes_eq text (codes "emit") then read_emit u
    else if bytes_eq text (codes "keep") then read_keep u
    else if bytes_eq text (codes "drop") then read_drop u
    else if bytes_eq text (codes "cut") then read_cut u
    else read_log text u

abbrev pub plain_or : Option Plain → List ℕ → UnreadTokens → ReadStmt
plain_or (Some p) text u = (plain p, u)
plain_or None text u = read_spoken text u

-- the rest of a statement without a block, behind its word
unfoldable pub read_plain : List ℕ → UnreadTokens → ReadStmt
read_plain text u = plain_or (plain_in text) text u

abbrev pub ends_block : UnreadTokens → Bool
ends_block u = is_at (next_token u) (codes "}") || is_end_token (next_token u)

abbrev pub stmt_at : TokenTree → (List ℕ → UnreadTokens → ReadStmt) → UnreadTokens → ReadStmt
stmt_at (name_token name) worded u = read_set_or_run u
stmt_at (word_token w) worded u = worded w (passed u)
stmt_at _ worded u = no_stmt u

-- the rest of an `if`, behind its first block
abbrev pub read_other : (if_behind : UnreadTokens → ReadStmt) → (block : UnreadTokens → ReadStmts) → UnreadTokens → ReadStmts
read_other if_behind block u =
    if is_at (next_token u) (codes "else") then (
    if is_at (next_token (passed u)) (codes "if") then (let c = if_behind (passed (passed u)) in (c.0 ∷ [], c.1))
    else block (passed u))
    else ([], u)

-- the first number says how many calls may be in one another
unfoldable mutual
  pub read_block : ℕ → UnreadTokens → ReadStmts
  read_block zero u = ([], refused u)
  read_block (suc d) u =
      let v = needed (codes "{") u in
      let x = read_items ends_block (read_stmt d) (length v.tokens + 1) v in
      (x.0, needed (codes "}") x.1)

  pub read_stmt : ℕ → UnreadTokens → ReadStmt
  read_stmt zero u = no_stmt u
  read_stmt (suc d) u = stmt_at (next_token u) (read_worded d) u

  pub read_worded : ℕ → List ℕ → UnreadTokens → ReadStmt
  read_worded zero text u = no_stmt u
  read_worded (suc d) text u =
      if bytes_eq text (codes "if") then read_choice d u
      else if bytes_eq text (codes "for") then read_walk d u
      else if bytes_eq text (codes "while") then (let e = read_expr u in let b = read_block d e.1 in (repeat (Some e.0) (body_of b.0), b.1))
      else if bytes_eq text (codes "loop") then (let b = read_block d u in (repeat None (body_of b.0), b.1))
      else read_plain text u

  pub read_choice : ℕ → UnreadTokens → ReadStmt
  read_choice zero u = no_stmt u
  read_choice (suc d) u =
      let e = read_expr u in
      let t = read_block d e.1 in
      let o = read_other (read_choice d) (read_block d) t.1 in
      (choice e.0 (body_of t.0) (body_of o.0), o.1)

  pub read_walk : ℕ → UnreadTokens → ReadStmt
  read_walk zero u = no_stmt u
  read_walk (suc d) u =
      let n = read_name (needed (codes "byte") u) in
      let i = read_name_behind (codes "at") n.1 in
      let o = read_hold_or_it (needed (codes "in") i.1) in
      let b = read_block d o.1 in
      (walk n.0 i.0 o.0 (body_of b.0), b.1)
