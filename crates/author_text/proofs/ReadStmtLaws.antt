-- The tokens of a statement are read as the statement.
use Rattle.std.proofs.Common.{◌≡◌, ℕ, ◌+◌, ◌-◌, ◌<◌, ◌≤◌, zero, suc, max, Bool, true, false, cond, List, [], ◌∷◌, ◌++◌, Option, Some, None, length, refl, ap, sym, subst, ◌∙◌, arith, codes, append_assoc, append-nil, length-append}
use Rattle.std.specs.Prelude.{◌&&◌, ◌||◌}
use Rattle.std.specs.List.{AllByRecursion, flat_map, join_by}
use Rattle.author_text.specs.declared.operators.Level.TheVariants as level
use Rattle.author_text.specs.declared.source.Plain.{Plain}
use Rattle.author_text.specs.declared.source.Plain.TheVariants as word
use Rattle.author_text.specs.declared.source.SetOp.{SetOp}
use Rattle.author_text.specs.declared.source.SetOp.TheVariants as change
use Rattle.author_text.specs.Limits.{FitsExpr}
use Rattle.author_text.specs.Fits.{FitsOption, FitsText, FitsThing, FitsStmt, FitsBody, stmt_calls, body_calls, other_calls}
use Rattle.author_text.specs.PrintedSource.{plain_text, is_choice, is_nothing}
use Rattle.author_text.specs.PrintedTokens.{text_token, thing_tokens, listed_tokens, optional_tokens, put_token, block_tokens, stmt_tokens, body_tokens, other_tokens}
use Rattle.byte_text.specs.Quoted.{spelled_all}
use Rattle.author_text.specs.ReadExprs.{ReadExpr, StopsExpr, read_expr}
use Rattle.author_text.specs.ReadStmts.{ends_block, plain_in, read_thing, read_copied, read_decimal, read_number_or_part, read_set, read_run, read_change, read_set_or_run}
use Rattle.author_text.specs.ReadStmts.{read_log, read_let, read_emit, read_keep, read_drop, read_cut, read_spoken, read_plain, read_other}
use Rattle.author_text.specs.ReadStmts.{read_block, read_stmt, read_worded, read_choice, read_walk}
use Rattle.author_text.specs.ReadTexts.{read_items, read_listed, read_list, read_name_is, read_name_behind, more_quoted, read_texts, read_quoted, read_text}
use Rattle.author_text.specs.Tokens.{TokenTree, number_token, quoted_token, name_token, word_token, mark_token, end_token, expr_tokens, hold_or_it_token}
use Rattle.author_text.specs.Trees.{ExprTree, TextTree, quoted, param, ThingTree, words, it, copy, decimals, part, value}
use Rattle.author_text.specs.Trees.{StmtTree, BodyTree, define, set, run, put, discard, cut, plain, choice, repeat, walk, log, nothing, first, body_of}
use Rattle.author_text.specs.Escapes.{spelled_bytes}
use Rattle.author_text.specs.Writable.{AllBytes}
use Rattle.author_text.specs.UnreadTokens.{UnreadTokens, tokens_at, first_token, tokens_after, needed, is_at, is_end_token, is_quoted_token, read_name, read_new_name, read_hold_or_it}
use Rattle.author_text.proofs.CalmLaws.{is_calm, and_left, and_right, calm_stops, calm_of, calm_open, calm_else, calm_quoted, comma_stops, round_stops, open_stops, of_stops, in_stops, close_calm, in_calm}
use Rattle.author_text.proofs.CalmLaws.{expr_quoted, expr_it, expr_copy, expr_decimal, expr_round, stmt_calm, stmt_opens, stmt_some, body_calm}
use Rattle.author_text.proofs.ReadExprLaws.{expr_reads}
use Rattle.author_text.proofs.PushLaws.{spelled_again}

pub at_end : (ts us : List TokenTree) (t : TokenTree) → (ts ++ (t ∷ [])) ++ us ≡ ts ++ (t ∷ us)
at_end ts us t = append_assoc ts (t ∷ []) us

pub e_reads : (e : ExprTree) (us : List TokenTree) → FitsExpr e → StopsExpr level.Or us → read_expr (tokens_at (expr_tokens e ++ us) 0) ≡ (e, tokens_at us 0)
e_reads e us f s = expr_reads e us f.0 f.1 s

none_quoted : (t : TokenTree) (f : UnreadTokens → List ℕ × UnreadTokens) (u : UnreadTokens) → is_quoted_token t ≡ false → more_quoted t f u ≡ ([], u)
none_quoted (number_token n) f u h = refl
none_quoted (quoted_token x) f u h = absurd (cc)
none_quoted (name_token n) f u h = refl
none_quoted (word_token w) f u h = refl
none_quoted (mark_token m) f u h = refl
none_quoted end_token f u h = refl

pub quoted_reads : (bytes : List ℕ) (us : List TokenTree) → AllBytes bytes → is_quoted_token (first_token us) ≡ false
    → read_quoted (tokens_at (quoted_token (spelled_all bytes) ∷ us) 0) ≡ (bytes, tokens_at us 0)
unfolding read_quoted
quoted_reads bytes us f h =
    ap (λ k. read_texts k (tokens_at (quoted_token (spelled_all bytes) ∷ us) 0)) (fuel (length us))
    ∙ ap (λ (x : List ℕ × UnreadTokens). (spelled_bytes 0 (spelled_all bytes) ++ x.0, x.1)) (none_quoted (first_token us) (read_texts (length us)) (tokens_at us 0) h)
    ∙ ap (λ (x : List ℕ). (x ++ [], tokens_at us 0)) (spelled_again bytes f)
    ∙ ap (λ (x : List ℕ). (x, tokens_at us 0)) (append-nil bytes)
  where
    fuel : (n : ℕ) → suc n + 1 ≡ suc (suc n)
    fuel n = omega arith

pub text_reads : (t : TextTree) (us : List TokenTree) → FitsText t → is_quoted_token (first_token us) ≡ false → read_text (tokens_at (text_token t ∷ us) 0) ≡ (t, tokens_at us 0)
unfolding read_text
text_reads (quoted bytes) us f h = ap (λ (x : List ℕ × UnreadTokens). (quoted x.0, x.1)) (quoted_reads bytes us f h)
text_reads (param name) us f h = refl

value_reads : (e : ExprTree) (us : List TokenTree) → FitsExpr e → is_calm (first_token us) ≡ true → read_thing (tokens_at (expr_tokens e ++ us) 0) ≡ (value e, tokens_at us 0)
unfolding read_thing read_copied read_decimal read_number_or_part
value_reads e us f c =
    rw (expr_quoted e us) (rw (expr_it e us) (rw (expr_copy e us) (rw (expr_decimal e us) (rw (e_reads e us f (calm_stops us c)) (rw (calm_of (first_token us) c) refl)))))

part_reads : (e : ExprTree) (name : List ℕ) (us : List TokenTree) → FitsExpr e → read_thing (tokens_at (expr_tokens e ++ (word_token (codes "of") ∷ name_token name ∷ us)) 0) ≡ (part e name, tokens_at us 0)
unfolding read_thing read_copied read_decimal read_number_or_part read_name
part_reads e name us f =
    rw (expr_quoted e (word_token (codes "of") ∷ name_token name ∷ us)) (rw (expr_it e (word_token (codes "of") ∷ name_token name ∷ us))
    (rw (expr_copy e (word_token (codes "of") ∷ name_token name ∷ us)) (rw (expr_decimal e (word_token (codes "of") ∷ name_token name ∷ us))
    (rw (e_reads e (word_token (codes "of") ∷ name_token name ∷ us) f (of_stops (name_token name ∷ us))) refl))))

decimals_reads : (e : ExprTree) (us : List TokenTree) → FitsExpr e
    → read_thing (tokens_at (word_token (codes "decimal") ∷ mark_token (codes "(") ∷ (expr_tokens e ++ (mark_token (codes ")") ∷ us))) 0) ≡ (decimals e, tokens_at us 0)
unfolding read_thing read_copied read_decimal read_number_or_part
decimals_reads e us f = rw (e_reads e (mark_token (codes ")") ∷ us) f (round_stops us)) refl

pub thing_reads : (t : ThingTree) (us : List TokenTree) → FitsThing t → is_calm (first_token us) ≡ true → read_thing (tokens_at (thing_tokens t ++ us) 0) ≡ (t, tokens_at us 0)
unfolding read_thing read_copied read_decimal read_number_or_part read_hold_or_it read_name
thing_reads (words (quoted bytes)) us f c = ap (λ (x : TextTree × UnreadTokens). (words x.0, x.1)) (text_reads (quoted bytes) us f (calm_quoted (first_token us) c))
thing_reads (words (param name)) us f c = absurd f
thing_reads (it false) us f c = refl
thing_reads (it true) us f c = refl
thing_reads (copy name) us f c = refl
thing_reads (decimals e) us f c =
    ap (λ t. read_thing (tokens_at (word_token (codes "decimal") ∷ mark_token (codes "(") ∷ t) 0)) (at_end (expr_tokens e) us (mark_token (codes ")")))
    ∙ decimals_reads e us f
thing_reads (part e name) us f c =
    ap (λ t. read_thing (tokens_at t 0)) (append_assoc (expr_tokens e) (word_token (codes "of") ∷ name_token name ∷ []) us) ∙ part_reads e name us f
thing_reads (value e) us f c = value_reads e us f c

-- items with commas between them
pub listed_reads : {A : Type 0} (item : UnreadTokens → A × UnreadTokens) (shown : A → List TokenTree) (P : A → Type 0)
    → ((x : A) (us : List TokenTree) → P x → item (tokens_at (shown x ++ (mark_token (codes ",") ∷ us)) 0) ≡ (x, tokens_at (mark_token (codes ",") ∷ us) 0))
    → ((x : A) (us : List TokenTree) → P x → item (tokens_at (shown x ++ (mark_token (codes ")") ∷ us)) 0) ≡ (x, tokens_at (mark_token (codes ")") ∷ us) 0))
    → ((x : A) (us : List TokenTree) → is_at (first_token (shown x ++ us)) (codes ")") ≡ false)
    → (x : A) (xs : List A) (us : List TokenTree) (k : ℕ) → P x → AllByRecursion P xs → length xs < k
    → read_listed item k (tokens_at (shown x ++ (flat_map (λ y. (mark_token (codes ",") ∷ []) ++ shown y) xs ++ (mark_token (codes ")") ∷ us))) 0)
    ≡ (x ∷ xs, tokens_at (mark_token (codes ")") ∷ us) 0)
listed_reads item shown P comma round opens x xs us zero p ps h = absurd (omega arith)
listed_reads item shown P comma round opens x [] us (suc k) p ps h = rw (opens x (mark_token (codes ")") ∷ us)) (rw (round x us p) refl)
listed_reads item shown P comma round opens x (y ∷ ys) us (suc k) p ps h =
    ap (λ t. read_listed item (suc k) (tokens_at (shown x ++ (mark_token (codes ",") ∷ t)) 0))
    (append_assoc (shown y) (flat_map (λ z. (mark_token (codes ",") ∷ []) ++ shown z) ys) (mark_token (codes ")") ∷ us))
    ∙ rw (opens x (mark_token (codes ",") ∷ (shown y ++ (flat_map (λ z. (mark_token (codes ",") ∷ []) ++ shown z) ys ++ (mark_token (codes ")") ∷ us)))))
    (rw (comma x (shown y ++ (flat_map (λ z. (mark_token (codes ",") ∷ []) ++ shown z) ys ++ (mark_token (codes ")") ∷ us))) p)
    (rw (listed_reads item shown P comma round opens y ys us k ps.0 ps.1 (omega arith)) refl))

commas : {A : Type 0} (shown : A → List TokenTree) (xs : List A) → length xs ≤ length (flat_map (λ y. (mark_token (codes ",") ∷ []) ++ shown y) xs)
commas shown [] = omega arith
commas shown (x ∷ xs) = omega (arith, length-append ((mark_token (codes ",") ∷ []) ++ shown x) (flat_map (λ y. (mark_token (codes ",") ∷ []) ++ shown y) xs), commas shown xs)

abbrev closes_list : {A : Type 0} → List A × UnreadTokens → List A × UnreadTokens
closes_list x = (x.0, needed (codes ")") x.1)

pub list_reads : {A : Type 0} (item : UnreadTokens → A × UnreadTokens) (shown : A → List TokenTree) (P : A → Type 0)
    → ((x : A) (us : List TokenTree) → P x → item (tokens_at (shown x ++ (mark_token (codes ",") ∷ us)) 0) ≡ (x, tokens_at (mark_token (codes ",") ∷ us) 0))
    → ((x : A) (us : List TokenTree) → P x → item (tokens_at (shown x ++ (mark_token (codes ")") ∷ us)) 0) ≡ (x, tokens_at (mark_token (codes ")") ∷ us) 0))
    → ((x : A) (us : List TokenTree) → is_at (first_token (shown x ++ us)) (codes ")") ≡ false)
    → (xs : List A) (us : List TokenTree) → AllByRecursion P xs
    → read_list item (tokens_at (join_by shown (mark_token (codes ",") ∷ []) xs ++ (mark_token (codes ")") ∷ us)) 0) ≡ (xs, tokens_at us 0)
unfolding read_list
list_reads item shown P comma round opens [] us f = ap (λ k. closes_list (read_listed item k (tokens_at (mark_token (codes ")") ∷ us) 0))) (fuel (length us))
  where
    fuel : (n : ℕ) → suc n + 1 ≡ suc (suc n)
    fuel n = omega arith
list_reads item shown P comma round opens (x ∷ xs) us f =
    ap (λ t. read_list item (tokens_at t 0)) (append_assoc (shown x) (flat_map (λ y. (mark_token (codes ",") ∷ []) ++ shown y) xs) (mark_token (codes ")") ∷ us))
    ∙ rw (listed_reads item shown P comma round opens x xs us (length (shown x ++ (flat_map (λ y. (mark_token (codes ",") ∷ []) ++ shown y) xs ++ (mark_token (codes ")") ∷ us))) + 1) f.0 f.1 enough) refl
  where
    enough : length xs < length (shown x ++ (flat_map (λ y. (mark_token (codes ",") ∷ []) ++ shown y) xs ++ (mark_token (codes ")") ∷ us))) + 1
    enough =
        omega (
          arith,
          commas shown xs,
          length-append (shown x) (flat_map (λ y. (mark_token (codes ",") ∷ []) ++ shown y) xs ++ (mark_token (codes ")") ∷ us)),
          length-append (flat_map (λ y. (mark_token (codes ",") ∷ []) ++ shown y) xs) (mark_token (codes ")") ∷ us),
        )

exprs_read : (es : List ExprTree) (us : List TokenTree) → AllByRecursion FitsExpr es
    → read_list read_expr (tokens_at (join_by expr_tokens (mark_token (codes ",") ∷ []) es ++ (mark_token (codes ")") ∷ us)) 0) ≡ (es, tokens_at us 0)
exprs_read es us f =
    list_reads read_expr expr_tokens FitsExpr (λ e us f. e_reads e (mark_token (codes ",") ∷ us) f (comma_stops us)) (λ e us f. e_reads e (mark_token (codes ")") ∷ us) f (round_stops us)) expr_round es us f

abbrev pub StmtReads : StmtTree → Type 0
StmtReads s = (d : ℕ) (us : List TokenTree) → FitsStmt s → stmt_calls s ≤ d → is_calm (first_token us) ≡ true → read_stmt d (tokens_at (stmt_tokens s ++ us) 0) ≡ (s, tokens_at us 0)

define_reads : (name : List ℕ) (e : ExprTree) → StmtReads (define name e)
unfolding read_stmt read_worded read_plain plain_in read_spoken read_let read_emit read_keep read_drop read_cut read_name_is read_new_name read_name
define_reads name e zero us f h c = absurd (omega arith)
define_reads name e (suc zero) us f h c = absurd (omega arith)
define_reads name e (suc (suc d)) us f h c = rw (e_reads e us f (calm_stops us c)) refl

set_reads : (name : List ℕ) (o : SetOp) (e : ExprTree) → StmtReads (set name o e)
unfolding read_stmt read_set_or_run read_run read_change read_set read_name
set_reads name o e zero us f h c = absurd (omega arith)
set_reads name change.Becomes e (suc d) us f h c = rw (e_reads e us f (calm_stops us c)) refl
set_reads name change.Add e (suc d) us f h c = rw (e_reads e us f (calm_stops us c)) refl
set_reads name change.Sub e (suc d) us f h c = rw (e_reads e us f (calm_stops us c)) refl

run_reads : (name : List ℕ) (es : List ExprTree) → StmtReads (run name es)
unfolding read_stmt read_set_or_run read_run read_change read_name
run_reads name es zero us f h c = absurd (omega arith)
run_reads name es (suc d) us f h c =
    ap (λ t. read_stmt (suc d) (tokens_at (name_token name ∷ mark_token (codes "(") ∷ t) 0)) (at_end (join_by expr_tokens (mark_token (codes ",") ∷ []) es) us (mark_token (codes ")")))
    ∙ rw (exprs_read es us f) (rw (calm_open (first_token us) c) refl)

put_reads : (t : ThingTree) (to : Option (List ℕ)) → StmtReads (put t to)
unfolding read_stmt read_worded read_plain plain_in read_spoken read_let read_emit read_keep read_drop read_cut read_name
put_reads t to zero us f h c = absurd (omega arith)
put_reads t to (suc zero) us f h c = absurd (omega arith)
put_reads t None (suc (suc d)) us f h c =
    ap (λ x. read_stmt (suc (suc d)) (tokens_at (word_token (codes "emit") ∷ x) 0)) (append_assoc (thing_tokens t) [] us) ∙ rw (thing_reads t us f c) refl
put_reads t (Some name) (suc (suc d)) us f h c =
    ap (λ x. read_stmt (suc (suc d)) (tokens_at (word_token (codes "keep") ∷ x) 0)) (append_assoc (thing_tokens t) (word_token (codes "in") ∷ name_token name ∷ []) us)
    ∙ rw (thing_reads t (word_token (codes "in") ∷ name_token name ∷ us) f in_calm) refl

discard_reads : (over : Option (List ℕ)) → StmtReads (discard over)
unfolding read_stmt read_worded read_plain plain_in read_spoken read_let read_emit read_keep read_drop read_cut read_hold_or_it read_name
discard_reads over zero us f h c = absurd (omega arith)
discard_reads over (suc zero) us f h c = absurd (omega arith)
discard_reads None (suc (suc d)) us f h c = refl
discard_reads (Some name) (suc (suc d)) us f h c = refl

cut_reads : (e : ExprTree) → StmtReads (cut e)
unfolding read_stmt read_worded read_plain plain_in read_spoken read_let read_emit read_keep read_drop read_cut
cut_reads e zero us f h c = absurd (omega arith)
cut_reads e (suc zero) us f h c = absurd (omega arith)
cut_reads e (suc (suc d)) us f h c = rw (e_reads e us f (calm_stops us c)) refl

plain_here : (w : Plain) (d : ℕ) (us : List TokenTree) → read_stmt (suc (suc d)) (tokens_at (word_token (plain_text w) ∷ us) 0) ≡ (plain w, tokens_at us 0)
unfolding read_stmt read_worded read_plain plain_in read_spoken read_let read_emit read_keep read_drop read_cut
plain_here word.Flush d us = refl
plain_here _ d us = refl

plain_reads : (w : Plain) → StmtReads (plain w)
plain_reads w zero us f h c = absurd (omega arith)
plain_reads w (suc zero) us f h c = absurd (omega arith)
plain_reads w (suc (suc d)) us f h c = plain_here w d us

log_reads : (is_conn : Bool) (t : TextTree) → StmtReads (log is_conn t)
unfolding read_stmt read_worded read_plain plain_in read_spoken read_let read_emit read_keep read_drop read_cut read_log
log_reads is_conn t zero us f h c = absurd (omega arith)
log_reads is_conn t (suc zero) us f h c = absurd (omega arith)
log_reads true t (suc (suc d)) us f h c = ap (λ (x : TextTree × UnreadTokens). (log true x.0, x.1)) (text_reads t us f (calm_quoted (first_token us) c))
log_reads false (quoted bytes) (suc (suc d)) us f h c = ap (λ (x : TextTree × UnreadTokens). (log false x.0, x.1)) (text_reads (quoted bytes) us f (calm_quoted (first_token us) c))
log_reads false (param name) (suc (suc d)) us f h c = ap (λ (x : TextTree × UnreadTokens). (log false x.0, x.1)) (text_reads (param name) us f (calm_quoted (first_token us) c))

-- a body as a list
abbrev pub list_of : BodyTree → List StmtTree
list_of nothing = []
list_of (first s rest) = s ∷ list_of rest

pub body_list : (b : BodyTree) → body_of (list_of b) ≡ b
body_list nothing = refl
body_list (first s rest) = ap (first s) (body_list rest)

abbrev pub ItemsRead : BodyTree → Type 0
ItemsRead b = (d : ℕ) (us : List TokenTree) (k : ℕ) → FitsBody b → body_calls b ≤ suc d → length (body_tokens b) < k
    → read_items ends_block (read_stmt d) k (tokens_at (body_tokens b ++ (mark_token (codes "}") ∷ us)) 0) ≡ (list_of b, tokens_at (mark_token (codes "}") ∷ us) 0)

abbrev pub BlockReads : BodyTree → Type 0
BlockReads b = (d : ℕ) (us : List TokenTree) → FitsBody b → body_calls b ≤ d → read_block d (tokens_at (block_tokens (body_tokens b) ++ us) 0) ≡ (list_of b, tokens_at us 0)

least_body : (b : BodyTree) → 1 ≤ body_calls b
least_body nothing = omega arith
least_body (first s rest) = omega (arith, least_body rest)

block_of_items : (b : BodyTree) → ItemsRead b → BlockReads b
unfolding read_block
block_of_items b items zero us f h = absurd (omega (arith, least_body b))
block_of_items b items (suc d) us f h =
    ap (λ t. read_block (suc d) (tokens_at (mark_token (codes "{") ∷ t) 0)) (at_end (body_tokens b) us (mark_token (codes "}")))
    ∙ rw (items d us (length (body_tokens b ++ (mark_token (codes "}") ∷ us)) + 1) f h (omega (arith, length-append (body_tokens b) (mark_token (codes "}") ∷ us)))) refl

nothing_read : ItemsRead nothing
nothing_read d us zero f h n = absurd (omega arith)
nothing_read d us (suc k) f h n = refl

items_first : (s : StmtTree) (rest : BodyTree) → StmtReads s → ItemsRead rest → ItemsRead (first s rest)
items_first s rest stmt items d us zero f h n = absurd (omega arith)
items_first s rest stmt items d us (suc k) f h n =
    ap (λ t. read_items ends_block (read_stmt d) (suc k) (tokens_at t 0)) (append_assoc (stmt_tokens s) (body_tokens rest) (mark_token (codes "}") ∷ us))
    ∙ rw (stmt_opens s (body_tokens rest ++ (mark_token (codes "}") ∷ us)))
    (rw (stmt d (body_tokens rest ++ (mark_token (codes "}") ∷ us)) f.0 (omega (arith, h)) (body_calm rest us))
    (rw (items d us k f.1 (omega (arith, h)) (omega (arith, n, length-append (stmt_tokens s) (body_tokens rest), stmt_some s))) refl))

repeat_reads : (e : Option ExprTree) (body : BodyTree) → BlockReads body → StmtReads (repeat e body)
unfolding read_stmt read_worded
repeat_reads e body block zero us f h c = absurd (omega arith)
repeat_reads e body block (suc zero) us f h c = absurd (omega (arith, least_body body))
repeat_reads None body block (suc (suc d)) us f h c =
    rw (block d us f.1 (omega (arith, h))) (ap (λ b. (repeat None b, tokens_at us 0)) (body_list body))
repeat_reads (Some e) body block (suc (suc d)) us f h c =
    ap (λ t. read_stmt (suc (suc d)) (tokens_at (word_token (codes "while") ∷ t) 0)) (append_assoc (expr_tokens e) (block_tokens (body_tokens body)) us)
    ∙ rw (e_reads e (block_tokens (body_tokens body) ++ us) f.0 (open_stops ((body_tokens body ++ (mark_token (codes "}") ∷ [])) ++ us)))
    (rw (block d us f.1 (omega (arith, h))) (ap (λ b. (repeat (Some e) b, tokens_at us 0)) (body_list body)))

walk_reads : (name : List ℕ) (index over : Option (List ℕ)) (body : BodyTree) → BlockReads body → StmtReads (walk name index over body)
unfolding read_stmt read_worded read_walk read_name_behind read_hold_or_it read_name
walk_reads name index over body block zero us f h c = absurd (omega arith)
walk_reads name index over body block (suc zero) us f h c = absurd (omega arith)
walk_reads name index over body block (suc (suc zero)) us f h c = absurd (omega (arith, least_body body))
walk_reads name None None body block (suc (suc (suc d))) us f h c =
    rw (block d us f (omega (arith, h))) (ap (λ b. (walk name None None b, tokens_at us 0)) (body_list body))
walk_reads name None (Some o) body block (suc (suc (suc d))) us f h c =
    rw (block d us f (omega (arith, h))) (ap (λ b. (walk name None (Some o) b, tokens_at us 0)) (body_list body))
walk_reads name (Some i) None body block (suc (suc (suc d))) us f h c =
    rw (block d us f (omega (arith, h))) (ap (λ b. (walk name (Some i) None b, tokens_at us 0)) (body_list body))
walk_reads name (Some i) (Some o) body block (suc (suc (suc d))) us f h c =
    rw (block d us f (omega (arith, h))) (ap (λ b. (walk name (Some i) (Some o) b, tokens_at us 0)) (body_list body))

-- what follows the first block of an `if`
abbrev pub OtherReads : BodyTree → Type 0
OtherReads o = (d : ℕ) (us : List TokenTree) → FitsBody o → other_calls o ≤ d → is_calm (first_token us) ≡ true
    → read_other (read_choice d) (read_block d) (tokens_at (other_tokens o ++ us) 0) ≡ (list_of o, tokens_at us 0)

-- what stands behind `if`
abbrev pub Behind : StmtTree → Type 0
Behind s = (d : ℕ) (us : List TokenTree) → FitsStmt s → stmt_calls s ≤ d + 2 → is_calm (first_token us) ≡ true
    → read_choice d (tokens_at (tokens_after (stmt_tokens s ++ us)) 0) ≡ (s, tokens_at us 0)

choice_behind : (e : ExprTree) (t o : BodyTree) → BlockReads t → OtherReads o → Behind (choice e t o)
unfolding read_choice
choice_behind e t o block other zero us f h c = absurd (omega arith)
choice_behind e t o block other (suc d) us f h c =
    ap (λ x. read_choice (suc d) (tokens_at x 0))
    (append_assoc (expr_tokens e ++ block_tokens (body_tokens t)) (other_tokens o) us ∙ append_assoc (expr_tokens e) (block_tokens (body_tokens t)) (other_tokens o ++ us))
    ∙ rw (e_reads e (block_tokens (body_tokens t) ++ (other_tokens o ++ us)) f.0 (open_stops ((body_tokens t ++ (mark_token (codes "}") ∷ [])) ++ (other_tokens o ++ us))))
    (rw (block d (other_tokens o ++ us) f.1 (omega (arith, h)))
    (rw (other d us f.2 (omega (arith, h)) c)
    (ap (λ b. (choice e b (body_of (list_of o)), tokens_at us 0)) (body_list t) ∙ ap (λ b. (choice e t b, tokens_at us 0)) (body_list o))))

choice_stmt : (e : ExprTree) (t o : BodyTree) → Behind (choice e t o) → StmtReads (choice e t o)
unfolding read_stmt read_worded
choice_stmt e t o behind zero us f h c = absurd (omega arith)
choice_stmt e t o behind (suc zero) us f h c = absurd (omega arith)
choice_stmt e t o behind (suc (suc d)) us f h c = behind d us f (omega (arith, h)) c

other_nothing : OtherReads nothing
other_nothing d us f h c = rw (calm_else (first_token us) c) refl

if_first : (s : StmtTree) (us : List TokenTree) → is_choice s ≡ true → is_at (first_token (stmt_tokens s ++ us)) (codes "if") ≡ true
if_first (choice e t o) us h = refl
if_first _ us h = absurd (cc)

nothing_is : (b : BodyTree) → is_nothing b ≡ true → nothing ≡ b
nothing_is nothing h = refl
nothing_is (first s rest) h = absurd (cc)

other_first : (s : StmtTree) (rest : BodyTree) → BlockReads (first s rest) → (is_choice s ≡ true → Behind s) → OtherReads (first s rest)
other_first s rest block behind d us f h c = by_test (is_nothing rest && is_choice s) refl h
  where
    by_test : (t : Bool) → (is_nothing rest && is_choice s) ≡ t → cond t (stmt_calls s - 2) (max (stmt_calls s + 1) (body_calls rest)) ≤ d
        → read_other (read_choice d) (read_block d) (tokens_at ((word_token (codes "else") ∷ cond t (stmt_tokens s) (block_tokens (stmt_tokens s ++ body_tokens rest))) ++ us) 0)
        ≡ (list_of (first s rest), tokens_at us 0)
    by_test true q n =
        rw (if_first s us (and_right (is_nothing rest) (is_choice s) q))
        (rw (behind (and_right (is_nothing rest) (is_choice s) q) d us f.0 (omega (arith, n)) c)
        (ap (λ b. (s ∷ list_of b, tokens_at us 0)) (nothing_is rest (and_left (is_nothing rest) (is_choice s) q))))
    by_test false q n =
        rw (block d us f n) refl

mutual
  pub stmt_reads : (s : StmtTree) → StmtReads s
  stmt_reads (define name e) = define_reads name e
  stmt_reads (set name o e) = set_reads name o e
  stmt_reads (run name es) = run_reads name es
  stmt_reads (put t to) = put_reads t to
  stmt_reads (discard over) = discard_reads over
  stmt_reads (cut e) = cut_reads e
  stmt_reads (plain w) = plain_reads w
  stmt_reads (choice e t o) = choice_stmt e t o (choice_behind e t o (block_of_items t (items_read t)) (other_reads o))
  stmt_reads (repeat e body) = repeat_reads e body (block_of_items body (items_read body))
  stmt_reads (walk name index over body) = walk_reads name index over body (block_of_items body (items_read body))
  stmt_reads (log is_conn t) = log_reads is_conn t

  -- an `if`, behind its word
  pub if_reads : (s : StmtTree) → is_choice s ≡ true → Behind s
  if_reads (choice e t o) h = choice_behind e t o (block_of_items t (items_read t)) (other_reads o)
  if_reads _ h = absurd (cc)

  pub items_read : (b : BodyTree) → ItemsRead b
  items_read nothing = nothing_read
  items_read (first s rest) = items_first s rest (stmt_reads s) (items_read rest)

  pub other_reads : (o : BodyTree) → OtherReads o
  other_reads nothing = other_nothing
  other_reads (first s rest) = other_first s rest (block_of_items (first s rest) (items_first s rest (stmt_reads s) (items_read rest))) (if_reads s)

-- statements in brackets are read as they are
pub block_reads : (b : BodyTree) → BlockReads b
block_reads b = block_of_items b (items_read b)
