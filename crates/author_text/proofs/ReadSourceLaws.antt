-- The tokens of a filter are read as the filter.
use Rattle.std.proofs.Common.{◌≡◌, ℕ, ◌+◌, ◌<◌, ◌≤◌, zero, suc, Bool, true, false, List, [], ◌∷◌, ◌++◌, Option, Some, None, length, refl, ap, sym, ◌∙◌, arith, codes, append_assoc, length-append, if◌then◌else◌}
use Rattle.std.specs.Prelude.{◌||◌}
use Rattle.std.specs.List.{AllByRecursion, flat_map, join_by}
use Rattle.author_text.specs.declared.operators.Level.TheVariants as level
use Rattle.author_text.specs.declared.tree.Event.{Event}
use Rattle.author_text.specs.declared.tree.Event.TheVariants as events
use Rattle.author_text.specs.Limits.{FitsExpr}
use Rattle.author_text.specs.Fits.{FitsText, FitsDecl, FitsTrigger, FitsHandler, FitsSource}
use Rattle.author_text.specs.PrintedSource.{event_text}
use Rattle.author_text.specs.PrintedTokens.{text_token, block_tokens, body_tokens, decl_tokens, trigger_tokens, handler_tokens, filter_name_token, printed_tokens}
use Rattle.byte_text.specs.Quoted.{spelled_all}
use Rattle.author_text.specs.ReadExprs.{operator_in, read_expr}
use Rattle.author_text.specs.ReadSource.{filter_name_at, read_filter_name, needed_most, read_limit, read_hold, read_setting, name_alone, read_def, read_number, read_param, read_table, read_var, read_constant, read_decl}
use Rattle.author_text.specs.ReadSource.{event_in, read_trigger, read_handler, ends_decls, ends_handlers, read_handlers, read_filter}
use Rattle.author_text.specs.ReadTexts.{read_items, read_list, read_name_is}
use Rattle.author_text.specs.Tokens.{TokenTree, quoted_token, name_token, word_token, mark_token, end_token, expr_tokens}
use Rattle.author_text.specs.Trees.{ExprTree, TextTree, quoted, param, DeclTree, var, hold, constant, param_number, param_text, table, def, BodyTree}
use Rattle.author_text.specs.Trees.{TriggerTree, event, byte, pattern, HandlerTree, SourceTree}
use Rattle.author_text.specs.UnreadTokens.{UnreadTokens, tokens_at, first_token, is_at, is_quoted_token, read_name, read_new_name}
use Rattle.author_text.specs.Words.{is_word}
use Rattle.author_text.proofs.CalmLaws.{is_calm, calm_stops, calm_at, calm_hyphen, calm_quoted, expr_quoted}
use Rattle.author_text.proofs.ReadStmtLaws.{at_end, e_reads, quoted_reads, text_reads, list_reads, body_list, block_reads}

names_fit : (names : List (List ℕ)) → AllByRecursion (λ n. Unit {0}) names
names_fit [] = tt
names_fit (n ∷ ns) = (tt, names_fit ns)

names_read : (names : List (List ℕ)) (us : List TokenTree)
    → read_list name_alone (tokens_at (join_by (λ n. name_token n ∷ []) (mark_token (codes ",") ∷ []) names ++ (mark_token (codes ")") ∷ us)) 0) ≡ (names, tokens_at us 0)
unfolding read_name
names_read names us = list_reads name_alone (λ n. name_token n ∷ []) (λ n. Unit {0}) (λ n us f. refl) (λ n us f. refl) (λ n us. refl) names us (names_fit names)

name_reads : (name : List ℕ) (us : List TokenTree) → read_name (tokens_at (name_token name ∷ us) 0) ≡ (name, tokens_at us 0)
unfolding read_name
name_reads name us = refl

def_reads : (name : List ℕ) (params : List (List ℕ)) (body : BodyTree) (us : List TokenTree) → FitsDecl (def name params body)
    → read_decl (tokens_at (decl_tokens (def name params body) ++ us) 0) ≡ (def name params body, tokens_at us 0)
unfolding read_decl read_constant read_def read_new_name
def_reads name params body us f =
    ap (λ t. read_decl (tokens_at (word_token (codes "def") ∷ name_token name ∷ mark_token (codes "(") ∷ t) 0))
    (append_assoc (join_by (λ n. name_token n ∷ []) (mark_token (codes ",") ∷ []) params ++ (mark_token (codes ")") ∷ [])) (block_tokens (body_tokens body)) us
    ∙ at_end (join_by (λ n. name_token n ∷ []) (mark_token (codes ",") ∷ []) params) (block_tokens (body_tokens body) ++ us) (mark_token (codes ")")))
    ∙ rw (name_reads name (mark_token (codes "(") ∷ (join_by (λ n. name_token n ∷ []) (mark_token (codes ",") ∷ []) params ++ (mark_token (codes ")") ∷ (block_tokens (body_tokens body) ++ us)))))
    (rw (names_read params (block_tokens (body_tokens body) ++ us))
    (rw (block_reads body 512 us f.0 f.1) (ap (λ b. (def name params b, tokens_at us 0)) (body_list body))))

decl_reads : (x : DeclTree) (us : List TokenTree) → FitsDecl x → is_calm (first_token us) ≡ true → read_decl (tokens_at (decl_tokens x ++ us) 0) ≡ (x, tokens_at us 0)
unfolding read_decl read_constant read_number read_param read_table read_var read_hold read_limit needed_most read_setting read_name_is read_new_name read_name
decl_reads (var name true e) us f c = rw (e_reads e us f (calm_stops us c)) refl
decl_reads (var name false e) us f c = rw (e_reads e us f (calm_stops us c)) refl
decl_reads (hold name true None) us f c = rw (calm_hyphen (first_token us) c) (rw (calm_at (first_token us) c) refl)
decl_reads (hold name false None) us f c = rw (calm_hyphen (first_token us) c) (rw (calm_at (first_token us) c) refl)
decl_reads (hold name true (Some e)) us f c = rw (e_reads e us f (calm_stops us c)) refl
decl_reads (hold name false (Some e)) us f c = rw (e_reads e us f (calm_stops us c)) refl
decl_reads (constant name e) us f c = rw (e_reads e us f (calm_stops us c)) refl
decl_reads (param_number name e) us f c = rw (expr_quoted e us) (rw (e_reads e us f (calm_stops us c)) refl)
decl_reads (param_text name bytes) us f c = rw (quoted_reads bytes us f (calm_quoted (first_token us) c)) refl
decl_reads (table name t) us f c = ap (λ (x : TextTree × UnreadTokens). (table name x.0, x.1)) (text_reads t us f (calm_quoted (first_token us) c))
decl_reads (def name params body) us f c = def_reads name params body us f

decl_calm : (x : DeclTree) (us : List TokenTree) → is_calm (first_token (decl_tokens x ++ us)) ≡ true
unfolding operator_in
decl_calm (var name true e) us = refl
decl_calm (var name false e) us = refl
decl_calm (hold name true limit) us = refl
decl_calm (hold name false limit) us = refl
decl_calm (constant name e) us = refl
decl_calm (param_number name e) us = refl
decl_calm (param_text name bytes) us = refl
decl_calm (table name t) us = refl
decl_calm (def name params body) us = refl

decl_opens : (x : DeclTree) (us : List TokenTree) → ends_decls (tokens_at (decl_tokens x ++ us) 0) ≡ false
decl_opens (var name true e) us = refl
decl_opens (var name false e) us = refl
decl_opens (hold name true limit) us = refl
decl_opens (hold name false limit) us = refl
decl_opens (constant name e) us = refl
decl_opens (param_number name e) us = refl
decl_opens (param_text name bytes) us = refl
decl_opens (table name t) us = refl
decl_opens (def name params body) us = refl

decl_some : (x : DeclTree) → 1 ≤ length (decl_tokens x)
decl_some (var name true e) = omega arith
decl_some (var name false e) = omega arith
decl_some (hold name true limit) = omega arith
decl_some (hold name false limit) = omega arith
decl_some (constant name e) = omega arith
decl_some (param_number name e) = omega arith
decl_some (param_text name bytes) = omega arith
decl_some (table name t) = omega arith
decl_some (def name params body) = omega arith

-- a trigger without its first word
abbrev behind_on : TriggerTree → List TokenTree
behind_on (event e) = word_token (event_text e) ∷ []
behind_on (byte name) = word_token (codes "byte") ∷ name_token name ∷ []
behind_on (pattern t) = word_token (codes "match") ∷ text_token t ∷ []

on_first : (t : TriggerTree) → trigger_tokens t ≡ word_token (codes "on") ∷ behind_on t
on_first (event e) = refl
on_first (byte name) = refl
on_first (pattern t) = refl

event_reads : (e : Event) (us : List TokenTree) → read_trigger (tokens_at (word_token (event_text e) ∷ us) 0) ≡ (event e, tokens_at us 0)
unfolding read_trigger event_in
event_reads events.Start us = refl
event_reads _ us = refl

trigger_reads : (t : TriggerTree) (us : List TokenTree) → FitsTrigger t → is_quoted_token (first_token us) ≡ false
    → read_trigger (tokens_at (behind_on t ++ us) 0) ≡ (t, tokens_at us 0)
unfolding read_trigger event_in read_name
trigger_reads (event e) us f c = event_reads e us
trigger_reads (byte name) us f c = refl
trigger_reads (pattern t) us f c = ap (λ (x : TextTree × UnreadTokens). (pattern x.0, x.1)) (text_reads t us f c)

on_calm : is_calm (word_token (codes "on")) ≡ true
unfolding operator_in
on_calm = refl

end_calm : is_calm end_token ≡ true
unfolding operator_in
end_calm = refl

handler_reads : (h : HandlerTree) (us : List TokenTree) → FitsHandler h → is_calm (first_token us) ≡ true → read_handler (tokens_at (handler_tokens h ++ us) 0) ≡ (h, tokens_at us 0)
unfolding read_handler
handler_reads h us f c =
    ap (λ t. read_handler (tokens_at t 0)) (append_assoc (trigger_tokens h.on) (block_tokens (body_tokens h.body)) us)
    ∙ ap (λ t. read_handler (tokens_at (t ++ (block_tokens (body_tokens h.body) ++ us)) 0)) (on_first h.on)
    ∙ rw (trigger_reads h.on (block_tokens (body_tokens h.body) ++ us) f.0 refl)
    (rw (block_reads h.body 512 us f.1 f.2) (ap (λ b. (record { on = h.on; body = b }, tokens_at us 0)) (body_list h.body)))

handler_calm : (h : HandlerTree) (us : List TokenTree) → is_calm (first_token (handler_tokens h ++ us)) ≡ true
handler_calm h us = ap (λ t. is_calm (first_token ((t ++ block_tokens (body_tokens h.body)) ++ us))) (on_first h.on) ∙ on_calm

handler_opens : (h : HandlerTree) (us : List TokenTree) → ends_handlers (tokens_at (handler_tokens h ++ us) 0) ≡ false
handler_opens h us = ap (λ t. ends_handlers (tokens_at ((t ++ block_tokens (body_tokens h.body)) ++ us) 0)) (on_first h.on)

handler_some : (h : HandlerTree) → 1 ≤ length (handler_tokens h)
handler_some h = omega (arith, length-append (trigger_tokens h.on) (block_tokens (body_tokens h.body)), ap length (on_first h.on))

-- items, one behind the other
items_all : {A : Type 0} (stops : UnreadTokens → Bool) (item : UnreadTokens → A × UnreadTokens) (shown : A → List TokenTree) (P : A → Type 0)
    → ((x : A) (us : List TokenTree) → P x → is_calm (first_token us) ≡ true → item (tokens_at (shown x ++ us) 0) ≡ (x, tokens_at us 0))
    → ((x : A) (us : List TokenTree) → stops (tokens_at (shown x ++ us) 0) ≡ false)
    → ((x : A) (us : List TokenTree) → is_calm (first_token (shown x ++ us)) ≡ true)
    → ((x : A) → 1 ≤ length (shown x))
    → (xs : List A) (rest : List TokenTree) → AllByRecursion P xs → stops (tokens_at rest 0) ≡ true → is_calm (first_token rest) ≡ true → (k : ℕ)
    → length (flat_map shown xs) < k → read_items stops item k (tokens_at (flat_map shown xs ++ rest) 0) ≡ (xs, tokens_at rest 0)
items_all stops item shown P reads opens calm some xs rest f e c zero h = absurd (omega arith)
items_all stops item shown P reads opens calm some [] rest f e c (suc k) h = rw e refl
items_all stops item shown P reads opens calm some (x ∷ xs) rest f e c (suc k) h =
    ap (λ t. read_items stops item (suc k) (tokens_at t 0)) (append_assoc (shown x) (flat_map shown xs) rest)
    ∙ rw (opens x (flat_map shown xs ++ rest)) (rw (reads x (flat_map shown xs ++ rest) f.0 (calm_next xs))
    (rw (items_all stops item shown P reads opens calm some xs rest f.1 e c k (omega (arith, h, length-append (shown x) (flat_map shown xs), some x))) refl))
  where
    calm_next : (ys : List _) → is_calm (first_token (flat_map shown ys ++ rest)) ≡ true
    calm_next [] = c
    calm_next (y ∷ ys) = ap (λ t. is_calm (first_token t)) (append_assoc (shown y) (flat_map shown ys) rest) ∙ calm y (flat_map shown ys ++ rest)

handlers_first : (hs : List HandlerTree) → ends_decls (tokens_at (flat_map handler_tokens hs ++ (end_token ∷ [])) 0) ≡ true
handlers_first [] = refl
handlers_first (h ∷ hs) = ap (λ t. ends_decls (tokens_at (((t ++ block_tokens (body_tokens h.body)) ++ flat_map handler_tokens hs) ++ (end_token ∷ [])) 0)) (on_first h.on)

handlers_calm : (hs : List HandlerTree) → is_calm (first_token (flat_map handler_tokens hs ++ (end_token ∷ []))) ≡ true
handlers_calm [] = end_calm
handlers_calm (h ∷ hs) = ap (λ t. is_calm (first_token (((t ++ block_tokens (body_tokens h.body)) ++ flat_map handler_tokens hs) ++ (end_token ∷ [])))) (on_first h.on) ∙ on_calm

name_first : (b : Bool) (name : List ℕ) (us : List TokenTree)
    → (let t = (if b then word_token name else name_token name) in filter_name_at t (tokens_at (t ∷ us) 0)) ≡ (name, tokens_at us 0)
unfolding read_name
name_first true name us = refl
name_first false name us = refl

filter_name_reads : (name : List ℕ) (us : List TokenTree) → is_calm (first_token us) ≡ true
    → read_filter_name (tokens_at (filter_name_token name ∷ us) 0) ≡ (name, tokens_at us 0)
unfolding read_filter_name
filter_name_reads name us c = rw (name_first (is_word name) name us) (rw (calm_hyphen (first_token us) c) refl)

decls_calm : (ds : List DeclTree) (us : List TokenTree) → is_calm (first_token us) ≡ true → is_calm (first_token (flat_map decl_tokens ds ++ us)) ≡ true
decls_calm [] us c = c
decls_calm (d ∷ ds) us c =
    ap (λ t. is_calm (first_token t)) (append_assoc (decl_tokens d) (flat_map decl_tokens ds) us) ∙ decl_calm d (flat_map decl_tokens ds ++ us)

handlers_read : (hs : List HandlerTree) → AllByRecursion FitsHandler hs → read_handlers (tokens_at (flat_map handler_tokens hs ++ (end_token ∷ [])) 0) ≡ (hs, tokens_at (end_token ∷ []) 0)
unfolding read_handlers
handlers_read hs f =
    items_all ends_handlers read_handler handler_tokens FitsHandler handler_reads handler_opens handler_calm handler_some hs (end_token ∷ []) f refl end_calm
    (length (flat_map handler_tokens hs ++ (end_token ∷ [])) + 1) (omega (arith, length-append (flat_map handler_tokens hs) (end_token ∷ [])))

-- the tokens of a filter are read as the filter, up to the end
pub filter_reads : (s : SourceTree) → FitsSource s → read_filter (tokens_at (printed_tokens s ++ (end_token ∷ [])) 0) ≡ (s, tokens_at (end_token ∷ []) 0)
unfolding read_filter
filter_reads s f =
    ap (λ t. read_filter (tokens_at (word_token (codes "filter") ∷ filter_name_token s.name ∷ t) 0)) (append_assoc (flat_map decl_tokens s.decls) (flat_map handler_tokens s.handlers) (end_token ∷ []))
    ∙ rw (filter_name_reads s.name (flat_map decl_tokens s.decls ++ (flat_map handler_tokens s.handlers ++ (end_token ∷ [])))
    (decls_calm s.decls (flat_map handler_tokens s.handlers ++ (end_token ∷ [])) (handlers_calm s.handlers)))
    (rw (items_all ends_decls read_decl decl_tokens FitsDecl decl_reads decl_opens decl_calm decl_some s.decls (flat_map handler_tokens s.handlers ++ (end_token ∷ [])) f.0
    (handlers_first s.handlers) (handlers_calm s.handlers)
    (length (flat_map decl_tokens s.decls ++ (flat_map handler_tokens s.handlers ++ (end_token ∷ []))) + 1)
    (omega (arith, length-append (flat_map decl_tokens s.decls) (flat_map handler_tokens s.handlers ++ (end_token ∷ [])))))
    (rw (handlers_read s.handlers f.1) refl))
