-- Tokens behind which nothing goes on with what stands before them.
use Rattle.std.proofs.Common.{◌≡◌, ℕ, ◌<◌, ◌≤◌, Bool, true, false, List, [], ◌∷◌, ◌++◌, Option, Some, None, length, refl, arith, codes, append_assoc}
use Rattle.std.specs.Prelude.{◌&&◌, ◌||◌, not, is_none}
use Rattle.author_text.specs.declared.operators.Level.{Level}
use Rattle.author_text.specs.declared.operators.Level.TheVariants as level
use Rattle.author_text.specs.declared.source.BinaryOp.{BinaryOp}
use Rattle.author_text.specs.declared.source.BinaryOp.TheVariants as op
use Rattle.author_text.specs.declared.source.Plain.{Plain}
use Rattle.author_text.specs.declared.source.Plain.TheVariants as word
use Rattle.author_text.specs.Printed.{operator_level, closer, left_level, is_loose}
use Rattle.author_text.specs.PrintedSource.{plain_text}
use Rattle.author_text.specs.PrintedTokens.{stmt_tokens, body_tokens}
use Rattle.author_text.specs.ReadExprs.{operator_in, StopsExpr}
use Rattle.author_text.specs.ReadStmts.{ends_block}
use Rattle.author_text.specs.Tokens.{TokenTree, name_token, word_token, mark_token, operator_token, bracketed_tokens, expr_tokens}
use Rattle.author_text.specs.Trees.{ExprTree, number, variable, size, empty, has, look, negation, binary}
use Rattle.author_text.specs.Trees.{StmtTree, BodyTree, define, set, run, put, discard, cut, plain, choice, repeat, walk, log, nothing, first}
use Rattle.author_text.specs.UnreadTokens.{first_token, is_at, is_end_token, is_quoted_token}

pub and_left : (a b : Bool) → (a && b) ≡ true → a ≡ true
and_left true b h = refl
and_left false b h = h

pub and_right : (a b : Bool) → (a && b) ≡ true → b ≡ true
and_right true b h = h
and_right false b h = absurd (cc)

pub or_left : (a b : Bool) → (a || b) ≡ false → a ≡ false
or_left true b h = h
or_left false b h = refl

pub or_right : (a b : Bool) → (a || b) ≡ false → b ≡ false
or_right true b h = absurd (cc)
or_right false b h = h

not_true : (b : Bool) → not b ≡ true → b ≡ false
not_true true h = absurd (cc)
not_true false h = refl

none_of : (o : Option BinaryOp) → is_none o ≡ true → o ≡ None
none_of None h = refl
none_of (Some x) h = absurd (cc)

abbrev no_operator_at : TokenTree → Bool
no_operator_at t =
    is_none (operator_in level.Or t) && (is_none (operator_in level.And t) && (is_none (operator_in level.Compare t)
    && (is_none (operator_in level.Sum t) && (is_none (operator_in level.Product t) && is_none (operator_in level.Unit t)))))

-- none of the words and marks with which something goes on
abbrev goes_on : TokenTree → Bool
goes_on t = is_at t (codes "[") || (is_at t (codes "of") || (is_at t (codes "else") || (is_at t (codes "at") || (is_quoted_token t || (is_at t (codes "-") || is_at t (codes "{"))))))

abbrev pub is_calm : TokenTree → Bool
is_calm t = no_operator_at t && not (goes_on t)

six : (a b c d e f : Bool) → (a && (b && (c && (d && (e && f))))) ≡ true → (a ≡ true) × (b ≡ true) × (c ≡ true) × (d ≡ true) × (e ≡ true) × (f ≡ true)
six a b c d e f h =
    let h1 = and_right a (b && (c && (d && (e && f)))) h in
    let h2 = and_right b (c && (d && (e && f))) h1 in
    let h3 = and_right c (d && (e && f)) h2 in
    let h4 = and_right d (e && f) h3 in
    (and_left a (b && (c && (d && (e && f)))) h, and_left b (c && (d && (e && f))) h1, and_left c (d && (e && f)) h2, and_left d (e && f) h3, and_left e f h4, and_right e f h4)

five : (a b c d e : Bool) → (a || (b || (c || (d || e)))) ≡ false → (a ≡ false) × (b ≡ false) × (c ≡ false) × (d ≡ false) × (e ≡ false)
five a b c d e h =
    let h1 = or_right a (b || (c || (d || e))) h in
    let h2 = or_right b (c || (d || e)) h1 in
    let h3 = or_right c (d || e) h2 in
    (or_left a (b || (c || (d || e))) h, or_left b (c || (d || e)) h1, or_left c (d || e) h2, or_left d e h3, or_right d e h3)

no_operator : (t : TokenTree) → no_operator_at t ≡ true → (l : Level) → operator_in l t ≡ None
no_operator t h l =
    at_level l (six (is_none (operator_in level.Or t)) (is_none (operator_in level.And t)) (is_none (operator_in level.Compare t))
    (is_none (operator_in level.Sum t)) (is_none (operator_in level.Product t)) (is_none (operator_in level.Unit t)) h)
  where
    at_level : (l : Level) → (is_none (operator_in level.Or t) ≡ true) × (is_none (operator_in level.And t) ≡ true) × (is_none (operator_in level.Compare t) ≡ true)
        × (is_none (operator_in level.Sum t) ≡ true) × (is_none (operator_in level.Product t) ≡ true) × (is_none (operator_in level.Unit t) ≡ true) → operator_in l t ≡ None
    at_level level.Or q = none_of (operator_in level.Or t) q.0
    at_level level.And q = none_of (operator_in level.And t) q.1
    at_level level.Compare q = none_of (operator_in level.Compare t) q.2
    at_level level.Sum q = none_of (operator_in level.Sum t) q.3
    at_level level.Product q = none_of (operator_in level.Product t) q.4
    at_level level.Unit q = none_of (operator_in level.Unit t) q.5

goes_not : (t : TokenTree) → is_calm t ≡ true → goes_on t ≡ false
goes_not t h = not_true (goes_on t) (and_right (no_operator_at t) (not (goes_on t)) h)

calm_five : (t : TokenTree) → is_calm t ≡ true
    → (is_at t (codes "[") ≡ false) × (is_at t (codes "of") ≡ false) × (is_at t (codes "else") ≡ false) × (is_at t (codes "at") ≡ false)
    × ((is_quoted_token t || (is_at t (codes "-") || is_at t (codes "{"))) ≡ false)
calm_five t h = five (is_at t (codes "[")) (is_at t (codes "of")) (is_at t (codes "else")) (is_at t (codes "at")) (is_quoted_token t || (is_at t (codes "-") || is_at t (codes "{"))) (goes_not t h)

pub calm_stops : (us : List TokenTree) → is_calm (first_token us) ≡ true → StopsExpr level.Or us
calm_stops us h =
    ((λ l q. no_operator (first_token us) (and_left (no_operator_at (first_token us)) (not (goes_on (first_token us))) h) l), (calm_five (first_token us) h).0)

pub calm_of : (t : TokenTree) → is_calm t ≡ true → is_at t (codes "of") ≡ false
calm_of t h = (calm_five t h).1

pub calm_else : (t : TokenTree) → is_calm t ≡ true → is_at t (codes "else") ≡ false
calm_else t h = (calm_five t h).2

pub calm_at : (t : TokenTree) → is_calm t ≡ true → is_at t (codes "at") ≡ false
calm_at t h = (calm_five t h).3

pub calm_quoted : (t : TokenTree) → is_calm t ≡ true → is_quoted_token t ≡ false
calm_quoted t h = or_left (is_quoted_token t) (is_at t (codes "-") || is_at t (codes "{")) (calm_five t h).4

pub calm_hyphen : (t : TokenTree) → is_calm t ≡ true → is_at t (codes "-") ≡ false
calm_hyphen t h = or_left (is_at t (codes "-")) (is_at t (codes "{")) (or_right (is_quoted_token t) (is_at t (codes "-") || is_at t (codes "{")) (calm_five t h).4)

pub calm_open : (t : TokenTree) → is_calm t ≡ true → is_at t (codes "{") ≡ false
calm_open t h = or_right (is_at t (codes "-")) (is_at t (codes "{")) (or_right (is_quoted_token t) (is_at t (codes "-") || is_at t (codes "{")) (calm_five t h).4)

-- marks and words behind an expression
pub mark_stops : (w : List ℕ) → no_operator_at (mark_token w) ≡ true → is_at (mark_token w) (codes "[") ≡ false → (us : List TokenTree) → StopsExpr level.Or (mark_token w ∷ us)
mark_stops w h i us = ((λ l q. no_operator (mark_token w) h l), i)

pub comma_stops : (us : List TokenTree) → StopsExpr level.Or (mark_token (codes ",") ∷ us)
unfolding operator_in
comma_stops us = mark_stops (codes ",") refl refl us

pub round_stops : (us : List TokenTree) → StopsExpr level.Or (mark_token (codes ")") ∷ us)
unfolding operator_in
round_stops us = mark_stops (codes ")") refl refl us

pub open_stops : (us : List TokenTree) → StopsExpr level.Or (mark_token (codes "{") ∷ us)
unfolding operator_in
open_stops us = mark_stops (codes "{") refl refl us

pub of_stops : (us : List TokenTree) → StopsExpr level.Or (word_token (codes "of") ∷ us)
unfolding operator_in
of_stops us = ((λ l q. no_operator (word_token (codes "of")) refl l), refl)

pub in_stops : (us : List TokenTree) → StopsExpr level.Or (word_token (codes "in") ∷ us)
unfolding operator_in
in_stops us = ((λ l q. no_operator (word_token (codes "in")) refl l), refl)

pub close_calm : is_calm (mark_token (codes "}")) ≡ true
unfolding operator_in
close_calm = refl

pub in_calm : is_calm (word_token (codes "in")) ≡ true
unfolding operator_in
in_calm = refl

-- with what an expression does not begin
abbrev begins_thing : TokenTree → Bool
begins_thing t = is_quoted_token t || (is_at t (codes "it") || (is_at t (codes "copy") || (is_at t (codes "decimal") || is_at t (codes ")"))))

expr_first : (e : ExprTree) (us : List TokenTree) → begins_thing (first_token (expr_tokens e ++ us)) ≡ false
expr_first (number x) us = refl
expr_first (variable x) us = refl
expr_first (size x) us = refl
expr_first (empty x) us = refl
expr_first (has x e) us = refl
expr_first (look x e) us = refl
expr_first (negation e) us = refl
expr_first (binary o a b) us =
    rw append_assoc (left_part a (is_loose a (left_level (operator_level o))) (operator_token o ∷ bracketed_tokens (is_loose b (closer (operator_level o))) (expr_tokens b) ++ us) (expr_first a _))
  where
    left_part : (a : ExprTree) (t : Bool) (ws : List TokenTree) → begins_thing (first_token (expr_tokens a ++ ws)) ≡ false
        → begins_thing (first_token (bracketed_tokens t (expr_tokens a) ++ ws)) ≡ false
    left_part a true ws ih = refl
    left_part a false ws ih = ih

expr_five : (e : ExprTree) (us : List TokenTree) → let t = first_token (expr_tokens e ++ us) in
    (is_quoted_token t ≡ false) × (is_at t (codes "it") ≡ false) × (is_at t (codes "copy") ≡ false) × (is_at t (codes "decimal") ≡ false) × (is_at t (codes ")") ≡ false)
expr_five e us =
    let t = first_token (expr_tokens e ++ us) in
    five (is_quoted_token t) (is_at t (codes "it")) (is_at t (codes "copy")) (is_at t (codes "decimal")) (is_at t (codes ")")) (expr_first e us)

pub expr_quoted : (e : ExprTree) (us : List TokenTree) → is_quoted_token (first_token (expr_tokens e ++ us)) ≡ false
expr_quoted e us = (expr_five e us).0

pub expr_it : (e : ExprTree) (us : List TokenTree) → is_at (first_token (expr_tokens e ++ us)) (codes "it") ≡ false
expr_it e us = (expr_five e us).1

pub expr_copy : (e : ExprTree) (us : List TokenTree) → is_at (first_token (expr_tokens e ++ us)) (codes "copy") ≡ false
expr_copy e us = (expr_five e us).2

pub expr_decimal : (e : ExprTree) (us : List TokenTree) → is_at (first_token (expr_tokens e ++ us)) (codes "decimal") ≡ false
expr_decimal e us = (expr_five e us).3

pub expr_round : (e : ExprTree) (us : List TokenTree) → is_at (first_token (expr_tokens e ++ us)) (codes ")") ≡ false
expr_round e us = (expr_five e us).4

plain_calm : (w : Plain) → is_calm (word_token (plain_text w)) ≡ true
unfolding operator_in
plain_calm word.Flush = refl
plain_calm _ = refl

plain_opens : (w : Plain) → (is_at (word_token (plain_text w)) (codes "}") || is_end_token (word_token (plain_text w))) ≡ false
plain_opens word.Flush = refl
plain_opens _ = refl

pub stmt_calm : (s : StmtTree) (us : List TokenTree) → is_calm (first_token (stmt_tokens s ++ us)) ≡ true
unfolding operator_in
stmt_calm (define name e) us = refl
stmt_calm (set name o e) us = refl
stmt_calm (run name es) us = refl
stmt_calm (put t None) us = refl
stmt_calm (put t (Some name)) us = refl
stmt_calm (discard over) us = refl
stmt_calm (cut e) us = refl
stmt_calm (plain w) us = plain_calm w
stmt_calm (choice e taken other) us = refl
stmt_calm (repeat None body) us = refl
stmt_calm (repeat (Some e) body) us = refl
stmt_calm (walk name index over body) us = refl
stmt_calm (log is_conn t) us = refl

pub stmt_opens : (s : StmtTree) (us : List TokenTree) → (is_at (first_token (stmt_tokens s ++ us)) (codes "}") || is_end_token (first_token (stmt_tokens s ++ us))) ≡ false
stmt_opens (define name e) us = refl
stmt_opens (set name o e) us = refl
stmt_opens (run name es) us = refl
stmt_opens (put t None) us = refl
stmt_opens (put t (Some name)) us = refl
stmt_opens (discard over) us = refl
stmt_opens (cut e) us = refl
stmt_opens (plain w) us = plain_opens w
stmt_opens (choice e taken other) us = refl
stmt_opens (repeat None body) us = refl
stmt_opens (repeat (Some e) body) us = refl
stmt_opens (walk name index over body) us = refl
stmt_opens (log is_conn t) us = refl

pub stmt_some : (s : StmtTree) → 1 ≤ length (stmt_tokens s)
stmt_some (define name e) = omega arith
stmt_some (set name o e) = omega arith
stmt_some (run name es) = omega arith
stmt_some (put t to) = omega arith
stmt_some (discard over) = omega arith
stmt_some (cut e) = omega arith
stmt_some (plain w) = omega arith
stmt_some (choice e taken other) = omega arith
stmt_some (repeat None body) = omega arith
stmt_some (repeat (Some e) body) = omega arith
stmt_some (walk name index over body) = omega arith
stmt_some (log is_conn t) = omega arith

-- a body begins with a statement, or its closing bracket follows
pub body_calm : (b : BodyTree) (us : List TokenTree) → is_calm (first_token (body_tokens b ++ mark_token (codes "}") ∷ us)) ≡ true
body_calm nothing us = close_calm
body_calm (first s rest) us = rw append_assoc (stmt_calm s (body_tokens rest ++ mark_token (codes "}") ∷ us))
