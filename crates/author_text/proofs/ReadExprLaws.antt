-- The tokens of an expression are read as the expression.
use Rattle.std.proofs.Common.{◌≡◌, ℕ, ◌+◌, ◌-◌, ◌*◌, ◌<◌, ◌≤◌, zero, suc, max, Bool, true, false, cond, List, [], ◌∷◌, ◌++◌, Option, Some, None, length, refl, ap, sym, subst, ◌∙◌, arith, codes, append_assoc, ltb, length-append}
use Rattle.std.specs.Prelude.{bytes_eq, nat_lt, nat_le}
use Rattle.std.proofs.lemmas.Bool.{ltb-false, lt-ltb, le-ltb, lt-leb}
use Rattle.author_text.specs.declared.operators.Level.{Level}
use Rattle.author_text.specs.declared.operators.Level.TheVariants as level
use Rattle.author_text.specs.declared.source.BinaryOp.{BinaryOp}
use Rattle.author_text.specs.Limits.{operator_count, bracketed_calls, expr_calls, FitsExpr}
use Rattle.author_text.specs.Printed.{operator_level, closer, left_level, rank, level_of, is_loose}
use Rattle.author_text.specs.ReadExprs.{ReadExpr, StopsExpr, is_level, operator_in, read_more, unchained, read_expr}
use Rattle.author_text.specs.ReadExprs.{read_chain, read_operand, read_unit, read_inner, read_named, read_asked, read_hold_behind}
use Rattle.author_text.specs.Tokens.{TokenTree, number_token, name_token, word_token, mark_token, operator_token, hold_or_it_token}
use Rattle.author_text.specs.Tokens.{bracketed_tokens, expr_tokens, within_tokens}
use Rattle.author_text.specs.Trees.{ExprTree, number, variable, size, empty, has, look, negation, binary}
use Rattle.author_text.specs.UnreadTokens.{UnreadTokens, tokens_at, first_token, next_token, is_at, read_name, read_hold_or_it}
use Rattle.author_text.proofs.OperatorLaws.{same_level, rank_most, rank_closer, rank_operator, left_same, is_own_level, is_other_level, operator_own, operator_closer, operator_no_index, same_test}

abbrev read_at : Level → ℕ → UnreadTokens → ReadExpr
read_at level.Unit d u = read_unit d u
read_at l d u = read_chain d l u

abbrev within_calls : ExprTree → Level → ℕ
within_calls e l = bracketed_calls (is_loose e l) (expr_calls e)

pub more_none : (f : UnreadTokens → ReadExpr) (l : Level) (k : ℕ) (e : ExprTree) (v : UnreadTokens) → operator_in l (next_token v) ≡ None → read_more f l k e v ≡ (e, v)
more_none f l zero e v h = refl
more_none f l (suc k) e v h = rw (h, read_more) refl

chain_of_operand : (d : ℕ) (l : Level) (u : UnreadTokens) (e : ExprTree) (v : UnreadTokens) → read_operand d l u ≡ (e, v)
    → read_chain (suc d) l u ≡ read_more (read_operand d l) l (length v.tokens + 1) e v
unfolding read_chain
chain_of_operand d l u e v h = rw h refl

operand_down : (l : Level) (d : ℕ) (u : UnreadTokens) → rank l < 5 → (l ≡ level.Compare → is_at (next_token u) (codes "not") ≡ false)
    → read_operand (suc d) l u ≡ read_at (closer l) d u
unfolding read_operand
operand_down level.Or d u r nn = refl
operand_down level.And d u r nn = refl
operand_down level.Compare d u r nn = rw (nn refl) refl
operand_down level.Sum d u r nn = refl
operand_down level.Product d u r nn = refl
operand_down level.Unit d u r nn = absurd (omega arith)

chain_at : (l : Level) (d : ℕ) (u : UnreadTokens) → rank l < 5 → read_at l d u ≡ read_chain d l u
chain_at level.Or d u r = refl
chain_at level.And d u r = refl
chain_at level.Compare d u r = refl
chain_at level.Sum d u r = refl
chain_at level.Product d u r = refl
chain_at level.Unit d u r = absurd (omega arith)

-- an expression is read at a level, with so many calls or more
abbrev AtLevel : ℕ → Level → UnreadTokens → ExprTree → UnreadTokens → Type 0
AtLevel c l u e v = (d : ℕ) → c ≤ d + 2 * rank l → read_at l d u ≡ (e, v)

down : (l : Level) (c : ℕ) (u : UnreadTokens) (e : ExprTree) (v : UnreadTokens) → rank l < 5 → 11 ≤ c → AtLevel c (closer l) u e v
    → operator_in l (next_token v) ≡ None → (l ≡ level.Compare → is_at (next_token u) (codes "not") ≡ false)
    → (d : ℕ) → c ≤ d + 2 * rank l → read_at l d u ≡ (e, v)
down l c u e v r big a s nn zero h = absurd (omega arith)
down l c u e v r big a s nn (suc zero) h = absurd (omega arith)
down l c u e v r big a s nn (suc (suc d)) h =
    chain_at l (suc (suc d)) u r
    ∙ chain_of_operand (suc d) l u e v (operand_down l d u r nn ∙ a d (omega (arith, h, rank_closer l r)))
    ∙ more_none (read_operand (suc d) l) l (length v.tokens + 1) e v s

climb : (k : ℕ) (l m : Level) (c : ℕ) (u : UnreadTokens) (e : ExprTree) (v : UnreadTokens) → rank l + k ≡ rank m → 11 ≤ c → AtLevel c m u e v
    → ((o : Level) → rank l ≤ rank o → operator_in o (next_token v) ≡ None) → (3 ≤ rank m → is_at (next_token u) (codes "not") ≡ false)
    → AtLevel c l u e v
climb zero l m c u e v r big a s nn = subst (λ x. AtLevel c x u e v) (same_level m l (omega (arith, r))) a
climb (suc k) l m c u e v r big a s nn =
    let q : rank l < 5 = omega (arith, r, rank_most m) in
    let w : rank (closer l) ≡ rank l + 1 = rank_closer l q in
    down l c u e v q big
    (climb k (closer l) m c u e v (omega (arith, r, w)) big a (λ o t. s o (omega (arith, t, w))) nn)
    (s l (omega arith)) (λ f. nn (is_far (ap rank f)))
  where
    is_far : rank l ≡ 2 → 3 ≤ rank m
    is_far f = omega (arith, r, f)

-- an expression whose brackets are not needed at this level
abbrev pub Core : ExprTree → Type 0
Core e = (l : Level) (n : ℕ) (us : List TokenTree) → rank l ≤ rank (level_of e) → n + operator_count e ≤ 250 → StopsExpr l us
    → AtLevel (expr_calls e) l (tokens_at (expr_tokens e ++ us) n) e (tokens_at us (n + operator_count e))

pub calls_least : (e : ExprTree) → 11 ≤ expr_calls e
calls_least (number x) = omega arith
calls_least (variable x) = omega arith
calls_least (size x) = omega arith
calls_least (empty x) = omega arith
calls_least (has x e) = omega (arith, calls_least e)
calls_least (look x e) = omega (arith, calls_least e)
calls_least (negation e) = least (is_loose e level.Compare) (expr_calls e) (calls_least e)
  where
    least : (b : Bool) (c : ℕ) → 11 ≤ c → 11 ≤ bracketed_calls b c + 2
    least true c h = omega (arith, h)
    least false c h = omega (arith, h)
calls_least (binary o a b) =
    most (is_loose a (left_level (operator_level o))) (expr_calls a) (bracketed_calls (is_loose b (closer (operator_level o))) (expr_calls b)) (calls_least a)
  where
    most : (t : Bool) (c w : ℕ) → 11 ≤ c → 11 ≤ max (bracketed_calls t c) w
    most true c w h = omega (arith, h)
    most false c w h = omega (arith, h)

not_far : (b : Bool) (r x : ℕ) → ltb r x ≡ b → b ≡ false → x ≤ r
not_far b r x e f = ltb-false r x (e ∙ f)

calls_within : (e : ExprTree) (l : Level) → 11 ≤ within_calls e l
calls_within e l = least (is_loose e l) (expr_calls e) (calls_least e)
  where
    least : (b : Bool) (c : ℕ) → 11 ≤ c → 11 ≤ bracketed_calls b c
    least true c h = omega (arith, h)
    least false c h = omega (arith, h)

-- what binds more closely than comparisons does not begin with `not`
no_not : (e : ExprTree) (us : List TokenTree) → 3 ≤ rank (level_of e) → is_at (first_token (expr_tokens e ++ us)) (codes "not") ≡ false
no_not (number x) us h = refl
no_not (variable x) us h = refl
no_not (size x) us h = refl
no_not (empty x) us h = refl
no_not (has x e) us h = refl
no_not (look x e) us h = refl
no_not (negation e) us h = absurd (omega arith)
no_not (binary o a b) us h =
    rw append_assoc (left_part a (left_level (operator_level o)) (operator_token o ∷ bracketed_tokens (is_loose b (closer (operator_level o))) (expr_tokens b) ++ us) (λ q. no_not a _ q) (far_left (operator_level o) h) (is_loose a (left_level (operator_level o))) refl)
  where
    far_left : (m : Level) → 3 ≤ rank m → 3 ≤ rank (left_level m)
    far_left level.Compare q = absurd (omega arith)
    far_left _ q = q

    left_part : (a : ExprTree) (m : Level) (ws : List TokenTree) → (3 ≤ rank (level_of a) → is_at (first_token (expr_tokens a ++ ws)) (codes "not") ≡ false) → 3 ≤ rank m
        → (t : Bool) → is_loose a m ≡ t → is_at (first_token (bracketed_tokens t (expr_tokens a) ++ ws)) (codes "not") ≡ false
    left_part a m ws ih q true e = refl
    left_part a m ws ih q false e = ih (omega (arith, q, not_far (is_loose a m) (rank (level_of a)) (rank m) refl e))

within_no_not : (e : ExprTree) (l : Level) (us : List TokenTree) → 3 ≤ rank l → is_at (first_token (within_tokens e l ++ us)) (codes "not") ≡ false
within_no_not e l us h = by_test (is_loose e l) refl
  where
    by_test : (t : Bool) → is_loose e l ≡ t → is_at (first_token (bracketed_tokens t (expr_tokens e) ++ us)) (codes "not") ≡ false
    by_test true q = refl
    by_test false q = no_not e us (omega (arith, h, not_far (is_loose e l) (rank (level_of e)) (rank l) refl q))

-- what is read at the closest level
abbrev AtUnit : ExprTree → Type 0
AtUnit e = (n : ℕ) (us : List TokenTree) → n + operator_count e ≤ 250 → StopsExpr level.Unit us
    → AtLevel (expr_calls e) level.Unit (tokens_at (expr_tokens e ++ us) n) e (tokens_at us (n + operator_count e))

core_of_unit : (e : ExprTree) → 3 ≤ rank (level_of e) → rank (level_of e) ≡ 5 → AtUnit e → Core e
core_of_unit e far u a l n us r m s =
    climb_from (5 - rank l) (omega (arith, rank_most l))
  where
    climb_from : (k : ℕ) → rank l + k ≡ 5 → AtLevel (expr_calls e) l (tokens_at (expr_tokens e ++ us) n) e (tokens_at us (n + operator_count e))
    climb_from k q =
        climb k l level.Unit (expr_calls e) (tokens_at (expr_tokens e ++ us) n) e (tokens_at us (n + operator_count e)) q (calls_least e)
        (a n us m ((λ o t. s.0 o (omega (arith, t, rank_most l)), s.1))) s.0 (λ t. no_not e us far)

-- a name, a number or what is asked of a hold, without calls below
number_unit : (x : ℕ) → AtUnit (number x)
unfolding read_unit
number_unit x n us m s zero h = absurd (omega arith)
number_unit x n us m s (suc d) h = ap (λ k. (number x, tokens_at us k)) (omega arith)

variable_unit : (x : List ℕ) → AtUnit (variable x)
unfolding read_unit read_named read_name
variable_unit x n us m s zero h = absurd (omega arith)
variable_unit x n us m s (suc zero) h = absurd (omega arith)
variable_unit x n us m s (suc (suc d)) h = rw s.1 (ap (λ k. (variable x, tokens_at us k)) (omega arith))

size_unit : (x : Option (List ℕ)) → AtUnit (size x)
unfolding read_unit read_asked read_hold_or_it read_name
size_unit x n us m s zero h = absurd (omega arith)
size_unit x n us m s (suc zero) h = absurd (omega arith)
size_unit None n us m s (suc (suc d)) h = ap (λ k. (size None, tokens_at us k)) (omega arith)
size_unit (Some x) n us m s (suc (suc d)) h = ap (λ k. (size (Some x), tokens_at us k)) (omega arith)

empty_unit : (x : List ℕ) → AtUnit (empty x)
unfolding read_unit read_asked read_hold_behind read_name
empty_unit x n us m s zero h = absurd (omega arith)
empty_unit x n us m s (suc zero) h = absurd (omega arith)
empty_unit x n us m s (suc (suc d)) h = ap (λ k. (empty x, tokens_at us k)) (omega arith)

-- what stands before a closing bracket
closes : (close : List ℕ) (us : List TokenTree) → ((l : Level) → operator_in l (mark_token close) ≡ None) → bytes_eq close (codes "[") ≡ false → StopsExpr level.Or (mark_token close ∷ us)
closes close us none other = ((λ l t. none l), other)

round_stops : (l : Level) → operator_in l (mark_token (codes ")")) ≡ None
unfolding operator_in
round_stops level.Or = refl
round_stops _ = refl

square_stops : (l : Level) → operator_in l (mark_token (codes "]")) ≡ None
unfolding operator_in
square_stops level.Or = refl
square_stops _ = refl

inner_reads : (e : ExprTree) → Core e → (close : List ℕ) → bytes_eq close close ≡ true → (n : ℕ) (us : List TokenTree) (d : ℕ)
    → n + operator_count e ≤ 250 → StopsExpr level.Or (mark_token close ∷ us) → expr_calls e + 1 ≤ d
    → read_inner d close (tokens_at (expr_tokens e ++ mark_token close ∷ us) n) ≡ (e, tokens_at us (n + operator_count e))
unfolding read_inner
inner_reads e core close same n us zero m s h = absurd (omega arith)
inner_reads e core close same n us (suc d) m s h = rw (core level.Or n (mark_token close ∷ us) (omega arith) m s d (omega arith)) (rw same refl)

look_unit : (x : List ℕ) (e : ExprTree) → Core e → AtUnit (look x e)
unfolding read_unit read_named read_name
look_unit x e core n us m s zero h = absurd (omega (arith, calls_least e))
look_unit x e core n us m s (suc zero) h = absurd (omega (arith, calls_least e))
look_unit x e core n us m s (suc (suc d)) h =
    ap (λ t. read_unit (suc (suc d)) (tokens_at (name_token x ∷ mark_token (codes "[") ∷ t) n)) (append_assoc (expr_tokens e) (mark_token (codes "]") ∷ []) us)
    ∙ (rw (inner_reads e core (codes "]") refl n us d m (closes (codes "]") us square_stops refl) (omega arith)) refl)

has_unit : (x : List ℕ) (e : ExprTree) → Core e → AtUnit (has x e)
unfolding read_unit read_asked read_hold_behind read_name
has_unit x e core n us m s zero h = absurd (omega (arith, calls_least e))
has_unit x e core n us m s (suc zero) h = absurd (omega (arith, calls_least e))
has_unit x e core n us m s (suc (suc d)) h =
    ap (λ t. read_unit (suc (suc d)) (tokens_at (word_token (codes "has") ∷ mark_token (codes "(") ∷ name_token x ∷ mark_token (codes ",") ∷ t) n)) (append_assoc (expr_tokens e) (mark_token (codes ")") ∷ []) us)
    ∙ (rw (inner_reads e core (codes ")") refl n us d m (closes (codes ")") us round_stops refl) (omega arith)) refl)

bracket_unit : (e : ExprTree) → Core e → (n : ℕ) (us : List TokenTree) → n + operator_count e ≤ 250 → (d : ℕ) → expr_calls e + 12 ≤ d + 10
    → read_unit d (tokens_at (bracketed_tokens true (expr_tokens e) ++ us) n) ≡ (e, tokens_at us (n + operator_count e))
unfolding read_unit
bracket_unit e core n us m zero h = absurd (omega (arith, calls_least e))
bracket_unit e core n us m (suc d) h =
    rw append_assoc (rw (inner_reads e core (codes ")") refl n us d m (closes (codes ")") us round_stops refl) (omega arith)) refl)

-- an expression, in brackets where it needs them
abbrev pub Within : ExprTree → Type 0
Within e = (l : Level) (n : ℕ) (us : List TokenTree) → n + operator_count e ≤ 250 → StopsExpr l us
    → AtLevel (within_calls e l) l (tokens_at (within_tokens e l ++ us) n) e (tokens_at us (n + operator_count e))

within_of : (e : ExprTree) → Core e → Within e
within_of e core l n us m s = by_test (is_loose e l) refl
  where
    in_brackets : (k : ℕ) → rank l + k ≡ 5 → AtLevel (expr_calls e + 12) l (tokens_at (bracketed_tokens true (expr_tokens e) ++ us) n) e (tokens_at us (n + operator_count e))
    in_brackets k q =
        climb k l level.Unit (expr_calls e + 12) (tokens_at (bracketed_tokens true (expr_tokens e) ++ us) n) e (tokens_at us (n + operator_count e)) q (omega (arith, calls_least e))
        (bracket_unit e core n us m) s.0 (λ t. refl)

    by_test : (t : Bool) → is_loose e l ≡ t
        → AtLevel (bracketed_calls t (expr_calls e)) l (tokens_at (bracketed_tokens t (expr_tokens e) ++ us) n) e (tokens_at us (n + operator_count e))
    by_test true q = in_brackets (5 - rank l) (omega (arith, rank_most l))
    by_test false q = core l n us (not_far (is_loose e l) (rank (level_of e)) (rank l) refl q) m s

negation_core : (e : ExprTree) → Core e → Core (negation e)
unfolding read_operand
negation_core e core l n us r m s = climb_from (2 - rank l) (omega (arith, r))
  where
    here : AtLevel (within_calls e level.Compare + 2) level.Compare (tokens_at (word_token (codes "not") ∷ within_tokens e level.Compare ++ us) n) (negation e) (tokens_at us (n + operator_count e))
    here zero h = absurd (omega (arith, calls_least (negation e)))
    here (suc zero) h = absurd (omega (arith, calls_least (negation e)))
    here (suc (suc d)) h =
        chain_of_operand (suc d) level.Compare (tokens_at (word_token (codes "not") ∷ within_tokens e level.Compare ++ us) n) (negation e) (tokens_at us (n + operator_count e))
        (rw (within_of e core level.Compare n us m (λ o t. s.0 o (omega (arith, t, r)), s.1) d (omega (arith, h))) refl)
        ∙ more_none (read_operand (suc d) level.Compare) level.Compare (length us + 1) (negation e) (tokens_at us (n + operator_count e)) (s.0 level.Compare r)

    climb_from : (k : ℕ) → rank l + k ≡ 2 → AtLevel (expr_calls (negation e)) l (tokens_at (expr_tokens (negation e) ++ us) n) (negation e) (tokens_at us (n + operator_count e))
    climb_from k q =
        climb k l level.Compare (expr_calls (negation e)) (tokens_at (expr_tokens (negation e) ++ us) n) (negation e) (tokens_at us (n + operator_count e)) q (calls_least (negation e))
        here s.0 (λ t. absurd (omega (arith, t)))

-- one operator with its right operand
more_step : (f : UnreadTokens → ReadExpr) (l : Level) (k : ℕ) (o : BinaryOp) (e r : ExprTree) (rs ws : List TokenTree) (n m : ℕ) → operator_level o ≡ l → n < 250
    → f (tokens_at rs (n + 1)) ≡ (r, tokens_at ws m) → unchained l (tokens_at ws m) ≡ tokens_at ws m
    → read_more f l (suc k) e (tokens_at (operator_token o ∷ rs) n) ≡ read_more f l k (binary o e r) (tokens_at ws m)
more_step f l k o e r rs ws n m is few h un = rw (operator_own o l is, read_more) (rw (lt-leb 250 n few) (rw h (rw un refl)))

-- the left operand of an operator of a level, and what is read behind it
abbrev pub Left : ExprTree → Level → Type 0
Left a m = (n : ℕ) (us : List TokenTree) (d : ℕ) → n + operator_count a ≤ 250 → within_calls a (left_level m) ≤ suc d + 2 * rank m → StopsExpr (closer m) us
    → (k : ℕ) × (length us < k)
    × (read_chain (suc d) m (tokens_at (within_tokens a (left_level m) ++ us) n) ≡ read_more (read_operand d m) m k a (tokens_at us (n + operator_count a)))

operand_reads : (e : ExprTree) → Core e → (m : Level) → rank m < 5 → (n : ℕ) (us : List TokenTree) (d : ℕ) → n + operator_count e ≤ 250
    → within_calls e (closer m) ≤ suc d + 2 * rank m → StopsExpr (closer m) us
    → read_operand d m (tokens_at (within_tokens e (closer m) ++ us) n) ≡ (e, tokens_at us (n + operator_count e))
operand_reads e core m r n us zero few h s = absurd (omega (arith, calls_within e (closer m), h, r))
operand_reads e core m r n us (suc d) few h s =
    operand_down m d (tokens_at (within_tokens e (closer m) ++ us) n) r (λ q. within_no_not e (closer m) us (is_far q))
    ∙ within_of e core (closer m) n us few s d (omega (arith, h, rank_closer m r))
  where
    is_far : m ≡ level.Compare → 3 ≤ rank (closer m)
    is_far q = omega (arith, rank_closer m r, ap rank q)

-- an operand of the level itself
left_other : (a : ExprTree) → Core a → (m : Level) → rank m < 5 → is_loose a (left_level m) ≡ is_loose a (closer m) → Left a m
left_other a core m r q n us d few h s =
    let e : (λ (t : Bool). bracketed_calls t (expr_calls a)) (is_loose a (left_level m)) ≡ (λ (t : Bool). bracketed_calls t (expr_calls a)) (is_loose a (closer m)) = ap (λ t. bracketed_calls t (expr_calls a)) q in
    let g : within_tokens a (left_level m) ≡ within_tokens a (closer m) = ap (λ t. bracketed_tokens t (expr_tokens a)) q in (
      length us + 1,
      omega arith,
      ap (λ t. read_chain (suc d) m (tokens_at (t ++ us) n)) g
          ∙ chain_of_operand d m (tokens_at (within_tokens a (closer m) ++ us) n) a (tokens_at us (n + operator_count a))
          (operand_reads a core m r n us d few (omega (arith, e, h)) s),
    )

unchained_none : (l : Level) (us : List TokenTree) (n : ℕ) → (l ≡ level.Compare → operator_in l (first_token us) ≡ None) → unchained l (tokens_at us n) ≡ tokens_at us n
unchained_none level.Compare us n h = rw (h refl) refl
unchained_none level.Or us n h = refl
unchained_none level.And us n h = refl
unchained_none level.Sum us n h = refl
unchained_none level.Product us n h = refl
unchained_none level.Unit us n h = refl

-- an operator with both operands
own : (o : BinaryOp) (a b : ExprTree) → Left a (operator_level o) → Core b → (n : ℕ) (us : List TokenTree) (d : ℕ)
    → n + operator_count (binary o a b) ≤ 250 → expr_calls (binary o a b) ≤ suc d + 2 * rank (operator_level o) → StopsExpr (closer (operator_level o)) us
    → (operator_level o ≡ level.Compare → operator_in (operator_level o) (first_token us) ≡ None)
    → (k : ℕ) × (length us < k)
    × (read_chain (suc d) (operator_level o) (tokens_at (expr_tokens (binary o a b) ++ us) n)
    ≡ read_more (read_operand d (operator_level o)) (operator_level o) k (binary o a b) (tokens_at us (n + operator_count (binary o a b))))
own o a b left core n us d few h s un =
    let got = left n (operator_token o ∷ within_tokens b (closer (operator_level o)) ++ us) d (omega (arith, few)) (omega (arith, h))
    ((λ l t. operator_closer o l (omega (arith, t, rank_closer (operator_level o) (rank_operator o)))), operator_no_index o) in
    step got.0 got.1 got.2
  where
    step : (k : ℕ) → length (operator_token o ∷ within_tokens b (closer (operator_level o)) ++ us) < k
        → read_chain (suc d) (operator_level o) (tokens_at (within_tokens a (left_level (operator_level o)) ++ (operator_token o ∷ within_tokens b (closer (operator_level o)) ++ us)) n)
        ≡ read_more (read_operand d (operator_level o)) (operator_level o) k a (tokens_at (operator_token o ∷ within_tokens b (closer (operator_level o)) ++ us) (n + operator_count a))
        → (k : ℕ) × (length us < k)
        × (read_chain (suc d) (operator_level o) (tokens_at (expr_tokens (binary o a b) ++ us) n)
        ≡ read_more (read_operand d (operator_level o)) (operator_level o) k (binary o a b) (tokens_at us (n + operator_count (binary o a b))))
    step zero q e = absurd (omega arith)
    step (suc k) q e = (
      k,
      omega (arith, q, length-append (within_tokens b (closer (operator_level o))) us),
      ap (λ t. read_chain (suc d) (operator_level o) (tokens_at t n))
          (append_assoc (within_tokens a (left_level (operator_level o))) (operator_token o ∷ within_tokens b (closer (operator_level o))) us)
          ∙ e
          ∙ more_step (read_operand d (operator_level o)) (operator_level o) k o a b (within_tokens b (closer (operator_level o)) ++ us) us (n + operator_count a)
          (n + operator_count a + 1 + operator_count b) refl (omega (arith, few))
          (operand_reads b core (operator_level o) (rank_operator o) (n + operator_count a + 1) us d (omega (arith, few)) (omega (arith, h)) s)
          (unchained_none (operator_level o) us (n + operator_count a + 1 + operator_count b) un)
          ∙ ap (λ x. read_more (read_operand d (operator_level o)) (operator_level o) k (binary o a b) (tokens_at us x)) (omega arith),
    )

binary_core : (o : BinaryOp) (a b : ExprTree) → Left a (operator_level o) → Core b → Core (binary o a b)
binary_core o a b left core l n us r few s =
    climb_from (rank (operator_level o) - rank l) (omega (arith, r))
  where
    here : (d : ℕ) → expr_calls (binary o a b) ≤ d + 2 * rank (operator_level o)
        → read_at (operator_level o) d (tokens_at (expr_tokens (binary o a b) ++ us) n) ≡ (binary o a b, tokens_at us (n + operator_count (binary o a b)))
    here zero h = absurd (omega (arith, h, calls_least (binary o a b), rank_operator o))
    here (suc d) h =
        let got = own o a b left core n us d few h
        ((λ m t. s.0 m (omega (arith, t, r, rank_closer (operator_level o) (rank_operator o)))), s.1) (λ q. s.0 (operator_level o) r) in
        chain_at (operator_level o) (suc d) (tokens_at (expr_tokens (binary o a b) ++ us) n) (rank_operator o)
        ∙ got.2
        ∙ more_none (read_operand d (operator_level o)) (operator_level o) got.0 (binary o a b) (tokens_at us (n + operator_count (binary o a b))) (s.0 (operator_level o) r)

    climb_from : (k : ℕ) → rank l + k ≡ rank (operator_level o)
        → AtLevel (expr_calls (binary o a b)) l (tokens_at (expr_tokens (binary o a b) ++ us) n) (binary o a b) (tokens_at us (n + operator_count (binary o a b)))
    climb_from k q =
        climb k l (operator_level o) (expr_calls (binary o a b)) (tokens_at (expr_tokens (binary o a b) ++ us) n) (binary o a b)
        (tokens_at us (n + operator_count (binary o a b))) q (calls_least (binary o a b)) here s.0 (λ t. no_not (binary o a b) us t)

other_loose : (e : ExprTree) (m : Level) → rank m < 5 → (rank (level_of e) ≡ rank m → is_level m level.Compare ≡ true) → is_loose e (left_level m) ≡ is_loose e (closer m)
other_loose e level.Compare r h = refl
other_loose e level.Or r h = same_test (rank (level_of e)) 0 1 refl (λ q. absurd (cc (h q)))
other_loose e level.And r h = same_test (rank (level_of e)) 1 2 refl (λ q. absurd (cc (h q)))
other_loose e level.Sum r h = same_test (rank (level_of e)) 3 4 refl (λ q. absurd (cc (h q)))
other_loose e level.Product r h = same_test (rank (level_of e)) 4 5 refl (λ q. absurd (cc (h q)))
other_loose e level.Unit r h = absurd (omega arith)

own_left : (o : BinaryOp) (a b : ExprTree) → is_level (operator_level o) level.Compare ≡ false → Left a (operator_level o) → Core b → Left (binary o a b) (operator_level o)
own_left o a b nc left core n us d few h s =
    let z : is_loose (binary o a b) (left_level (operator_level o)) ≡ false = loose (operator_level o) nc in
    let c : within_calls (binary o a b) (left_level (operator_level o)) ≡ expr_calls (binary o a b) = ap (λ t. bracketed_calls t (expr_calls (binary o a b))) z in
    let got = own o a b left core n us d few (omega (arith, c, h)) s (λ q. absurd (cc (nc, is_own_level (operator_level o) level.Compare q))) in
    (got.0, got.1, ap (λ t. read_chain (suc d) (operator_level o) (tokens_at (bracketed_tokens t (expr_tokens (binary o a b)) ++ us) n)) z ∙ got.2)
  where
    loose : (m : Level) → is_level m level.Compare ≡ false → nat_lt (rank m) (rank (left_level m)) ≡ false
    loose m q = rw (left_same m q) (le-ltb (rank m) (rank m) (omega arith))

binary_left : (o : BinaryOp) (a b : ExprTree) → Left a (operator_level o) → Core b → Core (binary o a b) → (m : Level) → rank m < 5 → Left (binary o a b) m
binary_left o a b left core whole m r = by_tests (is_level (operator_level o) m) (is_level m level.Compare) refl refl
  where
    same_here : (t : Bool) → is_level (operator_level o) m ≡ t → t ≡ true → operator_level o ≡ m
    same_here true e f = same_level (operator_level o) m (search (e, arith))
    same_here false e f = absurd (cc)

    by_tests : (t c : Bool) → is_level (operator_level o) m ≡ t → is_level m level.Compare ≡ c → Left (binary o a b) m
    by_tests t true e f = left_other (binary o a b) whole m r (other_loose (binary o a b) m r (λ q. f))
    by_tests true false e f =
        let q : operator_level o ≡ m = same_here true e refl in
        subst (λ x. Left (binary o a b) x) q (own_left o a b (ap (λ x. is_level x level.Compare) q ∙ f) left core)
    by_tests false false e f =
        left_other (binary o a b) whole m r (other_loose (binary o a b) m r (λ q. absurd (cc (e, is_own_level (operator_level o) m (same_level (operator_level o) m q)))))

record Facts (e : ExprTree) : Type 0 where
  pub core : Core e
  pub left : (m : Level) → rank m < 5 → Left e m

facts_of : (e : ExprTree) → Core e → ((m : Level) → rank m < 5 → rank (level_of e) ≡ rank m → is_level m level.Compare ≡ true) → Facts e
facts_of e core h = record { core = core; left = λ m r. left_other e core m r (other_loose e m r (h m r)) }

unit_facts : (e : ExprTree) → rank (level_of e) ≡ 5 → AtUnit e → Facts e
unit_facts e u a = facts_of e (core_of_unit e (omega (arith, u)) u a) (λ m r q. absurd (omega (arith, r, q, u)))

facts : (e : ExprTree) → Facts e
facts (number x) = unit_facts (number x) refl (number_unit x)
facts (variable x) = unit_facts (variable x) refl (variable_unit x)
facts (size x) = unit_facts (size x) refl (size_unit x)
facts (empty x) = unit_facts (empty x) refl (empty_unit x)
facts (has x e) = unit_facts (has x e) refl (has_unit x e (facts e).core)
facts (look x e) = unit_facts (look x e) refl (look_unit x e (facts e).core)
facts (negation e) =
    facts_of (negation e) (negation_core e (facts e).core) (λ m r q. is_own_level m level.Compare (same_level m level.Compare (sym q)))
facts (binary o a b) =
    let left = (facts a).left (operator_level o) (rank_operator o) in
    let core = (facts b).core in
    record { core = binary_core o a b left core; left = binary_left o a b left core (binary_core o a b left core) }

-- the tokens of an expression are read as the expression, and no more than they
pub expr_reads : (e : ExprTree) (us : List TokenTree) → operator_count e ≤ 250 → expr_calls e ≤ 1000 → StopsExpr level.Or us
    → read_expr (tokens_at (expr_tokens e ++ us) 0) ≡ (e, tokens_at us 0)
unfolding read_expr
expr_reads e us few shallow s = rw ((facts e).core level.Or 0 us (omega arith) (omega (arith, few)) s 1000 (omega (arith, shallow))) refl

-- what was read of the tokens of an expression
pub expr_again : (e r : ExprTree) (us : List TokenTree) (u v : UnreadTokens) → FitsExpr e → StopsExpr level.Or us → u ≡ tokens_at (expr_tokens e ++ us) 0
    → (r ≡ (read_chain 1000 level.Or u).0) × (v ≡ (read_chain 1000 level.Or u).1) → (r ≡ e) × (v.tokens ≡ us)
expr_again e r us u v f s q k =
    let h : read_chain 1000 level.Or u ≡ (e, tokens_at us (0 + operator_count e)) =
    ap (λ x. read_chain 1000 level.Or x) q ∙ (facts e).core level.Or 0 us (omega arith) (omega (arith, f.0)) s 1000 (omega (arith, f.1)) in
    (k.0 ∙ ap (λ (z : ReadExpr). z.0) h, ap (λ (z : UnreadTokens). z.tokens) (k.1 ∙ ap (λ (z : ReadExpr). z.1) h))
