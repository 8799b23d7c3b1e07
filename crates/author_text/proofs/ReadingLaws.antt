-- What is left behind the next token.
use Rattle.std.proofs.Common.{◌≡◌, ℕ, ◌+◌, ◌-◌, ◌<◌, ◌≤◌, List, [], ◌∷◌, Option, Some, None, length, map, drop, add-one, zero, suc, arith, refl, IsSome, IsTrue, ap, ◌∙◌}
use Rattle.std.specs.Prelude.{Bool, true, false, ◌||◌, not, is_some, get_or}
use Rattle.std.proofs.lemmas.List.{length-drop, length-map, drop_all}
use Rattle.author_text.specs.declared.refusal.Refusal.{Refusal}
use Rattle.author_text.specs.declared.faults.Faults.{Faults}
use Rattle.author_text.specs.declared.parser.Parser.{Parser}
use Rattle.author_text.specs.declared.token.Token.{Token}
use Rattle.author_text.specs.Reading.{unread_in, unread_of}
use Rattle.author_text.specs.UnreadTokens.{UnreadTokens, first_token, tokens_after, next_token, passed, refused}
use Rattle.author_text.specs.Tokens.{TokenTree, token_of, end_token}

first_at : (ts : List Token) (n : ℕ) (d : Token) → n < length ts → first_token (map token_of (drop n ts)) ≡ token_of (get_or ts n d)
first_at [] n d h = absurd (omega arith)
first_at (x ∷ ts) zero d h = refl
first_at (x ∷ ts) (suc n) d h = first_at ts n d (omega arith)

first_past : (ts : List Token) (n : ℕ) → length ts ≤ n → first_token (map token_of (drop n ts)) ≡ end_token
first_past [] zero h = refl
first_past [] (suc n) h = refl
first_past (x ∷ ts) zero h = absurd (omega arith)
first_past (x ∷ ts) (suc n) h = first_past ts n (omega arith)

some_of : (o : Option Refusal) (w : Bool) → (is_some o || not w) ≡ true → w ≡ true → IsSome o
some_of None true e h = absurd (cc)
some_of None false e h = absurd (cc)
some_of (Some r) w e h = refl

none_of : (o : Option Refusal) (w : Bool) → (is_some o || not w) ≡ false → o ≡ None
none_of None w e = refl
none_of (Some r) w e = absurd (cc)

behind_next : (ts : List Token) (n : ℕ) → map token_of (drop (suc n) ts) ≡ tokens_after (map token_of (drop n ts))
behind_next [] zero = refl
behind_next [] (suc n) = refl
behind_next (x ∷ ts) zero = refl
behind_next (x ∷ ts) (suc n) = behind_next ts n

behind_in : (o : Option Refusal) (ts us : List TokenTree) → us ≡ tokens_after ts → unread_in o us ≡ tokens_after (unread_in o ts)
behind_in None ts us e = e
behind_in (Some r) ts us e = refl

none_in : (o : Option Refusal) (ts : List TokenTree) → IsSome o → unread_in o ts ≡ []
none_in None ts some = absurd (cc)
none_in (Some r) ts some = refl

count_in : (o : Option Refusal) (ts : List TokenTree) → o ≡ None → length (unread_in o ts) ≡ length ts
count_in None ts e = refl
count_in (Some r) ts e = absurd (cc)

first_in : (o : Option Refusal) (ts : List TokenTree) → o ≡ None → first_token (unread_in o ts) ≡ first_token ts
first_in None ts e = refl
first_in (Some r) ts e = absurd (cc)

pub got_next : (p : Parser) (r : Bool) (d : Token) → r ≡ (is_some p.faults.first || not p.faults.is_whole) → r ≡ false → p.next < length p.tokens.now → token_of (get_or p.tokens.now p.next d) ≡ next_token (unread_of p)
unfolding unread_of
got_next p r d e f h =
    cc (first_in p.faults.first (map token_of (drop p.next p.tokens.now)) (none_of p.faults.first p.faults.is_whole (cc (e, f))), first_at p.tokens.now p.next d h)

pub got_past : (p : Parser) (r : Bool) → r ≡ (is_some p.faults.first || not p.faults.is_whole) → r ≡ false → length p.tokens.now ≤ p.next → end_token ≡ next_token (unread_of p)
unfolding unread_of
got_past p r e f h =
    cc (first_in p.faults.first (map token_of (drop p.next p.tokens.now)) (none_of p.faults.first p.faults.is_whole (cc (e, f))), first_past p.tokens.now p.next h)

pub got_fault : (p : Parser) (r : Bool) → r ≡ (is_some p.faults.first || not p.faults.is_whole) → r ≡ true → IsTrue p.faults.is_whole → end_token ≡ next_token (unread_of p)
unfolding unread_of
got_fault p r e f w = rw (none_in p.faults.first (map token_of (drop p.next p.tokens.now)) (some_of p.faults.first p.faults.is_whole (cc (e, f)) w)) refl

-- the next token is passed
pub passes : (p q : Parser) → q.faults ≡ p.faults → q.tokens ≡ p.tokens → q.next ≡ p.next + 1 → q.operators ≡ p.operators → unread_of q ≡ passed (unread_of p)
unfolding unread_of
passes p q f t n o =
    let e : q.next ≡ suc p.next = omega (arith, n) in
    let b : map token_of (drop q.next q.tokens.now) ≡ tokens_after (map token_of (drop p.next p.tokens.now)) = rw (e, t) (behind_next p.tokens.now p.next) in
    let i = behind_in p.faults.first (map token_of (drop p.next p.tokens.now)) (map token_of (drop q.next q.tokens.now)) b in
    rw (f, o) (rw i refl)

pub passes_none : (p : Parser) → length p.tokens.now ≤ p.next → unread_of p ≡ passed (unread_of p)
unfolding unread_of
passes_none p n =
    let e : drop p.next p.tokens.now ≡ [] = drop_all p.next p.tokens.now n in
    rw e (rest_none p.faults.first p.operators)
  where
    rest_none : (o : Option Refusal) (n : ℕ) → let u : UnreadTokens = record { tokens = unread_in o []; operators = n } in u ≡ passed u
    rest_none None n = refl
    rest_none (Some r) n = refl

-- how many are left
pub counts : (p : Parser) (r : Bool) → r ≡ (is_some p.faults.first || not p.faults.is_whole) → r ≡ false → length (unread_of p).tokens ≡ length p.tokens.now - p.next
unfolding unread_of
counts p r e f =
    count_in p.faults.first (map token_of (drop p.next p.tokens.now)) (none_of p.faults.first p.faults.is_whole (cc (e, f)))
    ∙ length-map (drop p.next p.tokens.now) token_of ∙ length-drop p.next p.tokens.now

pub counts_none : (p : Parser) (r : Bool) → r ≡ (is_some p.faults.first || not p.faults.is_whole) → r ≡ true → IsTrue p.faults.is_whole → length (unread_of p).tokens ≡ 0
unfolding unread_of
counts_none p r e f w =
    ap length (none_in p.faults.first (map token_of (drop p.next p.tokens.now)) (some_of p.faults.first p.faults.is_whole (cc (e, f)) w))

-- what was said leaves no token
pub refuses : (p q : Parser) → IsSome q.faults.first → q.operators ≡ p.operators → unread_of q ≡ refused (unread_of p)
unfolding unread_of
refuses p q some o = rw (none_in q.faults.first (map token_of (drop q.next q.tokens.now)) some) (rw o refl)

-- no operator is counted any more
pub uncounted : (p : Parser) → unread_of (record p { operators = 0 }) ≡ record { tokens = (unread_of p).tokens; operators = 0 }
unfolding unread_of
uncounted p = refl
