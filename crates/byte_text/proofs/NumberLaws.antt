-- A constant is read as its decimal digits say, and no other digits spell it.
use Rattle.std.proofs.Common.{◌≡◌, ℕ, ◌+◌, ◌-◌, ◌*◌, ◌/◌, ◌%◌, ◌^◌, ◌<◌, ◌≤◌, Bool, true, false, ◌&&◌, not, cond, eqb, leb, ltb, List, [], ◌∷◌, ◌++◌, Option, Some, None, refl, sym, ◌∙◌, ap, subst}
use Rattle.std.proofs.Common.{arith, append_assoc, append-nil, inl, inr, ◌⊎◌}
use Rattle.std.specs.Prelude.{decimal}
use Rattle.std.specs.List.{list_all}
use Rattle.std.specs.Option.{option_and_then}
use Rattle.std.proofs.lemmas.Bool.{and_parts, cases_lt, eqb-false, leb-true, le-leb, lt-ltb, ltb-true, ne_eqb, not-true}
use Rattle.std.proofs.lemmas.Fmt.{decimal_by_steps, decimal_digit, decimal_step}
use Rattle.byte_text.specs.Bytes.{begins}
use Rattle.byte_text.specs.Numbers.{constant_of, decimal_below, decimal_from, is_canonical, with_digit}

-- one more digit
pub record IsDigit (n b m : ℕ) : Type 0 where
  pub low : 48 ≤ b
  pub high : b ≤ 57
  pub value : m ≡ 10 * n + (b - 48)
  pub small : m < 2 ^ 32

digit_taken : (n b m : ℕ) → with_digit (2 ^ 32) n b ≡ Some m → IsDigit n b m
unfolding with_digit
digit_taken n b m h = right (leb 48 b && leb b 57 && ltb (10 * n + (b - 48)) (2 ^ 32)) refl h
  where
    right : (x : Bool) → (leb 48 b && leb b 57 && ltb (10 * n + (b - 48)) (2 ^ 32)) ≡ x → cond x (Some (10 * n + (b - 48))) None ≡ Some m → IsDigit n b m
    right false q h = absurd (cc h)
    right true q h =
        let a = and_parts (leb 48 b && leb b 57) (ltb (10 * n + (b - 48)) (2 ^ 32)) q in
        let c = and_parts (leb 48 b) (leb b 57) a.0 in
        let e : 10 * n + (b - 48) ≡ m = cc h in
        let small = ltb-true (10 * n + (b - 48)) (2 ^ 32) a.1 in
        record { low = leb-true 48 b c.0; high = leb-true b 57 c.1; value = sym e; small = omega (arith, e, small) }

digit_again : (n d m : ℕ) → d < 10 → m ≡ 10 * n + d → m < 2 ^ 32 → with_digit (2 ^ 32) n (48 + d) ≡ Some m
unfolding with_digit
digit_again n d m low e small =
    let a : leb 48 (48 + d) ≡ true = le-leb 48 (48 + d) (omega arith) in
    let b : leb (48 + d) 57 ≡ true = le-leb (48 + d) 57 (omega arith) in
    let v : 10 * n + (48 + d - 48) ≡ m = omega (arith, e) in
    rw (a, b, v, lt-ltb m (2 ^ 32) small) refl

from_push : (ds : List ℕ) (n m b : ℕ) → decimal_from (2 ^ 32) n ds ≡ Some m → decimal_from (2 ^ 32) n (ds ++ b ∷ []) ≡ with_digit (2 ^ 32) m b
from_push [] n m b h = let e : n ≡ m = cc h in same (with_digit (2 ^ 32) n b) ∙ ap (λ x. with_digit (2 ^ 32) x b) e
  where
    same : (o : Option ℕ) → option_and_then (λ x. decimal_from (2 ^ 32) x []) o ≡ o
    same None = refl
    same (Some x) = refl
from_push (d ∷ ds) n m b h = next (with_digit (2 ^ 32) n d) (λ x. from_push ds x m b) h
  where
    next : (o : Option ℕ) → ((x : ℕ) → decimal_from (2 ^ 32) x ds ≡ Some m → decimal_from (2 ^ 32) x (ds ++ b ∷ []) ≡ with_digit (2 ^ 32) m b)
        → option_and_then (λ x. decimal_from (2 ^ 32) x ds) o ≡ Some m → option_and_then (λ x. decimal_from (2 ^ 32) x (ds ++ b ∷ [])) o ≡ with_digit (2 ^ 32) m b
    next None more h = absurd (cc h)
    next (Some x) more h = more x h

canonical_first : (b : ℕ) (bs : List ℕ) → eqb b 48 ≡ false → is_canonical (b ∷ bs) ≡ true
canonical_first b [] h = refl
canonical_first b (c ∷ cs) h = rw h refl

-- the first digit of a number above 0 is not 0
abbrev Leads : ℕ → List ℕ → Type 0
Leads n ds = 0 < n → (b : ℕ) × (bs : List ℕ) × (ds ≡ b ∷ bs) × (eqb b 48 ≡ false)

decimal_leads : (n : ℕ) → n < 2 ^ 64 → Leads n (decimal n)
decimal_leads n low = decimal_by_steps Leads (λ m small some. (48 + m, [], refl, ne_eqb (48 + m) 48 (λ e. omega arith)))
    (λ m ds high h some. let z = h (omega arith) in (z.0, z.1 ++ (48 + m % 10) ∷ [], ap (λ xs. xs ++ (48 + m % 10) ∷ []) z.2, z.3)) n low

decimal_canonical : (n : ℕ) → n < 2 ^ 64 → is_canonical (decimal n) ≡ true
decimal_canonical n low = (decimal_by_steps (λ m ds. Leads m ds × (is_canonical ds ≡ true)) (λ m small. ((λ some. (48 + m, [], refl, ne_eqb (48 + m) 48 (λ e. omega arith))), refl))
    (λ m ds high h. let z = h.0 (omega arith) in let last = (48 + m % 10) ∷ [] in
    ((λ some. (z.0, z.1 ++ last, ap (λ xs. xs ++ last) z.2, z.3)), subst (λ xs. is_canonical (xs ++ last) ≡ true) (sym z.2) (canonical_first z.0 (z.1 ++ last) z.3))) n low).1

decimal_read : (n : ℕ) → n < 2 ^ 64 → n < 2 ^ 32 → decimal_from (2 ^ 32) 0 (decimal n) ≡ Some n
decimal_read n low =
    decimal_by_steps (λ m ds. m < 2 ^ 32 → decimal_from (2 ^ 32) 0 ds ≡ Some m) (λ m small fits. ap (option_and_then (λ x. decimal_from (2 ^ 32) x [])) (digit_again 0 m m small (omega arith) fits))
    (λ m ds high h fits. from_push ds 0 (m / 10) (48 + m % 10) (h (omega arith)) ∙ digit_again (m / 10) (m % 10) m (omega arith) (omega arith) fits) n low

pub constant_again : (k : ℕ) → k < 2 ^ 32 → constant_of (decimal k) ≡ Some k
unfolding constant_of decimal_below
constant_again k h = rw (decimal_canonical k (omega arith)) (decimal_read k (omega arith) h)

-- the digits of a number and those behind them
grown : (bs : List ℕ) (n k : ℕ) → 0 < n → n < 2 ^ 32 → decimal_from (2 ^ 32) n bs ≡ Some k → (decimal n ++ bs ≡ decimal k) × (k < 2 ^ 32)
grown [] n k some low h = let e : n ≡ k = cc h in (append-nil (decimal n) ∙ ap decimal e, omega (arith, e))
grown (b ∷ bs) n k some low h = next (with_digit (2 ^ 32) n b) refl (λ m. grown bs m k) h
  where
    next : (o : Option ℕ) → with_digit (2 ^ 32) n b ≡ o → ((m : ℕ) → 0 < m → m < 2 ^ 32 → decimal_from (2 ^ 32) m bs ≡ Some k → (decimal m ++ bs ≡ decimal k) × (k < 2 ^ 32))
        → option_and_then (λ x. decimal_from (2 ^ 32) x bs) o ≡ Some k → (decimal n ++ b ∷ bs ≡ decimal k) × (k < 2 ^ 32)
    next None q rest h = absurd (cc h)
    next (Some m) q rest h =
        let d = digit_taken n b m q in
        let value = d.value in
        let step = decimal_step m (omega (arith, d.low, d.value)) (omega (arith, d.small)) in
        let front : m / 10 ≡ n = omega (arith, d.low, d.high, d.value) in
        let last : 48 + m % 10 ≡ b = omega (arith, d.low, d.high, d.value) in
        let whole : decimal m ≡ decimal n ++ b ∷ [] = step ∙ ap (λ x. decimal x ++ (48 + m % 10) ∷ []) front ∙ ap (λ x. decimal n ++ x ∷ []) last in
        let more = rest m (omega (arith, d.low, d.value)) d.small h in
        (sym (append_assoc (decimal n) (b ∷ []) bs) ∙ ap (λ xs. xs ++ bs) (sym whole) ∙ more.0, more.1)

first_above : (b m : ℕ) → (0 < m) ⊎ (m ≤ 0) → 48 ≤ b → m ≡ 10 * 0 + (b - 48) → eqb b 48 ≡ false → 0 < m
first_above b m (inl lt) low e n = lt
first_above b m (inr le) low e n = absurd (eqb-false b 48 n (omega (arith, low, e, le)))

-- the digits of a constant, and that it is below 2^32
pub constant_found : (t : List ℕ) (k : ℕ) → constant_of t ≡ Some k → (t ≡ decimal k) × (k < 2 ^ 32)
unfolding constant_of decimal_below
constant_found [] k h = absurd (cc h)
constant_found (b ∷ []) k h = next (with_digit (2 ^ 32) 0 b) refl h
  where
    next : (o : Option ℕ) → with_digit (2 ^ 32) 0 b ≡ o → option_and_then (λ x. decimal_from (2 ^ 32) x []) o ≡ Some k → (b ∷ [] ≡ decimal k) × (k < 2 ^ 32)
    next None q h = absurd (cc h)
    next (Some m) q h =
        let d = digit_taken 0 b m q in
        let e : m ≡ k = cc h in
        let same : b ≡ 48 + k = omega (arith, d.low, d.value, e) in
        (ap (λ x. x ∷ []) same ∙ sym (decimal_digit k (omega (arith, d.high, d.value, e))), omega (arith, d.small, e))
constant_found (b ∷ c ∷ bs) k h = first (eqb b 48) refl h
  where
    next : (o : Option ℕ) → with_digit (2 ^ 32) 0 b ≡ o → eqb b 48 ≡ false → option_and_then (λ x. decimal_from (2 ^ 32) x (c ∷ bs)) o ≡ Some k → (b ∷ c ∷ bs ≡ decimal k) × (k < 2 ^ 32)
    next None q n h = absurd (cc h)
    next (Some m) q n h =
        let d = digit_taken 0 b m q in
        let some = first_above b m (cases_lt 0 m) d.low d.value n in
        let same : 48 + m ≡ b = omega (arith, d.low, d.value) in
        let digits : decimal m ≡ b ∷ [] = decimal_digit m (omega (arith, d.high, d.value)) ∙ ap (λ x. x ∷ []) same in
        let more = grown (c ∷ bs) m k some d.small h in
        (ap (λ xs. xs ++ c ∷ bs) (sym digits) ∙ more.0, more.1)

    first : (x : Bool) → eqb b 48 ≡ x → cond (not x) (decimal_from (2 ^ 32) 0 (b ∷ c ∷ bs)) None ≡ Some k → (b ∷ c ∷ bs ≡ decimal k) × (k < 2 ^ 32)
    first true q h = absurd (cc h)
    first false q h = next (with_digit (2 ^ 32) 0 b) refl q h

-- digits alone
abbrev is_digit : ℕ → Bool
is_digit b = leb 48 b && leb b 57

digit_is : (d : ℕ) → d < 10 → is_digit (48 + d) ≡ true
digit_is d h = rw (le-leb 48 (48 + d) (omega arith), le-leb (48 + d) 57 (omega arith)) refl

all_joined : (xs ys : List ℕ) → list_all is_digit xs ≡ true → list_all is_digit ys ≡ true → list_all is_digit (xs ++ ys) ≡ true
all_joined [] ys h j = j
all_joined (x ∷ xs) ys h j =
    let a = and_parts (is_digit x) (list_all is_digit xs) h in
    rw a.0 (all_joined xs ys a.1 j)

pub decimal_digits : (k : ℕ) → k < 2 ^ 32 → list_all is_digit (decimal k) ≡ true
decimal_digits k h =
    decimal_by_steps (λ m ds. list_all is_digit ds ≡ true) (λ m small. rw (digit_is m small) refl)
    (λ m ds high e. all_joined ds ((48 + m % 10) ∷ []) e (rw (digit_is (m % 10) (omega arith)) refl)) k (omega arith)

-- a byte that is no digit is not among digits
digits_without : (c : ℕ) (ds : List ℕ) → is_digit c ≡ false → list_all is_digit ds ≡ true → list_all (λ b. not (eqb b c)) ds ≡ true
digits_without c [] n h = refl
digits_without c (d ∷ ds) n h =
    let a = and_parts (is_digit d) (list_all is_digit ds) h in
    let apart : eqb d c ≡ false = ne_eqb d c (λ e. absurd (cc (sym n ∙ sym (ap is_digit e) ∙ a.0))) in
    rw apart (digits_without c ds n a.1)

pub decimal_without : (c k : ℕ) → is_digit c ≡ false → k < 2 ^ 32 → list_all (λ b. not (eqb b c)) (decimal k) ≡ true
decimal_without c k n h = digits_without c (decimal k) n (decimal_digits k h)

begins_not : (c : ℕ) (ds : List ℕ) → list_all (λ b. not (eqb b c)) ds ≡ true → begins c ds ≡ false
begins_not c [] h = refl
begins_not c (d ∷ ds) h = let a = and_parts (not (eqb d c)) (list_all (λ b. not (eqb b c)) ds) h in not-true (eqb d c) a.0

pub decimal_begins : (c k : ℕ) → is_digit c ≡ false → k < 2 ^ 32 → begins c (decimal k) ≡ false
decimal_begins c k n h = begins_not c (decimal k) (decimal_without c k n h)
