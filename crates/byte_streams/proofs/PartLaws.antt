-- A text in parts, as a whole.
use Rattle.std.proofs.Common.{◌≡◌, ◌==◌, ℕ, ◌+◌, ◌-◌, ◌<◌, ◌≤◌, Bool, true, List, [], ◌++◌, length, take, drop, sym, ap, ◌∙◌, arith, ⊎_elim, length-append, append_assoc, append-nil}
use Rattle.std.proofs.Math.Seq.{drop-append-add}
use Rattle.std.proofs.lemmas.Bool.{cases_lt}
use Rattle.std.proofs.lemmas.List.{drop-append-le, drop_all, nil_from_length, take-append-le}
use Rattle.byte_streams.specs.Texts.{BeginsWith}

-- nothing in any part
pub all_none : (a b c : List ℕ) → a ++ b ++ c ≡ [] → (length a ≡ 0) × (length b ≡ 0) × (length c ≡ 0)
all_none a b c none =
    let long = ap length none in
    let first = length-append (a ++ b) c in
    let second = length-append a b in
    (omega (arith, long, first, second), omega (arith, long, first, second), omega (arith, long, first, second))

-- behind a place of two lists
pub drop_two : (n : ℕ) (a b : List ℕ) → drop n (a ++ b) ≡ drop n a ++ drop (n - length a) b
drop_two n a b =
    ⊎_elim
    (λ (below : n < length a).
    let none : n - length a ≡ 0 = omega arith in
    drop-append-le n a b (omega arith) ∙ ap (λ (k : ℕ). drop n a ++ drop k b) (sym none))
    (λ (past : length a ≤ n).
    let place : n ≡ length a + (n - length a) = omega arith in
    ap (λ (k : ℕ). drop k (a ++ b)) place ∙ drop-append-add a b (n - length a) ∙ ap (λ (l : List ℕ). l ++ drop (n - length a) b) (sym (drop_all n a past)))
    (cases_lt n (length a))

-- behind a place of three
pub drop_three : (n : ℕ) (a b c : List ℕ) → drop n (a ++ b ++ c) ≡ drop n a ++ drop (n - length a) b ++ drop (n - length a - length b) c
drop_three n a b c =
    ap (drop n) (append_assoc a b c) ∙ drop_two n a (b ++ c) ∙ ap (λ (l : List ℕ). drop n a ++ l) (drop_two (n - length a) b c)
    ∙ sym (append_assoc (drop n a) (drop (n - length a) b) (drop (n - length a - length b) c))

-- a text that begins with its first part, or with its second where the first is empty
pub begins_first : (a b c : List ℕ) → BeginsWith (a ++ b ++ c) a
begins_first a b c = (b ++ c, append_assoc a b c)

pub begins_second : (a b c : List ℕ) → a ≡ [] → BeginsWith (a ++ b ++ c) b
begins_second a b c none = (c, ap (λ (l : List ℕ). l ++ b ++ c) none)

pub begins_third : (a b c : List ℕ) → a ≡ [] → b ≡ [] → BeginsWith (a ++ b ++ c) c
begins_third a b c none none_too = ([], ap (λ (l : List ℕ). l ++ b ++ c) none ∙ ap (λ (l : List ℕ). l ++ c) none_too ∙ sym (append-nil c))

-- a part that was told to be empty
pub empty_is : (b : Bool) (xs : List ℕ) → b ≡ (length xs == 0) → b ≡ true → xs ≡ []
empty_is b xs says is = nil_from_length xs (grind (arith, says, is))

-- what is written of a front is written of the whole
pub front_of_rest : (all part : List ℕ) (n : ℕ) → BeginsWith all part → n ≤ length part → take n all ≡ take n part
front_of_rest all part n begins fits = ap (take n) begins.1 ∙ take-append-le n part begins.0 fits

pub front_fits : (all part : List ℕ) (n : ℕ) → BeginsWith all part → n ≤ length part → n ≤ length all
front_fits all part n begins fits = let long = ap length begins.1 ∙ length-append part begins.0 in omega (arith, long, fits)
