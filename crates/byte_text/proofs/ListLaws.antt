-- Lists of numbers that rise, and what holds of each item.
use Rattle.std.proofs.Common.{◌≡◌, ℕ, zero, suc, ◌+◌, ◌<◌, ◌≤◌, List, [], ◌∷◌, ◌++◌, length, get_or, drop, take, map, Option, Some, None, refl, sym, ◌∙◌, ap, subst, arith, add-one, length-append}
use Rattle.std.specs.Prelude.{All, IfSome, filter_map}
use Rattle.std.proofs.Math.Seq.{drop-cons}
use Rattle.std.proofs.lemmas.List.{take-take, take-append-le, take_all}
use Rattle.std.specs.List.{range_with_len, cons_option}

pub all_head : {X : Type 0} (P : X → Type 0) (x : X) (xs : List X) → All P (x ∷ xs) → P x
all_head P x xs h = h 0 x (omega arith)

pub all_tail : {X : Type 0} (P : X → Type 0) (x : X) (xs : List X) → All P (x ∷ xs) → All P xs
all_tail P x xs h = λ k d lt. let e : get_or (x ∷ xs) (k + 1) d ≡ get_or xs k d = rw add-one refl in subst P e (h (k + 1) d (omega arith))

pub all_cons : {X : Type 0} (P : X → Type 0) (x : X) (xs : List X) → P x → All P xs → All P (x ∷ xs)
all_cons P x xs p h zero d lt = p
all_cons P x xs p h (suc k) d lt = h k d (omega arith)

pub empty_list : {X : Type 0} (xs : List X) → length xs ≡ 0 → xs ≡ []
empty_list [] h = refl
empty_list (x ∷ xs) h = absurd (omega (arith, h))

pub range_more : (a n : ℕ) → range_with_len a n ++ (a + n) ∷ [] ≡ range_with_len a (n + 1)
range_more a zero = let e : a + 0 ≡ a = omega arith in ap (λ x. x ∷ []) e
range_more a (suc n) =
    let e : a + suc n ≡ a + 1 + n = omega arith in
    let f : suc n + 1 ≡ suc (n + 1) = omega arith in
    rw f (ap (λ xs. a ∷ xs) (ap (λ x. range_with_len (a + 1) n ++ x ∷ []) e ∙ range_more (a + 1) n))

-- the number at a place of a rising list
pub number_at : (xs ys : List ℕ) (t a n : ℕ) → xs ++ t ∷ ys ≡ range_with_len a n → (t ≡ a + length xs) × (length xs < n)
number_at [] ys t a zero h = absurd (cc h)
number_at [] ys t a (suc n) h = let e : t ≡ a = cc h in (omega (arith, e), omega arith)
number_at (x ∷ xs) ys t a zero h = absurd (cc h)
number_at (x ∷ xs) ys t a (suc n) h = let z = number_at xs ys t (a + 1) n (cc h) in (omega (arith, z.0), omega (arith, z.1))

-- each number is below another
abbrev pub AllBelow : ℕ → List ℕ → Type 0
AllBelow n [] = Unit {0}
AllBelow n (t ∷ ts) = (t < n) × AllBelow n ts

pub range_below : (a k n : ℕ) → a + k ≤ n → AllBelow n (range_with_len a k)
range_below a zero n h = tt
range_below a (suc k) n h = (omega arith, range_below (a + 1) k n (omega arith))

pub below_front : (n : ℕ) (xs ys : List ℕ) → AllBelow n (xs ++ ys) → AllBelow n xs
below_front n [] ys h = tt
below_front n (x ∷ xs) ys h = (h.0, below_front n xs ys h.1)

pub below_back : (n : ℕ) (xs ys : List ℕ) → AllBelow n (xs ++ ys) → AllBelow n ys
below_back n [] ys h = h
below_back n (x ∷ xs) ys h = below_back n xs ys h.1

pub numbers_below : {X : Type 0} (f : X → Option ℕ) (n : ℕ) (xs : List X) → AllBelow n (filter_map f xs) → All (λ x. IfSome (f x) (λ t. t < n)) xs
numbers_below f n [] h = λ k d lt. absurd (omega arith)
numbers_below f n (x ∷ xs) h = one (f x) refl (numbers_below f n xs) h
  where
    one : (o : Option ℕ) → f x ≡ o → (AllBelow n (filter_map f xs) → All (λ y. IfSome (f y) (λ t. t < n)) xs) → AllBelow n (cons_option o (filter_map f xs))
        → All (λ y. IfSome (f y) (λ t. t < n)) (x ∷ xs)
    one None q more h = all_cons (λ y. IfSome (f y) (λ t. t < n)) x xs (rw q tt) (more h)
    one (Some t) q more h = all_cons (λ y. IfSome (f y) (λ t. t < n)) x xs (rw q h.0) (more h.1)

-- a list, by the numbers of its items
pub items_of : {X : Type 0} (f : ℕ → X) (d : X) (xs : List X) (a : ℕ) → ((k : ℕ) → k < length xs → f (a + k) ≡ get_or xs k d) → map f (range_with_len a (length xs)) ≡ xs
items_of f d [] a h = refl
items_of f d (x ∷ xs) a h =
    let zero_on : a + 0 ≡ a = omega arith in
    let first : f a ≡ x = ap f (sym zero_on) ∙ h 0 (omega arith) in
    let rest = items_of f d xs (a + 1) (λ k lt. let e : a + 1 + k ≡ a + suc k = omega arith in ap f e ∙ h (suc k) (omega arith)) in
    ap (λ y. y ∷ map f (range_with_len (a + 1) (length xs))) first ∙ ap (λ ys. x ∷ ys) rest

pub some_both : (o : Option ℕ) (P Q : ℕ → Type 0) → ((t : ℕ) → P t → Q t) → IfSome o P → IfSome o Q
some_both None P Q f h = tt
some_both (Some t) P Q f h = f t h

-- what is left of a list begins with the next item
pub drop_here : {X : Type 0} (xs : List X) (i : ℕ) (d : X) → i < length xs → drop i xs ≡ get_or xs i d ∷ drop (i + 1) xs
drop_here xs i d h = rw add-one (drop-cons xs i d h)

-- what stands at the front of a front stands at the front
pub front_within : (base mid new : List ℕ) → take (length mid) new ≡ mid → take (length base) mid ≡ base → length base ≤ length mid → take (length base) new ≡ base
front_within base mid new h g le = sym (take-take (length base) (length mid) new le) ∙ (ap (take (length base)) h ∙ g)

front_appended : (base more : List ℕ) → take (length base) (base ++ more) ≡ base
front_appended base more = take-append-le (length base) base more (omega arith) ∙ take_all (length base) base (omega arith)

-- what was there before two parts were added is the front of what has both in front
pub front_of_two : (base x y one two new : List ℕ) → one ≡ base ++ x → two ≡ one ++ y → take (length two) new ≡ two → take (length base) new ≡ base
front_of_two base x y one two new e f h =
    let p = ap length e ∙ length-append base x in
    let q = ap length f ∙ length-append one y in
    front_within base one new (front_within one two new h (ap (take (length one)) f ∙ front_appended one y) (omega (arith, q))) (ap (take (length base)) e ∙ front_appended base x)
    (omega (arith, p))
