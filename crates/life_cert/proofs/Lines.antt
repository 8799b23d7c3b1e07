-- The lines of the instructions' states.
use Rattle.std.proofs.Common.{◌≡◌, ℕ, zero, suc, ◌+◌, ◌-◌, ◌<◌, ◌≤◌, List, [], ◌∷◌, ◌++◌, length, get_or, replicate, Option, Some, None, refl, sym, ap, subst, ◌∙◌, ap₂, append_assoc, append-nil, arith}
use Rattle.std.proofs.Common.{rules, length-append}
use Rattle.std.proofs.lemmas.List.{length-replicate}
use Rattle.std.specs.Prelude.{slice_get, IfSome, IsSome}
use Rattle.life_state.specs.declared.state.State as code
use Rattle.life_state.specs.Form.{IsFormed}
use Rattle.life_state.specs.Seen.{seen, seen_some}
use Rattle.life_check.specs.Seen.{seen_line}
use Rattle.life_cert.specs.StateText.{each}

pub line_at : (xs : List (Option code.State)) (k : ℕ) (d : Option code.State) → k < length xs → seen_line (slice_get xs k) ≡ seen_some (get_or xs k d)
line_at [] k d below = absurd (omega arith)
line_at (x ∷ xs) zero d below = refl
line_at (x ∷ xs) (suc k) d below = line_at xs k d (omega arith)

pub each_same : (n k : ℕ) (f g : ℕ → List ℕ) → ((i : ℕ) → k ≤ i → i < k + n → f i ≡ g i) → each k n f ≡ each k n g
unfolding each
each_same zero k f g same = refl
each_same (suc n) k f g same =
    ap (λ x. x ++ each (k + 1) n f) (same k (omega arith) (omega arith)) ∙ ap (λ x. g k ++ x) (each_same n (k + 1) f g (λ i low high. same i (omega arith) (omega arith)))

each_none : (n k : ℕ) (f : ℕ → List ℕ) → ((i : ℕ) → k ≤ i → i < k + n → f i ≡ []) → each k n f ≡ []
unfolding each
each_none zero k f none = refl
each_none (suc n) k f none =
    ap (λ x. x ++ each (k + 1) n f) (none k (omega arith) (omega arith)) ∙ each_none n (k + 1) f (λ i low high. none i (omega (arith, low)) (omega (arith, high)))

each_both : (m n k : ℕ) (f : ℕ → List ℕ) → each k (m + n) f ≡ each k m f ++ each (k + m) n f
unfolding each
each_both zero n k f =
    let count : zero + n ≡ n = omega arith in
    let place : k ≡ k + zero = omega arith in
    ap₂ (λ (i j : ℕ). each i j f) place count
each_both (suc m) n k f =
    let count : suc m + n ≡ suc (m + n) = omega arith in
    let place : k + 1 + m ≡ k + suc m = omega arith in
    ap (λ (j : ℕ). each k j f) count
    ∙ ap (λ t. f k ++ t) (each_both m n (k + 1) f ∙ ap (λ (i : ℕ). each (k + 1) m f ++ each i n f) place)
    ∙ sym (append_assoc (f k) (each (k + 1) m f) (each (k + suc m) n f))

each_one : (k : ℕ) (f : ℕ → List ℕ) → each k 1 f ≡ f k
unfolding each
each_one k f = append-nil (f k)

-- one line more, behind some that are empty
pub each_more_line : (f g : ℕ → List ℕ) (n m pc : ℕ) → pc ≡ n + m → ((i : ℕ) → i < n → g i ≡ f i) → ((i : ℕ) → n ≤ i → i < pc → g i ≡ []) → each 0 (pc + 1) g ≡ each 0 n f ++ g pc
each_more_line f g n m pc at same none =
    let first : each 0 n g ≡ each 0 n f = each_same n 0 g f (λ i low high. same i (omega (arith, high))) in
    let second : each n m g ≡ [] = each_none m n g (λ i low high. none i low (omega (arith, at, high))) in
    let count : pc + 1 ≡ n + (m + 1) = omega (arith, at) in
    let place : 0 + n ≡ n = omega arith in
    ap (λ (j : ℕ). each 0 j g) count
    ∙ each_both n (m + 1) 0 g
    ∙ ap₂ (λ (x y : List ℕ). x ++ y) first
    (ap (λ (i : ℕ). each i (m + 1) g) place ∙ each_both m 1 n g ∙ ap₂ (λ (x y : List ℕ). x ++ y) second (each_one (n + m) g ∙ ap g (sym at)))

-- A state behind lines that have none.

line_before : (xs ys : List (Option code.State)) (k : ℕ) → k < length xs → slice_get (xs ++ ys) k ≡ slice_get xs k
line_before [] ys k low = absurd (omega (arith, low))
line_before (x ∷ xs) ys zero low = refl
line_before (x ∷ xs) ys (suc k) low = line_before xs ys k (omega (arith, low))

line_behind : (xs ys : List (Option code.State)) (k : ℕ) → slice_get (xs ++ ys) (length xs + k) ≡ slice_get ys k
line_behind [] ys k = let same : 0 + k ≡ k = omega arith in ap (slice_get ys) same
line_behind (x ∷ xs) ys k =
    let less : suc (length xs) + k ≡ suc (length xs + k) = omega arith in
    ap (slice_get (x ∷ (xs ++ ys))) less ∙ line_behind xs ys k

none_line : (m k : ℕ) → seen_line (slice_get (replicate m None) k) ≡ None
none_line zero k = refl
none_line (suc m) zero = refl
none_line (suc m) (suc k) = none_line m k

module _ (xs : List (Option code.State)) (m : ℕ) (s : code.State) where
  abbrev more : List (Option code.State)
  more = (xs ++ replicate m None) ++ Some s ∷ []

  long : length (xs ++ replicate m None) ≡ length xs + m
  long = let none : Option code.State = None in length-append xs (replicate m none) ∙ ap (λ (n : ℕ). length xs + n) (length-replicate m none)

  pub more_before : (k : ℕ) → k < length xs → seen_line (slice_get more k) ≡ seen_line (slice_get xs k)
  more_before k low =
      let size = long in
      ap seen_line (line_before (xs ++ replicate m None) (Some s ∷ []) k (omega (arith, low, size)) ∙ line_before xs (replicate m None) k low)

  pub more_none : (k : ℕ) → length xs ≤ k → k < length xs + m → seen_line (slice_get more k) ≡ None
  more_none k low high =
      let size = long in
      let at : k ≡ length xs + (k - length xs) = omega (arith, low) in
      ap seen_line (line_before (xs ++ replicate m None) (Some s ∷ []) k (omega (arith, high, size)) ∙ ap (slice_get (xs ++ replicate m None)) at ∙ line_behind xs (replicate m None) (k - length xs))
      ∙ none_line m (k - length xs)

  pub more_last : (pc : ℕ) → pc ≡ length xs + m → seen_line (slice_get more pc) ≡ Some (seen s)
  more_last pc at =
      let size = long in
      let place : pc ≡ length (xs ++ replicate m None) + 0 = omega (arith, at, size) in
      ap seen_line (ap (slice_get more) place ∙ line_behind (xs ++ replicate m None) (Some s ∷ []) 0)

-- Lines whose states are in form.
abbrev pub LinesFormed : List (Option code.State) → Type 0
LinesFormed [] = Unit {0}
LinesFormed (x ∷ xs) = IfSome (seen_some x) IsFormed × LinesFormed xs

pub all_formed : (xs : List (Option code.State)) → ((pc : ℕ) → IfSome (seen_line (slice_get xs pc)) IsFormed) → LinesFormed xs
all_formed [] h = tt
all_formed (x ∷ xs) h = (h 0, all_formed xs (λ pc. h (suc pc)))

pub formed_at : (xs : List (Option code.State)) → LinesFormed xs → (pc : ℕ) → IfSome (seen_line (slice_get xs pc)) IsFormed
formed_at [] h pc = tt
formed_at (x ∷ xs) h zero = h.0
formed_at (x ∷ xs) h (suc pc) = formed_at xs h.1 pc

formed_both : (xs ys : List (Option code.State)) → LinesFormed xs → LinesFormed ys → LinesFormed (xs ++ ys)
formed_both [] ys h k = k
formed_both (x ∷ xs) ys h k = (h.0, formed_both xs ys h.1 k)

formed_none : (m : ℕ) → LinesFormed (replicate m None)
formed_none zero = tt
formed_none (suc m) = (tt, formed_none m)

pub formed_more : (xs : List (Option code.State)) (m : ℕ) (s : code.State) → LinesFormed xs → IsFormed (seen s) → LinesFormed ((xs ++ replicate m None) ++ Some s ∷ [])
formed_more xs m s h k = formed_both (xs ++ replicate m None) (Some s ∷ []) (formed_both xs (replicate m None) h (formed_none m)) (k, tt)

pub last_some : (xs : List (Option code.State)) (s : code.State) (pc : ℕ) → pc ≡ length xs → IsSome (seen_line (slice_get (xs ++ Some s ∷ []) pc))
last_some [] s pc at = let zero_at : pc ≡ 0 = at in subst (λ (i : ℕ). IsSome (seen_line (slice_get (Some s ∷ []) i))) (sym zero_at) (search rules)
last_some (x ∷ xs) s zero at = absurd (omega arith)
last_some (x ∷ xs) s (suc pc) at = last_some xs s pc (omega arith)
