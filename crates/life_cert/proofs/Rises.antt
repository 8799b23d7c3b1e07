-- Numbers that rise with an order: a number grows, or it stays and what is above is also below.
use Rattle.std.proofs.Common.{◌≡◌, ℕ, zero, suc, ◌+◌, ◌*◌, ◌<◌, ◌≤◌, Bool, true, false, refl, subst, sym, ⊎_elim, arith}
use Rattle.std.proofs.lemmas.Bool.{cases_eq}
use Rattle.life_state.specs.Order.{implies}

pub data Climbs (m n : ℕ) (B : Type 0) : Type 0 where
  Grows : m < n → Climbs m n B
  Stays : m ≡ n → B → Climbs m n B

pub both : {m n k l : ℕ} {A B : Type 0} → Climbs m n A → Climbs k l B → Climbs (m + k) (n + l) (A × B)
both (Grows p) (Grows q) = Grows (omega arith)
both (Grows p) (Stays q b) = Grows (omega arith)
both (Stays p a) (Grows q) = Grows (omega arith)
both (Stays p a) (Stays q b) = Stays (omega arith) (a, b)

pub map_back : {m n : ℕ} {A B : Type 0} → (A → B) → Climbs m n A → Climbs m n B
map_back f (Grows p) = Grows p
map_back f (Stays p a) = Stays p (f a)

pub raised : {m n : ℕ} {A : Type 0} (k : ℕ) → Climbs m n A → Climbs (k + m) (k + n) A
raised k (Grows p) = Grows (omega arith)
raised k (Stays p a) = Stays (omega arith) a

abbrev pub bit : Bool → ℕ
bit true = 1
bit false = 0

pub bit_rises : (a b : Bool) → implies a b ≡ true → Climbs (bit a) (bit b) (implies b a ≡ true)
bit_rises true true h = Stays refl refl
bit_rises true false h = cc
bit_rises false true h = Grows (omega arith)
bit_rises false false h = Stays refl refl

pub bit_small : (a : Bool) → bit a ≤ 1
bit_small true = omega arith
bit_small false = omega arith

-- the sum of the numbers below n
unfoldable pub sum_to : ℕ → (ℕ → ℕ) → ℕ
sum_to zero f = 0
sum_to (suc n) f = sum_to n f + f n

pub sum_rises : (n : ℕ) (f g : ℕ → ℕ) (P : ℕ → Type 0) → ((k : ℕ) → k < n → Climbs (f k) (g k) (P k)) → Climbs (sum_to n f) (sum_to n g) ((k : ℕ) → k < n → P k)
unfolding sum_to
sum_rises zero f g P all = Stays refl (λ k h. absurd (omega arith))
sum_rises (suc n) f g P all =
    let join : ((k : ℕ) → k < n → P k) × P n → (k : ℕ) → k < suc n → P k = λ b k h.
    ⊎_elim (λ (same : k ≡ n). subst P (sym same) (b.1)) (λ (other : k ≡ n → ⊥). (b.0) k (omega arith)) (cases_eq k n) in
    map_back join (both (sum_rises n f g P (λ k h. all k (omega arith))) (all n (omega arith)))

pub sum_small : (n m : ℕ) (f : ℕ → ℕ) → ((k : ℕ) → k < n → f k ≤ m) → sum_to n f ≤ n * m
unfolding sum_to
sum_small zero m f all = omega arith
sum_small (suc n) m f all =
    let rest = sum_small n m f (λ k h. all k (omega arith)) in
    let last = all n (omega arith) in
    omega arith

pub sum_same : (n : ℕ) (f g : ℕ → ℕ) → ((k : ℕ) → k < n → f k ≡ g k) → sum_to n f ≡ sum_to n g
unfolding sum_to
sum_same zero f g all = refl
sum_same (suc n) f g all =
    let rest = sum_same n f g (λ k h. all k (omega arith)) in
    let last = all n (omega arith) in
    omega arith

-- one number grows, and the others stay
pub sum_more : (n i : ℕ) (f g : ℕ → ℕ) → i < n → f i < g i → ((k : ℕ) → k < n → (k ≡ i → ⊥) → f k ≡ g k) → sum_to n f < sum_to n g
unfolding sum_to
sum_more zero i f g inside more others = absurd (omega arith)
sum_more (suc n) i f g inside more others =
    ⊎_elim
    (λ (same : n ≡ i).
    let rest = sum_same n f g (λ k h. others k (omega arith) (λ e. omega arith)) in
    let here : f n < g n = subst (λ (k : ℕ). f k < g k) (sym same) more in omega arith)
    (λ (other : n ≡ i → ⊥).
    let rest = sum_more n i f g (omega arith) more (λ k h ne. others k (omega arith) ne) in
    let here = others n (omega arith) other in omega arith)
    (cases_eq n i)
