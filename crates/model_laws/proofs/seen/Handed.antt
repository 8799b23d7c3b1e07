-- A pass to the next filter: its call begins with what the caller passes.
use Rattle.std.proofs.Common.{◌≡◌, ◌⊎◌, ℕ, zero, suc, ◌<◌, Bool, true, false, ◌==◌, cond, List, [], ◌∷◌, ◌++◌, inl, inr, refl, sym, ◌∙◌, ap, subst, arith, eq-eqb, eqb-true}
use Rattle.std.proofs.lemmas.Bool.{cases_eq, or_left, or_right, or_cases}
use Rattle.run_model.specs.declared.bucket.PoolVar.{PoolVar}
use Rattle.run_model.specs.declared.bucket.PoolVar.TheVariants as poolvar
use Rattle.run_model.specs.Pools.{is_in, is_live}
use Rattle.run_model.specs.State.{Configuration}

-- Which pools of an instance are live.

abbrev add_live : Configuration → PoolVar → List ℕ → List ℕ
add_live r poolvar.Null ns = ns
add_live r (poolvar.Made m) ns = cond (is_live r.shared.pools m) (m ∷ ns) ns

pub live_own : Configuration → ℕ → List ℕ
live_own r zero = []
live_own r (suc q) = add_live r (r.instance.pools q) (live_own r q)

pub in_more : (n : ℕ) (xs ys : List ℕ) → is_in n xs ≡ true → is_in n (xs ++ ys) ≡ true
in_more n [] ys e = absurd (cc)
in_more n (x ∷ xs) ys e = elim (or_cases (x == n) (is_in n xs) e) [
  | inl here ↦ or_left (x == n) (is_in n (xs ++ ys)) here
  | inr there ↦ or_right (x == n) (is_in n (xs ++ ys)) (in_more n xs ys there)
]

pub in_behind : (n : ℕ) (xs ys : List ℕ) → is_in n ys ≡ true → is_in n (xs ++ ys) ≡ true
in_behind n [] ys e = e
in_behind n (x ∷ xs) ys e = or_right (x == n) (is_in n (xs ++ ys)) (in_behind n xs ys e)

pub in_either : (n : ℕ) (xs ys : List ℕ) → is_in n (xs ++ ys) ≡ true → (is_in n xs ≡ true) ⊎ (is_in n ys ≡ true)
in_either n [] ys e = inr e
in_either n (x ∷ xs) ys e = elim (or_cases (x == n) (is_in n (xs ++ ys)) e) [
  | inl here ↦ inl (or_left (x == n) (is_in n xs) here)
  | inr there ↦ elim (in_either n xs ys there) [ inl first ↦ inl (or_right (x == n) (is_in n xs) first) | inr second ↦ inr second ]
]

-- one that is among them is live, and named
IsLiveOwn : Configuration → ℕ → Type 0
IsLiveOwn r n = (is_live r.shared.pools n ≡ true) × ((q : ℕ) × (r.instance.pools q ≡ poolvar.Made n))

add_is : (r : Configuration) (n q : ℕ) (v : PoolVar) (ns : List ℕ) → r.instance.pools q ≡ v → (is_in n ns ≡ true → IsLiveOwn r n) → is_in n (add_live r v ns) ≡ true → IsLiveOwn r n
unfolding IsLiveOwn
add_is r n q poolvar.Null ns is rest e = rest e
add_is r n q (poolvar.Made m) ns is rest e = by_live (is_live r.shared.pools m) refl e where
  by_live : (b : Bool) → is_live r.shared.pools m ≡ b → is_in n (cond b (m ∷ ns) ns) ≡ true → (is_live r.shared.pools n ≡ true) × ((k : ℕ) × (r.instance.pools k ≡ poolvar.Made n))
  by_live true live e = elim (or_cases (m == n) (is_in n ns) e) [
    | inl here ↦ (let same : m ≡ n = eqb-true m n here in (subst (λ (x : ℕ). is_live r.shared.pools x ≡ true) same live, (q, is ∙ ap (λ (x : ℕ). poolvar.Made x) same)))
    | inr there ↦ rest there
  ]
  by_live false live e = rest e

pub own_live : (r : Configuration) (n j : ℕ) → is_in n (live_own r j) ≡ true → (is_live r.shared.pools n ≡ true) × ((q : ℕ) × (r.instance.pools q ≡ poolvar.Made n))
unfolding live_own IsLiveOwn
own_live r n zero e = absurd (cc)
own_live r n (suc q) e = add_is r n q (r.instance.pools q) (live_own r q) refl (own_live r n q) e

add_more : (r : Configuration) (n : ℕ) (v : PoolVar) (ns : List ℕ) → is_in n ns ≡ true → is_in n (add_live r v ns) ≡ true
add_more r n poolvar.Null ns e = e
add_more r n (poolvar.Made m) ns e = by_live (is_live r.shared.pools m) where
  by_live : (b : Bool) → is_in n (cond b (m ∷ ns) ns) ≡ true
  by_live true = or_right (m == n) (is_in n ns) e
  by_live false = e

add_here : (r : Configuration) (n : ℕ) (v : PoolVar) (ns : List ℕ) → v ≡ poolvar.Made n → is_live r.shared.pools n ≡ true → is_in n (add_live r v ns) ≡ true
add_here r n v ns is live = subst (λ (x : PoolVar). is_in n (add_live r x ns) ≡ true) (sym is)
    (subst (λ (b : Bool). is_in n (cond b (n ∷ ns) ns) ≡ true) (sym live) (or_left (n == n) (is_in n ns) (eq-eqb n n refl)))

pub live_in : (r : Configuration) (n q j : ℕ) → q < j → r.instance.pools q ≡ poolvar.Made n → is_live r.shared.pools n ≡ true → is_in n (live_own r j) ≡ true
unfolding live_own
live_in r n q zero lt is live = absurd (omega arith)
live_in r n q (suc j) lt is live = elim (cases_eq q j) [
  | inl same ↦ add_here r n (r.instance.pools j) (live_own r j) (subst (λ (x : ℕ). r.instance.pools x ≡ poolvar.Made n) same is) live
  | inr off ↦ add_more r n (r.instance.pools j) (live_own r j) (live_in r n q j (omega (arith, lt, off)) is live)
]
