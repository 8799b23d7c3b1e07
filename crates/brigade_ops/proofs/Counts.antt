-- How many payloads pass a test: in one pool, in all pools, and among what a clear hands on.
use Rattle.std.proofs.Common.{◌≡◌, ◌≢◌, ℕ, zero, suc, ◌+◌, ◌<◌, ◌≤◌, Bool, true, false, cond, List, [], ◌∷◌, ◌++◌, map, reverse, filter, Option, None, Some, inl, inr, refl, sym, ◌∙◌, ap, arith}
use Rattle.std.proofs.Common.{ne_eqb, eq-eqb}
use mathlib.Core.List.{reverse-cons}
use Rattle.std.specs.Prelude.{count_by}
use Rattle.std.specs.List.{list_any}
use Rattle.std.proofs.lemmas.Bool.{cases_eq, cases_lt}
use Rattle.std.proofs.lemmas.List.Sums.{sum_by-append, sum_by-cons}
use Rattle.bucket_ring.specs.Kept.{once_in}
use Rattle.run_model.specs.Indexed.{upd, any_below}
use Rattle.run_model.specs.declared.payload.Payload.{Payload}
use Rattle.run_model.specs.Payloads.{is_file_ref, is_brigade}
use Rattle.run_model.specs.Pools.{Pools, Cleanups, all_held, is_in, is_live, is_under}
use Rattle.run_model.specs.RunOrder.{IsPoolMap, pre_run, own_run, run_order}
use Rattle.run_model.specs.Sound.{sum_below}
use Rattle.run_model.specs.Clearing.{is_reached}
use Rattle.run_model.specs.Files.{is_referred}
use Rattle.brigade_ops.specs.House.{all_refs}
use Rattle.run_model.proofs.Formed.{formed_fresh}
use Rattle.run_model.proofs.RunOrderLaws.{is_of, run_order_once}
use Rattle.run_model.proofs.References.{Emptied, or_left, or_right}
use Rattle.run_model.proofs.Sums.{sum_below_same, sum_below_upd, term_below, all_none}
use Rattle.run_model.proofs.Updates.{upd_either}
use Rattle.brigade_ops.specs.Files.{refs_in}

abbrev pub one_if : {X : Type 0} → (X → Bool) → X → ℕ
one_if test x = cond (test x) 1 0

-- Lists.

pub count_cons : {X : Type 0} (test : X → Bool) (x : X) (xs : List X) → count_by test (x ∷ xs) ≡ one_if test x + count_by test xs
count_cons test x xs = sum_by-cons (one_if test) x xs

pub count_append : {X : Type 0} (test : X → Bool) (xs ys : List X) → count_by test (xs ++ ys) ≡ count_by test xs + count_by test ys
count_append test xs ys = sum_by-append (one_if test) xs ys

pub count_last : {X : Type 0} (test : X → Bool) (xs : List X) (x : X) → count_by test (xs ++ x ∷ []) ≡ count_by test xs + one_if test x
count_last test xs x = count_append test xs (x ∷ []) ∙ ap (λ (k : ℕ). count_by test xs + k) (let last : count_by test (x ∷ []) ≡ one_if test x = omega arith in last)

pub count_reverse : {X : Type 0} (test : X → Bool) (xs : List X) → count_by test (reverse xs) ≡ count_by test xs
count_reverse test [] = refl
count_reverse test (x ∷ xs) =
    let more : count_by test (reverse (x ∷ xs)) ≡ count_by test (reverse xs) + one_if test x = ap (count_by test) (reverse-cons x xs) ∙ count_last test (reverse xs) x in
    let rest : count_by test (reverse xs) ≡ count_by test xs = count_reverse test xs in
    let front : count_by test (x ∷ xs) ≡ one_if test x + count_by test xs = count_cons test x xs in
    omega arith

pub count_map : {X Y : Type 0} (test : Y → Bool) (f : X → Y) (xs : List X) → count_by test (map f xs) ≡ count_by (λ x. test (f x)) xs
count_map test f [] = refl
count_map test f (x ∷ xs) = count_cons test (f x) (map f xs) ∙ (ap (λ (k : ℕ). one_if test (f x) + k) (count_map test f xs) ∙ sym (count_cons (λ x. test (f x)) x xs))

-- whether one passes
pub any_none : {X : Type 0} (test : X → Bool) (xs : List X) → count_by test xs ≡ 0 → list_any test xs ≡ false
any_none test [] none = refl
any_none test (x ∷ xs) none = go (test x) refl (any_none test xs) where
  go : (b : Bool) → test x ≡ b → (count_by test xs ≡ 0 → list_any test xs ≡ false) → list_any test (x ∷ xs) ≡ false
  go true is later = absurd (let front : count_by test (x ∷ xs) ≡ one_if test x + count_by test xs = count_cons test x xs in let one : one_if test x ≡ 1 = ap (λ (b : Bool). cond b 1 0) is in
      omega arith)
  go false is later = rw is (later (let front : count_by test (x ∷ xs) ≡ one_if test x + count_by test xs = count_cons test x xs in omega arith))

pub any_some : {X : Type 0} (test : X → Bool) (xs : List X) → 0 < count_by test xs → list_any test xs ≡ true
any_some test [] some = absurd (omega arith)
any_some test (x ∷ xs) some = go (test x) refl (any_some test xs) where
  go : (b : Bool) → test x ≡ b → (0 < count_by test xs → list_any test xs ≡ true) → list_any test (x ∷ xs) ≡ true
  go true is later = rw is refl
  go false is later = rw is
      (later (let front : count_by test (x ∷ xs) ≡ one_if test x + count_by test xs = count_cons test x xs in let none : one_if test x ≡ 0 = ap (λ (b : Bool). cond b 1 0) is in omega arith))

pub refs_counted : (f : ℕ) (xs : List (ℕ × Payload)) → refs_in f xs ≡ count_by (λ (x : ℕ × Payload). is_file_ref f x.1) xs
unfolding refs_in
refs_counted f [] = refl
refs_counted f (x ∷ xs) = by_test (is_file_ref f x.1) (refs_counted f xs) ∙ sym (count_cons (λ (x : ℕ × Payload). is_file_ref f x.1) x xs) where
  by_test : (b : Bool) → refs_in f xs ≡ count_by (λ (x : ℕ × Payload). is_file_ref f x.1) xs
      → cond b (suc (refs_in f xs)) (refs_in f xs) ≡ cond b 1 0 + count_by (λ (x : ℕ × Payload). is_file_ref f x.1) xs
  by_test true rest = omega (arith, rest)
  by_test false rest = omega (arith, rest)

-- Sums.

pub sum_both : (n : ℕ) (f g h : ℕ → ℕ) → ((k : ℕ) → k < n → f k ≡ g k + h k) → sum_below n f ≡ sum_below n g + sum_below n h
unfolding sum_below
sum_both zero f g h each = refl
sum_both (suc n) f g h each =
    let here : f n ≡ g n + h n = each n (omega arith) in
    let rest : sum_below n f ≡ sum_below n g + sum_below n h = sum_both n f g h (λ k lt. each k (omega arith)) in
    omega arith

-- one term more
pub sum_more : (n i m : ℕ) (f g : ℕ → ℕ) → i < n → g i ≡ f i + m → ((k : ℕ) → k ≢ i → g k ≡ f k) → sum_below n g ≡ sum_below n f + m
sum_more n i m f g lt here off =
    let written : sum_below n (λ k. upd f i (g i) k) + f i ≡ sum_below n (λ k. f k) + g i = sum_below_upd n i f (g i) (λ k. k) lt in
    let same : sum_below n g ≡ sum_below n (λ k. upd f i (g i) k) = sum_below_same n g (λ k. upd f i (g i) k) (λ k less. elim (upd_either f i k (g i)) [
      | inl p ↦ ap g p.0 ∙ sym p.1
      | inr p ↦ off k p.0 ∙ sym p.1
    ]) in
    omega arith

any_below_none : (n : ℕ) (test : ℕ → Bool) → ((k : ℕ) → k < n → test k ≡ false) → any_below n test ≡ false
unfolding any_below
any_below_none zero test none = refl
any_below_none (suc n) test none = rw (none n (omega arith)) (any_below_none n test (λ k lt. none k (omega arith)))

any_below_one : (n : ℕ) (count : ℕ → ℕ) (test : ℕ → Bool) → ((k : ℕ) → 0 < count k → test k ≡ true) → 0 < sum_below n count → any_below n test ≡ true
unfolding any_below sum_below
any_below_one zero count test told some = absurd (omega arith)
any_below_one (suc n) count test told some = elim (cases_lt 0 (count n)) [
  | inl here ↦ or_left (test n) (any_below n test) (told n here)
  | inr none ↦ or_right (test n) (any_below n test) (any_below_one n count test told (omega arith))
]

-- What a clear hands on.

entries_summed : {T : Type 0} (next : ℕ) (test : ℕ × T → Bool) (xs : List (ℕ × T)) → ((n : ℕ) → next ≤ n → filter (is_of n) xs ≡ [])
    → count_by test xs ≡ sum_below next (λ p. count_by test (filter (is_of p) xs))
entries_summed next test [] below = sym (all_none next (λ p. 0) (λ k lt. refl))
entries_summed {T} next test (x ∷ xs) below = elim (cases_lt x.0 next) [
  | inl lt ↦
      (let rest : count_by test xs ≡ sum_below next (λ p. count_by test (filter (is_of p) xs)) =
      entries_summed next test xs (λ n le. rw (ne_eqb x.0 n (λ e. absurd (omega (arith, e)))) at (below n le)) in
      let front : count_by test (x ∷ xs) ≡ one_if test x + count_by test xs = count_cons test x xs in
      let all : sum_below next (λ p. count_by test (filter (is_of p) (x ∷ xs))) ≡ sum_below next (λ p. count_by test (filter (is_of p) xs)) + one_if test x
      = sum_more next x.0 (one_if test x) (λ p. count_by test (filter (is_of p) xs)) (λ p. count_by test (filter (is_of p) (x ∷ xs))) lt (here refl) off in
      omega arith)
  | inr le ↦ absurd (let none : x ∷ filter (is_of x.0) xs ≡ [] = rw (eq-eqb x.0 x.0 refl) at (below x.0 le) in cc)
] where
  here : x.0 ≡ x.0 → count_by test (filter (is_of x.0) (x ∷ xs)) ≡ count_by test (filter (is_of x.0) xs) + one_if test x
  here same =
      let front : count_by test (x ∷ filter (is_of x.0) xs) ≡ one_if test x + count_by test (filter (is_of x.0) xs) = count_cons test x (filter (is_of x.0) xs) in
      ap (λ (b : Bool). count_by test (cond b (x ∷ filter (is_of x.0) xs) (filter (is_of x.0) xs))) (eq-eqb x.0 x.0 same) ∙ (front ∙ omega arith)

  off : (k : ℕ) → k ≢ x.0 → count_by test (filter (is_of k) (x ∷ xs)) ≡ count_by test (filter (is_of k) xs)
  off k ne = ap (λ (b : Bool). count_by test (cond b (x ∷ filter (is_of k) xs) (filter (is_of k) xs))) (ne_eqb x.0 k (λ e. ne (sym e)))

-- how many of the payloads of a pool pass a test
abbrev pub held_count : {T : Type 0} → (T → Bool) → Cleanups T → ℕ
held_count test c = count_by test (all_held c)

turn_counted : {T : Type 0} (test : T → Bool) (p : ℕ) (xs : List T) → count_by (λ (x : ℕ × T). test x.1) (map (λ (x : T). (p, x)) (reverse xs)) ≡ count_by test xs
turn_counted {T} test p xs = count_map (λ (x : ℕ × T). test x.1) (λ (x : T). (p, x)) (reverse xs) ∙ count_reverse test xs

own_counted : {T : Type 0} (test : T → Bool) (ps : Pools T) (p : ℕ) → count_by (λ (x : ℕ × T). test x.1) (pre_run ps p ++ own_run ps p) ≡ count_by test (all_held (ps.payloads p))
unfolding pre_run own_run
own_counted {T} test ps p =
    let c = ps.payloads p in
    let run : count_by (λ (x : ℕ × T). test x.1) (map (λ (x : T). (p, x)) (reverse c.pre) ++ map (λ (x : T). (p, x)) (reverse c.plain))
    ≡ count_by (λ (x : ℕ × T). test x.1) (map (λ (x : T). (p, x)) (reverse c.pre)) + count_by (λ (x : ℕ × T). test x.1) (map (λ (x : T). (p, x)) (reverse c.plain))
    = count_append (λ (x : ℕ × T). test x.1) (map (λ (x : T). (p, x)) (reverse c.pre)) (map (λ (x : T). (p, x)) (reverse c.plain)) in
    let early = turn_counted test p c.pre in
    let late = turn_counted test p c.plain in
    let all = count_append test c.pre c.plain in
    omega (arith, run, early, late, all)

-- a name that was never given out stands under no pool
pub fresh_apart : {T : Type 0} (ps : Pools T) → IsPoolMap ps → (pool n : ℕ) → ps.next ≤ n → is_under ps pool n ≡ false
unfolding is_under
fresh_apart ps formed pool n le = ap (is_in pool) (formed_fresh ps formed n le)

module _ {T : Type 0} (test : T → Bool) (ps : Pools T) (formed : IsPoolMap ps) (pool : ℕ) (live : is_live ps pool ≡ true) where
  -- It is what the pools under the cleared one hold.
  pub run_counted : count_by (λ (x : ℕ × T). test x.1) (run_order ps pool) ≡ sum_below ps.next (λ p. cond (is_under ps pool p) (count_by test (all_held (ps.payloads p))) 0)
  run_counted =
      entries_summed ps.next (λ (x : ℕ × T). test x.1) (run_order ps pool)
      (λ n le. run_order_once ps formed n pool live ∙ ap (λ (b : Bool). cond b (pre_run ps n ++ own_run ps n) []) (fresh_apart ps formed pool n le))
      ∙ sum_below_same ps.next (λ p. count_by (λ (x : ℕ × T). test x.1) (filter (is_of p) (run_order ps pool))) (λ p. cond (is_under ps pool p) (count_by test (all_held (ps.payloads p))) 0)
      (λ p lt. ap (count_by (λ (x : ℕ × T). test x.1)) (run_order_once ps formed p pool live) ∙ by_test p (is_under ps pool p)) where
        by_test : (p : ℕ) (b : Bool) → count_by (λ (x : ℕ × T). test x.1) (cond b (pre_run ps p ++ own_run ps p) []) ≡ cond b (count_by test (all_held (ps.payloads p))) 0
        by_test p true = own_counted test ps p
        by_test p false = refl

-- What all pools hold is what they hold afterwards and what was handed on.
pub run_splits : (test : Payload → Bool) (ps new : Pools Payload) → IsPoolMap ps → (pool : ℕ) → is_live ps pool ≡ true → Emptied pool ps new
    → sum_below ps.next (λ p. count_by test (all_held (ps.payloads p))) ≡ sum_below new.next (λ p. count_by test (all_held (new.payloads p))) + count_by (λ (x : ℕ × Payload). test x.1) (run_order ps pool)
run_splits test ps new formed pool live gone =
    let parts : sum_below ps.next (λ p. count_by test (all_held (ps.payloads p))) ≡ sum_below ps.next (λ p. count_by test (all_held (new.payloads p))) + sum_below ps.next
    (λ p. cond (is_under ps pool p) (count_by test (all_held (ps.payloads p))) 0)
    = sum_both ps.next (λ p. count_by test (all_held (ps.payloads p))) (λ p. count_by test (all_held (new.payloads p))) (λ p. cond (is_under ps pool p) (count_by test (all_held (ps.payloads p))) 0)
    (λ p lt. by_test p (is_under ps pool p) refl) in
    let same : sum_below new.next (λ p. count_by test (all_held (new.payloads p))) ≡ sum_below ps.next (λ p. count_by test (all_held (new.payloads p))) =
    ap (λ (n : ℕ). sum_below n (λ p. count_by test (all_held (new.payloads p)))) gone.next in
    let run = run_counted test ps formed pool live in
    omega (arith, parts, same, run) where
      by_test : (p : ℕ) (b : Bool) → is_under ps pool p ≡ b → count_by test (all_held (ps.payloads p)) ≡ count_by test (all_held (new.payloads p)) + cond b (count_by test (all_held (ps.payloads p))) 0
      by_test p true is = let none : count_by test (all_held (new.payloads p)) ≡ 0 = ap (held_count test) (gone.gone p is) in omega arith
      by_test p false is = let kept : count_by test (all_held (new.payloads p)) ≡ count_by test (all_held (ps.payloads p)) = ap (held_count test) (gone.kept p is) in omega arith

pub once_at : (q : ℕ) → once_in q (Some q) ≡ 1
once_at q = rw (eq-eqb q q refl) refl

pub once_off : (q k : ℕ) → k ≢ q → once_in k (Some q) ≡ 0
once_off q k ne = rw (ne_eqb q k (λ e. ne (sym e))) refl

both_none : (b : Bool) (n : ℕ) → n ≡ 0 → cond b n 0 ≡ 0
both_none true n none = none
both_none false n none = refl

-- A brigade is handed on exactly where the pool that it is on is reached.
pub brigade_handed : (ps : Pools Payload) → IsPoolMap ps → (pool : ℕ) → is_live ps pool ≡ true → (name : ℕ) (on : Option ℕ) → ((p : ℕ) → count_by (is_brigade name) (all_held (ps.payloads p)) ≡ once_in p on)
    → list_any (λ (x : ℕ × Payload). is_brigade name x.1) (run_order ps pool) ≡ is_reached (is_under ps pool) on
brigade_handed ps formed pool live name None held = any_none (λ (x : ℕ × Payload). is_brigade name x.1) (run_order ps pool)
    (run_counted (is_brigade name) ps formed pool live
    ∙ all_none ps.next (λ p. cond (is_under ps pool p) (count_by (is_brigade name) (all_held (ps.payloads p))) 0) (λ p lt. both_none (is_under ps pool p) _ (held p)))
brigade_handed ps formed pool live name (Some q) held = by_test (is_under ps pool q) refl where
  terms : ℕ → ℕ
  terms = λ p. cond (is_under ps pool p) (count_by (is_brigade name) (all_held (ps.payloads p))) 0

  all : count_by (λ (x : ℕ × Payload). is_brigade name x.1) (run_order ps pool) ≡ sum_below ps.next (λ p. cond (is_under ps pool p) (count_by (is_brigade name) (all_held (ps.payloads p))) 0)
  all = run_counted (is_brigade name) ps formed pool live

  given : is_under ps pool q ≡ true → q < ps.next
  given under = elim (cases_lt q ps.next) [
    | inl lt ↦ lt
    | inr le ↦ absurd (let both : true ≡ false = sym under ∙ fresh_apart ps formed pool q le in cc)
  ]

  by_test : (b : Bool) → is_under ps pool q ≡ b → list_any (λ (x : ℕ × Payload). is_brigade name x.1) (run_order ps pool) ≡ is_under ps pool q
  by_test true under =
      let here : cond (is_under ps pool q) (count_by (is_brigade name) (all_held (ps.payloads q))) 0 ≡ 1 = ap (λ (b : Bool). cond b (count_by (is_brigade name) (all_held (ps.payloads q))) 0) under ∙ (held q ∙ once_at q) in
      let one = term_below ps.next q (λ p. cond (is_under ps pool p) (count_by (is_brigade name) (all_held (ps.payloads p))) 0) (given under) in
      any_some (λ (x : ℕ × Payload). is_brigade name x.1) (run_order ps pool) (omega (arith, all, one, here)) ∙ sym under
  by_test false apart =
      any_none (λ (x : ℕ × Payload). is_brigade name x.1) (run_order ps pool)
      (all ∙ all_none ps.next (λ p. cond (is_under ps pool p) (count_by (is_brigade name) (all_held (ps.payloads p))) 0) (λ p lt. elim (cases_eq p q) [
        | inl same ↦ ap (λ (b : Bool). cond b (count_by (is_brigade name) (all_held (ps.payloads p))) 0) (ap (is_under ps pool) same ∙ apart)
        | inr ne ↦ both_none (is_under ps pool p) _ (held p ∙ once_off q p ne)
      ]))
      ∙ sym apart

-- A file is referred to where a pool holds a reference.
pub referred_none : (ps : Pools Payload) (file : ℕ) → all_refs ps file ≡ 0 → is_referred ps file ≡ false
referred_none ps file none = any_below_none ps.next (λ p. list_any (is_file_ref file) (all_held (ps.payloads p)))
    (λ p lt. any_none (is_file_ref file) (all_held (ps.payloads p)) (let one = term_below ps.next p (λ q. count_by (is_file_ref file) (all_held (ps.payloads q))) lt in omega (arith, one, none)))

pub referred_some : (ps : Pools Payload) (file : ℕ) → 0 < all_refs ps file → is_referred ps file ≡ true
referred_some ps file some =
    any_below_one ps.next (λ p. count_by (is_file_ref file) (all_held (ps.payloads p))) (λ p. list_any (is_file_ref file) (all_held (ps.payloads p))) (λ p here. any_some (is_file_ref file) (all_held (ps.payloads p)) here) some
