-- Which instructions are heads.
use Rattle.std.proofs.Common.{◌≡◌, ℕ, suc, ◌+◌, ◌<◌, Bool, true, false, ◌||◌, ◌==◌, if◌then◌else◌, length, Option, Some, None, unwrap_or, slice_get, refl, ap, sym, ◌∙◌, add-one, eq-eqb, IfSome, inl}
use Rattle.std.proofs.Common.{inr, ◌⊎◌, zero, arith}
use Rattle.std.proofs.lemmas.Bool.{eqb-true}
use Rattle.module_code.specs.declared.instr.Instr.{Instr}
use Rattle.module_code.specs.Program.{Program, IsModule, IsPlaced, target}
use Rattle.run_model.specs.Indexed.{upd, any_below}
use Rattle.life_state.proofs.Below.{some_below}
use Rattle.life_state.proofs.Tests.{or_left, or_right, or_either}
use Rattle.life_check.specs.Slim.{names, is_first, is_leader}

-- the heads that the instructions below n make
abbrev pub is_marked : Program → ℕ → ℕ → Bool
is_marked p n k = is_first p k || any_below n (λ j. names k (slice_get p.code j))

pub none_marked : (p : Program) (k : ℕ) → is_marked p 0 k ≡ is_first p k
unfolding any_below
none_marked p k = of (is_first p k)
  where
    of : (b : Bool) → (b || false) ≡ b
    of true = refl
    of false = refl

or_more : (a b c : Bool) → (if b then true else (a || c)) ≡ (a || (b || c))
or_more true true c = refl
or_more true false c = refl
or_more false true c = refl
or_more false false c = refl

marked : (p : Program) (n k : ℕ) (i : Instr) (old : ℕ → Bool) → slice_get p.code n ≡ Some i → old k ≡ is_marked p n k
    → upd old (unwrap_or (target i) 0) true k ≡ is_marked p (suc n) k
unfolding upd any_below
marked p n k i old here e =
    ap (λ (b : Bool). if k == unwrap_or (target i) 0 then true else b) e
    ∙ (or_more (is_first p k) (names k (Some i)) (any_below n (λ j. names k (slice_get p.code j)))
    ∙ ap (λ (o : Option Instr). is_first p k || (names k o || any_below n (λ j. names k (slice_get p.code j)))) (sym here))

pub one_more : (p : Program) (n k : ℕ) (i : Instr) (old : ℕ → Bool) → slice_get p.code n ≡ Some i → old k ≡ is_marked p n k
    → upd old (unwrap_or (target i) 0) true k ≡ is_marked p (n + 1) k
one_more p n k i old here e = rw (add-one n) (marked p n k i old here e)

-- the first instructions, marked one after another
pub firsts_are : (p : Program) (f g h d : ℕ → Bool) (k : ℕ) → d k ≡ false → f ≡ upd d p.main true → g ≡ upd f p.init true → h ≡ upd g 0 true → h k ≡ is_first p k
unfolding upd
firsts_are p f g h d k none a b c =
    ap (λ (x : ℕ → Bool). x k) c
    ∙ (ap (λ (x : ℕ → Bool). if k == 0 then true else x k) b
    ∙ (ap (λ (x : ℕ → Bool). if k == 0 then true else (if k == p.init then true else x k)) a
    ∙ (ap (λ (x : Bool). if k == 0 then true else (if k == p.init then true else (if k == p.main then true else x))) none
    ∙ of (k == 0) (k == p.init) (k == p.main))))
  where
    of : (x y z : Bool) → (if x then true else (if y then true else (if z then true else false))) ≡ (x || y || z)
    of true y z = refl
    of false true z = refl
    of false false true = refl
    of false false false = refl

-- what an instruction names is a head
pub target_head : (p : Program) (pc : ℕ) (i : Instr) → slice_get p.code pc ≡ Some i → pc < length p.code → is_leader p (unwrap_or (target i) 0) ≡ true
unfolding is_leader
target_head p pc i here inside =
    let t = unwrap_or (target i) 0 in
    or_right (is_first p t) (any_below (length p.code) (λ k. names t (slice_get p.code k)))
    (some_below (length p.code) pc (λ k. names t (slice_get p.code k)) inside (ap (names t) here ∙ eq-eqb t t refl))

-- it is an instruction of the module
pub target_inside : (p : Program) (pc : ℕ) (i : Instr) → IsPlaced p pc i → 0 < length p.code → unwrap_or (target i) 0 < length p.code
target_inside p pc i h some = at (target i) h.jump
  where
    at : (o : Option ℕ) → IfSome o (λ t. t < length p.code) → unwrap_or o 0 < length p.code
    at None h = some
    at (Some t) h = h

pub first_head : (p : Program) (pc : ℕ) → is_first p pc ≡ true → is_leader p pc ≡ true
unfolding is_leader
first_head p pc h = or_left (is_first p pc) (any_below (length p.code) (λ k. names pc (slice_get p.code k))) h

pub head_at_init : (p : Program) → is_leader p p.init ≡ true
head_at_init p = first_head p p.init (or_left (p.init == 0 || p.init == p.init) (p.init == p.main) (or_right (p.init == 0) (p.init == p.init) (eq-eqb p.init p.init refl)))

pub head_at_main : (p : Program) → is_leader p p.main ≡ true
head_at_main p = first_head p p.main (or_right (p.main == 0 || p.main == p.init) (p.main == p.main) (eq-eqb p.main p.main refl))

-- a head is an instruction

found_below : (n : ℕ) (f : ℕ → Bool) → any_below n f ≡ true → (k : ℕ) × ((k < n) × (f k ≡ true))
unfolding any_below
found_below zero f h = cc
found_below (suc n) f h =
    elim (or_either (f n) (any_below n f) h) [
      | inl here ↦ (n, (omega arith, here))
      | inr below ↦ (let k = found_below n f below in (k.0, (let low = k.1.0 in omega (arith, low), k.1.1)))
    ]

pub head_inside : (p : Program) (pc : ℕ) → IsModule p → is_leader p pc ≡ true → pc < length p.code
unfolding is_leader
head_inside p pc m h =
    elim (or_either (is_first p pc) (any_below (length p.code) (λ k. names pc (slice_get p.code k))) h) [
      | inl first ↦ firsts (or_either (pc == 0 || pc == p.init) (pc == p.main) first)
      | inr named ↦ (let k = found_below (length p.code) (λ j. names pc (slice_get p.code j)) named in named_by k.0 (slice_get p.code k.0) refl k.1.1)
    ]
  where
    named_by : (k : ℕ) (o : Option Instr) → slice_get p.code k ≡ o → names pc o ≡ true → pc < length p.code
    named_by k None e h = cc
    named_by k (Some i) e h =
        let is = eqb-true pc (unwrap_or (target i) 0) h in
        let inside = target_inside p k i (m.placed k i e) m.opens in
        omega (arith, is, inside)

    at : (n : ℕ) → n < length p.code → pc == n ≡ true → pc < length p.code
    at n inside h = let is = eqb-true pc n h in omega (arith, is, inside)

    two : ((pc == 0) ≡ true) ⊎ ((pc == p.init) ≡ true) → pc < length p.code
    two (inl h) = at 0 m.opens h
    two (inr h) = at p.init m.inits h

    firsts : ((pc == 0 || pc == p.init) ≡ true) ⊎ ((pc == p.main) ≡ true) → pc < length p.code
    firsts (inl h) = two (or_either (pc == 0) (pc == p.init) h)
    firsts (inr h) = at p.main m.mains h
