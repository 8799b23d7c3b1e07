-- Sums of states: two states of which neither says less have one sum.
use Rattle.std.proofs.Common.{◌≡◌, ℕ, zero, suc, ◌+◌, ◌<◌, Bool, true, false, ◌&&◌, Option, Some, None, refl, sym, ap, ap₂, ◌∙◌, add-one, arith}
use Rattle.std.specs.Prelude.{◌==◌, nat_le}
use Rattle.std.proofs.lemmas.Bool.{leb-true, eqb-true}
use Rattle.module_code.specs.declared.instr.PoolRef.TheVariants as pool
use Rattle.life_state.specs.declared.parts.Classes.{Classes}
use Rattle.life_state.specs.declared.parts.PoolState.{PoolState}
use Rattle.life_state.specs.States.{Homes, BrigadeKnown, CursorKnown, Unset, Loose, In, End, InOrEnd, State}
use Rattle.life_state.specs.Order.{implies, all_below, rank, content_leq, classes_leq, pool_leq, homes_leq, variable_leq, marks_leq, brigade_leq, cursor_leq, leq}
use Rattle.life_state.specs.Laws.{Below}
use Rattle.life_state.proofs.Tests.{split2, split3, all_at}
use Rattle.life_state.proofs.OrderLaws.{leq_says}
use Rattle.life_cert.specs.CertText.{is_again}
use Rattle.life_cert.specs.StateSums.{digit, three_digits, homes_number, pool_number, classes_number, brigade_number, cursor_number, summed, sum_below, state_sum, line_sum}

-- one number more
pub sum_more : (n : ℕ) (f : ℕ → ℕ) (start sum number : ℕ) → sum ≡ sum_below n f start → number ≡ f n → summed sum number ≡ sum_below (n + 1) f start
unfolding sum_below
sum_more n f start sum number so_far is = ap₂ summed so_far is ∙ ap (λ (m : ℕ). sum_below m f start) (sym (add-one n))

sums_same : (n : ℕ) (f g : ℕ → ℕ) (s t : ℕ) → s ≡ t → ((k : ℕ) → k < n → f k ≡ g k) → sum_below n f s ≡ sum_below n g t
unfolding sum_below
sums_same zero f g s t start same = start
sums_same (suc n) f g s t start same = ap₂ summed (sums_same n f g s t start (λ k low. same k (omega (arith, low)))) (same n (omega arith))

digits_same : (a b : Bool) → implies a b ≡ true → implies b a ≡ true → digit a ≡ digit b
digits_same true true p q = refl
digits_same false false p q = refl
digits_same true false p q = cc p
digits_same false true p q = cc q

three_same : (a b c x y z : Bool) → (implies a x && implies b y && implies c z) ≡ true → (implies x a && implies y b && implies z c) ≡ true → three_digits a b c ≡ three_digits x y z
three_same a b c x y z p q =
    let up = split3 (implies a x) (implies b y) (implies c z) p in
    let down = split3 (implies x a) (implies y b) (implies z c) q in
    let first = digits_same a x up.0 down.0 in
    let second = digits_same b y up.1 down.1 in
    let third = digits_same c z up.2 down.2 in
    omega (arith, first, second, third)

pools_same : (a b : PoolState) → pool_leq a b ≡ true → pool_leq b a ≡ true → pool_number a ≡ pool_number b
pools_same a b = three_same a.null a.gone a.live b.null b.gone b.live

classes_same : (a b : Classes) → classes_leq a b ≡ true → classes_leq b a ≡ true → classes_number a ≡ classes_number b
classes_same a b = three_same a.bytes a.flush a.eos b.bytes b.flush b.eos

homes_same : (a b : Homes) → homes_leq a b ≡ true → homes_leq b a ≡ true → homes_number a ≡ homes_number b
homes_same a b p q =
    let own : ℕ → Bool = λ i. implies (a.at (pool.Own i)) (b.at (pool.Own i)) in
    let back : ℕ → Bool = λ i. implies (b.at (pool.Own i)) (a.at (pool.Own i)) in
    let up = split3 (implies a.call b.call) (implies a.dead b.dead) (implies (a.at pool.Req) (b.at pool.Req) && all_below 8 own) p in
    let down = split3 (implies b.call a.call) (implies b.dead a.dead) (implies (b.at pool.Req) (a.at pool.Req) && all_below 8 back) q in
    let ups = split2 (implies (a.at pool.Req) (b.at pool.Req)) (all_below 8 own) up.2 in
    let downs = split2 (implies (b.at pool.Req) (a.at pool.Req)) (all_below 8 back) down.2 in
    let one : (i : ℕ) → i < 8 → digit (a.at (pool.Own i)) ≡ digit (b.at (pool.Own i))
    = λ i low. digits_same (a.at (pool.Own i)) (b.at (pool.Own i)) (all_at 8 i own ups.1 low) (all_at 8 i back downs.1 low) in
    let call = digits_same a.call b.call up.0 down.0 in
    let dead = digits_same a.dead b.dead up.1 down.1 in
    let req = digits_same (a.at pool.Req) (b.at pool.Req) ups.0 downs.0 in
    let n0 = one 0 (omega arith) in
    let n1 = one 1 (omega arith) in
    let n2 = one 2 (omega arith) in
    let n3 = one 3 (omega arith) in
    let n4 = one 4 (omega arith) in
    let n5 = one 5 (omega arith) in
    let n6 = one 6 (omega arith) in
    let n7 = one 7 (omega arith) in
    omega (arith, call, dead, req, n0, n1, n2, n3, n4, n5, n6, n7)

ranks_same : (m n : ℕ) → nat_le m n ≡ true → nat_le n m ≡ true → m ≡ n
ranks_same m n p q = let up = leb-true m n p in let down = leb-true n m q in omega (arith, up, down)

brigades_same : (a b : BrigadeKnown) → brigade_leq a b ≡ true → brigade_leq b a ≡ true → brigade_number a ≡ brigade_number b
unfolding brigade_leq brigade_number
brigades_same a b p q =
    let up = split2 (variable_leq a b && marks_leq a b && content_leq a.content b.content) (homes_leq a.homes b.homes) p in
    let down = split2 (variable_leq b a && marks_leq b a && content_leq b.content a.content) (homes_leq b.homes a.homes) q in
    let ups = split3 (variable_leq a b) (marks_leq a b) (content_leq a.content b.content) up.0 in
    let downs = split3 (variable_leq b a) (marks_leq b a) (content_leq b.content a.content) down.0 in
    let mark_up = split2 (implies a.usable b.usable) (implies a.passed b.passed) ups.1 in
    let mark_down = split2 (implies b.usable a.usable) (implies b.passed a.passed) downs.1 in
    let may_be = three_same a.null a.gone a.live b.null b.gone b.live ups.0 downs.0 in
    let usable = digits_same a.usable b.usable mark_up.0 mark_down.0 in
    let passed = digits_same a.passed b.passed mark_up.1 mark_down.1 in
    let content = ranks_same (rank a.content) (rank b.content) ups.2 downs.2 in
    let homes = homes_same a.homes b.homes up.1 down.1 in
    omega (arith, may_be, usable, passed, content, homes)

-- at one brigade, of the same classes
both_here : (b c : ℕ) (t u : Classes) → (b == c && classes_leq t u) ≡ true → (c == b && classes_leq u t) ≡ true → (b ≡ c) × (classes_number t ≡ classes_number u)
both_here b c t u p q =
    let up = split2 (b == c) (classes_leq t u) p in
    let down = split2 (c == b) (classes_leq u t) q in
    (eqb-true b c up.0, classes_same t u up.1 down.1)

cursors_same : (a b : CursorKnown) → cursor_leq a b ≡ true → cursor_leq b a ≡ true → cursor_number a ≡ cursor_number b
unfolding cursor_number
cursors_same Unset Unset p q = refl
cursors_same Unset (Loose t h) p q = cc p
cursors_same Unset (In b t) p q = cc p
cursors_same Unset (End b) p q = cc p
cursors_same Unset (InOrEnd b t) p q = cc p
cursors_same (Loose t h) Unset p q = cc q
cursors_same (Loose t h) (Loose u k) p q =
    let up = split2 (classes_leq t u) (homes_leq h k) p in
    let down = split2 (classes_leq u t) (homes_leq k h) q in
    let classes = classes_same t u up.0 down.0 in
    let homes = homes_same h k up.1 down.1 in
    omega (arith, classes, homes)
cursors_same (Loose t h) (In b u) p q = cc p
cursors_same (Loose t h) (End b) p q = cc p
cursors_same (Loose t h) (InOrEnd b u) p q = cc p
cursors_same (In b t) Unset p q = cc q
cursors_same (In b t) (Loose u h) p q = cc p
cursors_same (In b t) (In c u) p q = let one = both_here b c t u p q in let place = one.0 in let classes = one.1 in omega (arith, place, classes)
cursors_same (In b t) (End c) p q = cc p
cursors_same (In b t) (InOrEnd c u) p q = cc q
cursors_same (End b) Unset p q = cc q
cursors_same (End b) (Loose t h) p q = cc p
cursors_same (End b) (In c t) p q = cc p
cursors_same (End b) (End c) p q = let place = eqb-true b c p in omega (arith, place)
cursors_same (End b) (InOrEnd c t) p q = cc q
cursors_same (InOrEnd b t) Unset p q = cc q
cursors_same (InOrEnd b t) (Loose u h) p q = cc p
cursors_same (InOrEnd b t) (In c u) p q = cc p
cursors_same (InOrEnd b t) (End c) p q = cc p
cursors_same (InOrEnd b t) (InOrEnd c u) p q = let one = both_here b c t u p q in let place = one.0 in let classes = one.1 in omega (arith, place, classes)

digit_both : (a b : Bool) → (a ≡ true → b ≡ true) → (b ≡ true → a ≡ true) → digit a ≡ digit b
digit_both true true p q = refl
digit_both false false p q = refl
digit_both true false p q = let is = p refl in cc is
digit_both false true p q = let is = q refl in cc is

states_same : (a b : State) → Below a b → Below b a → state_sum a ≡ state_sum b
unfolding state_sum
states_same a b p q =
    sums_same 9 (λ c. cursor_number (a.cursors c)) (λ c. cursor_number (b.cursors c)) _ _
    (sums_same 9 (λ v. brigade_number (a.brigades v)) (λ v. brigade_number (b.brigades v)) _ _
    (sums_same 8 (λ k. pool_number (a.pools k)) (λ k. pool_number (b.pools k)) (digit a.sent) (digit b.sent) (digit_both a.sent b.sent p.sent q.sent)
    (λ k low. pools_same (a.pools k) (b.pools k) (p.pools k low) (q.pools k low)))
    (λ k low. brigades_same (a.brigades k) (b.brigades k) (p.brigades k low) (q.brigades k low)))
    (λ k low. cursors_same (a.cursors k) (b.cursors k) (p.cursors k low) (q.cursors k low))

-- a line that has the state has its sum
pub same_sum : (s : State) (o : Option State) → is_again s o ≡ true → line_sum o ≡ state_sum s
same_sum s None h = cc h
same_sum s (Some t) h = let both = split2 (leq s t) (leq t s) h in states_same t s (leq_says t s both.1) (leq_says s t both.0)
