-- Texts that are read in turn, by loops.
use Rattle.std.proofs.Common.{◌≡◌, ℕ, zero, suc, ◌+◌, ◌-◌, ◌<◌, ◌≤◌, Bool, true, false, cond, List, refl, sym, ap, ◌∙◌, arith}
use Rattle.life_state.specs.Build.{with_fact}
use Rattle.life_state.specs.States.{State}
use Rattle.life_cert.specs.StateFromText.{count_each, fact_word, fold_each, past_each, starts, told_fact}

past_last : (p : ℕ → List ℕ → List ℕ) (k n : ℕ) (t : List ℕ) → past_each p k (suc n) t ≡ p (k + n) (past_each p k n t)
unfolding past_each
past_last p k zero t = let same : k ≡ k + 0 = omega arith in ap (λ (i : ℕ). p i t) same
past_last p k (suc n) t =
    let same : k + 1 + n ≡ k + suc n = omega arith in
    past_last p (k + 1) n (p k t) ∙ ap (λ (i : ℕ). p i (past_each p (k + 1) n (p k t))) same

past_next : (p : ℕ → List ℕ → List ℕ) (n : ℕ) (t : List ℕ) → p n (past_each p 0 n t) ≡ past_each p 0 (n + 1) t
past_next p n t =
    let same : 0 + n ≡ n = omega arith in
    let next : n + 1 ≡ suc n = omega arith in
    sym (ap (λ (i : ℕ). past_each p 0 i t) next ∙ past_last p 0 n t ∙ ap (λ (i : ℕ). p i (past_each p 0 n t)) same)

-- Of n texts these are read: what is left of the text, and what the others make of the state that is there.
pub record Folded (step : ℕ → List ℕ → State → State) (p : ℕ → List ℕ → List ℕ) (n : ℕ) (t : List ℕ) (s : State) (u : List ℕ) (v : State) (q : ℕ) : Type 0 where
  pub left : fold_each step p 0 n t s ≡ fold_each step p q (n - q) u v
  pub more : u ≡ past_each p 0 q t

pub folded_begins : (step : ℕ → List ℕ → State → State) (p : ℕ → List ℕ → List ℕ) (n : ℕ) (t : List ℕ) (s : State) → Folded step p n t s t s 0
unfolding past_each
folded_begins step p n t s = let same : n ≡ n - 0 = omega arith in record { left = ap (λ (i : ℕ). fold_each step p 0 i t s) same; more = refl }

pub folded_more : (step : ℕ → List ℕ → State → State) (p : ℕ → List ℕ → List ℕ) (n : ℕ) (t : List ℕ) (s : State) (u : List ℕ) (v : State) (q : ℕ) (w : List ℕ) (x : State)
    → Folded step p n t s u v q → q < n → x ≡ step q u v → w ≡ p q u → Folded step p n t s w x (q + 1)
unfolding fold_each
folded_more step p n t s u v q w x h below now on =
    let less : n - q ≡ suc (n - (q + 1)) = omega arith in
    record {
      left = h.left ∙ ap (λ (i : ℕ). fold_each step p q i u v) less ∙ ap (λ r. fold_each step p (q + 1) (n - (q + 1)) r (step q u v)) (sym on)
          ∙ ap (fold_each step p (q + 1) (n - (q + 1)) w) (sym now);
      more = on ∙ ap (p q) h.more ∙ past_next p q t;
    }

pub folded_ends : (step : ℕ → List ℕ → State → State) (p : ℕ → List ℕ → List ℕ) (n : ℕ) (t : List ℕ) (s : State) (u : List ℕ) (v : State) (q : ℕ) → Folded step p n t s u v q → q ≡ n
    → (v ≡ fold_each step p 0 n t s) × (u ≡ past_each p 0 n t)
unfolding fold_each
folded_ends step p n t s u v q h last =
    let none : n - q ≡ 0 = omega (arith, last) in
    (sym (h.left ∙ ap (λ (i : ℕ). fold_each step p q i u v) none), h.more ∙ ap (λ (i : ℕ). past_each p 0 i t) last)

-- So many texts are counted, and gone past.
pub record Counted (w : List ℕ) (p : List ℕ → List ℕ) (most : ℕ) (t u : List ℕ) (n : ℕ) : Type 0 where
  pub count : count_each w p most t ≡ n + count_each w p (most - n) u
  pub more : u ≡ past_each (λ q. p) 0 n t

pub counted_begins : (w : List ℕ) (p : List ℕ → List ℕ) (most : ℕ) (t : List ℕ) → Counted w p most t t 0
unfolding past_each
counted_begins w p most t = let same : most ≡ most - 0 = omega arith in let e = ap (λ (i : ℕ). count_each w p i t) same in record { count = omega (arith, e); more = refl }

pub counted_more : (w : List ℕ) (p : List ℕ → List ℕ) (most : ℕ) (t u v : List ℕ) (n : ℕ) → Counted w p most t u n → n < most → starts w u ≡ true → v ≡ p u → Counted w p most t v (n + 1)
unfolding count_each
counted_more w p most t u v n h below there on =
    let less : most - n ≡ suc (most - (n + 1)) = omega arith in
    let one : count_each w p (most - n) u ≡ suc (count_each w p (most - (n + 1)) v) =
    ap (λ (i : ℕ). count_each w p i u) less ∙ ap (λ (b : Bool). cond b (suc (count_each w p (most - (n + 1)) (p u))) 0) there ∙ ap (λ r. suc (count_each w p (most - (n + 1)) r)) (sym on) in
    let count = h.count in
    record {
      count = omega (arith, one, count);
      more = on ∙ ap p h.more ∙ past_next (λ q. p) n t;
    }

pub counted_ends : (w : List ℕ) (p : List ℕ → List ℕ) (most : ℕ) (t u : List ℕ) (n : ℕ) → Counted w p most t u n → (count_each w p (most - n) u ≡ 0) → (n ≡ count_each w p most t)
    × (u ≡ past_each (λ q. p) 0 (count_each w p most t) t)
counted_ends w p most t u n h none =
    let count = h.count in
    let is : n ≡ count_each w p most t = omega (arith, none, count) in
    (is, h.more ∙ ap (λ (i : ℕ). past_each (λ q. p) 0 i t) is)

-- no further one stands there, or there may be no more
pub none_there : (w : List ℕ) (p : List ℕ → List ℕ) (most : ℕ) (u : List ℕ) → starts w u ≡ false → count_each w p most u ≡ 0
unfolding count_each
none_there w p zero u h = refl
none_there w p (suc most) u h = ap (λ (b : Bool). cond b (suc (count_each w p most (p u))) 0) h

pub none_left : (w : List ℕ) (p : List ℕ → List ℕ) (most n : ℕ) (u : List ℕ) → most ≤ n → count_each w p (most - n) u ≡ 0
unfolding count_each
none_left w p most n u past = let none : most - n ≡ 0 = omega arith in ap (λ (i : ℕ). count_each w p i u) none

-- a fact that stands there, and one that does not
pub fact_there : (c d : ℕ) (t : List ℕ) (s : State) → starts (fact_word c d) t ≡ true → with_fact d c (with_fact c d s) ≡ told_fact c d t s
fact_there c d t s h = sym (ap (λ (b : Bool). cond b (with_fact d c (with_fact c d s)) s) h)

pub fact_missing : (c d : ℕ) (t : List ℕ) (s : State) → starts (fact_word c d) t ≡ false → s ≡ told_fact c d t s
fact_missing c d t s h = sym (ap (λ (b : Bool). cond b (with_fact d c (with_fact c d s)) s) h)
