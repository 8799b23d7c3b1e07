-- Routes without parameters: a path has the route that is written as it is.
use Rattle.std.proofs.Common.{◌≡◌, ℕ, zero, suc, ◌-◌, ◌<◌, ◌≤◌, List, [], ◌∷◌, length, Option, Some, None, Bool, true, false, cond, refl, sym, ◌∙◌, arith, ◌==◌, ◌&&◌}
use Rattle.std.proofs.lemmas.Bool.Decides.{nat_tests}
use Rattle.matchit.specs.Rows.{RowsOf, param_token, catch_all_token, comes_before}
use Rattle.matchit.specs.Seek.{own, step, or_else, seek, first, param_step, has_slash, same_text}
use Rattle.matchit.specs.Order.{placed, lookup}

-- tokens that are bytes
abbrev pub TokensAreBytes : List ℕ → Type 0
TokensAreBytes [] = Unit {0}
TokensAreBytes (x ∷ t) = (x < 256) × TokensAreBytes t

pub same-text : (a b : List ℕ) → same_text a b ≡ true → a ≡ b
same-text [] [] e = refl
same-text [] (y ∷ b) e = cc
same-text (x ∷ a) [] e = cc
same-text (x ∷ a) (y ∷ b) e = by (x == y) refl e (λ h. same-text a b h)
  where
    by : (v : Bool) → (x == y) ≡ v → (v && same_text a b) ≡ true → (same_text a b ≡ true → a ≡ b) → x ∷ a ≡ y ∷ b
    by true q h ih =
        let xy : x ≡ y = grind (arith, nat_tests) in
        let ab = ih h in
        cc
    by false q h ih = cc

pub same-self : (p : List ℕ) → same_text p p ≡ true
same-self [] = refl
same-self (x ∷ p) =
    let e : (x == x) ≡ true = grind (arith, nat_tests) in
    rw e (same-self p)

module _ {K : Type 0} where
  -- rows without parameters
  abbrev pub AreLiteral : RowsOf K → Type 0
  AreLiteral [] = Unit {0}
  AreLiteral ((t, _) ∷ rest) = TokensAreBytes t × AreLiteral rest

  pub own-lookup : (rows : RowsOf K) → own rows ≡ lookup [] rows
  own-lookup [] = refl
  own-lookup (([], k) ∷ rest) = refl
  own-lookup ((x ∷ t, k) ∷ rest) = own-lookup rest

  pub lookup-step : (b : ℕ) (p : List ℕ) (rows : RowsOf K) → lookup (b ∷ p) rows ≡ lookup p (step b rows)
  lookup-step b p [] = refl
  lookup-step b p (([], k) ∷ rest) = lookup-step b p rest
  lookup-step b p ((x ∷ t, k) ∷ rest) = by (x == b) (lookup-step b p rest)
    where
      by : (v : Bool) → lookup (b ∷ p) rest ≡ lookup p (step b rest)
          → cond (v && same_text t p) (Some k) (lookup (b ∷ p) rest) ≡ lookup p (cond v ((t, k) ∷ step b rest) (step b rest))
      by true ih = rw ih refl
      by false ih = ih

  pub step-wild : (w : ℕ) (rows : RowsOf K) → 256 ≤ w → AreLiteral rows → step w rows ≡ []
  step-wild w [] h l = refl
  step-wild w (([], k) ∷ rest) h l = step-wild w rest h l.1
  step-wild w ((x ∷ t, k) ∷ rest) h l =
      let e : (x == w) ≡ false = grind (arith, nat_tests, l.0.0) in
      rw e (step-wild w rest h l.1)

  pub step-literal : (b : ℕ) (rows : RowsOf K) → AreLiteral rows → AreLiteral (step b rows)
  step-literal b [] l = tt
  step-literal b (([], k) ∷ rest) l = step-literal b rest l.1
  step-literal b ((x ∷ t, k) ∷ rest) l = by (x == b) (step-literal b rest l.1)
    where
      by : (v : Bool) → AreLiteral (step b rest) → AreLiteral (cond v ((t, k) ∷ step b rest) (step b rest))
      by true ih = (l.0.1, ih)
      by false ih = ih

  pub param_step-none : (p : List ℕ) → (param_step {K = K} [] p).1 ≡ []
  unfolding param_step
  param_step-none p = by (has_slash p)
    where
      by : (v : Bool) → (cond {A = ℕ × RowsOf K} v (0, []) (length p, [])).1 ≡ []
      by true = refl
      by false = refl

  pub seek-none : (n : ℕ) (p : List ℕ) → seek {K = K} n [] p ≡ None
  unfolding seek
  seek-none n [] = refl
  seek-none (suc n) (b ∷ p) = seek-none n p
  seek-none zero (b ∷ p) =
      simp (seek-none 0 p, param_step-none (b ∷ p), seek-none ((param_step {K = K} [] (b ∷ p)).0 - 1) p)

  pub or_else-none : (a : Option K) → or_else a None ≡ a
  or_else-none None = refl
  or_else-none (Some k) = refl

  pub first-step : (rows : RowsOf K) (b : ℕ) (p : List ℕ) → AreLiteral rows → first rows (b ∷ p) ≡ first (step b rows) p
  unfolding seek
  first-step rows b p l =
      simp (step-wild param_token rows (omega arith) l, step-wild catch_all_token rows (omega arith) l, param_step-none (b ∷ p), seek-none ((param_step {K = K} [] (b ∷ p)).0 - 1) p, or_else-none)

  pub first-nil : (rows : RowsOf K) → first rows [] ≡ own rows
  unfolding seek
  first-nil rows = refl

  -- the route of a path is the one that is written as it is
  pub first-lookup : (rows : RowsOf K) (p : List ℕ) → AreLiteral rows → first rows p ≡ lookup p rows
  first-lookup rows [] l = first-nil rows ∙ own-lookup rows
  first-lookup rows (b ∷ p) l =
      first-step rows b p l ∙ (first-lookup (step b rows) p (step-literal b rows l) ∙ sym (lookup-step b p rows))

  -- a new row is found under its pattern, and the others as before
  pub lookup-placed : (p : List ℕ) (k : K) (rows : RowsOf K) (q : List ℕ) → lookup p rows ≡ None
      → lookup q (placed (p, k) rows) ≡ cond (same_text p q) (Some k) (lookup q rows)
  lookup-placed p k [] q e = refl
  lookup-placed p k ((t, j) ∷ rest) q e =
      by (comes_before p t) (same_text t p) refl e (λ h. lookup-placed p k rest q h)
    where
      swap : (u v : Bool) → same_text t q ≡ u → same_text p q ≡ v → same_text t p ≡ false
          → cond u (Some j) (cond v (Some k) (lookup q rest)) ≡ cond v (Some k) (cond u (Some j) (lookup q rest))
      swap true true a b n =
          let tq : t ≡ q = same-text t q a in
          let pq : p ≡ q = same-text p q b in
          let w : same_text t p ≡ true = rw (tq, ← pq, same-self p) refl in
          absurd (cc)
      swap true false a b n = refl
      swap false true a b n = refl
      swap false false a b n = refl

      by : (u v : Bool) → same_text t p ≡ v → cond v (Some j) (lookup p rest) ≡ None
          → (lookup p rest ≡ None → lookup q (placed (p, k) rest) ≡ cond (same_text p q) (Some k) (lookup q rest))
          → lookup q (cond u ((p, k) ∷ (t, j) ∷ rest) ((t, j) ∷ placed (p, k) rest)) ≡ cond (same_text p q) (Some k) (cond (same_text t q) (Some j) (lookup q rest))
      by u true n h ih = cc
      by true false n h ih = refl
      by false false n h ih = rw (ih h) (swap (same_text t q) (same_text p q) refl refl n)
