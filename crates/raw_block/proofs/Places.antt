-- What stands at the places of a list.
use Rattle.std.proofs.Common.{◌≡◌, ℕ, zero, suc, ◌+◌, ◌<◌, ◌≤◌, List, [], ◌∷◌, length, get_or, Option, None, Some, is_some, true, refl, ap, ◌∙◌, arith}
use Rattle.raw_block.specs.Maps.{before, read}

module _ {X : Type 0} where
  pub read_shift : (f : ℕ → Option X) (k n : ℕ) → read (λ j. f (suc j)) k n ≡ read f (suc k) n
  read_shift f k zero = refl
  read_shift f k (suc n) = ap (before (f (suc k))) (read_shift f (suc k) n)

  pub full_within : (ps : List (Option X)) (k : ℕ) → is_some (get_or ps k None) ≡ true → k < length ps
  full_within [] k full = absurd (cc)
  full_within (p ∷ ps) zero full = omega arith
  full_within (p ∷ ps) (suc k) full = omega (arith, full_within ps k full)

  pub there : (p : Option X) → is_some p ≡ true → (x : X) × (p ≡ Some x)
  there None full = absurd (cc)
  there (Some x) full = (x, refl)

  pub read_length : (f : ℕ → Option X) (k n : ℕ) → ((j : ℕ) → k ≤ j → j < k + n → is_some (f j) ≡ true) → length (read f k n) ≡ n
  read_length f k zero full = refl
  read_length f k (suc n) full =
      let here = there (f k) (full k (omega arith) (omega arith)) in
      ap (λ p. length (before p (read f (suc k) n))) here.1 ∙ ap suc (read_length f (suc k) n (λ j lo hi. full j (omega (arith, lo)) (omega (arith, hi))))
