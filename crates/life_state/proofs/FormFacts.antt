-- Facts are symmetric, and only those are written that have to be.
use Rattle.std.proofs.Common.{◌≡◌, ℕ, Bool, true, false, ◌&&◌, ◌||◌, not, ◌==◌, if◌then◌else◌, refl, ap, ap₂, sym, ◌∙◌, inl, inr, eq-eqb, ne_eqb, eqb-true}
use Rattle.std.proofs.lemmas.Bool.Decides.{eqb_tells}
use Rattle.life_state.specs.States.{CursorKnown, State}
use Rattle.life_state.specs.Facts.{is_set, is_end, place_of, is_apart, known, facts_of, known_but}

equal_turned : (c d : ℕ) → (c == d) ≡ (d == c)
equal_turned c d =
    elim (eqb_tells c d) [ inl h ↦ h.0 ∙ sym (eq-eqb d c (sym (h.1))) | inr h ↦ h.0 ∙ sym (ne_eqb d c (λ e. h.1 (sym e))) ]

and_turned : (a b : Bool) → (a && b) ≡ (b && a)
and_turned true true = refl
and_turned true false = refl
and_turned false true = refl
and_turned false false = refl

or_turned : (a b : Bool) → (a || b) ≡ (b || a)
or_turned true true = refl
or_turned true false = refl
or_turned false true = refl
or_turned false false = refl

apart_turned : (a b : CursorKnown) → is_apart a b ≡ is_apart b a
apart_turned a b =
    ap₂ ◌&&◌ (and_turned (is_set a) (is_set b)) (ap₂ ◌||◌ (or_turned (is_end a) (is_end b)) (ap not (equal_turned (place_of a) (place_of b))))

pub known_turned : (s : State) → ((c d : ℕ) → s.facts c d ≡ s.facts d c) → (c d : ℕ) → known s c d ≡ known s d c
unfolding known
known_turned s same c d =
    ap₂ ◌&&◌ (ap not (equal_turned c d)) (ap₂ ◌||◌ (same c d) (apart_turned (s.cursors c) (s.cursors d)))

pub facts_turned : (keep : ℕ → ℕ → Bool) (cursors : ℕ → CursorKnown) → ((c d : ℕ) → keep c d ≡ keep d c) → (c d : ℕ) → facts_of keep cursors c d ≡ facts_of keep cursors d c
unfolding facts_of
facts_turned keep cursors same c d =
    ap₂ ◌&&◌
    (turned (not (c == d)) (keep c d) (is_set (cursors c)) (is_set (cursors d))
    ∙ ap (λ x. x && is_set (cursors d) && is_set (cursors c)) (ap₂ ◌&&◌ (ap not (equal_turned c d)) (same c d)))
    (ap not (apart_turned (cursors c) (cursors d)))
  where
    turned : (n k x y : Bool) → (n && k && x && y) ≡ (n && k && y && x)
    turned true true x y = and_turned x y
    turned true false x y = refl
    turned false k x y = refl

pub facts_needed : (keep : ℕ → ℕ → Bool) (cursors : ℕ → CursorKnown) (c d : ℕ) → facts_of keep cursors c d ≡ true
    → (not (c == d) && is_set (cursors c) && is_set (cursors d) && not (is_apart (cursors c) (cursors d))) ≡ true
unfolding facts_of
facts_needed keep cursors c d h = dropped (not (c == d)) (keep c d) (is_set (cursors c)) (is_set (cursors d)) (not (is_apart (cursors c) (cursors d))) h
  where
    dropped : (n k x y z : Bool) → (n && k && x && y && z) ≡ true → (n && x && y && z) ≡ true
    dropped true true x y z h = h
    dropped true false x y z h = cc
    dropped false k x y z h = cc

pub but_turned : (s : State) (c : ℕ) (new : ℕ → Bool) → ((i j : ℕ) → s.facts i j ≡ s.facts j i) → (i j : ℕ) → known_but s c new i j ≡ known_but s c new j i
but_turned s c new same i j = pick (i == c) (j == c) refl refl
  where
    pick : (a b : Bool) → (i == c) ≡ a → (j == c) ≡ b → (if a then new j else (if b then new i else known s i j)) ≡ (if b then new i else (if a then new j else known s j i))
    pick true true p q = ap new (eqb-true j c q ∙ sym (eqb-true i c p))
    pick true false p q = refl
    pick false true p q = refl
    pick false false p q = known_turned s same i j
