-- What a new pool and a destroyed one leave of the others.
use Rattle.std.proofs.Common.{◌≡◌, ◌≢◌, ℕ, ◌+◌, ◌<◌, ◌≤◌, Bool, true, false, ◌&&◌, not, ◌==◌, cond, [], ◌∷◌, ◌⊎◌, inl, inr, refl, ◌∙◌, ap, arith, eq-eqb, ne_eqb}
use Rattle.run_model.specs.Pools.{Pools, no_cleanups, is_empty, is_in, is_live, is_under, created, cleared, destroyed}
use Rattle.run_model.proofs.Updates.{upd_at, upd_off, upd_either}

-- a pool that is live has a path
pub live_path : {T : Type 0} (ps : Pools T) (n : ℕ) → is_live ps n ≡ true → ps.path n ≡ [] → ⊥
unfolding is_live
live_path ps n lives none = let dead : not (is_empty (ps.path n)) ≡ false = ap (λ path. not (is_empty path)) none in cc

pub created_lives : {T : Type 0} (parent : ℕ) (ps : Pools T) (n : ℕ) → is_live ps n ≡ true → is_live (created parent ps) n ≡ true
unfolding is_live created
created_lives parent ps n lives = elim (upd_either ps.path ps.next n (ps.next ∷ ps.path parent)) [
  | inl p ↦ ap (λ path. not (is_empty path)) p.1
  | inr p ↦ ap (λ path. not (is_empty path)) p.1 ∙ lives
]

pub new_lives : {T : Type 0} (parent : ℕ) (ps : Pools T) → is_live (created parent ps) ps.next ≡ true
unfolding is_live created
new_lives parent ps = ap (λ path. not (is_empty path)) (upd_at ps.path ps.next (ps.next ∷ ps.path parent))

-- a pool that is there keeps its path, and the new one stands under its parent
pub created_kept : {T : Type 0} (parent : ℕ) (ps : Pools T) (n : ℕ) → n < ps.next → (created parent ps).path n ≡ ps.path n
unfolding created
created_kept parent ps n lt = upd_off ps.path ps.next n (ps.next ∷ ps.path parent) (λ e. absurd (omega (arith, e)))

pub created_at : {T : Type 0} (parent : ℕ) (ps : Pools T) → (created parent ps).path ps.next ≡ ps.next ∷ ps.path parent
unfolding created
created_at parent ps = upd_at ps.path ps.next (ps.next ∷ ps.path parent)

pub created_next : {T : Type 0} (parent : ℕ) (ps : Pools T) → (created parent ps).next ≡ ps.next + 1
unfolding created
created_next parent ps = refl

pub destroyed_next : {T : Type 0} (p : ℕ) (ps : Pools T) → (destroyed p ps).next ≡ ps.next
unfolding destroyed
destroyed_next p ps = refl

-- a path of a destroyed map is empty or as before
pub destroyed_path : {T : Type 0} (p : ℕ) (ps : Pools T) (n : ℕ) → ((destroyed p ps).path n ≡ []) ⊎ ((destroyed p ps).path n ≡ ps.path n)
unfolding destroyed
destroyed_path p ps n = by_test (is_under ps p n) where
  by_test : (b : Bool) → (cond b [] (ps.path n) ≡ []) ⊎ (cond b [] (ps.path n) ≡ ps.path n)
  by_test true = inl refl
  by_test false = inr refl

pub destroyed_apart : {T : Type 0} (p : ℕ) (ps : Pools T) (n : ℕ) → is_under ps p n ≡ false → ((destroyed p ps).path n ≡ ps.path n) × ((destroyed p ps).payloads n ≡ ps.payloads n)
unfolding destroyed
destroyed_apart p ps n apart = (ap (λ b. cond b [] (ps.path n)) apart, ap (λ b. cond b no_cleanups (ps.payloads n)) apart)

pub destroyed_under : {T : Type 0} (p : ℕ) (ps : Pools T) (n : ℕ) → is_under ps p n ≡ true → ((destroyed p ps).path n ≡ []) × ((destroyed p ps).payloads n ≡ no_cleanups)
unfolding destroyed
destroyed_under p ps n under = (ap (λ b. cond b [] (ps.path n)) under, ap (λ b. cond b no_cleanups (ps.payloads n)) under)

-- a path of a cleared map is empty or as before
pub cleared_path : {T : Type 0} (p : ℕ) (ps : Pools T) (n : ℕ) → ((cleared p ps).path n ≡ []) ⊎ ((cleared p ps).path n ≡ ps.path n)
unfolding cleared
cleared_path p ps n = by_test (is_under ps p n && not (n == p)) where
  by_test : (b : Bool) → (cond b [] (ps.path n) ≡ []) ⊎ (cond b [] (ps.path n) ≡ ps.path n)
  by_test true = inl refl
  by_test false = inr refl

-- what does not stand under the cleared pool is as it was
pub cleared_apart : {T : Type 0} (p : ℕ) (ps : Pools T) (n : ℕ) → is_under ps p n ≡ false → ((cleared p ps).path n ≡ ps.path n) × ((cleared p ps).payloads n ≡ ps.payloads n)
unfolding cleared
cleared_apart p ps n apart = (ap (λ b. cond (b && not (n == p)) [] (ps.path n)) apart, ap (λ b. cond b no_cleanups (ps.payloads n)) apart)

-- the cleared pool stays
pub cleared_itself : {T : Type 0} (p : ℕ) (ps : Pools T) → (cleared p ps).path p ≡ ps.path p
unfolding cleared
cleared_itself p ps = ap (λ b. cond (is_under ps p p && not b) [] (ps.path p)) (eq-eqb p p refl) ∙ never (is_under ps p p) where
  never : (b : Bool) → cond (b && false) [] (ps.path p) ≡ ps.path p
  never true = refl
  never false = refl

-- and all under it go
pub cleared_under : {T : Type 0} (p : ℕ) (ps : Pools T) (n : ℕ) → is_under ps p n ≡ true → n ≢ p → (cleared p ps).path n ≡ []
unfolding cleared
cleared_under p ps n under ne = ap (λ b. cond (b && not (n == p)) [] (ps.path n)) under ∙ ap (λ b. cond (not b) [] (ps.path n)) (ne_eqb n p ne)

pub cleared_payloads : {T : Type 0} (p : ℕ) (ps : Pools T) (n : ℕ) → is_under ps p n ≡ true → (cleared p ps).payloads n ≡ no_cleanups
unfolding cleared
cleared_payloads p ps n under = ap (λ b. cond b no_cleanups (ps.payloads n)) under

pub cleared_next : {T : Type 0} (p : ℕ) (ps : Pools T) → (cleared p ps).next ≡ ps.next
unfolding cleared
cleared_next p ps = refl

-- an older pool does not stand under a newer one
pub not_under : {T : Type 0} (p : ℕ) (ps : Pools T) (n : ℕ) → ((k m : ℕ) → is_in m (ps.path k) ≡ true → m ≤ k) → n < p → is_under ps p n ≡ false
unfolding is_under
not_under p ps n older lt = by_test (is_in p (ps.path n)) (older n p) lt where
  by_test : (b : Bool) → (b ≡ true → p ≤ n) → n < p → b ≡ false
  by_test true h lt = absurd (let le : p ≤ n = h refl in omega arith)
  by_test false h lt = refl
