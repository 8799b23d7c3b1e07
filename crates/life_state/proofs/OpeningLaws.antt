-- Arrays of one value, read as functions.
use Rattle.std.proofs.Common.{◌≡◌, ℕ, ◌≤◌, ◌<◌, Bool, false, List, [], length, slice_index_or, replicate, refl, ap, ◌∙◌, ⊎_elim, ◌⊎◌, inl, inr, arith}
use Rattle.std.proofs.Math.Path.{fun_ext}
use Rattle.std.proofs.lemmas.List.{get_or_past, get_or-replicate}
use Rattle.std.proofs.lemmas.Bool.{cases_lt}
use Rattle.life_state.specs.declared.parts.CursorState.TheVariants as cursor
use Rattle.life_state.specs.States.{Homes, only_null, never_made, Unset}
use Rattle.life_state.specs.Seen.{unmade, seen_pool_states, seen_brigade, seen_brigades, seen_cursor, seen_cursors, seen_facts}
use Rattle.life_state.proofs.ClearLaws.{unmade_homes}

same_all : {A : Type 0} (n : ℕ) (d : A) (k : ℕ) → length (replicate n d) ≡ n → slice_index_or (replicate n d) k d ≡ d
same_all n d k long =
    ⊎_elim (λ (h : k < n). get_or-replicate n k d d h) (λ (h : n ≤ k). get_or_past (replicate n d) k d (omega arith)) (cases_lt k n)

pub no_cursors : seen_cursors (replicate 9 cursor.Unset) ≡ (λ c. Unset)
no_cursors = fun_ext (λ k. ap seen_cursor (same_all 9 cursor.Unset k refl))

pub null_pools : seen_pool_states (replicate 8 only_null) ≡ (λ q. only_null)
null_pools = fun_ext (λ k. same_all 8 only_null k refl)

unmade_is : seen_brigade unmade ≡ never_made
unmade_is = ap (λ (h : Homes). record never_made { homes = h }) unmade_homes

pub null_brigades : seen_brigades (replicate 9 unmade) ≡ (λ b. never_made)
null_brigades = fun_ext (λ k. ap seen_brigade (same_all 9 unmade k refl) ∙ unmade_is)

abbrev rows : ℕ → List Bool
rows c = slice_index_or (replicate 9 (replicate 9 false)) c []

row_is : (c : ℕ) → (rows c ≡ replicate 9 false) ⊎ (rows c ≡ [])
row_is c = elim (cases_lt c 9) [ inl h ↦ inl (get_or-replicate 9 c (replicate 9 false) [] h) | inr h ↦ inr (get_or_past (replicate 9 (replicate 9 false)) c [] h) ]

no_fact : (c d : ℕ) → seen_facts (replicate 9 (replicate 9 false)) c d ≡ false
no_fact c d =
    elim (row_is c) [ inl e ↦ ap (λ row. slice_index_or row d false) e ∙ same_all 9 false d refl | inr e ↦ ap (λ row. slice_index_or row d false) e ]

pub no_facts : seen_facts (replicate 9 (replicate 9 false)) ≡ (λ c d. false)
no_facts = fun_ext (λ c. fun_ext (no_fact c))
