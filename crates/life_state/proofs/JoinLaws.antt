-- What stands in beyond the last variable or cursor is joined to itself.
use Rattle.std.proofs.Common.{◌≡◌, ℕ, ◌≤◌, Bool, true, false, ◌||◌, length, slice_index_or, refl, ap, ◌∙◌}
use Rattle.std.proofs.Math.Path.{fun_ext}
use Rattle.std.proofs.lemmas.List.{get_or_past}
use Rattle.life_state.specs.declared.state.State as code
use Rattle.life_state.specs.States.{BrigadeKnown, only_null, Unset}
use Rattle.life_state.specs.Order.{pool_join, brigade_join, cursor_join, kept_cursor, joined_pools, joined_brigades}
use Rattle.life_state.specs.Seen.{unmade, seen_brigade, seen_brigades, seen}
use Rattle.life_state.proofs.MotionLaws.{cursor_past}

or_same : (a : Bool) → (a || a) ≡ a
or_same true = refl
or_same false = refl

brigade_join_unmade : brigade_join (seen_brigade unmade) (seen_brigade unmade) ≡ seen_brigade unmade
unfolding brigade_join
brigade_join_unmade =
    let homes = (seen_brigade unmade).homes in
    ap (λ f. record (seen_brigade unmade) { homes = record homes { at = f } }) (fun_ext (λ k. or_same (homes.at k)))

pub joined_pools_past : (a b : code.State) (q : ℕ) → length a.pools ≤ q → length b.pools ≤ q → joined_pools (seen a) (seen b) q ≡ only_null
unfolding seen
joined_pools_past a b q ha hb =
    ap (λ v. pool_join v (slice_index_or b.pools q only_null)) (get_or_past a.pools q only_null ha) ∙ ap (pool_join only_null) (get_or_past b.pools q only_null hb)

pub joined_brigades_past : (a b : code.State) (v : ℕ) → length a.brigades ≤ v → length b.brigades ≤ v → joined_brigades (seen a) (seen b) v ≡ seen_brigade unmade
unfolding seen
joined_brigades_past a b v ha hb =
    ap (λ x. brigade_join (seen_brigade x) (seen_brigades b.brigades v)) (get_or_past a.brigades v unmade ha)
    ∙ (ap (λ x. brigade_join (seen_brigade unmade) (seen_brigade x)) (get_or_past b.brigades v unmade hb) ∙ brigade_join_unmade)

cursor_join_unset : cursor_join Unset Unset ≡ Unset
unfolding cursor_join
cursor_join_unset = refl

pub joined_cursors_past : (brigades : ℕ → BrigadeKnown) (a b : code.State) (c : ℕ) → length a.cursors ≤ c → length b.cursors ≤ c
    → kept_cursor brigades (cursor_join ((seen a).cursors c) ((seen b).cursors c)) ≡ Unset
unfolding seen
joined_cursors_past brigades a b c ha hb =
    ap (λ x. kept_cursor brigades (cursor_join x ((seen b).cursors c))) (cursor_past a.cursors c ha)
    ∙ (ap (λ x. kept_cursor brigades (cursor_join Unset x)) (cursor_past b.cursors c hb) ∙ ap (kept_cursor brigades) cursor_join_unset)
