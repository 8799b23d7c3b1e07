-- Beyond its arrays a state says nothing.
use Rattle.std.proofs.Common.{◌≡◌, ℕ, ◌<◌, ◌≤◌, Bool, false, List, [], length, slice_index_or, ap, ◌∙◌, ⊎_elim, arith}
use Rattle.std.proofs.lemmas.List.{get_or_past}
use Rattle.std.proofs.lemmas.Bool.{cases_lt}
use Rattle.life_state.specs.declared.state.State as code
use Rattle.life_state.specs.States.{Homes, only_null, never_made}
use Rattle.life_state.specs.Bounded.{IsBounded}
use Rattle.life_state.specs.Seen.{seen, seen_brigade, seen_facts, unmade}
use Rattle.life_state.proofs.ClearLaws.{unmade_homes}
use Rattle.life_state.proofs.MotionLaws.{cursor_past}

past_rows : (rows : List (List Bool)) (c d : ℕ) → length rows ≡ 9 → 9 ≤ c → seen_facts rows c d ≡ false
past_rows rows c d long beyond = ap (λ row. slice_index_or row d false) (get_or_past rows c [] (omega arith))

past_places : (rows : List (List Bool)) (c d : ℕ) → length rows ≡ 9 → ((k : ℕ) → k < 9 → length (slice_index_or rows k []) ≡ 9) → 9 ≤ d → seen_facts rows c d ≡ false
past_places rows c d long wide beyond =
    ⊎_elim
    (λ (h : c < 9). let row = wide c h in get_or_past (slice_index_or rows c []) d false (omega arith))
    (λ (h : 9 ≤ c). past_rows rows c d long h)
    (cases_lt c 9)

pub bounded_by : (s : code.State) → length s.pools ≡ 8 → length s.brigades ≡ 9 → length s.cursors ≡ 9 → length s.facts ≡ 9
    → ((k : ℕ) → k < 9 → length (slice_index_or s.facts k []) ≡ 9) → IsBounded (seen s)
unfolding seen
bounded_by s pools brigades cursors facts wide = record {
  pools = λ q h. get_or_past s.pools q only_null (omega arith);
  brigades = λ b h. ap seen_brigade (get_or_past s.brigades b unmade (omega arith)) ∙ ap (λ (homes : Homes). record never_made { homes = homes }) unmade_homes;
  cursors = λ c h. cursor_past s.cursors c (omega arith);
  facts_from = λ c d h. past_rows s.facts c d facts h;
  facts_to = λ c d h. past_places s.facts c d facts wide h;
}
