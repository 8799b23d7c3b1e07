-- One of eight, where it has a number below 8.
use Rattle.std.proofs.Common.{◌≡◌, ◌≢◌, ◌<◌, ◌≤◌, ℕ, ◌==◌, ◌&&◌, nat_lt, true, false, replicate, slice_index_or, slice_set, refl, ap, sym, subst, ◌∙◌, ⊎_elim}
use Rattle.std.proofs.Common.{arith, rules, get_or-set_same, get_or-set_other}
use Rattle.std.proofs.lemmas.Bool.{cases_eq, cases_lt}
use Rattle.std.proofs.lemmas.List.{get_or_past, get_or-replicate}
use Rattle.module_code.specs.declared.instr.PoolRef.TheVariants as pool
use Rattle.life_state.specs.States.{is_home}
use Rattle.life_state.proofs.Sets.{pools_are}
use Rattle.life_state.proofs.parts.PoolSet.of.Goals as goal

none : (i : ℕ) → slice_index_or (replicate 8 false) i false ≡ false
none i = ⊎_elim (λ (h : i < 8). get_or-replicate 8 i false false h) (λ (h : 8 ≤ i). get_or_past (replicate 8 false) i false h) (cases_lt i 8)

one : (q m i : ℕ) → m ≡ q → q < 8 → slice_index_or (slice_set (replicate 8 false) m true) i false ≡ (q == i && nat_lt q 8)
one q m i same h =
    ⊎_elim
    (λ (k : i ≡ m). let told : (q == i && nat_lt q 8) ≡ true = search rules in
    subst (λ (n : ℕ). slice_index_or (slice_set (replicate 8 false) m true) n false ≡ true) (sym k) (get_or-set_same (replicate 8 false) m true false (omega arith)) ∙ sym told)
    (λ (k : i ≢ m). let told : (q == i && nat_lt q 8) ≡ false = search rules in get_or-set_other (replicate 8 false) m i true false k ∙ (none i ∙ sym told))
    (cases_eq i m)

pub returns-then-q-lt8 : goal.returns-then-q-lt8
returns-then-q-lt8 c =
    let q = c.in-Own.q in
    pools_are _ (is_home (pool.Own q)) refl refl (λ i. one q c.from-q.result i c.from-q.ensures (omega arith)) ∙ ap is_home (sym c.in-Own.is)
