-- What a clear makes of a variable or cursor, by whether its pool goes; beyond the last there is nothing to clear.
use Rattle.std.proofs.Common.{◌≡◌, ℕ, ◌≤◌, ◌<◌, Bool, true, false, ◌&&◌, ◌||◌, if◌then◌else◌, length, replicate, refl, ap, sym, ◌∙◌, ⊎_elim}
use Rattle.std.proofs.Math.Path.{fun_ext}
use Rattle.std.proofs.lemmas.List.{get_or_past, get_or-replicate}
use Rattle.std.proofs.lemmas.Bool.{cases_lt}
use Rattle.module_code.specs.declared.instr.PoolRef.{PoolRef}
use Rattle.module_code.specs.declared.instr.PoolRef.TheVariants as pool
use Rattle.module_code.specs.Program.{Program}
use Rattle.run_model.specs.Indexed.{any_below}
use Rattle.life_state.specs.declared.state.State as code
use Rattle.life_state.specs.States.{Homes, no_homes, dead_where, only_null, ended_brigade, with_homes, Unset, State}
use Rattle.life_state.specs.Rules.{lies_under, is_subpool, cleared_pool, cleared_brigade, cleared_cursor, cleared_cursors}
use Rattle.life_state.specs.Seen.{unmade, seen_homes, seen_brigade, seen}
use Rattle.life_state.proofs.Below.{and_false, none_below}
use Rattle.life_state.proofs.MotionLaws.{cursor_past}

same_either : {A : Type 0} (b : Bool) (x : A) → (if b then x else x) ≡ x
same_either true x = refl
same_either false x = refl

pub cleared_gone : (p : Program) (under : PoolRef → Bool) (s : State) (b : ℕ) → lies_under p under b ≡ true → ended_brigade (s.brigades b) ≡ cleared_brigade p under s b
cleared_gone p under s b h = sym (ap (λ t. if t then ended_brigade (s.brigades b) else with_homes (dead_where under) (s.brigades b)) h)

pub cleared_kept : (p : Program) (under : PoolRef → Bool) (s : State) (b : ℕ) → lies_under p under b ≡ false → with_homes (dead_where under) (s.brigades b) ≡ cleared_brigade p under s b
cleared_kept p under s b h = sym (ap (λ t. if t then ended_brigade (s.brigades b) else with_homes (dead_where under) (s.brigades b)) h)

pub cleared_pool_past : (under : PoolRef → Bool) (top : PoolRef) (s : code.State) (q : ℕ) → length s.pools ≤ q → cleared_pool under top (seen s) q ≡ only_null
unfolding seen
cleared_pool_past under top s q h =
    ap (λ v. if is_subpool under top q then record { null = v.null; gone = v.gone || v.live; live = false } else v) (get_or_past s.pools q only_null h)
    ∙ same_either (is_subpool under top q) only_null

pub cleared_cursors_past : (p : Program) (under : PoolRef → Bool) (s : code.State) (c : ℕ) → length s.cursors ≤ c → cleared_cursors p under (seen s) c ≡ Unset
unfolding seen
cleared_cursors_past p under s c h = ap (cleared_cursor p under) (cursor_past s.cursors c h)

-- nothing is in no set
none_in : (k : PoolRef) → (seen_homes unmade.homes).at k ≡ false
none_in pool.Conn = refl
none_in pool.Req = refl
none_in (pool.Own i) =
    ⊎_elim (λ (h : i < 8). get_or-replicate 8 i false false h) (λ (h : 8 ≤ i). get_or_past (replicate 8 false) i false h) (cases_lt i 8)

pub unmade_homes : seen_homes unmade.homes ≡ no_homes
unmade_homes = ap (λ f. record no_homes { at = f }) (fun_ext none_in)

pub none_dead : (under : PoolRef → Bool) → dead_where under no_homes ≡ no_homes
none_dead under =
    ap (λ d. record no_homes { dead = d })
    (ap (λ a. a || any_below 8 (λ i. under (pool.Own i) && false)) (and_false (under pool.Req))
    ∙ none_below 8 (λ i. under (pool.Own i) && false) (λ k h. and_false (under (pool.Own k))))

cleared_unmade : (p : Program) (under : PoolRef → Bool) (gone : Bool)
    → (if gone then ended_brigade (seen_brigade unmade) else with_homes (dead_where under) (seen_brigade unmade)) ≡ seen_brigade unmade
cleared_unmade p under true = ap (λ (h : Homes). record (seen_brigade unmade) { homes = h }) (sym unmade_homes)
cleared_unmade p under false =
    ap (λ (h : Homes). record (seen_brigade unmade) { homes = dead_where under h }) unmade_homes
    ∙ ap (λ (h : Homes). record (seen_brigade unmade) { homes = h }) (none_dead under ∙ sym unmade_homes)

pub cleared_brigade_past : (p : Program) (under : PoolRef → Bool) (s : code.State) (b : ℕ) → length s.brigades ≤ b → cleared_brigade p under (seen s) b ≡ seen_brigade unmade
unfolding seen
cleared_brigade_past p under s b h =
    ap (λ v. if lies_under p under b then ended_brigade (seen_brigade v) else with_homes (dead_where under) (seen_brigade v)) (get_or_past s.brigades b unmade h)
    ∙ cleared_unmade p under (lies_under p under b)
