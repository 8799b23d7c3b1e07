use Rattle.std.proofs.Common.{◌≡◌, Bool, ◌&&◌, ◌||◌, nat_le, length, sym, ap, ap₂, ◌∙◌, arith}
use Rattle.std.proofs.lemmas.Bool.{leb-true}
use Rattle.life_state.specs.States.{BrigadeKnown, is_live_brigade}
use Rattle.life_state.specs.InForm.{is_unmade, is_formed_pool, is_formed}
use Rattle.life_state.specs.Seen.{seen}
use Rattle.life_state.proofs.FormLaws.{both_of, pool_says, brought_says, formed_state}
use Rattle.life_state.proofs.FormPasses.{passes_form}
use Rattle.life_state.proofs.Tests.{all_at}
use Rattle.life_state.proofs.state.State.is_formed.Goals as goal

brought_is : (c : goal.After-are_formed_places) → (c.is_unmade.result || c.is_live.result) ≡
    (is_unmade ((seen c.args.self.now).brigades 8) || is_live_brigade ((seen c.args.self.now).brigades 8))
brought_is c = ap₂ ◌||◌ c.is_unmade.ensures c.is_live.ensures ∙ ap (λ (v : BrigadeKnown). is_unmade v || is_live_brigade v) c.brigade-brought.ensures

pub returns-clause-value : goal.returns-clause-value
unfolding seen is_formed
returns-clause-value c =
    let s = seen c.args.self.now in
    ap₂ ◌&&◌ (ap₂ ◌&&◌ (ap (λ (x : Bool). nat_le s.pool_count 8 && nat_le s.brigade_count 8 && x) (brought_is c))
    c.are_formed_pools.ensures) c.are_formed_places.ensures.value

pub returns-clause-sound : goal.returns-clause-sound
unfolding seen
returns-clause-sound c = λ h.
    let s = c.args.self.now in
    let pools : length s.pools ≡ 8 = omega arith in
    let brigades : length s.brigades ≡ 9 = omega arith in
    let cursors : length s.cursors ≡ 9 = omega arith in
    let rows : length s.facts ≡ 9 = omega arith in
    let e1 = both_of _ _ h in
    let e2 = both_of _ _ e1.0 in
    let e3 = both_of _ _ e2.0 in
    let e4 = both_of _ _ e3.0 in
    formed_state s pools brigades cursors rows (leb-true s.pool_count 8 e4.0) (leb-true s.brigade_count 8 e4.1) (brought_says _ (sym (brought_is c) ∙ e3.1))
    (λ q low. pool_says (seen s) q (all_at 8 q (is_formed_pool (seen s)) (sym c.are_formed_pools.ensures ∙ e2.1) low)) (c.are_formed_places.ensures.sound e1.1)

pub returns-clause-complete : goal.returns-clause-complete
returns-clause-complete c = λ h. returns-clause-value c ∙ passes_form (seen c.args.self.now) h
