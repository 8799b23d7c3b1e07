-- One that fails decides, and none fails where the loop ends.
use Rattle.std.proofs.Common.{◌≡◌, ℕ, Bool, true, false, ◌&&◌, below_more, sym, ◌∙◌, ap₂, arith}
use Rattle.life_state.specs.FormTests.{FormedAt}
use Rattle.life_state.specs.InForm.{is_formed_at}
use Rattle.life_state.specs.Seen.{seen}
use Rattle.life_state.proofs.Below.{all_below_holds, all_below_fails}
use Rattle.life_state.proofs.FormLaws.{both_of}
use Rattle.life_state.proofs.state.State.are_formed_places.Goals as goal

pub loop-k-preserved : goal.loop-k-preserved
loop-k-preserved c =
    let s = seen c.args.self.now in
    let a = both_of _ _ c.if-not-formed.false in
    let b = both_of _ _ a.0 in
    let same = ap₂ ◌&&◌ (ap₂ ◌&&◌ c.is_formed_brigade-place.ensures.value c.is_formed_cursor-cursor.ensures.value) c.are_formed_facts-facts.ensures.value in
    below_more (λ i. FormedAt s i × (is_formed_at s i ≡ true)) c.loop-k.k c.loop-k.invariant
    ((c.is_formed_brigade-place.ensures.sound b.0, (c.is_formed_cursor-cursor.ensures.sound b.1, c.are_formed_facts-facts.ensures.sound a.1)), sym same ∙ c.if-not-formed.false)

pub returns-then-not-formed-clause-value : goal.returns-then-not-formed-clause-value
returns-then-not-formed-clause-value c =
    let holds : ℕ → Bool = is_formed_at (seen c.args.self.now) in
    let same = ap₂ ◌&&◌ (ap₂ ◌&&◌ c.is_formed_brigade-place.ensures.value c.is_formed_cursor-cursor.ensures.value) c.are_formed_facts-facts.ensures.value in
    let here : holds c.loop-k.k ≡ false = sym same ∙ c.if-not-formed.true in
    sym (all_below_fails 9 c.loop-k.k holds (omega arith) here)

pub returns-clause-value : goal.returns-clause-value
returns-clause-value c = sym (all_below_holds 9 (is_formed_at (seen c.args.self.now)) (λ k below. (c.loop-k.invariant k (omega arith)).1))

pub returns-clause-sound : goal.returns-clause-sound
returns-clause-sound c = λ _ k below. (c.loop-k.invariant k (omega arith)).0
