-- One that fails decides, and none fails where the loop ends.
use Rattle.std.proofs.Common.{◌≡◌, ℕ, Bool, true, false, [], length, slice_index_or, below_more, sym, ◌∙◌, arith}
use Rattle.life_state.specs.FormTests.{FormedFact}
use Rattle.life_state.specs.InForm.{is_formed_fact}
use Rattle.life_state.specs.Seen.{seen}
use Rattle.life_state.proofs.Below.{all_below_holds, all_below_fails}
use Rattle.life_state.proofs.FormLaws.{formed_row}
use Rattle.life_state.proofs.state.State.are_formed_facts.Goals as goal

pub loop-d-preserved : goal.loop-d-preserved
loop-d-preserved c =
    let s = seen c.args.self.now in
    below_more (λ k. FormedFact s c.args.c k × (is_formed_fact s c.args.c k ≡ true)) c.loop-d.d c.loop-d.invariant
    (c.is_formed_fact-formed.ensures.sound c.if-not-formed.false, sym c.is_formed_fact-formed.ensures.value ∙ c.if-not-formed.false)

pub returns-then-not-formed-clause-value : goal.returns-then-not-formed-clause-value
returns-then-not-formed-clause-value c =
    let holds : ℕ → Bool = is_formed_fact (seen c.args.self.now) c.args.c in
    let here : holds c.loop-d.d ≡ false = sym c.is_formed_fact-formed.ensures.value ∙ c.if-not-formed.true in
    sym (all_below_fails 9 c.loop-d.d holds (omega (arith, c.width-d-end.ensures.value)) here)

pub returns-clause-value : goal.returns-clause-value
returns-clause-value c =
    sym (all_below_holds 9 (is_formed_fact (seen c.args.self.now) c.args.c) (λ d below. (c.loop-d.invariant d (omega (arith, c.width-d-end.ensures.value))).1))

pub returns-clause-sound : goal.returns-clause-sound
returns-clause-sound c =
    let s = c.args.self.now in
    let cursors : length s.cursors ≡ 9 = omega arith in
    let pools : length s.pools ≡ 8 = omega arith in
    let brigades : length s.brigades ≡ 9 = omega arith in
    let rows : length s.facts ≡ 9 = omega arith in
    let row : length (slice_index_or s.facts c.args.c []) ≡ 9 = rw c.from.ensures at c.width-d-end.ensures.whole in
    λ _. formed_row s pools brigades cursors rows c.args.c row (λ d below. (c.loop-d.invariant d (omega (arith, c.width-d-end.ensures.value))).0)
