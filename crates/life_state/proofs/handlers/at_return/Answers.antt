-- The variable is written; no cursor, and no fact.
use Rattle.std.proofs.Common.{ℕ, Bool, false, replicate, ap, ◌∙◌}
use Rattle.life_state.specs.States.{BrigadeKnown, CursorKnown, State, Unset, set_brigade}
use Rattle.life_state.specs.Rules.{without_cursors}
use Rattle.life_state.specs.Seen.{seen, seen_facts}
use Rattle.life_state.proofs.OpeningLaws.{no_cursors, no_facts}
use Rattle.life_state.proofs.handlers.at_return.Goals as goal

pub returns : goal.returns
unfolding seen
returns c =
    let s = seen c.set_brigade.new.self in
    let of : (ℕ → CursorKnown) → (ℕ → ℕ → Bool) → State = λ x f. record s { cursors = x; facts = f } in
    ap (λ (x : ℕ → CursorKnown). of x (seen_facts (replicate 9 (replicate 9 false)))) no_cursors ∙ ap (of (λ k. Unset)) no_facts
    ∙ ap without_cursors (c.set_brigade.ensures ∙ ap (λ (v : BrigadeKnown). set_brigade 8 v (seen c.args.state.now)) c.never_made.ensures)
