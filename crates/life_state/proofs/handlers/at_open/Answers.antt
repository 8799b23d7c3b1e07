-- Array by array.
use Rattle.std.proofs.Common.{ℕ, Bool, false, replicate, ap, ◌∙◌}
use Rattle.life_state.specs.declared.parts.PoolState.{PoolState}
use Rattle.life_state.specs.declared.parts.CursorState.TheVariants as cursor
use Rattle.life_state.specs.States.{BrigadeKnown, CursorKnown, State, Unset, only_null, never_made}
use Rattle.life_state.specs.Seen.{unmade, seen_brigades, seen_cursors, seen_facts, seen}
use Rattle.life_state.proofs.OpeningLaws.{null_pools, null_brigades, no_cursors, no_facts}
use Rattle.life_state.proofs.handlers.at_open.Goals as goal

pub returns : goal.returns
unfolding seen
returns c =
    let of : (ℕ → PoolState) → (ℕ → BrigadeKnown) → (ℕ → CursorKnown) → (ℕ → ℕ → Bool) → State = λ p b x f. record {
      pool_count = c.args.pool_count;
      brigade_count = c.args.brigade_count;
      sent = false;
      pools = p;
      brigades = b;
      cursors = x;
      facts = f;
    } in
    let brigades = seen_brigades (replicate 9 unmade) in
    let cursors = seen_cursors (replicate 9 cursor.Unset) in
    let facts = seen_facts (replicate 9 (replicate 9 false)) in
    ap (λ (p : ℕ → PoolState). of p brigades cursors facts) null_pools
    ∙ (ap (λ (b : ℕ → BrigadeKnown). of (λ q. only_null) b cursors facts) null_brigades
    ∙ (ap (λ (x : ℕ → CursorKnown). of (λ q. only_null) (λ b. never_made) x facts) no_cursors ∙ ap (of (λ q. only_null) (λ b. never_made) (λ k. Unset)) no_facts))
