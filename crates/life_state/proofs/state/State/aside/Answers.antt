-- The pool is the home of a loose bucket, and one of the brigade where the bucket stands.
use Rattle.std.proofs.Common.{nat_lt, ap, sym, ◌∙◌}
use Rattle.std.proofs.lemmas.Bool.{lt-ltb}
use Rattle.life_state.specs.declared.parts.CursorState.{CursorState}
use Rattle.life_state.specs.States.{Homes, BrigadeKnown, Loose, homes_join, home_in, with_homes, set_brigade}
use Rattle.life_state.specs.Facts.{move_bucket}
use Rattle.life_state.specs.Rules.{after_aside}
use Rattle.life_state.specs.Seen.{seen, seen_homes, seen_brigade, seen_cursor}
use Rattle.life_state.proofs.Picks.{pick_first}
use Rattle.life_state.proofs.state.State.aside.Goals as goal

pub returns-in-Loose : goal.returns-in-Loose
returns-in-Loose c =
    let s = seen c.args.self in
    c.move_bucket.ensures
    ∙ (ap (λ (h : Homes). move_bucket c.args.c (Loose c.in-Loose.classes h) s) c.in_pool.ensures ∙ sym
    (ap (λ (v : CursorState). after_aside c.args.c c.args.pool (seen_cursor v) s) c.in-Loose.is))

pub returns-in-In : goal.returns-in-In
returns-in-In c =
    let s = seen c.args.self in
    let b = c.in-In.b in
    let homes = ap (λ (h : Homes). record (seen_brigade c.brigade-brigade.result) { homes = h })
    (c.join-homes.ensures ∙ ap (λ (h : Homes). homes_join h (seen_homes c.brigade-brigade.result.homes)) c.in_pool-in-In.ensures)
    ∙ ap (with_homes (homes_join (home_in c.args.pool))) c.brigade-brigade.ensures in
    c.with_brigade.ensures
    ∙ (ap (λ (v : BrigadeKnown). set_brigade b v s) homes
    ∙ (pick_first (nat_lt b 9) _ s (lt-ltb b 9 c.if-b-lt9.true) ∙ sym
    (ap (λ (v : CursorState). after_aside c.args.c c.args.pool (seen_cursor v) s) c.in-In.is)))
