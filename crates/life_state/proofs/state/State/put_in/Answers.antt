-- Homes, the brigade, then the bucket.
use Rattle.std.proofs.Common.{◌≡◌, ap, ◌∙◌}
use Rattle.life_state.specs.declared.parts.Classes.{Classes}
use Rattle.life_state.specs.States.{Homes, BrigadeKnown, In, homes_join, holds, set_brigade}
use Rattle.life_state.specs.Facts.{move_bucket}
use Rattle.life_state.specs.Rules.{classes_of, homes_at}
use Rattle.life_state.specs.Seen.{seen, seen_homes}
use Rattle.life_state.proofs.state.State.put_in.Goals as goal

pub returns : goal.returns
returns c =
    let s = seen c.args.self in
    let homes : seen_homes c.join-homes.result ≡ homes_join (s.brigades c.args.b).homes (homes_at s (s.cursors c.args.c)) =
    c.join-homes.ensures
    ∙ (ap (λ (h : Homes). homes_join h (seen_homes c.homes_at.result)) c.homes.ensures
    ∙ ap (homes_join (s.brigades c.args.b).homes) (c.homes_at.ensures ∙ ap (homes_at s) c.cursor-cursor.ensures)) in
    let classes : c.classes.result ≡ classes_of (s.cursors c.args.c) = c.classes.ensures ∙ ap classes_of c.cursor-cursor.ensures in
    c.move_bucket.ensures
    ∙ (ap (λ (t : Classes). move_bucket c.args.c (In c.args.b t) (seen c.set_brigade.new.self)) classes
    ∙ ap (move_bucket c.args.c (In c.args.b (classes_of (s.cursors c.args.c))))
    (c.set_brigade.ensures ∙ ap (λ (v : BrigadeKnown). set_brigade c.args.b v s) (c.holding.ensures ∙ ap (holds c.args.content) homes)))
