-- By whether it is split at its end.
use Rattle.std.proofs.Common.{◌≡◌, true, false, ap, ◌∙◌, rules}
use Rattle.life_state.specs.States.{no_homes, holds}
use Rattle.life_state.specs.declared.parts.Contents.TheVariants.{Empty}
use Rattle.life_state.specs.Facts.{is_end}
use Rattle.life_state.specs.Seen.{seen, seen_homes, seen_cursor}
use Rattle.life_state.proofs.Picks.{pick_first, pick_second}
use Rattle.life_state.proofs.state.State.split_part.Goals as goal

pub returns-then-is_end : goal.returns-then-is_end
returns-then-is_end c =
    let v = (seen c.args.self.now).brigades c.args.b in
    let end : is_end (seen_cursor c.args.cursor) ≡ true = search rules in
    c.empty.ensures ∙ pick_first (is_end (seen_cursor c.args.cursor)) (holds Empty no_homes) (holds v.content v.homes) end

pub returns-else-is_end : goal.returns-else-is_end
returns-else-is_end c =
    let v = (seen c.args.self.now).brigades c.args.b in
    let bucket : is_end (seen_cursor c.args.cursor) ≡ false = search rules in
    c.holding.ensures
    ∙ (ap (λ x. holds x (seen_homes c.homes.result)) c.content.ensures
    ∙ (ap (holds v.content) c.homes.ensures ∙ pick_second (is_end (seen_cursor c.args.cursor)) (holds Empty no_homes) (holds v.content v.homes) bucket))
