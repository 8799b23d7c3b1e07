-- An unset cursor and an end have none.
use Rattle.std.proofs.Common.{ap, sym, ◌∙◌}
use Rattle.life_state.specs.declared.parts.CursorState.{CursorState}
use Rattle.life_state.specs.Rules.{homes_at}
use Rattle.life_state.specs.Seen.{seen, seen_cursor}
use Rattle.life_state.proofs.state.State.homes_at.Goals as goal

pub returns-in-Unset : goal.returns-in-Unset
returns-in-Unset c = c.none.ensures ∙ sym (ap (λ (a : CursorState). homes_at (seen c.args.self.now) (seen_cursor a)) c.in-Unset.is)

pub returns-in-End : goal.returns-in-End
returns-in-End c = c.none-in-End.ensures ∙ sym (ap (λ (a : CursorState). homes_at (seen c.args.self.now) (seen_cursor a)) c.in-End.is)
