use Rattle.std.proofs.Common.{◌&&◌, sym, ap, ap₂, subst, ◌∙◌}
use Rattle.life_state.specs.Form.{FormedCursor}
use Rattle.life_state.specs.InForm.{is_formed_cursor}
use Rattle.life_state.specs.Seen.{seen}
use Rattle.life_state.proofs.FormLaws.{both_of}
use Rattle.life_state.proofs.state.State.is_formed_cursor.Goals as goal

pub returns-in-Loose-clause-value : goal.returns-in-Loose-clause-value
unfolding seen
returns-in-Loose-clause-value c = ap₂ ◌&&◌ c.is_some.ensures c.are_declared.ensures.value ∙ ap (is_formed_cursor (seen c.args.self.now)) c.in-Loose.ensures

pub returns-in-Loose-clause-sound : goal.returns-in-Loose-clause-sound
unfolding seen
returns-in-Loose-clause-sound c = λ h.
    let p = both_of c.is_some.result c.are_declared.result h in
    subst (FormedCursor (seen c.args.self.now)) c.in-Loose.ensures (sym c.is_some.ensures ∙ p.0, c.are_declared.ensures.sound p.1)
