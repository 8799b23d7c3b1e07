use Rattle.std.proofs.Common.{Bool, ◌&&◌, ◌||◌, ◌==◌, nat_lt, sym, ap, ap₂, ◌∙◌}
use Rattle.life_state.specs.InForm.{names_below, is_unmade, is_formed_brigade}
use Rattle.life_state.specs.Seen.{seen, seen_brigade}
use Rattle.life_state.specs.States.{BrigadeKnown}
use Rattle.life_state.proofs.FormLaws.{formed_place, unmade_says}
use Rattle.life_state.proofs.state.State.is_formed_brigade.Goals as goal

pub returns-clause-value : goal.returns-clause-value
unfolding seen
returns-clause-value c =
    let b = c.args.b in
    let s = seen c.args.self.now in
    ap₂ ◌&&◌ (ap₂ ◌&&◌ c.is_formed_brigade-formed.ensures.value c.are_declared-declared.ensures.value)
    (ap (λ (u : Bool). b == 8 || nat_lt b s.brigade_count || u) c.is_unmade-unmade.ensures)
    ∙ ap (λ (v : BrigadeKnown). is_formed_brigade v && names_below s.pool_count v.homes && (b == 8 || nat_lt b s.brigade_count || is_unmade v)) c.brigade-brigade.ensures

pub returns-clause-sound : goal.returns-clause-sound
unfolding seen
returns-clause-sound c = λ h.
    formed_place (seen c.args.self.now) c.args.b (seen_brigade c.brigade-brigade.result) c.is_formed_brigade-formed.result c.are_declared-declared.result c.is_unmade-unmade.result
    c.brigade-brigade.ensures c.is_formed_brigade-formed.ensures.sound
    c.are_declared-declared.ensures.sound (λ e. unmade_says (seen_brigade c.brigade-brigade.result) (sym c.is_unmade-unmade.ensures ∙ e)) h
