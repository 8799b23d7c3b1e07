use Rattle.life_state.specs.Seen.{seen_brigade}
use Rattle.life_state.proofs.FormLaws.{formed_brigade}
use Rattle.life_state.proofs.form.is_formed_brigade.Goals as goal

pub returns-clause-sound : goal.returns-clause-sound
returns-clause-sound c = λ h. formed_brigade (seen_brigade c.args.brigade.now) c.is_free.result c.is_free.ensures.sound (rw c.is_empty.ensures at h)
