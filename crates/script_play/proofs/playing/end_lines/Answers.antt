use Rattle.std.proofs.lemmas.Result.{err_from_is_err_and}
use Rattle.script_play.proofs.PlayingLaws.{ended_cut}
use Rattle.script_play.proofs.playing.end_lines.Goals as goal

pub returns-in_err-write_text-clause-ends : goal.returns-in_err-write_text-clause-ends
returns-in_err-write_text-clause-ends g c = λ s at.
    let p = err_from_is_err_and c.from_residual.result c.from_residual.ensures.1 in
    rw (p.1, p.2) (ended_cut _ _ _ _ _ s c.end-outcome.result _ c.new-answers.ensures.items
    (c.end-outcome.ensures.ok s at) c.end-outcome.ensures.err c.as_slice.ensures.value c.in_err-write_text.ensures.text)
