use Rattle.std.proofs.lemmas.Result.{err_from_is_err_and}
use Rattle.script_play.proofs.PlayingLaws.{played_all, played_cut, played_some}
use Rattle.script_play.proofs.playing.play_lines.Goals as goal

pub returns-in_err-write_text : goal.returns-in_err-write_text
returns-in_err-write_text g c =
    let p = err_from_is_err_and c.from_residual.result c.from_residual.ensures.1 in
    rw (p.1, p.2) (record {
      plays = λ s at. played_cut _ c.take-outcome.new.self _ _ _ _ _ _ s c.take-outcome.result _ c.new-answers.ensures.items (c.take-outcome.ensures.ok s at)
          (c.take-outcome.ensures.err s at) c.as_slice.ensures.value c.in_err-write_text.ensures.text;
      writer = c.in_err-write_text.ensures.failed;
    })

pub returns-in-Ok : goal.returns-in-Ok
returns-in-Ok g c = record {
  plays = λ s at. played_all c.args.player.now c.take-outcome.new.self _ _ _ _ _ s c.new-answers.ensures.items (c.in-Ok.ensures.ok s at)
      (rw c.as_slice.ensures.value at c.in_ok-write_text.ensures.text);
  writer = c.in_ok-write_text.ensures.failed;
}

pub returns : goal.returns
returns g c = record {
  plays = λ s at. played_some _ _ _ _ _ _ s c.new-answers.ensures.items (c.in-Err.ensures.err s at) (rw c.as_slice.ensures.value at c.in_ok-write_text.ensures.text);
  writer = c.in_ok-write_text.ensures.failed;
}
