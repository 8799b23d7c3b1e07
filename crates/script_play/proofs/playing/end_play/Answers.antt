use Rattle.std.proofs.lemmas.Result.{err_from_is_err_and}
use Rattle.script_play.proofs.PlayingLaws.{ends_behind, ends_failed}
use Rattle.script_play.proofs.playing.end_play.Goals as goal

pub end_lines-requires : goal.end_lines-requires
end_lines-requires g c =
    let k = c.in_ok-play_lines.ensures.plays c.requires.at.0 c.requires.at.1 in
    record { at = (k.stage, k.at) }

pub returns-in_err-play_lines-clause-plays : goal.returns-in_err-play_lines-clause-plays
returns-in_err-play_lines-clause-plays g c = λ s at.
    let p = err_from_is_err_and c.from_residual.result c.from_residual.ensures.1 in
    rw (p.1, p.2) (ends_failed c.args.player.now c.play_lines.new.player _ _ _ s _ (c.in_err-play_lines.ensures.plays s at))

pub returns-clause-plays : goal.returns-clause-plays
returns-clause-plays g c = λ s at.
    let k = c.in_ok-play_lines.ensures.plays s at in
    ends_behind _ c.play_lines.new.player _ _ _ _ s c.end_lines.result k (c.end_lines.ensures.ends k.stage k.at)
