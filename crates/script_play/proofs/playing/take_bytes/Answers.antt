use Rattle.std.proofs.Common.{◌++◌, drop, ap, ◌∙◌}
use Rattle.std.proofs.lemmas.List.{take_rest}
use Rattle.std.proofs.lemmas.Result.{err_from_is_err_and}
use Rattle.script_play.proofs.PlayingLaws.{bytes_unheld, bytes_failed, JoinedLines, joined_none, joined_some, joined_held, joined_lost}
use Rattle.script_play.proofs.playing.take_bytes.Goals as goal
use Rattle.script_play.proofs.playing.take_bytes.Goals.{then-whole-gt0+in_ok-extend_from_slice+in_ok-play_lines, else-whole-gt0}

pub returns-in_err-extend_from_slice-clause-plays : goal.returns-in_err-extend_from_slice-clause-plays
returns-in_err-extend_from_slice-clause-plays g c = λ s at.
    let p = err_from_is_err_and c.from_residual.result c.from_residual.ensures.1 in
    rw (p.1, p.2) (bytes_unheld c.args.player.now _ _ c.extend_from_slice.new.self.items s at)

pub returns-in_err-play_lines-clause-plays : goal.returns-in_err-play_lines-clause-plays
returns-in_err-play_lines-clause-plays g c = λ s at.
    let p = err_from_is_err_and c.from_residual-in_err-play_lines.result c.from_residual-in_err-play_lines.ensures.1 in
    let n = c.whole_lines-whole in
    let some = c.if-whole-gt0.true in
    rw (p.1, p.2) (bytes_failed c.args.player.now c.play_lines.new.player _ _ c.args.held.now.items c.args.bytes.now c.as_slice.result.now c.extend_from_slice.new.self.items n.result s _ some
    n.ensures.within (n.ensures.ends some) (c.as_slice.ensures.value ∙ c.in_ok-extend_from_slice.ensures.items) (c.in_err-play_lines.ensures.plays s at))

pub returns-in_err-extend_from_slice-2-clause-plays : goal.returns-in_err-extend_from_slice-2-clause-plays
returns-in_err-extend_from_slice-2-clause-plays g c = λ s at.
    let p = err_from_is_err_and c.from_residual-in_err-extend_from_slice-2.result c.from_residual-in_err-extend_from_slice-2.ensures.1 in
    let n = c.whole_lines-whole in
    let j : JoinedLines c.args.player.now c.if-whole-gt0.player (g.W.Sink.contents c.args.writer.now) (g.W.Sink.contents c.if-whole-gt0.writer)
    (c.args.held.now.items ++ c.args.bytes.now) c.if-whole-gt0.held.items (drop n.result c.args.bytes.now) s =
    elim c.if-whole-gt0.branch [
      | then-whole-gt0+in_ok-extend_from_slice+in_ok-play_lines w ↦
          joined_some c.args.player.now c.if-whole-gt0.player w.play_lines.new.player _ _ _ c.args.held.now.items c.args.bytes.now w.as_slice.result.now c.if-whole-gt0.held.items n.result s
          n.ensures.rest w.if-whole-gt0.true n.ensures.within (n.ensures.ends w.if-whole-gt0.true) (w.as_slice.ensures.value ∙ w.in_ok-extend_from_slice.ensures.items)
          (w.in_ok-play_lines.ensures.plays s at) w.player-is (ap g.W.Sink.contents w.writer-is) (cc)
      | else-whole-gt0 w ↦
          joined_none c.args.player.now c.if-whole-gt0.player _ _ c.args.held.now.items c.args.bytes.now c.if-whole-gt0.held.items n.result s c.requires.unended n.ensures.rest w.if-whole-gt0.false
          at w.player-is (ap g.W.Sink.contents w.writer-is) (cc)
    ] in
    rw (p.1, p.2) (joined_lost c.args.player.now c.if-whole-gt0.player _ _ _ _ _ c.extend_from_slice-2.new.self.items s j)

pub returns-clause-plays : goal.returns-clause-plays
returns-clause-plays g c = λ s at.
    let n = c.whole_lines-whole in
    let j : JoinedLines c.args.player.now c.if-whole-gt0.player (g.W.Sink.contents c.args.writer.now) (g.W.Sink.contents c.if-whole-gt0.writer)
    (c.args.held.now.items ++ c.args.bytes.now) c.if-whole-gt0.held.items (drop n.result c.args.bytes.now) s =
    elim c.if-whole-gt0.branch [
      | then-whole-gt0+in_ok-extend_from_slice+in_ok-play_lines w ↦
          joined_some c.args.player.now c.if-whole-gt0.player w.play_lines.new.player _ _ _ c.args.held.now.items c.args.bytes.now w.as_slice.result.now c.if-whole-gt0.held.items n.result s
          n.ensures.rest w.if-whole-gt0.true n.ensures.within (n.ensures.ends w.if-whole-gt0.true) (w.as_slice.ensures.value ∙ w.in_ok-extend_from_slice.ensures.items)
          (w.in_ok-play_lines.ensures.plays s at) w.player-is (ap g.W.Sink.contents w.writer-is) (cc)
      | else-whole-gt0 w ↦
          joined_none c.args.player.now c.if-whole-gt0.player _ _ c.args.held.now.items c.args.bytes.now c.if-whole-gt0.held.items n.result s c.requires.unended n.ensures.rest w.if-whole-gt0.false
          at w.player-is (ap g.W.Sink.contents w.writer-is) (cc)
    ] in
    joined_held c.args.player.now c.if-whole-gt0.player _ _ _ _ _ c.extend_from_slice-2.new.self.items s tt j
    (c.in_ok-extend_from_slice-2.ensures.items ∙ ap (λ l. c.if-whole-gt0.held.items ++ l) (take_rest c.args.bytes.now n.result))
