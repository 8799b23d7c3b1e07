use Rattle.std.proofs.Common.{◌≡◌, ◌<◌, inl, inr, true, length, sym, ◌∙◌, arith}
use Rattle.std.proofs.lemmas.Bool.Decides.{nat_tests}
use Rattle.script_play.specs.Written.{is_over}
use Rattle.script_play.proofs.PlayerLaws.{on_err_any}
use Rattle.script_play.proofs.TakingLaws.{IsFirstLine, taking_first, taking_more, taking_some, taking_end}
use Rattle.script_play.proofs.player.Player.take.Goals as goal

pub loop-self-init : goal.loop-self-init
loop-self-init g c = λ s at. taking_first c.args.self.now c.args.out.now.items c.args.lines.now s at

pub loop-self-preserved : goal.loop-self-preserved
loop-self-preserved g c = λ s at.
    let k = c.loop-self.invariant s at in
    let some : 0 < length c.loop-self.rest.now = grind arith in
    let line = c.first_line-line in
    let f : IsFirstLine c.loop-self.rest.now line.result.text.now line.result.ended line.result.width = record {
      text_is = line.ensures.text;
      ended_is = line.ensures.ended;
      lines = line.ensures.lines some;
      wide_is = line.ensures.width;
      within = line.ensures.within;
      moves = line.ensures.moves some;
    } in
    taking_more _ c.loop-self.self _ _ _ _ _ _ _ _ _ s k f (c.in_ok-take_line.ensures.ok k.stage k.at) c.in_ok-take_line.ensures.lines

pub returns-in_err-take_line-clause-err : goal.returns-in_err-take_line-clause-err
returns-in_err-take_line-clause-err g c = λ s at.
    let k = c.loop-self.invariant s at in
    on_err_any c.from_residual.result (taking_some _ _ _ _ _ _ _ s k c.in_err-take_line.ensures.err)

pub returns-else-not-is_over-clause-ok : goal.returns-else-not-is_over-clause-ok
returns-else-not-is_over-clause-ok g c = λ s at.
    let k = c.loop-self.invariant s at in
    let over : is_over k.stage ≡ true = sym (c.is_over.ensures k.stage k.at) ∙ c.if-not-is_over.false in
    taking_end _ _ _ _ _ _ s k (inr over)

pub returns-after-loop-self-clause-ok : goal.returns-after-loop-self-clause-ok
returns-after-loop-self-clause-ok g c = λ s at.
    let k = c.loop-self.invariant s at in
    let none : length c.loop-self.rest.now ≡ 0 = grind (arith, nat_tests) in
    taking_end _ _ _ _ _ _ s k (inl none)
