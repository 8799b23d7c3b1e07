use Rattle.std.proofs.Common.{◌++◌, codes}
use Rattle.byte_text.proofs.WritingLaws.{wrote_then}
use Rattle.life_cert.proofs.Writing.{wrote_front}
use Rattle.life_state.specs.Seen.{seen_some}
use Rattle.life_cert.specs.CertText.{state_or_none}
use Rattle.life_cert.proofs.print.put_between.Goals as goal

pub returns-in_err-put_all : goal.returns-in_err-put_all
returns-in_err-put_all g c =
    wrote_front _ _ (c.args.word.now) ((state_or_none (seen_some c.args.state.now) ++ codes "\n")) c.from_residual.result c.from_residual.ensures.0 c.in_err-put_all.ensures

pub returns-in_err-put_state_or_none : goal.returns-in_err-put_state_or_none
returns-in_err-put_state_or_none g c =
    wrote_then _ _ _ (c.args.word.now) ((state_or_none (seen_some c.args.state.now) ++ codes "\n")) c.from_residual-in_err-put_state_or_none.result c.in_ok-put_all.ensures
    (wrote_front _ _ (state_or_none (seen_some c.args.state.now))
    (codes "\n") c.from_residual-in_err-put_state_or_none.result c.from_residual-in_err-put_state_or_none.ensures.0 c.in_err-put_state_or_none.ensures)

pub returns : goal.returns
returns g c =
    wrote_then _ _ _ (c.args.word.now) ((state_or_none (seen_some c.args.state.now) ++ codes "\n")) c.put_all-2.result c.in_ok-put_all.ensures
    (wrote_then _ _ _ (state_or_none (seen_some c.args.state.now)) (codes "\n") c.put_all-2.result c.in_ok-put_state_or_none.ensures (c.put_all-2.ensures))
