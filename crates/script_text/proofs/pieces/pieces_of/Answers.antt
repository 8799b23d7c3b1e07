use Rattle.std.proofs.Common.{◌∙◌, ◌-◌, ◌+◌, length, drop, sym, ap, arith}
use Rattle.script_text.specs.Pieces.{pieces_of, pieces_from}
use Rattle.script_text.proofs.PieceLaws.{length_rest, turn_goes, turn_fails, turn_spent}
use Rattle.script_text.proofs.pieces.pieces_of.Goals as goal

pub returns-in_default : goal.returns-in_default
unfolding pieces_of
returns-in_default c =
    let fails = turn_fails c.args.bytes.now c.loop.at c.loop.counter c.loop.pieces c.loop-test.true (omega arith) (sym c.in_ok-read.ensures.value ∙ c.in_default.is) in
    sym fails ∙ c.loop.invariant.1

pub loop-preserved : goal.loop-preserved
loop-preserved c =
    let bytes = c.args.bytes.now in
    let goes = turn_goes bytes c.loop.at c.loop.counter c.loop.pieces c.in-Some.read c.loop-test.true (omega arith) (sym c.in_ok-read.ensures.value ∙ c.in-Some.is) in
    let pushed = ap (λ ps. pieces_from (length bytes - (c.loop.counter + 1)) ps (drop (c.loop.at + c.in-Some.read.used) bytes)) c.in_ok-push.ensures.ok in
    let rest = length_rest bytes c.loop.at in
    let within = rw c.in-Some.is at c.in_ok-read.ensures.within in
    let fits = within.fits in
    (omega arith, pushed ∙ sym goes ∙ c.loop.invariant.1)

pub returns : goal.returns
unfolding pieces_of
returns c =
    let spent = turn_spent c.args.bytes.now c.loop.at c.loop.counter c.loop.pieces (omega arith) (omega arith) in
    sym spent ∙ c.loop.invariant.1
