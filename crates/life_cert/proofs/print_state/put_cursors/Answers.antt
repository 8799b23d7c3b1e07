use Rattle.std.proofs.Common.{arith}
use Rattle.life_cert.proofs.Writing.{each_begins, each_ends, each_fault, each_written}
use Rattle.life_state.specs.Seen.{seen}
use Rattle.life_cert.specs.StateText.{cursor_text}
use Rattle.life_cert.proofs.print_state.put_cursors.Goals as goal

pub loop-c-init : goal.loop-c-init
loop-c-init g c = each_begins _ 9 (λ d. cursor_text d ((seen c.args.state.now).cursors d))

pub returns-in_err-put_cursor : goal.returns-in_err-put_cursor
returns-in_err-put_cursor g c =
    each_fault _ _ _ 9 c.loop-c.c (λ d. cursor_text d ((seen c.args.state.now).cursors d)) _ c.loop-c.invariant (omega arith) c.from_residual.ensures.0
    (rw c.cursor.ensures at c.in_err-put_cursor.ensures)

pub loop-c-preserved : goal.loop-c-preserved
loop-c-preserved g c =
    each_written _ _ _ 9 c.loop-c.c (λ d. cursor_text d ((seen c.args.state.now).cursors d)) c.loop-c.invariant (omega arith) (rw c.cursor.ensures at c.in_ok-put_cursor.ensures)

pub returns : goal.returns
returns g c = each_ends _ _ 9 c.loop-c.c (λ d. cursor_text d ((seen c.args.state.now).cursors d)) c.loop-c.invariant (omega arith)
