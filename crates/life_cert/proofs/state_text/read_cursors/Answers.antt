-- What is read so far is told.
use Rattle.std.proofs.Common.{◌∙◌, ap, arith}
use Rattle.life_state.specs.Seen.{seen}
use Rattle.life_state.specs.Build.{with_cursor}
use Rattle.life_cert.specs.StateFromText.{cursor_past, told_cursor}
use Rattle.life_cert.proofs.Turns.{folded_begins, folded_ends, folded_more}
use Rattle.life_cert.proofs.state_text.read_cursors.Goals as goal

pub loop-c-init : goal.loop-c-init
loop-c-init c = folded_begins told_cursor cursor_past 9 c.args.unread.now.bytes.now (seen c.args.state.now)

pub loop-c-preserved : goal.loop-c-preserved
loop-c-preserved c = folded_more told_cursor cursor_past 9 c.args.unread.now.bytes.now (seen c.args.state.now) c.loop-c.unread.bytes.now (seen c.loop-c.state) c.loop-c.c _ _ c.loop-c.invariant
    (omega arith) (c.put_cursor.ensures ∙ ap (λ v. with_cursor c.loop-c.c v (seen c.loop-c.state)) c.read_cursor-cursor.ensures.value) c.read_cursor-cursor.ensures.rest

pub returns-clause-value : goal.returns-clause-value
returns-clause-value c =
    (folded_ends told_cursor cursor_past 9 c.args.unread.now.bytes.now (seen c.args.state.now) c.loop-c.unread.bytes.now (seen c.loop-c.state) c.loop-c.c c.loop-c.invariant (omega arith)).0

pub returns-clause-rest : goal.returns-clause-rest
returns-clause-rest c =
    (folded_ends told_cursor cursor_past 9 c.args.unread.now.bytes.now (seen c.args.state.now) c.loop-c.unread.bytes.now (seen c.loop-c.state) c.loop-c.c c.loop-c.invariant (omega arith)).1
