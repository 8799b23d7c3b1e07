-- A brigade that is asked is there, and a cursor stands as is wanted, since there is no fault. The instance tells whether it passed an EOS.
use Rattle.std.proofs.Common.{refl}
use Rattle.run_model.specs.Cursors.{read_cursor}
use Rattle.run_model.specs.Faults.{InBrigade, OnBucket}
use Rattle.interp_state.specs.Seen.{seen_over}
use Rattle.interp_state.proofs.Needed.{brigade_asked, cursor_asked}
use Rattle.interp_state.proofs.exits.holds.Goals as goal

pub is_incomplete-requires-clause-live : goal.is_incomplete-requires-clause-live
is_incomplete-requires-clause-live g c = brigade_asked c.requires.askable.1 c.in-TooShort.is 0 c.in-TooShort.b refl

pub is_unsplit-requires-clause-stands : goal.is_unsplit-requires-clause-stands
is_unsplit-requires-clause-stands g c = cursor_asked c.requires.askable.1 c.in-NoSplit.is 0 c.in-NoSplit.c InBrigade refl

pub byte_read-requires-clause-stands : goal.byte_read-requires-clause-stands
byte_read-requires-clause-stands g c = cursor_asked c.requires.askable.1 c.in-NoByte.is 0 read_cursor OnBucket refl

pub returns-in-WasSent : goal.returns-in-WasSent
unfolding seen_over
returns-in-WasSent g c view choice = rw c.in-WasSent.is refl
