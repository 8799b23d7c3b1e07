-- A brigade that is asked is there, and a cursor stands as is wanted, since there is no fault.
use Rattle.std.proofs.Common.{refl}
use Rattle.run_model.specs.Faults.{Anywhere, OnBucket}
use Rattle.interp_state.proofs.Needed.{brigade_asked, cursor_asked}
use Rattle.interp_state.proofs.exits.holds_in_store.Goals as goal

pub is_empty-requires-clause-live : goal.is_empty-requires-clause-live
is_empty-requires-clause-live g c = brigade_asked c.requires.askable.1 c.in-NoBucket.is 0 c.in-NoBucket.b refl

pub is_end-requires-clause-stands : goal.is_end-requires-clause-stands
is_end-requires-clause-stands g c = cursor_asked c.requires.askable.1 c.in-AtEnd.is 0 c.in-AtEnd.c Anywhere refl

pub kind_is-requires-clause-stands : goal.kind_is-requires-clause-stands
kind_is-requires-clause-stands g c = cursor_asked c.requires.askable.1 c.in-OfKind.is 0 c.in-OfKind.c OnBucket refl
