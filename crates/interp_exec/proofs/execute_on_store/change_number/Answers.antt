-- The cursor stands as the number wants it, since there is no fault.
use Rattle.std.proofs.Common.{refl, ap}
use Rattle.run_model.specs.Cursors.{read_cursor}
use Rattle.run_model.specs.declared.effect.Effect.TheVariants as effect
use Rattle.run_model.specs.declared.effect.NewNumber.{NewNumber}
use Rattle.run_model.specs.Faults.{OnBucket}
use Rattle.interp_state.proofs.Needed.{stands}
use Rattle.interp_exec.proofs.execute_on_store.change_number.Goals as goal

pub len-requires-clause-stands : goal.len-requires-clause-stands
len-requires-clause-stands g c = stands c.requires.faultless.1 (ap (λ (m : NewNumber). effect.Number c.args.n m) c.in-LengthAt.is) 0 c.in-LengthAt.c OnBucket refl

pub get-requires-clause-stands : goal.get-requires-clause-stands
get-requires-clause-stands g c = stands c.requires.faultless.1 (ap (λ (m : NewNumber). effect.Number c.args.n m) c.in-ByteRead.is) 0 read_cursor OnBucket refl
