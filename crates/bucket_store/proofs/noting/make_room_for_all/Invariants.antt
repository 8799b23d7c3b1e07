-- What is noted stays so.
use Rattle.bucket_store.specs.Dependents.{StayNoted}
use Rattle.bucket_store.proofs.noting.make_room_for_all.Given as goal

abbrev pub invariant-loop-bucket : goal.invariant-loop-bucket
invariant-loop-bucket l = StayNoted l.initial.dependents l.dependents
