use Rattle.bucket_store.proofs.Pruned.{same_names}
use Rattle.bucket_store.proofs.dependents.Dependents.make_room.Goals as goal

pub returns-clause-kept : goal.returns-clause-kept
returns-clause-kept c = same_names c.args.self.now c.make_room_for_names.new.self c.make_room_for_names.ensures.names c.make_room_for_names.ensures.lost
