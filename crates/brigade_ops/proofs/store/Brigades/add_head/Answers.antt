use Rattle.bucket_ring.specs.Lists.{put_head}
use Rattle.brigade_ops.proofs.Added.{added_to, still_there}
use Rattle.brigade_ops.proofs.store.Brigades.add_head.Goals as goal

pub add_head-requires-clause-there : goal.add_head-requires-clause-there
add_head-requires-clause-there g c = still_there _ _ c.in_ok-stored.ensures.lists c.args.b c.requires

pub returns-clause-ok : goal.returns-clause-ok
returns-clause-ok g c n = added_to _ _ c.in_ok-stored.ensures.lists c.args.b n put_head _ _ _ _ (c.add_head.ensures.out n) c.in_ok-stored.ensures.shown
