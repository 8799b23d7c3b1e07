use Rattle.bucket_ring.specs.Lists.{put_before}
use Rattle.bucket_store.specs.BucketStore.{seen}
use Rattle.bucket_store.proofs.Noted.{all_before}
use Rattle.bucket_store.proofs.Tested.{held_at}
use Rattle.bucket_store.proofs.Shown.{before_shown}
use Rattle.bucket_store.proofs.Seen.{added_seen_at}
use Rattle.bucket_store.proofs.bucket_store.BucketStore.add_before.Goals as goal

pub invariant_of-self : goal.invariant_of-self
invariant_of-self g c = record {
  whole = held_at c.args.self.now _ _ c.requires.whole c.requires.lies
      put_before all_before c.args.at c.requires.there _ c.add_before.ensures.ok c.add_before.ensures.err;
}

pub returns-clause-out : goal.returns-clause-out
unfolding seen
returns-clause-out g c = added_seen_at c.args.self.now c.add_before.new.self.rings put_before put_before before_shown c.args.at c.in-Ok.id c.args.bucket c.in-Ok.ensures.ok
