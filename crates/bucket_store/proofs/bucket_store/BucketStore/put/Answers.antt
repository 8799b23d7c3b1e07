use Rattle.std.proofs.Common.{◌≡◌, true}
use Rattle.std.proofs.lemmas.Bool.{and_parts}
use Rattle.bucket_ring.specs.Lists.{list_at, with_payload}
use Rattle.bucket_store.specs.Regions.{look}
use Rattle.bucket_store.specs.BucketStore.{seen}
use Rattle.bucket_store.specs.Shown.{held_item}
use Rattle.bucket_kinds.specs.Stored.{shown}
use Rattle.bucket_store.proofs.Lists.{some_of}
use Rattle.bucket_store.proofs.Noted.{both, all_found}
use Rattle.bucket_store.proofs.Tested.{held_in, replaced}
use Rattle.bucket_store.proofs.Shown.{stored_found, set_shown}
use Rattle.bucket_store.proofs.Seen.{on_seen}
use Rattle.bucket_store.proofs.bucket_store.BucketStore.put.Goals as goal
use Rattle.bucket_store.proofs.bucket_store.BucketStore.put.Goals.{After-set_payload}

pub invariant_of-self : goal.invariant_of-self
invariant_of-self g c = record {
  whole = replaced (held_in c.args.self.now) c.set_payload.new.self.rings c.args.id c.requires.there c.args.bucket
      (both c.requires.whole c.requires.lies) c.set_payload.ensures.out;
}

pub returns-clause-had : goal.returns-clause-had
unfolding seen
returns-clause-had g c r at = stored_found (look c.args.self.now.regions) (g.R.Rings.lists c.args.self.now.rings.rings)
    (g.R.Rings.lists c.args.self.now.rings.rings) r c.args.id c.set_payload.result (c.set_payload.ensures.had r at)

had : (g : _) (c : After-set_payload g) → held_item (look c.args.self.now.regions) (c.args.id, c.set_payload.result) ≡ true
had g c =
    let s = c.args.self.now.rings in
    let old = g.R.Rings.lists s.rings in
    let q = some_of (g.R.Rings.ring_at s.rings c.args.id) c.requires.there in
    all_found (held_item (look c.args.self.now.regions)) c.args.id c.set_payload.result (list_at old q.0) (c.args.self.now.whole q.0) (c.set_payload.ensures.had q.0 q.1)

pub returns-clause-had_whole : goal.returns-clause-had_whole
returns-clause-had_whole g c = (and_parts _ _ (had g (goal.at.returns-clause-had_whole g c).After-set_payload)).0

pub returns-clause-had_right : goal.returns-clause-had_right
returns-clause-had_right g c = (and_parts _ _ (had g (goal.at.returns-clause-had_right g c).After-set_payload)).1

pub returns-clause-out : goal.returns-clause-out
unfolding seen
returns-clause-out g c r n at =
    let see = look c.args.self.now.regions in
    on_seen c.args.self.now c.set_payload.new.self.rings r (with_payload c.args.id c.args.bucket) (with_payload c.args.id (shown see c.args.bucket))
    (set_shown see c.args.id c.args.bucket) (λ m. c.set_payload.ensures.out r m at) n
