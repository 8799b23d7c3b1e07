use Rattle.std.proofs.Common.{◌≡◌, true}
use Rattle.std.proofs.lemmas.Bool.{and_parts}
use Rattle.bucket_ring.specs.Lists.{list_at}
use Rattle.bucket_store.specs.Regions.{look}
use Rattle.bucket_store.specs.BucketStore.{seen}
use Rattle.bucket_store.specs.Shown.{held_item}
use Rattle.bucket_store.proofs.Lists.{some_of}
use Rattle.bucket_store.proofs.Noted.{all_found}
use Rattle.bucket_store.proofs.Shown.{stored_found}
use Rattle.bucket_store.proofs.bucket_store.BucketStore.stored.Goals as goal
use Rattle.bucket_store.proofs.bucket_store.BucketStore.stored.Goals.{After-payload}

pub returns-clause-shown : goal.returns-clause-shown
unfolding seen
returns-clause-shown g c r at =
    stored_found (look c.args.self.now.regions) (g.R.Rings.lists c.args.self.now.rings.rings) (g.R.Rings.lists c.args.self.now.rings.rings) r c.args.id c.payload.result.now (c.payload.ensures r at)

held : (g : _) (c : After-payload g) → held_item (look c.args.self.now.regions) (c.args.id, c.payload.result.now) ≡ true
held g c =
    let s = c.args.self.now.rings in
    let old = g.R.Rings.lists s.rings in
    let q = some_of (g.R.Rings.ring_at s.rings c.args.id) c.requires in
    all_found (held_item (look c.args.self.now.regions)) c.args.id c.payload.result.now (list_at old q.0) (c.args.self.now.whole q.0) (c.payload.ensures q.0 q.1)

pub returns-clause-whole : goal.returns-clause-whole
returns-clause-whole g c = (and_parts _ _ (held g (goal.at.returns-clause-whole g c).After-payload)).0

pub returns-clause-lies : goal.returns-clause-lies
returns-clause-lies g c = (and_parts _ _ (held g (goal.at.returns-clause-lies g c).After-payload)).1
