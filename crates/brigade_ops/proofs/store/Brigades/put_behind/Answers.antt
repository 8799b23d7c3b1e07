use Rattle.std.proofs.Common.{◌≡◌, ℕ, is_some, Some, ap, ◌∙◌, arith}
use Rattle.bucket_ring.specs.Lists.{list_at, found, put_after, times}
use Rattle.bucket_ring.specs.Kept.{once_in}
use Rattle.bucket_kinds.specs.Stored.{shown}
use Rattle.bucket_store.specs.Items.{Item, Items}
use Rattle.bucket_store.specs.Regions.{look}
use Rattle.bucket_store.specs.BucketStore.{seen}
use Rattle.brigade_ops.specs.Store.{lists, brigade_of}
use Rattle.bucket_store.proofs.Lists.{list_on, found_behind, found_put, not_some}
use Rattle.bucket_store.proofs.BucketStores.{counted, found_in, in_found, ring_there, young}
use Rattle.brigade_ops.proofs.store.Brigades.put_behind.Goals as goal
use Rattle.brigade_ops.proofs.store.Brigades.put_behind.Goals.{After-add_after}

list : (g : _) (c : After-add_after g) (b : ℕ) → g.R.Rings.ring_at c.args.self.now.held.rings.rings c.args.at ≡ Some b
    → list_at (seen c.add_after.new.self) b
    ≡ put_after c.args.at (c.add_after.result, shown (look c.args.self.now.held.regions) c.args.bucket) (list_at (seen c.args.self.now.held) b)
list g c b at =
    let old = c.args.self.now.held in
    let y : Item = (c.add_after.result, shown (look old.regions) c.args.bucket) in
    list_on b (put_after c.args.at y) (seen old) (seen c.add_after.new.self) (λ n. c.add_after.ensures.out b n at) (ring_there old c.args.at b at)

pub returns-clause-still : goal.returns-clause-still
unfolding lists brigade_of
returns-clause-still g c b at =
    let old = c.args.self.now.held in
    let id = c.args.at in
    in_found c.add_after.new.self id b
    (ap (λ (xs : Items). is_some (found id xs)) (list g (goal.at.returns-clause-still g c).After-add_after b at)
    ∙ found_behind id (c.add_after.result, shown (look old.regions) c.args.bucket) (list_at (seen old) b) (found_in old id b at))

pub returns-clause-absent : goal.returns-clause-absent
unfolding brigade_of
returns-clause-absent g c =
    let old = c.args.self.now.held in
    not_some (g.R.Rings.ring_at old.rings.rings c.add_after.result) (λ h. let y = young old c.add_after.result h in omega (arith, y, c.add_after.ensures.name))

pub returns-clause-inside : goal.returns-clause-inside
unfolding lists brigade_of
returns-clause-inside g c b at =
    let old = c.args.self.now.held in
    let id = c.args.at in
    let new = c.add_after.result in
    let none : times new (list_at (seen old) b) ≡ 0 = counted old new b ∙ ap (once_in b) (returns-clause-absent g c) in
    in_found c.add_after.new.self new b
    (ap (λ (xs : Items). is_some (found new xs)) (list g (goal.at.returns-clause-inside g c).After-add_after b at)
    ∙ found_put id (new, shown (look old.regions) c.args.bucket) (list_at (seen old) b) (found_in old id b at) none)
