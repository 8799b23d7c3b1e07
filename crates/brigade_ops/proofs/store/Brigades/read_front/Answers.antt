use Rattle.std.proofs.Common.{◌≡◌, ℕ, ◌∷◌, [], Option, ap, ◌∙◌}
use Rattle.run_model.specs.declared.bucket.Bucket.{Bucket}
use Rattle.run_model.specs.Cutting.{read_of}
use Rattle.bucket_ring.specs.Lists.{on, list_at, put_after, with_payload}
use Rattle.bucket_kinds.specs.declared.stored.Stored.{Stored}
use Rattle.bucket_kinds.specs.Stored.{shown}
use Rattle.bucket_store.specs.Regions.{look}
use Rattle.bucket_store.specs.Items.{Item, Items, replaced}
use Rattle.brigade_ops.specs.Store.{lists, brigade_of}
use Rattle.bucket_store.proofs.Lying.{read_told}
use Rattle.bucket_store.proofs.Lists.{still_in, set_behind, on_after}
use Rattle.bucket_store.specs.BucketStore.{seen}
use Rattle.bucket_store.proofs.BucketStores.{found_in}
use Rattle.brigade_ops.proofs.store.Brigades.read_front.Goals as goal

pub set_own-requires-clause-lies : goal.set_own-requires-clause-lies
set_own-requires-clause-lies g c =
    let told = c.in_ok-_rest.ensures.ok in
    read_told told.0 c.args.bucket c.read_into.new.bucket _ told.2 c.requires.lies

pub set_own-requires-clause-there : goal.set_own-requires-clause-there
unfolding brigade_of
set_own-requires-clause-there g c = still_in (g.R.Rings.ring_at c.args.self.now.held.rings.rings c.args.id) _ c.requires.there c.put_behind-new.ensures.still

pub returns-clause-ok : goal.returns-clause-ok
unfolding lists brigade_of
returns-clause-ok g c b at =
    let old = c.args.self.now.held in
    let id = c.args.id in
    let y : Item = (c.put_behind-new.result, c.args.rest) in
    let xs : Items = list_at (seen old) b in
    let told = c.in_ok-_rest.ensures.ok in
    let v = (read_of told.0 c.args.bucket).0 in
    let change : ((k : ℕ) → seen c.put_behind-new.new.self.held k ≡ on b (put_after id y) (seen old) k) = λ k. (
    c.put_behind-new.ensures.out b k at
    ∙ ap (λ (x : Stored). on b (put_after id (let z : Item = (c.put_behind-new.result, shown (look old.regions) x) in z)) (seen old) k) c.keep_own.ensures) in
    let is : c.read_into.new.bucket ≡ v = ap (λ (p : Bucket × Option Bucket). p.0) told.2 in (
      told.0,
      told.1,
      λ m. c.set_own.ensures.out b m (c.put_behind-new.ensures.still b at)
          ∙ on_after b m (put_after id y) (with_payload id c.read_into.new.bucket) (replaced id v (y ∷ [])) (seen old) (seen c.put_behind-new.new.self.held)
          change
          (set_behind id y c.read_into.new.bucket xs (found_in old id b at) ∙ ap (λ (x : Bucket). replaced id x (y ∷ []) xs) is),
    )
