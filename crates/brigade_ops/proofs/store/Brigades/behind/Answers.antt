use Rattle.std.proofs.Common.{◌≡◌, ℕ, Some, [], ◌∷◌, drop, sym, ap, ◌∙◌}
use Rattle.bucket_ring.specs.Lists.{list_at, times, rest, first_of}
use Rattle.bucket_ring.specs.Laws.{next_found}
use Rattle.bucket_store.specs.Items.{Item, Items, from_place}
use Rattle.bucket_ring.specs.declared.names.BucketId.{BucketId}
use Rattle.bucket_ring.specs.declared.rings.Rings.{Ghosts}
use Rattle.bucket_kinds.specs.declared.stored.Stored.{Stored}
use Rattle.run_model.specs.declared.bucket.Bucket.{Bucket}
use Rattle.brigade_ops.specs.declared.store.Brigades.{Brigades}
use Rattle.brigade_ops.proofs.Stores.{bucket_found}
use Rattle.brigade_ops.specs.Store.{lists, brigade_of, bucket_at}
use Rattle.bucket_store.proofs.Lists.{rest_head}
use Rattle.bucket_store.proofs.Walks.{once_listed, behind_some, behind_none, goes_on, goes_no_further}
use Rattle.bucket_store.specs.BucketStore.{seen}
use Rattle.bucket_store.proofs.BucketStores.{counted, in_found}
use Rattle.brigade_ops.proofs.store.Brigades.behind.Goals as goal

-- what is left at a bucket, where it is known what is left behind it
left : {R : Type 0} {g : Ghosts R Stored} (store : Brigades R g) (id : BucketId) (b : ℕ) (x : Bucket) (behind : Items) → brigade_of store id ≡ Some b
    → bucket_at store id ≡ Some x
    → behind ≡ drop 1 (rest id (list_at (lists store) b)) → rest id (list_at (lists store) b) ≡ (id, x) ∷ behind
left store id b x behind at is e = rest_head id (list_at (lists store) b) x (bucket_found store id b x at is)
    ∙ ap (λ (ys : Items). (let y : Item = (id, x) in y) ∷ ys) (sym e)

pub returns-in-Ok-clause-next : goal.returns-in-Ok-clause-next
unfolding lists brigade_of
returns-in-Ok-clause-next g c b at =
    let xs = list_at (seen c.args.self.now.held) b in
    sym (goes_on b (first_of (drop 1 (rest c.args.id xs))) c.in-Ok.next (sym (c.next.ensures b at) ∙ c.in-Ok.is))

pub returns-in-Ok-clause-others : goal.returns-in-Ok-clause-others
unfolding lists brigade_of
returns-in-Ok-clause-others g c b at =
    let s = c.args.self.now.held in
    let xs = list_at (seen s) b in
    behind_some b c.args.id c.in-Ok.next xs (λ i. once_listed b (g.R.Rings.ring_at s.rings.rings i) (times i xs) (counted s i b)) (sym (c.next.ensures b at) ∙ c.in-Ok.is)

pub returns-in-Ok-clause-head : goal.returns-in-Ok-clause-head
returns-in-Ok-clause-head g c b x at is =
    let xs = list_at (lists c.args.self.now) b in
    left c.args.self.now c.args.id b x (from_place (Some c.in-Ok.next) xs) at is (returns-in-Ok-clause-others g c b at)

pub returns-in-Ok-clause-inside : goal.returns-in-Ok-clause-inside
unfolding brigade_of
returns-in-Ok-clause-inside g c b at =
    let s = c.args.self.now.held in
    in_found s c.in-Ok.next b (next_found b c.args.id c.in-Ok.next (list_at (seen s) b) (sym (c.next.ensures b at) ∙ c.in-Ok.is))

pub returns-in-Err-clause-next : goal.returns-in-Err-clause-next
unfolding lists brigade_of
returns-in-Err-clause-next g c b at =
    goes_no_further b c.in-Err.field-0 (first_of (drop 1 (rest c.args.id (list_at (seen c.args.self.now.held) b)))) (sym (c.next.ensures b at) ∙ c.in-Err.is)

pub returns-in-Err-clause-others : goal.returns-in-Err-clause-others
unfolding lists brigade_of
returns-in-Err-clause-others g c b at =
    behind_none b c.in-Err.field-0 c.args.id (list_at (seen c.args.self.now.held) b) (sym (c.next.ensures b at) ∙ c.in-Err.is)

pub returns-in-Err-clause-head : goal.returns-in-Err-clause-head
returns-in-Err-clause-head g c b x at is = left c.args.self.now c.args.id b x [] at is (returns-in-Err-clause-others g c b at)
