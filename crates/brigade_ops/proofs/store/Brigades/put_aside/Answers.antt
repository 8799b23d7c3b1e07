use Rattle.std.proofs.Common.{◌≡◌, ℕ, is_some, Some, sym, ap, ◌∙◌}
use Rattle.std.proofs.lemmas.Option.{same_Some}
use Rattle.run_model.specs.declared.bucket.Bucket.{Bucket}
use Rattle.run_model.specs.Cutting.{set_aside}
use Rattle.bucket_ring.specs.Lists.{on, list_at, found, with_payload}
use Rattle.bucket_kinds.specs.declared.stored.Kept.{Kept}
use Rattle.bucket_kinds.specs.declared.stored.Stored.{Stored}
use Rattle.bucket_kinds.specs.Stored.{is_whole, shown}
use Rattle.bucket_store.specs.declared.regions.Regions.{Regions}
use Rattle.bucket_store.specs.Regions.{look}
use Rattle.bucket_store.specs.Items.{Items}
use Rattle.bucket_store.specs.Shown.{lies_right}
use Rattle.brigade_ops.specs.Store.{lists, brigade_of, bucket_at}
use Rattle.bucket_store.proofs.Lying.{aside_lies}
use Rattle.bucket_store.proofs.Lists.{list_on, on_after, set_twice, found_set, still_in, and_then_told}
use Rattle.bucket_store.specs.BucketStore.{seen}
use Rattle.bucket_store.proofs.BucketStores.{found_in, in_found, ring_there}
use Rattle.brigade_ops.proofs.store.Brigades.put_aside.Goals as goal
use Rattle.brigade_ops.proofs.store.Brigades.put_aside.Goals.{After-put-bucket}

still : (g : _) (c : After-put-bucket g) (b : ℕ) → g.R.Rings.ring_at c.args.self.now.held.rings.rings c.args.id ≡ Some b → g.R.Rings.ring_at c.put-bucket.new.self.rings.rings c.args.id ≡ Some b
still g c b at =
    let s = c.args.self.now.held in
    let new = c.put-bucket.new.self in
    let xs : Items = list_at (seen s) b in
    in_found new c.args.id b
    (ap (λ (ys : Items). is_some (found c.args.id ys)) (list_on b (with_payload c.args.id _) (seen s) (seen new) (λ n. c.put-bucket.ensures.out b n at) (ring_there s c.args.id b at))
    ∙ found_set c.args.id _ xs (found_in s c.args.id b at))

pub put-nothing-requires-clause-there : goal.put-nothing-requires-clause-there
unfolding brigade_of
put-nothing-requires-clause-there g c = still_in (g.R.Rings.ring_at c.args.self.now.held.rings.rings c.args.id) _ c.requires (still g (goal.at.put-nothing-requires-clause-there g c).After-put-bucket)

pub put-nothing-requires-clause-whole : goal.put-nothing-requires-clause-whole
put-nothing-requires-clause-whole g c =
    ap (λ (k : Kept). is_whole (look c.put-bucket.new.self.regions) k) c.stored_aside.ensures.kept
    ∙ (ap (λ (r : Regions). is_whole (look r) c.put-bucket.result.kept) c.put-bucket.ensures.regions ∙ c.put-bucket.ensures.had_whole)

pub put-nothing-requires-clause-lies : goal.put-nothing-requires-clause-lies
put-nothing-requires-clause-lies g c = ap (λ (x : Stored). lies_right x.kind x.kept) c.stored_aside.ensures.is ∙ aside_lies c.args.pool c.args.above c.put-bucket.result c.put-bucket.ensures.had_right

pub returns-clause-out : goal.returns-clause-out
unfolding lists brigade_of bucket_at
returns-clause-out g c b m x at is =
    let s = c.args.self.now.held in
    let see = look s.regions in
    let id = c.args.id in
    let xs : Items = list_at (seen s) b in
    let last = c.stored_aside.new.stored in
    let here : found id xs ≡ Some x = and_then_told (g.R.Rings.ring_at s.rings.rings id) (λ q. found id (list_at (seen s) q)) b x at is in
    let had : shown see c.put-bucket.result ≡ x = same_Some (shown see c.put-bucket.result) x (sym (c.put-bucket.ensures.had b at) ∙ here) in
    let put : shown see last ≡ set_aside c.args.pool c.args.above x =
    c.stored_aside.ensures.shown see ∙ ap (λ (y : Bucket). set_aside c.args.pool c.args.above y) had in
    c.put-nothing.ensures.out b m (still g (goal.at.returns-clause-out g c).After-put-bucket b at)
    ∙ (ap (λ (r : Regions). on b (with_payload id (shown (look r) last)) (seen c.put-bucket.new.self) m) c.put-bucket.ensures.regions
    ∙ on_after b m (with_payload id _) (with_payload id (shown see last)) (with_payload id (set_aside c.args.pool c.args.above x)) (seen s) (seen c.put-bucket.new.self)
    (λ k. c.put-bucket.ensures.out b k at)
    (set_twice id _ (shown see last) xs (found_in s id b at) ∙ ap (λ (y : Bucket). with_payload id y xs) put))
