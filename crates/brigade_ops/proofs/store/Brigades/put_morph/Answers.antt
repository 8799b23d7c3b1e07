use Rattle.std.proofs.Common.{◌≡◌, ℕ, is_some, Some, sym, ap, ◌∙◌}
use Rattle.std.proofs.lemmas.Option.{same_Some}
use Rattle.run_model.specs.declared.bucket.Bucket.{Bucket}
use Rattle.run_model.specs.declared.bucket.Kind.{Kind}
use Rattle.bucket_ring.specs.Lists.{on, list_at, found, with_payload}
use Rattle.bucket_kinds.specs.declared.stored.Stored.{Stored}
use Rattle.bucket_kinds.specs.Stored.{is_whole, shown, shown_content}
use Rattle.bucket_store.specs.declared.regions.Regions.{Regions}
use Rattle.bucket_store.specs.Regions.{look}
use Rattle.bucket_store.specs.Items.{Items}
use Rattle.bucket_store.specs.Morphs.{given_by}
use Rattle.bucket_store.specs.Shown.{lies_right}
use Rattle.brigade_ops.specs.Store.{lists, brigade_of, bucket_at}
use Rattle.bucket_store.proofs.Lying.{given_lies}
use Rattle.bucket_store.proofs.Lists.{list_on, on_after, set_twice, found_set, still_in, and_then_told}
use Rattle.bucket_store.specs.BucketStore.{seen}
use Rattle.bucket_store.proofs.BucketStores.{found_in, in_found, ring_there}
use Rattle.brigade_ops.proofs.store.Brigades.put_morph.Goals as goal
use Rattle.brigade_ops.proofs.store.Brigades.put_morph.Goals.{After-put-bucket}

still : (g : _) (c : After-put-bucket g) (b : ℕ) → g.R.Rings.ring_at c.args.self.now.held.rings.rings c.args.morph.id ≡ Some b
    → g.R.Rings.ring_at c.put-bucket.new.self.rings.rings c.args.morph.id ≡ Some b
still g c b at =
    let s = c.args.self.now.held in
    let id = c.args.morph.id in
    let new = c.put-bucket.new.self in
    let xs : Items = list_at (seen s) b in
    in_found new id b
    (ap (λ (ys : Items). is_some (found id ys)) (list_on b (with_payload id _) (seen s) (seen new) (λ n. c.put-bucket.ensures.out b n at) (ring_there s id b at))
    ∙ found_set id _ xs (found_in s id b at))

pub put-nothing-requires-clause-there : goal.put-nothing-requires-clause-there
unfolding brigade_of
put-nothing-requires-clause-there g c =
    still_in (g.R.Rings.ring_at c.args.self.now.held.rings.rings c.args.morph.id) _ c.requires (still g (goal.at.put-nothing-requires-clause-there g c).After-put-bucket)

pub put-nothing-requires-clause-whole : goal.put-nothing-requires-clause-whole
put-nothing-requires-clause-whole g c = ap (λ (r : Regions). is_whole (look r) c.put-bucket.result.kept) c.put-bucket.ensures.regions ∙ c.put-bucket.ensures.had_whole

pub put-nothing-requires-clause-lies : goal.put-nothing-requires-clause-lies
put-nothing-requires-clause-lies g c = ap (λ (k : Kind). lies_right k c.put-bucket.result.kept) c.kind_given-bucket.ensures
    ∙ given_lies c.put-bucket.result.kind c.args.morph.kind c.put-bucket.result.kept c.put-bucket.ensures.had_right

pub returns-clause-out : goal.returns-clause-out
unfolding lists brigade_of bucket_at
returns-clause-out g c b m x at is =
    let s = c.args.self.now.held in
    let see = look s.regions in
    let id = c.args.morph.id in
    let xs : Items = list_at (seen s) b in
    let here : found id xs ≡ Some x = and_then_told (g.R.Rings.ring_at s.rings.rings id) (λ q. found id (list_at (seen s) q)) b x at is in
    let had : shown see c.put-bucket.result ≡ x = same_Some (shown see c.put-bucket.result) x (sym (c.put-bucket.ensures.had b at) ∙ here) in
    let new : Bucket → Bucket = given_by c.args.morph in
    let last : Stored = record c.put-bucket.result { kind = c.kind_given-bucket.result; home = c.args.morph.home } in
    let given : shown see last ≡ new (shown see c.put-bucket.result) =
    ap (λ (k : Kind). (let b : Bucket = record { kind = k; content = shown_content see c.put-bucket.result.kept; home = c.args.morph.home } in b)) c.kind_given-bucket.ensures in
    c.put-nothing.ensures.out b m (still g (goal.at.returns-clause-out g c).After-put-bucket b at)
    ∙ (ap (λ (r : Regions). on b (with_payload id (shown (look r) last)) (seen c.put-bucket.new.self) m) c.put-bucket.ensures.regions
    ∙ on_after b m (with_payload id _) (with_payload id (shown see last)) (with_payload id (new x)) (seen s) (seen c.put-bucket.new.self) (λ k. c.put-bucket.ensures.out b k at)
    (set_twice id _ (shown see last) xs (found_in s id b at) ∙ ap (λ (y : Bucket). with_payload id y xs) (given ∙ ap new had)))
